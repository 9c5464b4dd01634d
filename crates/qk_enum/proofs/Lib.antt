pub mod EnumReplies
pub mod WordsReplies
