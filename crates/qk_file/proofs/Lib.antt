pub mod FileLaws
pub mod ReadingLaws
