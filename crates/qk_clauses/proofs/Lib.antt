pub mod DrawForms
pub mod WrongCounts
