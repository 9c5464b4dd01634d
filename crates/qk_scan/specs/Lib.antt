pub mod Crew
pub mod Each
pub mod Prefix
pub mod Slots
pub mod Work
