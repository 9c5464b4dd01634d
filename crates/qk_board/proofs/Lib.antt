pub mod Keeps
pub mod Steps
pub mod Flags
pub mod Closing
