pub mod Turns
pub mod Keeps
pub mod Closing
pub mod Eachs
pub mod Filling
pub mod Backing
pub mod Counts
