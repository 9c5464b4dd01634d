pub mod Pairs
pub mod Paths
pub mod Keeps
pub mod Steps
pub mod Walking
pub mod Closing
