pub mod Paths
pub mod Points
pub mod Rule
pub mod Steps
pub mod Views
pub mod Walkers
