pub mod Blocks
pub mod Lines
pub mod Reach
pub mod Report
pub mod Verdicts
