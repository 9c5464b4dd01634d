pub mod Examples
pub mod Raising
pub mod SequentialRun
