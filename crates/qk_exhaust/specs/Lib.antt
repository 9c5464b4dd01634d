pub mod Run
pub mod Stretches
