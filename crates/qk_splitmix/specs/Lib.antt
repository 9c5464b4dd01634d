pub mod AttemptLaws
pub mod Attempts
pub mod Picking
pub mod SplitMix
