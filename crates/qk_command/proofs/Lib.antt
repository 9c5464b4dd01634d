pub mod CommandSizes
pub mod DrawingLaws
pub mod Notes
pub mod Stepping
