pub mod Counts
pub mod Course
pub mod Quick
pub mod QuickLaws
pub mod Schedule
pub mod Sequential
pub use Rattle.qk_base.specs.Judged
