pub mod ChoiceLaws
pub mod PendingLaws
pub mod UnitsLaws
pub mod ViewLaws
mod Worked
