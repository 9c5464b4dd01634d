pub mod Drawing
pub mod Pending
