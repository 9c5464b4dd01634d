pub mod Cases
pub mod Members
pub mod Rows
pub mod Series
pub mod Small
