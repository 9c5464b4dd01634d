pub mod DigitLaws
pub mod NumberReading
pub mod FieldReading
pub mod PathReading
pub mod TokenReading
pub mod TextLaws
mod Distinct
mod Keys
mod KeyCounts
mod Stands
mod CoverLaws
mod Ascending
mod RowOrder
mod RowCounts
mod TableLaws
mod Examples
