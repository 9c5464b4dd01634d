pub mod Options
pub mod Parts
pub mod Accepted
pub mod SettingsData
pub mod Given
pub mod Walk
pub mod EnumCommand
pub mod Matches
