pub mod CaseLaws
pub mod PropertiesLeft
pub mod Sends
pub mod WalkLaws
