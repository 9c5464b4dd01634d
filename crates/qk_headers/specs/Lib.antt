pub mod Headers
pub mod Scopes
pub mod TypesOf
