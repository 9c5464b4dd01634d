pub mod TypeChecks
pub mod Forms
pub mod ScopeLaws
pub mod Applying
