pub mod Parts
pub mod TypeForms
