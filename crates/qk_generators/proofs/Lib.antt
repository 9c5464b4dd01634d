pub mod DrawingLaws
pub mod GeneratorForms
