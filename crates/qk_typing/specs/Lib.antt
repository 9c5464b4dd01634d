pub mod HeadForms
pub mod Operators
pub mod PartsView
pub mod TablesView
