pub mod NilForms
pub mod CaseLaws
pub mod ExpressionForms
