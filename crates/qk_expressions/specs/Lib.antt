pub mod CaseSteps
pub mod CasesView
pub mod ExpressionSteps
pub mod Expressions
pub mod Patterns
