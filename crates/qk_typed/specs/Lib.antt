pub mod Laws
pub mod OperatorTypes
pub mod PatternTypes
pub mod TypedExpressions
pub mod TypedGenerators
pub mod TypedValues
pub mod WellTyped
