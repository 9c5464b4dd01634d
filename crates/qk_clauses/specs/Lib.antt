pub mod Binders
pub mod BoundView
pub mod Clauses
pub mod ClausesView
pub mod Models
