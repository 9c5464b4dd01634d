pub mod Drawing
pub mod DrawingView
pub mod GenHeads
pub mod GenSteps
pub mod Generators
