pub mod Closing
pub mod Descents
pub mod Examples
pub mod Frontiers
pub mod Numbered
pub mod OneByOne
pub mod Turns
