pub mod BlockLaws
pub mod CountLaws
pub mod FormLaws
pub mod HalfLaws
pub mod MeaningSizes
pub mod PartLaws
pub mod PlaceLaws
pub mod SeekLaws
pub mod SizeLaws
pub mod SmallLaws
pub mod SoughtLaws
pub mod TupleLaws
pub mod TurnLaws
pub mod TypedLaws
mod Worked
