pub mod Ends
pub mod Made
pub mod OrderLaws
pub mod PartLaws
pub mod TypeLaws
