pub mod Laws
pub mod Reply
