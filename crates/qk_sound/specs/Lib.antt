pub mod Laws
pub mod Reported
pub mod ReservedWords
