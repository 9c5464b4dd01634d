pub mod Checks
pub mod NameTable
pub mod Names
pub mod Reserved
