pub mod Entries
pub mod NameTables
pub mod Counting
pub mod Sequencing
pub mod ListParts
pub mod Following
pub mod RefusedFirst
