pub mod Made
pub mod Odd
pub mod Picks
pub mod Worked
