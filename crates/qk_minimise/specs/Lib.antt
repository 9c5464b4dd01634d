pub mod Candidates
pub mod Crew
pub mod Descent
pub mod Greedy
pub mod Minimal
pub mod Walk
