pub mod WalkLaws
mod Worked
