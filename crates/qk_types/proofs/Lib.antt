pub mod WrongBodies
mod Worked
