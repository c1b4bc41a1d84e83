pub mod Worked
pub mod Gathered
