pub mod Text
pub mod Tree
pub mod Runs
pub mod Source
