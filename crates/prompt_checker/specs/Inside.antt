pub mod Looks
pub mod Watch
