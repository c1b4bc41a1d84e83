pub mod Segments
pub mod Level
pub mod Words
pub mod Work
