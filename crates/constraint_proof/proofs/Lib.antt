pub mod Decided
pub mod Numbers
pub mod Sound
pub mod Steps
