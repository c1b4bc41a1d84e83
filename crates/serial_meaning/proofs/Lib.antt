pub mod Spawning
pub mod Stack
pub mod Worked
