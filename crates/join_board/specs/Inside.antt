pub mod Views
pub mod Plays
pub mod Finds
pub mod Openings
pub mod Close
