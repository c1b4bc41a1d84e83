pub mod Laws
mod Paths
mod Pairs
mod Frames
mod Hands
pub mod Seen
mod Counts
mod Stops
pub mod Keys
pub mod Logs
mod Steps
mod Openings
mod Ends
pub mod Books
pub mod Readings
pub mod Calls
pub mod Gather
pub mod Tasks
pub mod Crossing
