pub mod Sums
mod Events
pub mod States
mod Steps
mod Runs
mod Pieces
pub mod Books
pub mod BookMeaning
