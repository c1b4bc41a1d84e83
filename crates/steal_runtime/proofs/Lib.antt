mod Seats
mod Tasks
mod Books
mod Ends
mod Crossing
