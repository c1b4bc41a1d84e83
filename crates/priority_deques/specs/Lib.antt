pub mod Tasks
pub mod Codes
pub mod Books
pub mod Ends
pub mod Parts
pub mod Handles
pub mod EndBooks
pub mod Inside
