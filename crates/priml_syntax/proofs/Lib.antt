pub mod Blocks
pub mod Orders
pub mod Sums
pub mod Given
pub mod Sorting
