pub mod Order
pub mod Edges
pub mod Parts
pub mod Fault
