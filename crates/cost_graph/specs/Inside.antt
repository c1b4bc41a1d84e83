pub mod Tables
pub mod Finished
pub mod Marks
pub mod Order
pub mod Shape
