pub mod InputLines
pub mod Inputs
pub mod PathText
pub mod Inside
