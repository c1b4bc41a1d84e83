pub mod Typing
pub mod Nodes
pub mod Typable
pub mod Stops
pub mod Shared
pub mod Jobs
pub mod Inside
