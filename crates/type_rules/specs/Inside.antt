pub mod Faults
pub mod Answers
pub mod Helpers
pub mod Calls
