pub mod Log
pub mod Segments
pub mod Logs
pub mod Book
pub mod CutsText
pub mod Inside
