pub mod Entailed
pub mod Numbers
pub mod Facts
pub mod Steps
pub mod Inside
