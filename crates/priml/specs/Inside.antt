pub mod Prefixes
pub mod Reply
