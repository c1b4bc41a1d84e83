pub mod Tokens
pub mod Places
pub mod Timed
pub mod OneRows
pub mod SomeRows
