pub mod Inside
pub mod Laws
pub mod Lexemes
pub mod Lexes
pub mod Names
pub mod Runs
