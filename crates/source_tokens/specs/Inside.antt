pub mod Gaps
pub mod Forms
pub mod Lexer
