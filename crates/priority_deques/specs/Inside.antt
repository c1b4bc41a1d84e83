pub mod Props
pub mod Opening
pub mod Rule
pub mod Tables
