pub mod RunText
pub mod Inside
