pub mod Inside
