pub mod Response
pub mod Text
pub mod Laws
pub mod Inside
