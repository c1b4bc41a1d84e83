pub mod Names
pub mod Faults
pub mod Resolved
pub mod Order
pub mod Stands
pub mod Laws
pub mod Inside
