pub mod Faults
pub mod Grammar
pub mod Laws
pub mod RawRead
pub mod RawTree
pub mod Inside
