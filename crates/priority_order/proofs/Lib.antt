pub mod Lists
pub mod Paths
pub mod Rows
pub mod Build
pub mod Decided
pub mod Tops
pub mod Placed
