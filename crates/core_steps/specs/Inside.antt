pub mod Results
pub mod Locals
pub mod Moves
pub mod Configs
