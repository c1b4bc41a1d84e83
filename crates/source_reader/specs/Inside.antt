pub mod Fits
pub mod Gives
pub mod Narrow
pub mod Known
pub mod Bodies
pub mod Written
