pub mod Ends
pub mod Joined
pub mod Lists
pub mod Machine
pub mod Next
pub mod Stops
