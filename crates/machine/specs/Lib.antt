pub mod Meets
pub mod Picked
pub mod Turns
pub mod Calls
