pub mod Built
pub mod Fires
pub mod Frames
pub mod Pairs
pub mod Taken
