pub mod Spelled
pub mod Sized
pub mod Laws
