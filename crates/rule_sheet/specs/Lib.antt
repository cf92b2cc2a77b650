pub mod Lefts
pub mod Wellformed
pub mod Heads
pub mod Laws
