pub mod OnSheet
pub mod Writing
