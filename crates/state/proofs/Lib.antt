pub mod Counts
pub mod Laws
pub mod Piles
pub mod Pulls
pub mod Whole
