pub mod Cells
pub mod Reach
pub mod Roots
pub mod Steps
