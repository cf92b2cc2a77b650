pub mod Lines
pub mod Goods
pub mod Reading
pub mod Whole
pub mod Main
