pub mod Called
pub mod Lines
pub mod Main
