pub mod Answer
pub mod Told
pub mod Lines
