pub mod Every
pub mod Places
pub mod Sizes
pub mod Tables
pub mod Ways
