pub mod Places
pub mod Cutting
pub mod Words
pub mod Numbers
pub mod Laws
