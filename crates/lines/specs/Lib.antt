pub mod Fields
pub mod Words
pub mod Names
pub mod Laws
