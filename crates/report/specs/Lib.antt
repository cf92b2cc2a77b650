pub mod Numbers
pub mod Firsts
pub mod Stores
pub mod Begun
pub mod Main
