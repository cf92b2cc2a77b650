-- Why the sheet numbers the names of a rule as its code does.
pub mod Codes
pub mod Grown
pub mod Numbers
pub mod Reading
pub mod Heads
