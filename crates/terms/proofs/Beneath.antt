-- Why the reader means what it does: pages that no reader of the definitions needs.
pub mod Numbers
pub mod Spelt
pub mod Written
pub mod Heads
pub mod Ways
pub mod Reads
pub mod Trees
pub mod Only
pub mod Whole
pub mod Rows
pub mod Views
