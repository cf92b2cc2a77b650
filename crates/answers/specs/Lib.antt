-- The answer of an ended net: pages to read, and the proofs beneath them.
pub mod Answer
pub mod Same
pub mod Collected
pub mod Knots
pub mod Text
pub mod Printer
pub mod Printing
pub mod Cases
