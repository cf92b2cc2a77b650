-- What the proofs of several functions use.
mod Scans
mod Cuts
pub mod Compare
mod Digits
pub mod Beneath
