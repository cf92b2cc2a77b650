-- Proofs beneath the pages; no page has to be read with them.
pub mod Diamond
pub mod Perm
pub mod Sub
pub mod Count
pub mod Rename
pub mod Carry
pub mod Occurs
pub mod Compatible
pub mod Wiring
pub mod Pairs
pub mod Descent
pub mod Order
pub mod Ended
pub mod Rules
pub mod Remarks
pub mod UpTo
