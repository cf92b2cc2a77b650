pub mod Beneath
pub mod Example
pub mod Order
pub mod Remarks
