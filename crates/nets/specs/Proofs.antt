-- Why the reader means what it does: pages that no reader of the definitions needs.
pub mod Stepping
pub mod Going
pub mod Fronts
pub mod OnSheet
pub mod Wholes
pub mod Calls
pub mod Theorems
