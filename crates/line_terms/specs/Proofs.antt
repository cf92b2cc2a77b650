-- Why the readers of a line mean what they do: pages that no reader of the definitions needs.
pub mod Cut
pub mod Starts
pub mod Lines
pub mod Whole
pub mod Passed
pub mod Argued
