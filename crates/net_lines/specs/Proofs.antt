-- Why the readers of a line mean what they do: pages that no reader of the definitions needs.
pub mod Names
pub mod Codes
pub mod Drafts
pub mod Judges
pub mod Shapes
pub mod Whole
