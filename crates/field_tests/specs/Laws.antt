-- What the tests mean in the terms of the two texts.
pub mod Spelling
pub mod Sizing
