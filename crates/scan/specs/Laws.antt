-- What the places mean in the terms of the two texts.
pub mod Placing
pub mod Cutting
pub mod Wording
