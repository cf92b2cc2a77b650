pub mod Limits
pub mod Segments
pub mod SegmentLaws
pub mod Sides
pub mod Codes
pub mod Typed
pub mod Faults
