-- Why the marks tell the line: pages that no reader of the definitions needs.
pub mod Stands
pub mod Lines
