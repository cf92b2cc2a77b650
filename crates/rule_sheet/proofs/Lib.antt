pub mod Entering
pub mod Heading
