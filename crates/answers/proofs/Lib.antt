pub mod Beneath
pub mod Cases
pub mod Main
pub mod PrintingLaws
