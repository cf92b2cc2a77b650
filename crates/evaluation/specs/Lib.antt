pub mod Evaluated
pub mod Printed
pub mod Main
