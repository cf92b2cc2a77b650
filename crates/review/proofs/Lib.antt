pub mod Beneath
pub mod Answered
pub mod Bench
pub mod Demand1
pub mod Demand1Texts
pub mod Demand2
pub mod Demand3
pub mod Program
