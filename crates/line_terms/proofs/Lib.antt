pub mod Fielding
pub mod Arguing
