-- What a rule that was made stands for, and the numbers 9 and 10 by its codes.
pub mod Stores
pub mod Pairs
pub mod Selves
pub mod Stands
pub mod Numbers
