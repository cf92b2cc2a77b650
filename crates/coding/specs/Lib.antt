pub mod Made
pub mod Settled
pub mod Laws
