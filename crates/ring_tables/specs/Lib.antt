pub mod Ties
pub mod Settled
pub mod Done
