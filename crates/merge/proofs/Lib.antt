mod LookLemmas
mod Sized
mod Skips
mod Turns
mod Settled
pub mod Stepping
