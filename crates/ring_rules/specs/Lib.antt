pub mod Ruled
pub mod Own
