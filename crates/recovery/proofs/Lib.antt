pub mod Ties
pub mod Comparing
pub mod Finding
pub mod Standing
