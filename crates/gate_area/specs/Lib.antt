pub mod Gate
pub mod Operations
pub mod Standing
pub mod Rows
