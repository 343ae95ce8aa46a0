pub mod Attempts
pub mod Kept
pub mod Turns
pub mod Steps
pub mod Rows
