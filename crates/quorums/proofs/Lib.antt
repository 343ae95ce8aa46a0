pub mod Meeting
pub mod Joining
pub mod Containing
pub mod Each
