pub mod Merged
pub mod Looked
pub mod Learned
pub mod Ahead
pub mod Steps
