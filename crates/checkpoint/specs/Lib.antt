pub mod Spelling
pub mod Checkpoints
pub mod Rows
