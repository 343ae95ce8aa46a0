pub mod Folded
pub mod States
