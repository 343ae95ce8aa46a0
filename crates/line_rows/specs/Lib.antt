pub mod Moves
pub mod Row
