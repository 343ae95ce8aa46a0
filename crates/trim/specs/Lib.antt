pub mod Quorums
pub mod Rounds
pub mod Rows
