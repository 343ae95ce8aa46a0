pub mod Words
pub mod Handlers
pub mod Rounds
