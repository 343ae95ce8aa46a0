pub mod Votes
pub mod Local
pub mod Deeds
pub mod Choosing
pub mod Worlds
pub mod Rules
pub mod Example
pub mod Turns
