pub mod Seats
pub mod Histories
pub mod Standing
pub mod Votes
pub mod Rules
pub mod Lines
