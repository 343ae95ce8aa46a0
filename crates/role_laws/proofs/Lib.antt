pub mod Recording
pub mod Seating
