pub mod Ranges
pub mod State
pub mod Valid
