pub mod Carried
pub mod Asks
pub mod Example
