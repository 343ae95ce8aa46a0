pub mod Following
pub mod Merge
pub mod Recovered
pub mod Asked
