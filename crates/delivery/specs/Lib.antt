pub mod Told
pub mod Readied
