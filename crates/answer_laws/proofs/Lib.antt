pub mod Folds
pub mod Places
pub mod Joining
pub mod Staying
