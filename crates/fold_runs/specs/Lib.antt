pub mod Folds
pub mod Placed
