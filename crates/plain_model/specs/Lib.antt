pub mod Lines
pub mod Tuples
pub mod Pages
pub mod Replicas
pub mod StateBytes
pub mod Fold
pub mod Rows
