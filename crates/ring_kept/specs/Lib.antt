pub mod Kept
pub mod Masks
pub mod Pages
