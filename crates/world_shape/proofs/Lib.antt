pub mod Fitting
pub mod Spelled
pub mod Shaping
pub mod Epochs
pub mod Disks
