pub mod Keeping
pub mod Changing
pub mod Stepping
pub mod Opening
