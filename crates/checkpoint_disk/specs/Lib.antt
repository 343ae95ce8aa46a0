pub mod Faults
pub mod Saved
pub mod Saves
pub mod Shown
pub mod Standing
