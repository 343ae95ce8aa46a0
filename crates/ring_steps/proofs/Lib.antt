pub mod Along
pub mod Elsewhere
pub mod Dispatching
pub mod Ending
pub mod Opened
