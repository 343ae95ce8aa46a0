pub mod Quiet
pub mod Rules
pub mod Words
pub mod Stepping
