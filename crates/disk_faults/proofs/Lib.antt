pub mod Quiet
pub mod Plans
pub mod Asking
pub mod Keeping
