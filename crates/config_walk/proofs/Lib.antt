pub mod Addresses
pub mod Among
pub mod Chains
pub mod Digits
pub mod Known
pub mod Seen
pub mod Views
