pub mod Address
pub mod Faults
pub mod Numbers
pub mod Values
