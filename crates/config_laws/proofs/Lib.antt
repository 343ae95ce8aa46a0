pub mod Accepting
pub mod AcceptingPartitions
pub mod Bits
pub mod Routes
pub mod Rows
pub mod Spelled
