pub mod Events
pub mod Disks
pub mod Opening
pub mod Rows
pub mod Worlds
pub mod Trace
pub mod Runs
