pub mod Calls
pub mod Clients
pub mod Cores
pub mod Counted
pub mod Faults
pub mod Missing
pub mod Places
