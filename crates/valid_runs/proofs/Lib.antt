pub mod Clients
pub mod Running
