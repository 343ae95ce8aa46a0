pub mod Parts
pub mod Replying
pub mod Clients
pub mod Books
pub mod Giving
pub mod Sent
pub mod Runs
pub mod Laws
