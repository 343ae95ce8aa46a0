pub mod Books
pub mod Deployed
pub mod Worlds
pub mod Clients
pub mod Runs
pub mod Laws
pub mod Named
pub mod Showing
