pub mod Happens
pub mod Deployment
pub mod Chosen
