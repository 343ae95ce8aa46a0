mod Splitting
mod Deployment
pub mod May
