pub mod Config
pub mod Routing
pub mod Valid
pub mod Walk
