pub mod More
pub mod Effects
pub mod Acceptor
pub mod Reporting
pub mod Backing
pub mod Offering
pub mod Settling
