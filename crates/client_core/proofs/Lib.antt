pub mod Joining
pub mod Keeping
pub mod MissingLaws
pub mod Routed
pub mod Rules
pub mod Sending
pub mod Zips
