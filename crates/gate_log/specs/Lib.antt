pub mod Journal
pub mod Moments
pub mod Operations
pub mod Records
pub mod Rows
pub mod Walking
