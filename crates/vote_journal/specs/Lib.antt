pub mod Spelling
pub mod Epochs
pub mod Grammar
pub mod Journal
pub mod Operations
pub mod Faults
