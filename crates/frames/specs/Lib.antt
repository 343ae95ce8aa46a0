pub mod Ranges
pub mod Grammar
pub mod Spelling
pub mod Valid
pub mod Saying
