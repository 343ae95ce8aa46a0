pub mod Fields
pub mod Spelling
pub mod Valid
pub mod Reader
pub mod Grammar
pub mod Replies
pub mod Parts
