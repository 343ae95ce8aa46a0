pub mod Spelling
pub mod Fields
pub mod Words
pub mod Reading
pub mod Whole
pub mod Rows
