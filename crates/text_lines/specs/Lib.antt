pub mod Split
pub mod Text
pub mod Reading
pub mod Words
