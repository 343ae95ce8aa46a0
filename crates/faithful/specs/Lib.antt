pub mod Scanners
pub mod Answers
pub mod Rules
