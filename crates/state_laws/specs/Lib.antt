pub mod Spoken
pub mod States
pub mod Books
