pub mod Ids
pub mod Tuples
pub mod Tables
pub mod Votes
pub mod Records
pub mod Codecs
pub mod Words
pub mod Routes
