pub mod Rows
pub mod Tuples
pub mod ListLaws
pub mod BodyLaws
pub mod FrameLaws
pub mod Lengths
pub mod Walks
