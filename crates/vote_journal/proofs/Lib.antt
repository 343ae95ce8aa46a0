pub mod Going
pub mod RecordLaws
pub mod Recording
pub mod Openings
pub mod Writing
pub mod Replacing
