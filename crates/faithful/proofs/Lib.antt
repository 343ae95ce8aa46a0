pub mod Growing
pub mod Ordering
pub mod Quorum
pub mod Between
pub mod Moving
