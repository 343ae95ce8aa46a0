pub mod Ring
pub mod Built
pub mod Learner
pub mod System
pub mod Lines
pub mod Order
pub mod Rows
