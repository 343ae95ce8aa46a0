pub mod Answers
pub mod Status
pub mod Intake
pub mod Drawing
pub mod Top
