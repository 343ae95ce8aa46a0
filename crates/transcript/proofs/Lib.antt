pub mod WordLaws
pub mod FieldLaws
pub mod LineLaws
pub mod WholeLaws
