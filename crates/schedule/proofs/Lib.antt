pub mod FieldLaws
pub mod CommandLaws
pub mod EventLaws
pub mod Lines
pub mod ScheduleLaws
pub mod AskLaws
pub mod Drawing
pub mod Made
