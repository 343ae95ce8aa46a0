pub mod PartLaws
pub mod StateLaws
