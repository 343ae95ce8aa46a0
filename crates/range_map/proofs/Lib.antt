pub mod CutLemmas
pub mod EditLemmas
pub mod EntryLemmas
mod EntryRows
pub mod RunsLemmas
pub mod SetLemmas
pub mod ViewLemmas
