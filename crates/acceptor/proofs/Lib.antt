pub mod AcceptLemmas
pub mod PrepareLemmas
pub mod TellingLemmas
