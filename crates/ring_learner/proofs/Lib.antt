pub mod FilledLemmas
pub mod PageLemmas
