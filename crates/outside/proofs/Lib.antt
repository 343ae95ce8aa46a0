pub mod Pieces
pub mod ReadingLemmas
pub mod WritingLemmas
pub mod HandingLaws
