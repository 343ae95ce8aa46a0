pub mod HeldLemmas
pub mod MadeAgain
pub mod MaximalLemmas
pub mod OneList
pub mod RangeLemmas
pub mod StateLemmas
pub mod ValidLemmas
mod VoteRows
