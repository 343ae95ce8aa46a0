-- What one more line changes stands in `line_rules`.
pub use Rattle.line_rules.proofs.Growing.{same_number, past_more, last_quiet, last_own, first_quiet, first_own, all_quiet, all_own, has_later, has_split, all_more, first_more, book_more, position_quiet, position_own}
