-- Tuples and the one order of places: laws of the types.
pub use Rattle.mrp_types.proofs.TupleOrder.{before_chain, before_not, below_by, below_past, both_true, false_not_true, first_is_front, front_is_valid, next_is_one, none_before_next, not_before, not_below_by, not_below_past, other_number, past_is_front, past_many_valid, same_number, split_and, valid_is_front}
