-- Valid tuples of the same rings stand in one order: laws of the types.
pub use Rattle.mrp_types.proofs.TupleChain.{Apart, before_or_same, by_entries, by_parts_of_list, is_le, later_rings, le_is, one_reaches, or_apart, reaches_chain, reaches_same, same_first}
