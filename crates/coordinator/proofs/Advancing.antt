-- The next instance, as proposing passes over what is learned.
use Rattle.std.proofs.Common.{◌≡◌, ℕ, ◌≤◌, List, sym, ◌∙◌, ap, subst}
use Rattle.std.specs.Prelude.{None}
use Rattle.mrp_types.specs.declared.value.Value.{Value}
use Rattle.range_map.specs.Entries.{value_at}
use Rattle.protocol.specs.Learner.{first_gap}
use Rattle.protocol.proofs.EntryLemmas.{gap}
use Rattle.ring_learner.specs.Filled.{AreLearned}

pub gap_unlearned : (from next : ℕ) (held : List (ℕ × Value)) → AreLearned held → next ≡ first_gap from held → value_at next held ≡ None
gap_unlearned from next held are is = ap (λ (i : ℕ). value_at i held) is ∙ (gap from held are.ordered).not_held

pub gap_above : (from next : ℕ) (held : List (ℕ × Value)) → AreLearned held → next ≡ first_gap from held → from ≤ next
gap_above from next held are is = subst (λ (i : ℕ). from ≤ i) (sym is) (gap from held are.ordered).from_there
