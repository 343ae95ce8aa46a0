-- What is learned: the learner stays valid, and what is news isn't empty.
use Rattle.std.proofs.Common.{◌≡◌, inl, inr, ℕ, ◌-◌, ◌<◌, max, Bool, true, false, List, refl, sym, subst, arith}
use Rattle.std.proofs.lemmas.Bool.{cases_lt}
use Rattle.mrp_types.specs.declared.value.Value.{Value}
use Rattle.mrp_types.specs.declared.value.Entry.{Entry}
use Rattle.mrp_types.specs.declared.voted.Decided.{Decided}
use Rattle.mrp_types.specs.Entries.{IsEntry}
use Rattle.plain_model.specs.Fold.{entries_of_value}
use Rattle.vote_state.specs.Valid.{IsRing}
use Rattle.vote_state.proofs.StateLemmas.{filter_all}
use Rattle.protocol.specs.Parts.{Ring, Pending, Role, Idle, Active, Part}
use Rattle.protocol.proofs.EntryLemmas.{meets}
use Rattle.protocol.specs.Learner.{first_of, is_news, are_all_held, entries_within, with_range_learned, role_without, learns_news, learns}
use Rattle.step_valid.specs.Valid.{MayLearn, RoleValid, PartValid}
use Rattle.step_valid.proofs.Listed.{learned_met}
use Rattle.step_valid.proofs.Words.{unfinished_valid}

without_valid : (entries : List Entry) (role : Role) → RoleValid role → RoleValid (role_without entries role)
without_valid entries Idle r = tt
without_valid entries (Active campaign) r = record {
  ballot = r.ballot;
  reports = r.reports;
  ordered = r.ordered;
  pending = filter_all (λ (p : Pending). IsEntry p.entry) _ campaign.pending r.pending;
  outstanding = r.outstanding;
  covered = r.covered;
}

pub learns_valid : (ring : Ring) (numbered : IsRing ring.id) (part : Part) (range : Decided) → MayLearn range → PartValid part → PartValid (learns ring part range).part
unfolding learns
learns_valid ring numbered part range may p = go (is_news range part.learner)
  where
    go : (b : Bool) → PartValid (learns_news b part range).part
    go false = p
    go true = record {
      kept = p.kept;
      role = unfinished_valid ring numbered part.kept.trim (with_range_learned range part.learner).held (role_without (entries_of_value range.value) part.coordinator.role)
          (without_valid (entries_of_value range.value) part.coordinator.role p.role);
      round = p.round;
      held = learned_met range (max range.lo part.learner.base) part.learner.held (omega arith) may p.held;
      ordered = (meets first_of range.value (max range.lo part.learner.base) range.hi part.learner.held p.ordered).in_order;
    }

-- a range of which something is news isn't empty
pub news_some : (ring : Ring) (part : Part) (range : Decided) → (learns ring part range).news ≡ true → range.lo < range.hi
unfolding learns are_all_held
news_some ring part range = go (is_news range part.learner) refl
  where
    none : (es : List (ℕ × Value)) → are_all_held (max range.lo part.learner.base) 0 es ≡ true
    none es = refl

    held : (n : ℕ) → n ≡ 0 → (es : List (ℕ × Value)) → are_all_held (max range.lo part.learner.base) n es ≡ true
    held n e es = subst (λ k. are_all_held (max range.lo part.learner.base) k es ≡ true) (sym e) (none es)

    some : is_news range part.learner ≡ true → range.lo < range.hi
    some news = elim (cases_lt range.lo range.hi) [
      | inl lt ↦ lt
      | inr empty ↦
          let all = held (range.hi - max range.lo part.learner.base) (omega arith) (entries_within (max range.lo part.learner.base) range.hi part.learner.held) in
          absurd (cc)
    ]

    go : (b : Bool) → is_news range part.learner ≡ b → (learns_news b part range).news ≡ true → range.lo < range.hi
    go false e h = absurd (cc)
    go true e h = some e
