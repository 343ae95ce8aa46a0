-- What comes to a coordinator: a trim that is told, a promise, a start; and what is learned.
use Rattle.std.proofs.Common.{◌≡◌, inl, inr, ℕ, ◌<◌, ◌≤◌, max, Bool, true, false, ◌&&◌, List, [], ◌∷◌, Option, Some, None, refl, sym, ◌∙◌, ap, subst, arith, length}
use Rattle.std.specs.Prelude.{◌==◌, nat_lt, nat_le, if◌then◌else◌, slice_index, slice_set, filter}
use Rattle.std.specs.List.{AllByRecursion}
use Rattle.std.proofs.lemmas.Bool.{cases_lt, cases_eq, and_parts}
use Rattle.std.proofs.lemmas.Bool.Decides.{nat_tests}
use Rattle.std.proofs.lemmas.List.{get_or-set_same, get_or-set_other}
use Rattle.std.proofs.Math.ListN.{length-set}
use Rattle.mrp_types.specs.declared.id.NodeId.{NodeId}
use Rattle.mrp_types.specs.declared.id.TheConstants.{END}
use Rattle.mrp_types.specs.declared.value.Value.{Value}
use Rattle.mrp_types.specs.declared.value.Entry.{Entry}
use Rattle.mrp_types.specs.declared.voted.Voted.{Voted}
use Rattle.plain_model.specs.Fold.{entries_of_value}
use Rattle.mrp_types.specs.declared.voted.Decided.{Decided}
use Rattle.range_map.specs.Entries.{value_at}
use Rattle.vote_state.specs.declared.ring.RingState.{RingState}
use Rattle.vote_state.specs.declared.change.Change.TheVariants as change
use Rattle.vote_state.specs.State.{with_trim}
use Rattle.ring_link.specs.Silence.{Link}
use Rattle.frames.specs.declared.body.Body.TheVariants as body
use Rattle.ring_reach.specs.Reach.{seen}
use Rattle.ring_reach.proofs.Reaching.{reach_one, Local-reach, seen_more, seen_from}
use Rattle.protocol.specs.Parts.{Ring, Role, Idle, Active, Learner, Part, Effects}
use Rattle.protocol.specs.Rings.{position_of, sends}
use Rattle.protocol.specs.Effects.{with_part, with_campaign, with_change, with_frames, with_kept, no_effects}
use Rattle.protocol.specs.Learner.{first_of, is_news, with_range_learned, role_unfinished, without_finished, role_without, learns_news, learns}
use Rattle.protocol.specs.Acceptor.{trims_to}
use Rattle.protocol.specs.Ballots.{Page, with_page, asks_more, counts, reported_at, reported}
use Rattle.protocol.specs.Coordinator.{promised}
use Rattle.protocol.specs.Meaning.{Meets}
use Rattle.protocol.proofs.EntryLemmas.{meets}
use Rattle.ring_safety.specs.Faces.{Face, page}
use Rattle.ring_safety.specs.Deeds.{Trims, done}
use Rattle.ring_safety.specs.Rules.{Grows}
use Rattle.ring_safety.specs.Invariant.{Local}
use Rattle.ring_safety.proofs.Local.{Grows-refl, Grows-trans}
use Rattle.ring_safety.proofs.Deeds.{Grows-done}
use Rattle.ring_kept.proofs.Keeping.{kept_trimmed}
use Rattle.ring_tables.specs.Ties.{acceptors, IsOutstanding, RoleTies, LearnerTies, PartTies, PromiseSaid, IsSaid, IsRangeChosen, IsChosen}
use Rattle.ring_tables.proofs.More.{RoleTies-more, PromiseSaid-more}
use Rattle.ring_tables.specs.Done.{EffectsTie, After}
use Rattle.ring_tables.proofs.Effects.{same_number, said_sends, effects_none, effects_frames, done_changed}
use Rattle.protocol.proofs.OfferLemmas.{reports_ordered}
use Rattle.ring_tables.proofs.Reporting.{reported_page}
use Rattle.ring_tables.proofs.Offering.{proposes_after_ties}

filtered : {T : Type 0} (P : T → Type 0) (test : T → Bool) (xs : List T) → AllByRecursion P xs → AllByRecursion P (filter test xs)
filtered P test [] all = tt
filtered {T} P test (x ∷ xs) all = go (test x) (filtered P test xs all.1)
  where
    go : (b : Bool) → AllByRecursion P (filter test xs) → AllByRecursion P (if b then x ∷ filter test xs else filter test xs)
    go true rest = (all.0, rest)
    go false rest = rest

-- finished proposals are no longer outstanding
pub unfinished_ties : (n : ℕ) (now : ℕ → Face Value) (f : Face Value) (trim : ℕ) (held : List (ℕ × Value)) (role : Role) → RoleTies n now f role → RoleTies n now f (role_unfinished trim held role)
unfinished_ties n now f trim held Idle r = tt
unfinished_ties n now f trim held (Active campaign) r = record {
  next = r.next;
  leads = r.leads;
  passed = r.passed;
  promised = r.promised;
  reports = r.reports;
  outstanding = filtered (IsOutstanding f campaign.ballot f.trim) _ campaign.outstanding r.outstanding;
  sized = r.sized;
  ended = r.ended;
  ordered = r.ordered;
}

-- ---- what is learned

pub learned_ties : (n : ℕ) (now : ℕ → Face Value) (range : Decided) (learner : Learner) → IsRangeChosen n now range → LearnerTies n now learner → LearnerTies n now (with_range_learned range learner)
learned_ties n now range learner chosen l = record {
  ordered = m.in_order;
  chosen = λ i value e. elim (cases_lt i (max range.lo learner.base)) [
    | inl below ↦ l.chosen i value (sym (m.below i below) ∙ e)
    | inr from ↦ elim (cases_lt i range.hi) [
      | inl to ↦ first (value_at i learner.held) i value refl (omega arith) to (sym (m.within i from to) ∙ e)
      | inr above ↦ l.chosen i value (sym (m.above i above) ∙ e)
    ]
  ];
}
  where
    m : Meets first_of (max range.lo learner.base) range.hi range.value learner.held (with_range_learned range learner).held
    m = meets first_of range.value (max range.lo learner.base) range.hi learner.held l.ordered

    first : (o : Option Value) (i : ℕ) (value : Value) → value_at i learner.held ≡ o → range.lo ≤ i → i < range.hi → Some (first_of o range.value) ≡ Some value → IsChosen n now i value
    first None i value e from to is = let same : range.value ≡ value = cc in subst (λ v. IsChosen n now i v) same (chosen i from to)
    first (Some held) i value e from to is = l.chosen i value (e ∙ is)

without_ties : (n : ℕ) (now : ℕ → Face Value) (f : Face Value) (entries : List Entry) (role : Role) → RoleTies n now f role → RoleTies n now f (role_without entries role)
without_ties n now f entries Idle r = tt
without_ties n now f entries (Active campaign) r = record {
  next = r.next;
  leads = r.leads;
  passed = r.passed;
  promised = r.promised;
  reports = r.reports;
  outstanding = r.outstanding;
  sized = r.sized;
  ended = r.ended;
  ordered = r.ordered;
}

pub learns_ties : (n : ℕ) (now : ℕ → Face Value) (f : Face Value) (ring : Ring) (part : Part) (range : Decided) → IsRangeChosen n now range → PartTies n now f part
    → PartTies n now f (learns ring part range).part
unfolding learns
learns_ties n now f ring part range chosen t = go (is_news range part.learner)
  where
    go : (b : Bool) → PartTies n now f (learns_news b part range).part
    go false = t
    go true = record {
      kept = t.kept;
      role = unfinished_ties n now f part.kept.trim (with_range_learned range part.learner).held (role_without (entries_of_value range.value) part.coordinator.role)
          (without_ties n now f (entries_of_value range.value) part.coordinator.role t.role);
      learner = learned_ties n now range part.learner chosen t.learner;
    }

module _ (ring : Ring) (faces : ℕ → Face Value) (a : ℕ) (seat : position_of ring ring.own ≡ Some a) (within : a < acceptors ring)
    (seats : (node : NodeId) (k : ℕ) → position_of ring node ≡ Some k → k < acceptors ring)
    (all : (k : ℕ) → Local (acceptors ring) faces k (faces k)) (start : Face Value) (local : Local (acceptors ring) faces a start) (kept : RingState) where
  -- ---- trims

  pub effects_trims : (f : Face Value) (effects : Effects) (trim : ℕ) → EffectsTie ring faces a start kept f effects → After ring faces a start kept f (trims_to ring trim effects)
  effects_trims f effects trim t = go (nat_le trim effects.part.kept.trim) refl
    where
      go : (b : Bool) → nat_le trim effects.part.kept.trim ≡ b
          → After ring faces a start kept f (if b then effects else with_change (change.Trim ring.id trim) (without_finished (with_kept (with_trim trim effects.part.kept) effects.part)) effects)
      go true e = record { face = f; grows = Grows-refl f; ties = t }
      go false e =
          let g : Face Value = done (Trims trim) f in
          let same : f.trim ≡ effects.part.kept.trim = t.done.kept.trim in
          let may : f.trim ≤ trim = grind (arith, nat_tests) in
          let grows : Grows f g = Grows-done (acceptors ring) faces a f (Trims trim) may in
          record {
            face = g;
            grows = grows;
            ties = record {
              done = done_changed ring faces a start kept f g effects (reach_one (acceptors ring) faces a f (Trims trim) may) grows t.done (change.Trim ring.id trim)
                  (without_finished (with_kept (with_trim trim effects.part.kept) effects.part)) (record { stand = ((λ r. omega arith), tt); voted = λ c h. inl h }) (rw (same_number ring.id.0) refl) refl (kept_trimmed f effects.part.kept trim t.done.kept);
              role = unfinished_ties (acceptors ring) (seen faces a g) g trim effects.part.learner.held effects.part.coordinator.role
                  (RoleTies-more (acceptors ring) (seen faces a f) (seen faces a g) (seen_more (acceptors ring) faces a f g grows) f g effects.part.coordinator.role grows refl refl t.role);
              told = t.told;
            };
          }

  -- ---- a page is reported

  pub effects_reported : (f : Face Value) (effects : Effects) (from : NodeId) (page : Page) (trim : ℕ)
      → ((k : ℕ) → position_of ring from ≡ Some k → PromiseSaid (seen faces a f k) page.ballot page.lo page.hi trim page.votes) → trim ≤ effects.part.kept.trim
      → EffectsTie ring faces a start kept f effects → EffectsTie ring faces a start kept f (reported ring from page effects)
  effects_reported f effects from page trim said le t = by_role effects.part.coordinator.role t.role (position_of ring from) refl
    where
      by_role : (role : Role) → RoleTies (acceptors ring) (seen faces a f) f role → (o : Option ℕ) → position_of ring from ≡ o
          → EffectsTie ring faces a start kept f (reported_at ring from page role o effects)
      by_role Idle r o e = t
      by_role (Active campaign) r None e = t
      by_role (Active campaign) r (Some k) e = by_test (counts page campaign.ballot (slice_index campaign.covered k)) refl
        where
          s : PromiseSaid (seen faces a f k) page.ballot page.lo page.hi trim page.votes
          s = said k e

          asks : (b : Bool) → AllByRecursion (IsSaid ring (seen faces a f)) (if b then [] else sends ring (Some from) (body.Prepare ring.id page.ballot page.hi))
          asks true = tt
          asks false = said_sends ring (seen faces a f) (Some from) (body.Prepare ring.id page.ballot page.hi) tt

          seated : k < acceptors ring
          seated = seats from k e

          by_test : (b : Bool) → counts page campaign.ballot (slice_index campaign.covered k) ≡ b
              → EffectsTie ring faces a start kept f (if b then with_frames (asks_more ring from page) (with_part (with_campaign (with_page k (slice_index campaign.covered k) page campaign) effects.part) effects) else effects)
          by_test false c = t
          by_test true c =
              let d = t.done in
              let one = and_parts (page.ballot == campaign.ballot) (nat_le page.lo (slice_index campaign.covered k) && nat_lt (slice_index campaign.covered k) page.hi) c in
              let two = and_parts (nat_le page.lo (slice_index campaign.covered k)) (nat_lt (slice_index campaign.covered k) page.hi) one.1 in
              let test_ballot = one.0 in
              let test_low = two.0 in
              let test_high = two.1 in
              let ballot : page.ballot ≡ campaign.ballot = grind (arith, nat_tests) in
              let low : page.lo ≤ slice_index campaign.covered k = grind (arith, nat_tests) in
              let past : slice_index campaign.covered k < page.hi = grind (arith, nat_tests) in
              let from_low : s.promise.low ≡ page.lo = s.low in
              let trimmed : s.promise.trim ≡ trim = s.trimmed in
              let own_trim : f.trim ≡ effects.part.kept.trim = d.kept.trim in
              let sized : length campaign.covered ≡ acceptors ring = r.sized in
              let top : page.hi ≤ END = s.ended in
              let under : k < acceptors ring = seated in
              effects_frames ring faces a start kept f (with_part (with_campaign (with_page k (slice_index campaign.covered k) page campaign) effects.part) effects) (asks_more ring from page) (asks (page.hi == END))
              (record {
                done = record { reached = d.reached; kept = d.kept; learner = d.learner; changes = d.changes; frames = d.frames; learned = d.learned; recorded = d.recorded };
                role = record {
                  next = r.next;
                  leads = r.leads;
                  passed = r.passed;
                  promised = r.promised;
                  reports = reported_page (acceptors ring) (seen faces a f) f.trim campaign.ballot campaign.covered campaign.reports r.reports k page.hi s.promise page.votes r.ordered seated r.sized s.made
                      (s.of_ballot ∙ ballot) (omega arith) s.high (omega arith) s.told s.paged s.ordered past;
                  outstanding = r.outstanding;
                  sized = simp length-set r.sized;
                  ended = λ j. elim (cases_eq j k) [
                    | inl here ↦
                        let there : slice_index (slice_set campaign.covered k page.hi) j ≡ page.hi =
                        ap (λ x. slice_index (slice_set campaign.covered k page.hi) x) here ∙ get_or-set_same campaign.covered k page.hi 0 (omega arith) in
                        omega arith
                    | inr ne ↦
                        let other : slice_index (slice_set campaign.covered k page.hi) j ≡ slice_index campaign.covered j = get_or-set_other campaign.covered k j page.hi 0 ne in
                        let before = r.ended j in
                        omega arith
                  ];
                  ordered = reports_ordered (slice_index campaign.covered k) page.votes campaign.reports r.ordered;
                };
                told = t.told;
              })

  pub trims_above : (trim : ℕ) (effects : Effects) → trim ≤ (trims_to ring trim effects).part.kept.trim
  trims_above trim effects = go (nat_le trim effects.part.kept.trim) refl
    where
      go : (b : Bool) → nat_le trim effects.part.kept.trim ≡ b
          → trim ≤ (if b then effects else with_change (change.Trim ring.id trim) (without_finished (with_kept (with_trim trim effects.part.kept) effects.part)) effects).part.kept.trim
      go true e = grind (arith, nat_tests)
      go false e = omega arith

  -- Promise
  pub promised_ties : (link : Link) (part : Part) → kept ≡ part.kept → PartTies (acceptors ring) (seen faces a start) start part
      → (from : NodeId) (ballot lo hi trim : ℕ) (votes : List Voted) → ((k : ℕ) → position_of ring from ≡ Some k → PromiseSaid (faces k) ballot lo hi trim votes)
      → After ring faces a start kept start (promised ring link part from ballot lo hi trim votes)
  unfolding promised
  promised_ties link part same t from ballot lo hi trim votes said =
      let first : After ring faces a start kept start (trims_to ring trim (no_effects part)) = effects_trims start (no_effects part) trim (effects_none ring faces a start kept part t same) in
      let page : Page = record { ballot = ballot; lo = lo; hi = hi; votes = votes } in
      let own : Local (acceptors ring) faces a first.face = Local-reach (acceptors ring) faces a all start first.face local first.ties.done.reached in
      let now : (k : ℕ) → Grows (faces k) (seen faces a first.face k) = seen_from (acceptors ring) faces a first.face own.grown in
      let told = effects_reported first.face (trims_to ring trim (no_effects part)) from page trim
      (λ k at. PromiseSaid-more (faces k) (seen faces a first.face k) ballot lo hi trim votes (now k) (said k at)) (trims_above trim (no_effects part)) first.ties in
      let rest = proposes_after_ties ring faces a seat within all start local kept first.face link (reported ring from page (trims_to ring trim (no_effects part))) told in
      record { face = rest.face; grows = Grows-trans first.grows rest.grows; ties = rest.ties }
