-- A start of a ballot: the promise to itself, and a coordinator that is covered by it alone.
use Rattle.std.proofs.Common.{◌≡◌, ◌⊎◌, inl, inr, ℕ, ◌<◌, ◌≤◌, ◌^◌, Bool, true, false, List, [], ◌∷◌, Option, Some, refl, sym, ◌∙◌, ap, subst, arith, get_or}
use Rattle.std.specs.Prelude.{◌==◌, nat_le, if◌then◌else◌, slice_index}
use Rattle.std.specs.List.{AllByRecursion}
use Rattle.std.proofs.lemmas.Bool.{cases_lt, cases_eq, false_from_ne_true}
use Rattle.std.proofs.lemmas.Bool.Decides.{nat_tests}
use Rattle.std.proofs.lemmas.List.{get_or-map, length-map, get_or_past}
use Rattle.std.proofs.lemmas.List.Quantifiers.{position-Some}
use Rattle.mrp_types.specs.declared.id.NodeId.{NodeId}
use Rattle.mrp_types.specs.declared.id.TheConstants.{END}
use Rattle.mrp_types.specs.declared.value.Value.{Value}
use Rattle.vote_state.specs.declared.cast.Cast.{Cast}
use Rattle.vote_state.specs.declared.ring.RingState.{RingState}
use Rattle.vote_state.specs.declared.change.Change.TheVariants as change
use Rattle.vote_state.specs.State.{with_promise}
use Rattle.ring_link.specs.Silence.{Link}
use Rattle.frames.specs.declared.body.Body.{Body}
use Rattle.frames.specs.declared.body.Body.TheVariants as body
use Rattle.quorums.specs.Groups.{Has}
use Rattle.ring_reach.specs.Reach.{seen}
use Rattle.ring_reach.proofs.Reaching.{reach_one, seen_own}
use Rattle.protocol.specs.Lines.{BallotLimit}
use Rattle.protocol.specs.Parts.{Ring, Part, Effects}
use Rattle.protocol.specs.Rings.{is_own, other_acceptors, position_of, sends, sends_each}
use Rattle.protocol.specs.Effects.{with_part, with_campaign, with_change, with_line, no_effects}
use Rattle.protocol.specs.Acceptor.{promises, promised_part}
use Rattle.protocol.specs.Ballots.{covered_at_start, new_campaign, campaigns, greatest_seen, own_ballot}
use Rattle.protocol.specs.Proposing.{proposes_after}
use Rattle.protocol.specs.Coordinator.{starts_at, leads}
use Rattle.protocol.proofs.BallotLemmas.{is_least}
use Rattle.ring_safety.specs.Faces.{Promise, Face, Vote, owner, page, rank}
use Rattle.ring_safety.specs.Deeds.{Starts, MayStart, done}
use Rattle.ring_safety.specs.Rules.{Grows}
use Rattle.ring_safety.proofs.Votes.{page_inside}
use Rattle.ring_safety.specs.Invariant.{Local}
use Rattle.ring_safety.proofs.Local.{Grows-refl, Grows-trans}
use Rattle.ring_safety.proofs.Deeds.{Grows-done}
use Rattle.ring_kept.specs.Kept.{told_of, KeptTies}
use Rattle.ring_tables.specs.Ties.{acceptors, Reports, CampaignTies, PartTies, BodySaid, IsSaid}
use Rattle.ring_tables.proofs.More.{told_on}
use Rattle.ring_tables.specs.Done.{DoneTies, EffectsTie, After}
use Rattle.ring_tables.proofs.Effects.{same_number, said_sends, effects_none, effects_frames, done_changed}
use Rattle.ring_tables.proofs.Offering.{proposes_after_ties}
use Rattle.quorums.proofs.Each.{appended}

pub said_sends_each : (ring : Ring) (now : ℕ → Face Value) (nodes : List NodeId) (b : Body) → BodySaid ring now ring.own b → AllByRecursion (IsSaid ring now) (sends_each ring nodes b)
said_sends_each ring now [] b s = tt
said_sends_each ring now (node ∷ nodes) b s =
    appended (IsSaid ring now) (sends ring (Some node) b) (sends_each ring nodes b) (said_sends ring now (Some node) b s) (said_sends_each ring now nodes b s)

abbrev nobody : NodeId
nobody = record { 0 = 0 }

module _ (ring : Ring) (faces : ℕ → Face Value) (a : ℕ) (seat : position_of ring ring.own ≡ Some a) (within : a < acceptors ring)
    (alone : (k : ℕ) → k < acceptors ring → is_own ring (get_or ring.acceptors k nobody) ≡ true → k ≡ a)
    (all : (k : ℕ) → Local (acceptors ring) faces k (faces k)) (start : Face Value) (local : Local (acceptors ring) faces a start) (kept : RingState) where
  -- ---- who is covered at a start

  abbrev reach : ℕ → NodeId → ℕ
  reach next node = if is_own ring node then END else next

  own_there : is_own ring (get_or ring.acceptors a nobody) ≡ true
  own_there = (position-Some (λ (other : NodeId). other.0 == ring.own.0) ring.acceptors a nobody seat).1

  covered_own : (next : ℕ) → slice_index (covered_at_start ring next) a ≡ END
  covered_own next = get_or-map (reach next) ring.acceptors a nobody 0 within ∙ ap (λ (b : Bool). if b then END else next) own_there

  covered_other : (next k : ℕ) → k < acceptors ring → (k ≡ a → ⊥) → slice_index (covered_at_start ring next) k ≡ next
  covered_other next k lt ne =
      get_or-map (reach next) ring.acceptors k nobody 0 lt
      ∙ ap (λ (b : Bool). if b then END else next) (false_from_ne_true (is_own ring (get_or ring.acceptors k nobody)) (λ is. ne (alone k lt is)))

  covered_past_all : (next k : ℕ) → acceptors ring ≤ k → slice_index (covered_at_start ring next) k ≡ 0
  covered_past_all next k past = get_or_past (covered_at_start ring next) k 0 (simp length-map past)

  -- ---- the deed

  module _ (f : Face Value) (effects : Effects) (ballot : ℕ) (above : effects.part.kept.promise < ballot) (owned : owner (acceptors ring) ballot ≡ a) (t : EffectsTie ring faces a start kept f effects) where
    abbrev g : Face Value
    g = done (Starts ballot END) f

    abbrev own : Promise Value
    own = record { ballot = ballot; low = f.trim; high = END; trim = f.trim; told = page f.votes f.trim END }

    may : MayStart (acceptors ring) a f ballot
    may = let same : f.promise ≡ effects.part.kept.promise = t.done.kept.promise in record { owned = owned; above = omega arith }

    grows : Grows f g
    grows = Grows-done (acceptors ring) faces a f (Starts ballot END) may

    kept_started : KeptTies g (with_promise ballot effects.part.kept)
    kept_started = let k = t.done.kept in record { promise = refl; trim = k.trim; votes = k.votes; ordered = k.ordered; ended = k.ended }

    own_said : Has (seen faces a g a).promises own
    own_said = subst (λ (z : Face Value). Has z.promises own) (sym (seen_own (acceptors ring) faces a g)) (inl refl)

    -- only the own position is covered past an instance from the trim on
    only_own : (k i : ℕ) → k < acceptors ring → f.trim ≤ i → i < slice_index (covered_at_start ring effects.part.kept.trim) k → (k ≡ a) × (i < END)
    only_own k i lt from to = elim (cases_eq k a) [
      | inl same ↦
          let end : slice_index (covered_at_start ring effects.part.kept.trim) k ≡ END =
          ap (λ x. slice_index (covered_at_start ring effects.part.kept.trim) x) same ∙ covered_own effects.part.kept.trim in
          (same, omega arith)
      | inr ne ↦
          let other = covered_other effects.part.kept.trim k lt ne in
          let trim : f.trim ≡ effects.part.kept.trim = t.done.kept.trim in
          absurd (omega arith)
    ]

    reports : Reports (acceptors ring) (seen faces a g) f.trim ballot (covered_at_start ring effects.part.kept.trim) effects.part.kept.votes
    reports = record {
      page = λ k i. own;
      made = λ k i lt from to. subst (λ x. Has (seen faces a g x).promises own) (sym (only_own k i lt from to).0) own_said;
      serves = λ k i lt from to. let under = (only_own k i lt from to).1 in record { of_ballot = refl; from_low = from; to_high = under; untrimmed = from };
      told = λ k i lt from to.
          let inside = ap (λ (o : Option (Vote Value)). rank o) (page_inside f.votes f.trim END i from (only_own k i lt from to).1) in
          let held = ap (λ (o : Option (Vote Value)). rank o) (t.done.kept.votes i) in
          omega arith;
      reported = λ i cast from e. elim (cases_lt i END) [
        | inl under ↦
            let end = covered_own effects.part.kept.trim in
            record {
              member = a;
              below = within;
              past = omega arith;
              tells = page_inside f.votes f.trim END i from under ∙ t.done.kept.votes i ∙ ap (λ (o : Option Cast). told_of o) e;
            }
        | inr past ↦ let none = t.done.kept.ended i past in absurd (cc)
      ];
    }

    ties : CampaignTies (acceptors ring) (seen faces a g) g (new_campaign ring ballot (with_promise ballot effects.part.kept))
    ties =
        let trim : f.trim ≡ effects.part.kept.trim = t.done.kept.trim in
        record {
          next = f.trim;
          leads = refl;
          passed = omega arith;
          promised = refl;
          reports = reports;
          outstanding = tt;
          sized = length-map ring.acceptors (reach effects.part.kept.trim);
          ended = λ k. elim (cases_lt k (acceptors ring)) [
            | inl lt ↦ elim (cases_eq k a) [
              | inl same ↦
                  let end : slice_index (covered_at_start ring effects.part.kept.trim) k ≡ END =
                  ap (λ x. slice_index (covered_at_start ring effects.part.kept.trim) x) same ∙ covered_own effects.part.kept.trim in
                  omega arith
              | inr ne ↦ let other = covered_other effects.part.kept.trim k lt ne in omega arith
            ]
            | inr past ↦ let none = covered_past_all effects.part.kept.trim k past in omega arith
          ];
          ordered = t.done.kept.ordered;
        }

    -- the new promise is of an own ballot
    started : (p : Promise Value) → Has g.promises p → p.low < p.high → Has f.promises p ⊎ (owner (acceptors ring) p.ballot ≡ a)
    started p (inl e) lt = inr (subst (λ (q : Promise Value). owner (acceptors ring) q.ballot ≡ a) (sym e) owned)
    started p (inr h) lt = inl h

    abbrev changed : Effects
    changed = with_change (change.Promise ring.id ballot) (promised_part ballot effects.part) effects

    pub effects_starts : After ring faces a start kept f (campaigns ring ballot (promises ring ballot effects))
    effects_starts =
        let d : DoneTies ring faces a start kept g changed =
        done_changed ring faces a start kept f g effects (reach_one (acceptors ring) faces a f (Starts ballot END) may) grows t.done (change.Promise ring.id ballot) (promised_part ballot effects.part)
        (record { stand = ((λ r. omega arith), tt); voted = λ c h. inl h }) (rw (same_number ring.id.0) refl) refl kept_started in
        record {
          face = g;
          grows = grows;
          ties = effects_frames ring faces a start kept g (with_part (with_campaign (new_campaign ring ballot changed.part.kept) changed.part) changed)
              (sends_each ring (other_acceptors ring) (body.Prepare ring.id ballot changed.part.kept.trim))
              (said_sends_each ring (seen faces a g) (other_acceptors ring) (body.Prepare ring.id ballot changed.part.kept.trim) tt)
              (record {
                done = record { reached = d.reached; kept = d.kept; learner = d.learner; changes = d.changes; frames = d.frames; learned = d.learned; recorded = d.recorded };
                role = ties;
                told = told_on ring a start f g effects.frames started t.told;
              });
        }

  -- ---- Lead

  pub leads_ties : (link : Link) (part : Part) → kept ≡ part.kept → PartTies (acceptors ring) (seen faces a start) start part
      → After ring faces a start kept start (leads ring link part)
  unfolding leads
  leads_ties link part same t = subst (λ o. After ring faces a start kept start (starts_at ring link part o)) (sym seat) (by_limit (nat_le (2 ^ 48) (own_ballot ring part a)))
    where
      none : EffectsTie ring faces a start kept start (no_effects part)
      none = effects_none ring faces a start kept part t same

      by_limit : (b : Bool) → After ring faces a start kept start (if b then with_line (BallotLimit ring.own ring.id) (no_effects part)
          else proposes_after ring link (campaigns ring (own_ballot ring part a) (promises ring (own_ballot ring part a) (no_effects part))))
      by_limit true =
          let d = none.done in
          record {
            face = start;
            grows = Grows-refl start;
            ties = record { done = record { reached = d.reached; kept = d.kept; learner = d.learner; changes = d.changes; frames = d.frames; learned = d.learned; recorded = d.recorded }; role = none.role; told = none.told };
          }
      by_limit false =
          let least = is_least (greatest_seen part) (acceptors ring) a within in
          let up = least.above in
          let s = effects_starts start (no_effects part) (own_ballot ring part a) (omega arith) least.leaves none in
          let rest = proposes_after_ties ring faces a seat within all start local kept s.face link (campaigns ring (own_ballot ring part a) (promises ring (own_ballot ring part a) (no_effects part))) s.ties in
          record { face = rest.face; grows = Grows-trans s.grows rest.grows; ties = rest.ties }
