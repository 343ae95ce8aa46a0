-- Proposing: an offer and one turn after another.
use Rattle.std.proofs.Common.{◌≡◌, ℕ, zero, suc, ◌+◌, ◌-◌, ◌<◌, ◌≤◌, max, Bool, true, false, ◌&&◌, ◌||◌, List, [], ◌∷◌, ◌++◌, Option, Some, None, refl, sym, ◌∙◌, ap, subst, arith, length}
use Rattle.std.specs.Prelude.{nat_lt, nat_le, not, if◌then◌else◌}
use Rattle.std.specs.List.{AllByRecursion}
use Rattle.std.proofs.lemmas.Bool.{and_parts}
use Rattle.std.proofs.lemmas.Bool.Decides.{nat_tests}
use Rattle.mrp_types.specs.declared.id.TheConstants.{END}
use Rattle.mrp_types.specs.declared.value.Value.{Value}
use Rattle.mrp_types.specs.declared.value.Value.TheVariants.{Skip, Batch}
use Rattle.mrp_types.specs.declared.value.Entry.{Entry}
use Rattle.mrp_types.specs.declared.voted.Decided.{Decided}
use Rattle.command_codec.specs.Spelling.{batch_bytes}
use Rattle.range_map.specs.Entries.{value_at, IsIncreasingFrom}
use Rattle.vote_state.specs.declared.cast.Cast.{Cast}
use Rattle.vote_state.specs.declared.ring.RingState.{RingState}
use Rattle.ring_link.specs.Silence.{Link}
use Rattle.quorums.specs.Groups.{Has}
use Rattle.ring_reach.specs.Reach.{seen, proposal, Proposing}
use Rattle.ring_reach.proofs.Reaching.{Local-reach, seen_more, seen_own, proposes_range}
use Rattle.protocol.specs.Parts.{Ring, Campaign, Role, Idle, Active, Part, Effects}
use Rattle.protocol.specs.Rings.{position_of, bit_of, has_bit}
use Rattle.protocol.specs.Effects.{with_part, with_campaign}
use Rattle.protocol.specs.Acceptor.{votes_for}
use Rattle.protocol.specs.Ballots.{covered_to, leads_now}
use Rattle.protocol.specs.Proposing.{reported_to, due_by, due_at, run_end, fresh_entries, Choice, Rests, Offers, single, fresh_choice, choice_of, has_room, choice, advanced, mask_at, own_mask, with_outstanding, after_offer, vote_of, offers, Turn, Stops, Proposes, turn_by, turn_in, turn_of, proposing, proposes_after}
use Rattle.protocol.proofs.EntryLemmas.{gap}
use Rattle.protocol.proofs.OfferLemmas.{IsOffer, choice_offer}
use Rattle.ring_safety.specs.Faces.{Face, owner}
use Rattle.ring_safety.specs.Rules.{Grows}
use Rattle.ring_safety.specs.Invariant.{Local}
use Rattle.ring_safety.proofs.Local.{Grows-refl, Grows-trans}
use Rattle.ring_kept.specs.Kept.{KeptTies}
use Rattle.ring_kept.proofs.Masks.{own_bit}
use Rattle.ring_tables.specs.Ties.{acceptors, RoleTies, CampaignTies, IsOutstanding, AcceptSaid}
use Rattle.ring_tables.proofs.More.{IsOutstanding-more, Reports-more}
use Rattle.ring_tables.specs.Done.{DoneTies, EffectsTie, After}
use Rattle.ring_tables.proofs.Effects.{done_votes}
use Rattle.ring_tables.proofs.Acceptor.{effects_decides_or_forwards}
use Rattle.ring_tables.proofs.Effects.{told_votes}
use Rattle.ring_tables.proofs.Backing.{backing, covered_ended}
use Rattle.quorums.proofs.Each.{mapped, appended}

-- ---- an offer

module _ (ring : Ring) (faces : ℕ → Face Value) (a : ℕ) (seat : position_of ring ring.own ≡ Some a) (within : a < acceptors ring)
    (all : (k : ℕ) → Local (acceptors ring) faces k (faces k)) (start : Face Value) (local : Local (acceptors ring) faces a start) (kept : RingState) where
  own_mask_is : own_mask ring ≡ bit_of a
  own_mask_is = ap mask_at seat

  -- what is to be done for a proposal
  pub record MayOffer (f : Face Value) (campaign : Campaign) (range : Decided) (effects : Effects) : Type 0 where
    pub before : EffectsTie ring faces a start kept f effects
    pub ties : CampaignTies (acceptors ring) (seen faces a f) f campaign
    pub above : f.trim ≤ campaign.next
    pub offer : IsOffer ring campaign range

  module _ (f : Face Value) (link : Link) (campaign : Campaign) (range : Decided) (taken : ℕ) (effects : Effects) (m : MayOffer f campaign range effects) where
    abbrev size : ℕ
    size = range.hi - range.lo

    abbrev offered : Effects
    offered = with_part (with_campaign (after_offer ring range taken campaign) effects.part) effects

    proposed : Proposing (acceptors ring) faces a f campaign.ballot range.lo size range.value
    proposed =
        let begins : range.lo ≡ campaign.next = m.offer.begins in
        let passed : m.ties.next ≤ campaign.next = m.ties.passed in
        let above : f.trim ≤ campaign.next = m.above in
        proposes_range (acceptors ring) faces a size f campaign.ballot m.ties.next range.lo range.value m.ties.leads (omega arith) m.ties.promised (omega arith)
        (λ i x y. backing ring faces a f f.trim campaign.ballot campaign.covered campaign.reports m.ties.reports m.ties.sized i range.value (omega arith)
        (m.offer.covered i x (omega arith)) (m.offer.agrees i x (omega arith)))

    hi_ended : range.hi ≤ END
    hi_ended =
        let some : range.lo < range.hi = m.offer.some in
        let begins : range.lo ≡ campaign.next = m.offer.begins in
        let above : f.trim ≤ campaign.next = m.above in
        let last = covered_ended ring campaign.covered f.trim (range.hi - 1) m.ties.sized m.ties.ended (omega arith) (m.offer.covered (range.hi - 1) (omega arith) (omega arith)) in
        omega arith

    abbrev g : Face Value
    g = proposed.face

    more : (k : ℕ) → Grows (seen faces a f k) (seen faces a g k)
    more = seen_more (acceptors ring) faces a f g proposed.voted.grows

    -- the range is outstanding
    outstanding : AllByRecursion (IsOutstanding g campaign.ballot g.trim) (with_outstanding ring range campaign.outstanding)
    outstanding = go (nat_le (length ring.acceptors) 1)
      where
        before : AllByRecursion (IsOutstanding g campaign.ballot g.trim) campaign.outstanding
        before = mapped (IsOutstanding f campaign.ballot f.trim) (IsOutstanding g campaign.ballot g.trim)
            (λ r. IsOutstanding-more f g campaign.ballot r proposed.voted.grows) campaign.outstanding m.ties.outstanding

        new : IsOutstanding g campaign.ballot g.trim range
        new = record {
          proposed = λ i x y. proposed.proposed i (omega arith) (omega arith);
          cast = λ i x y. proposed.voted.cast i (omega arith) (omega arith);
          ended = hi_ended;
        }

        go : (b : Bool) → AllByRecursion (IsOutstanding g campaign.ballot g.trim) (if b then campaign.outstanding else campaign.outstanding ++ range ∷ [])
        go true = before
        go false = appended (IsOutstanding g campaign.ballot g.trim) campaign.outstanding (range ∷ []) before (new, tt)

    ties_after : CampaignTies (acceptors ring) (seen faces a g) g (after_offer ring range taken campaign)
    ties_after =
        let some : range.lo < range.hi = m.offer.some in
        let end : proposed.next ≤ range.lo + size = proposed.passed in
        let same : g.trim ≡ f.trim = proposed.voted.trim in
        record {
          next = proposed.next;
          leads = proposed.leads;
          passed = omega arith;
          promised = proposed.voted.promise ∙ m.ties.promised;
          reports = Reports-more (acceptors ring) (seen faces a f) (seen faces a g) more f.trim g.trim campaign.ballot campaign.covered campaign.reports (omega arith) m.ties.reports;
          outstanding = outstanding;
          sized = m.ties.sized;
          ended = λ k. let low = m.ties.ended k in omega arith;
          ordered = m.ties.ordered;
        }

    done_before : DoneTies ring faces a start kept f offered
    done_before =
        let d = m.before.done in
        record { reached = d.reached; kept = d.kept; learner = d.learner; changes = d.changes; frames = d.frames; learned = d.learned; recorded = d.recorded }

    -- the ballot is the own one
    mine : owner (acceptors ring) campaign.ballot ≡ a
    mine = (Local-reach (acceptors ring) faces a all start f local m.before.done.reached).leads_owned (record { ballot = campaign.ballot; next = m.ties.next }) m.ties.leads

    said : AcceptSaid (acceptors ring) (seen faces a g) campaign.ballot range.lo range.hi (own_mask ring) range.value
    said = record {
      proposed = λ i x y. subst (λ k. Has (seen faces a g k).proposals (proposal campaign.ballot i range.value)) (sym mine)
          (subst (λ (z : Face Value). Has z.proposals (proposal campaign.ballot i range.value)) (sym (seen_own (acceptors ring) faces a g)) (proposed.proposed i x (omega arith)));
      member = λ k is. let me = own_bit a k (subst (λ mask. has_bit mask k ≡ true) own_mask_is is) in omega arith;
      cast = λ k i is x y. subst (λ j. Has (seen faces a g j).casts (proposal campaign.ballot i range.value)) (sym (own_bit a k (subst (λ mask. has_bit mask k ≡ true) own_mask_is is)))
          (subst (λ (z : Face Value). Has z.casts (proposal campaign.ballot i range.value)) (sym (seen_own (acceptors ring) faces a g)) (proposed.voted.cast i x (omega arith)));
      ended = hi_ended;
    }

    pub effects_offers : After ring faces a start kept f (offers ring link campaign range taken effects)
    unfolding offers
    effects_offers = record {
      face = g;
      grows = proposed.voted.grows;
      ties = effects_decides_or_forwards ring faces a seat within all start local kept g (votes_for ring (vote_of campaign.ballot range) offered) link (own_mask ring) (vote_of campaign.ballot range) said
          (record {
            done = done_votes ring faces a start kept f g offered (vote_of campaign.ballot range) proposed.reached proposed.voted hi_ended (Local-reach (acceptors ring) faces a all start f local done_before.reached) done_before m.offer.some;
            role = ties_after;
            told = told_votes ring faces a start kept f g offered.frames proposed.voted.promises m.before.told;
          });
    }

  -- ---- turns

  abbrev pub TurnTies : Face Value → Turn → Type 0
  TurnTies f (Stops effects) = EffectsTie ring faces a start kept f effects
  TurnTies f (Proposes campaign range taken effects) = MayOffer f campaign range effects

  -- next has risen to the trim and passed over learned instances
  risen : (f : Face Value) (part : Part) (campaign : Campaign) → KeptTies f part.kept → IsIncreasingFrom 0 part.learner.held → CampaignTies (acceptors ring) (seen faces a f) f campaign
      → (f.trim ≤ (advanced part campaign).next) × CampaignTies (acceptors ring) (seen faces a f) f (advanced part campaign)
  risen f part campaign k held c =
      let from = (gap (max campaign.next part.kept.trim) part.learner.held held).from_there in
      let trim : f.trim ≡ part.kept.trim = k.trim in
      let passed : c.next ≤ campaign.next = c.passed in (
        omega arith,
        record {
          next = c.next;
          leads = c.leads;
          passed = omega arith;
          promised = c.promised;
          reports = c.reports;
          outstanding = c.outstanding;
          sized = c.sized;
          ended = c.ended;
          ordered = c.ordered;
        },
      )

  pub turn_ties : (f : Face Value) (effects : Effects) → EffectsTie ring faces a start kept f effects → TurnTies f (turn_of ring effects)
  turn_ties f effects t = by_role effects.part.coordinator.role t.role
    where
      d : DoneTies ring faces a start kept f effects
      d = t.done

      by_role : (role : Role) → RoleTies (acceptors ring) (seen faces a f) f role → TurnTies f (turn_in ring effects role)
      by_role Idle r = t
      by_role (Active campaign) r = by_choice (choice ring (advanced effects.part campaign) effects.part.learner.held) refl
        where
          up : (f.trim ≤ (advanced effects.part campaign).next) × CampaignTies (acceptors ring) (seen faces a f) f (advanced effects.part campaign)
          up = risen f effects.part campaign d.kept d.learner.ordered r

          by_choice : (c : Choice) → choice ring (advanced effects.part campaign) effects.part.learner.held ≡ c → TurnTies f (turn_by effects (advanced effects.part campaign) c)
          by_choice Rests e = record {
            done = record { reached = d.reached; kept = d.kept; learner = d.learner; changes = d.changes; frames = d.frames; learned = d.learned; recorded = d.recorded };
            role = up.1;
            told = t.told;
          }
          by_choice (Offers range taken) e = record {
            before = t;
            ties = up.1;
            above = up.0;
            offer = choice_offer ring (advanced effects.part campaign) effects.part.learner.held up.1.ordered d.learner.ordered
                (gap (max campaign.next effects.part.kept.trim) effects.part.learner.held d.learner.ordered).not_held range taken e;
          }

  pub proposing_ties : (count : ℕ) (f : Face Value) (link : Link) (turn : Turn) → TurnTies f turn → After ring faces a start kept f (proposing count ring link turn)
  unfolding proposing
  proposing_ties zero f link (Stops effects) t = record { face = f; grows = Grows-refl f; ties = t }
  proposing_ties zero f link (Proposes campaign range taken effects) t = record { face = f; grows = Grows-refl f; ties = t.before }
  proposing_ties (suc count) f link (Stops effects) t = record { face = f; grows = Grows-refl f; ties = t }
  proposing_ties (suc count) f link (Proposes campaign range taken effects) t =
      let o : After ring faces a start kept f (offers ring link campaign range taken effects) = effects_offers f link campaign range taken effects t in
      let rest = proposing_ties count o.face link (turn_of ring (offers ring link campaign range taken effects)) (turn_ties o.face (offers ring link campaign range taken effects) o.ties) in
      record { face = rest.face; grows = Grows-trans o.grows rest.grows; ties = rest.ties }

  -- proposing, whatever was done before
  pub proposes_after_ties : (f : Face Value) (link : Link) (effects : Effects) → EffectsTie ring faces a start kept f effects → After ring faces a start kept f (proposes_after ring link effects)
  unfolding proposes_after
  proposes_after_ties f link effects t = proposing_ties END f link (turn_of ring effects) (turn_ties f effects t)
