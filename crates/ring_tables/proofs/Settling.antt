-- Proposing ends where a fresh value is due, so that the leveller may propose from the next instance on.
use Rattle.std.proofs.Common.{◌≡◌, inl, inr, ℕ, zero, suc, ◌+◌, ◌<◌, ◌≤◌, max, Bool, true, false, ◌&&◌, ◌||◌, List, [], ◌∷◌, Option, Some, None, refl, sym, ◌∙◌, ap, subst, arith}
use Rattle.std.specs.Prelude.{nat_lt, nat_le, not, if◌then◌else◌, count_ones}
use Rattle.std.proofs.lemmas.Bool.{cases_eq, and_parts, and_from}
use Rattle.std.proofs.lemmas.Bool.Decides.{nat_tests}
use Rattle.mrp_types.specs.declared.id.TheConstants.{END}
use Rattle.mrp_types.specs.declared.value.Value.{Value}
use Rattle.mrp_types.specs.declared.value.Value.TheVariants.{Skip, Batch}
use Rattle.mrp_types.specs.declared.voted.Voted.{Voted}
use Rattle.mrp_types.specs.declared.voted.Decided.{Decided}
use Rattle.range_map.specs.Entries.{value_at, IsIncreasingFrom}
use Rattle.vote_state.specs.declared.cast.Cast.{Cast}
use Rattle.vote_state.specs.declared.ring.RingState.{RingState}
use Rattle.ring_link.specs.Silence.{Link}
use Rattle.skip_leveller.specs.Levelling.{Levelling, levels_next, answer_of}
use Rattle.frames.specs.declared.body.Body.TheVariants as body
use Rattle.ring_reach.specs.Reach.{seen}
use Rattle.protocol.specs.Parts.{Ring, Campaign, Role, Idle, Active, Part, Effects}
use Rattle.protocol.specs.Rings.{position_of, majority_of, next_acceptor, sends}
use Rattle.protocol.specs.Effects.{with_part, with_campaign, with_frames, no_effects}
use Rattle.protocol.specs.Learner.{decided_of}
use Rattle.protocol.specs.Acceptor.{votes_for, decides, decides_or_forwards}
use Rattle.protocol.specs.Ballots.{covered_to, leads_now}
use Rattle.protocol.specs.Proposing.{reported_to, due_by, due_at, Choice, Rests, Offers, choice_of, has_room, choice, advanced, own_mask, after_offer, vote_of, offers, Turn, Stops, Proposes, turn_by, turn_in, turn_of, proposing, proposes_after}
use Rattle.protocol.specs.Leading.{with_tick_taken, shortfall_from, levels_by, levels_in, levels}
use Rattle.protocol.proofs.EntryLemmas.{gap}
use Rattle.protocol.proofs.OfferLemmas.{some_missing}
use Rattle.ring_safety.specs.Faces.{Face}
use Rattle.ring_safety.specs.Invariant.{Local}
use Rattle.ring_safety.proofs.Local.{Grows-refl, Grows-trans}
use Rattle.ring_tables.specs.Ties.{acceptors, RoleTies, CampaignTies, PartTies}
use Rattle.ring_tables.specs.Settled.{IsSettled, RoleSettled}
use Rattle.ring_tables.specs.Done.{EffectsTie, After}
use Rattle.ring_tables.proofs.Effects.{effects_none}
use Rattle.ring_tables.proofs.Backing.{covered_ended}
use Rattle.ring_tables.proofs.Offering.{MayOffer, TurnTies, effects_offers, turn_ties, proposes_after_ties}
use Rattle.range_map.proofs.EntryLemmas.{value_later}

abbrev pub EffectsSettled : Ring → Effects → Type 0
EffectsSettled ring effects = RoleSettled ring effects.part.kept.trim effects.part.coordinator.role

-- ---- where nothing is chosen

unreported : (reports : List (ℕ × Cast)) (i : ℕ) → reported_to reports ≤ i → value_at i reports ≡ None
unreported [] i past = refl
unreported (e ∷ es) i past = let ne : (i ≡ e.0 → ⊥) = omega arith in value_later e es i ne ∙ unreported es i (omega arith)

-- a fresh value is due
record IsFresh (leads : Bool) (next reported : ℕ) (o : Option Cast) : Type 0 where
  none : o ≡ None
  last : leads ≡ true → reported ≤ suc next

fresh_due : (leads : Bool) (next reported : ℕ) (o : Option Cast) → due_by o (not leads || nat_lt (suc next) reported) ≡ None → IsFresh leads next reported o
fresh_due leads next reported (Some cast) e = absurd (cc)
fresh_due false next reported None e = absurd (cc)
fresh_due true next reported None e = go (nat_lt (suc next) reported) refl e
  where
    go : (b : Bool) → nat_lt (suc next) reported ≡ b → due_by None b ≡ None → IsFresh true next reported None
    go true t h = absurd (cc)
    go false t h = record { none = refl; last = λ l. grind (arith, nat_tests) }

due_none : (ring : Ring) (campaign : Campaign) (held : List (ℕ × Value)) (due : Option Value) → choice_of ring campaign held due ≡ Rests → due ≡ None
due_none ring campaign held None e = refl
due_none ring campaign held (Some Skip) e = absurd (cc)
due_none ring campaign held (Some (Batch batch)) e = absurd (cc)

pub rests_settled : (ring : Ring) (campaign : Campaign) (held : List (ℕ × Value)) (trim : ℕ) → trim ≤ campaign.next → choice ring campaign held ≡ Rests → IsSettled ring trim campaign
rests_settled ring campaign held trim up rests = record { above = λ l r e. up; fresh = fresh }
  where
    by_test : (b : Bool) → b ≡ true → (if b then choice_of ring campaign held (due_at ring campaign campaign.next) else Rests) ≡ Rests
        → due_at ring campaign campaign.next ≡ None
    by_test true t e = due_none ring campaign held (due_at ring campaign campaign.next) e
    by_test false t e = absurd (cc)

    fresh : leads_now ring campaign ≡ true → has_room ring campaign ≡ true → campaign.next < END → (i : ℕ) → campaign.next ≤ i → value_at i campaign.reports ≡ None
    fresh leads room below i from =
        let test : nat_lt campaign.next (covered_to ring campaign.covered) ≡ true = grind (arith, nat_tests) in
        let both : (has_room ring campaign && nat_lt campaign.next (covered_to ring campaign.covered)) ≡ true = and_from (has_room ring campaign) (nat_lt campaign.next (covered_to ring campaign.covered)) room test in
        let due = by_test (has_room ring campaign && nat_lt campaign.next (covered_to ring campaign.covered)) both rests in
        let f : IsFresh (leads_now ring campaign) campaign.next (reported_to campaign.reports) (value_at campaign.next campaign.reports) =
        fresh_due (leads_now ring campaign) campaign.next (reported_to campaign.reports) (value_at campaign.next campaign.reports) due in
        let last = f.last leads in
        elim (cases_eq i campaign.next) [
          | inl same ↦ ap (λ x. value_at x campaign.reports) same ∙ f.none
          | inr ne ↦ unreported campaign.reports i (omega arith)
        ]

pub decides_or_forwards_role : (ring : Ring) (link : Link) (mask : ℕ) (vote : Voted) (effects : Effects) → (decides_or_forwards ring link mask vote effects).part ≡ effects.part
decides_or_forwards_role ring link mask vote effects = go (nat_le (majority_of ring) (count_ones mask))
  where
    go : (b : Bool) → (if b then decides ring link (decided_of vote) effects
        else with_frames (sends ring (next_acceptor ring link) (body.Accept ring.id vote.ballot vote.lo vote.hi mask vote.value)) effects).part ≡ effects.part
    go true = refl
    go false = refl

pub offers_role : (ring : Ring) (link : Link) (campaign : Campaign) (range : Decided) (taken : ℕ) (effects : Effects)
    → (offers ring link campaign range taken effects).part.coordinator.role ≡ Active (after_offer ring range taken campaign)
unfolding offers
offers_role ring link campaign range taken effects =
    ap (λ (p : Part). p.coordinator.role) (decides_or_forwards_role ring link (own_mask ring) (vote_of campaign.ballot range)
    (votes_for ring (vote_of campaign.ballot range) (with_part (with_campaign (after_offer ring range taken campaign) effects.part) effects)))

module _ (ring : Ring) (faces : ℕ → Face Value) (a : ℕ) (seat : position_of ring ring.own ≡ Some a) (within : a < acceptors ring)
    (all : (k : ℕ) → Local (acceptors ring) faces k (faces k)) (start : Face Value) (local : Local (acceptors ring) faces a start) (kept : RingState) where
  -- how many proposals may follow: each passes an instance, and none is made at the end of all instances
  abbrev Reaches_end : ℕ → Turn → Type 0
  Reaches_end count (Stops effects) = EffectsSettled ring effects
  Reaches_end count (Proposes campaign range taken effects) = END ≤ count + campaign.next

  next_under : (f : Face Value) (campaign : Campaign) (range : Decided) (effects : Effects) → MayOffer ring faces a seat within all start local kept f campaign range effects → campaign.next < END
  next_under f campaign range effects m =
      let some : range.lo < range.hi = m.offer.some in
      let begins : range.lo ≡ campaign.next = m.offer.begins in
      let above : f.trim ≤ campaign.next = m.above in
      let under = covered_ended ring campaign.covered f.trim range.lo m.ties.sized m.ties.ended (omega arith) (m.offer.covered range.lo (omega arith) some) in
      omega arith

  -- the next turn: settled, or nearer to the end
  turn_nearer : (count : ℕ) (effects : Effects) → IsIncreasingFrom 0 effects.part.learner.held → (role : Role) → effects.part.coordinator.role ≡ role
      → ((campaign : Campaign) → role ≡ Active campaign → END ≤ count + campaign.next) → Reaches_end count (turn_in ring effects role)
  turn_nearer count effects held Idle is near = subst (λ r. RoleSettled ring effects.part.kept.trim r) (sym is) tt
  turn_nearer count effects held (Active campaign) is near = by_choice (choice ring (advanced effects.part campaign) effects.part.learner.held) refl
    where
      up : max campaign.next effects.part.kept.trim ≤ (advanced effects.part campaign).next
      up = (gap (max campaign.next effects.part.kept.trim) effects.part.learner.held held).from_there

      by_choice : (c : Choice) → choice ring (advanced effects.part campaign) effects.part.learner.held ≡ c → Reaches_end count (turn_by effects (advanced effects.part campaign) c)
      by_choice Rests e = let far = up in rests_settled ring (advanced effects.part campaign) effects.part.learner.held effects.part.kept.trim (omega arith) e
      by_choice (Offers range taken) e = let far = up in let close = near campaign refl in omega arith

  active_next : {c d : Campaign} → Active c ≡ Active d → c.next ≡ d.next
  active_next {c} {d} e = let same : c ≡ d = cc in ap (λ (x : Campaign). x.next) same

  proposing_settled : (count : ℕ) (f : Face Value) (link : Link) (turn : Turn) → TurnTies ring faces a seat within all start local kept f turn → Reaches_end count turn
      → EffectsSettled ring (proposing count ring link turn)
  unfolding proposing
  proposing_settled zero f link (Stops effects) t s = s
  proposing_settled zero f link (Proposes campaign range taken effects) t s = let under = next_under f campaign range effects t in absurd (omega arith)
  proposing_settled (suc count) f link (Stops effects) t s = s
  proposing_settled (suc count) f link (Proposes campaign range taken effects) t s =
      let o : After ring faces a start kept f (offers ring link campaign range taken effects) = effects_offers ring faces a seat within all start local kept f link campaign range taken effects t in
      let some : range.lo < range.hi = t.offer.some in
      let begins : range.lo ≡ campaign.next = t.offer.begins in
      let near : (c : Campaign) → (offers ring link campaign range taken effects).part.coordinator.role ≡ Active c → END ≤ count + c.next =
      λ c e. let same = active_next (sym (offers_role ring link campaign range taken effects) ∙ e) in omega arith in
      proposing_settled count o.face link (turn_of ring (offers ring link campaign range taken effects)) (turn_ties ring faces a seat within all start local kept o.face (offers ring link campaign range taken effects) o.ties)
      (turn_nearer count (offers ring link campaign range taken effects) o.ties.done.learner.ordered (offers ring link campaign range taken effects).part.coordinator.role refl near)

  -- proposing leaves a coordinator settled
  pub proposes_after_settled : (f : Face Value) (link : Link) (effects : Effects) → EffectsTie ring faces a start kept f effects → EffectsSettled ring (proposes_after ring link effects)
  unfolding proposes_after
  proposes_after_settled f link effects t =
      proposing_settled END f link (turn_of ring effects) (turn_ties ring faces a seat within all start local kept f effects t)
      (turn_nearer END effects t.done.learner.ordered effects.part.coordinator.role refl (λ c e. omega arith))

  -- ---- the leveller

  module _ (link : Link) (part : Part) (same : kept ≡ part.kept) (t : PartTies (acceptors ring) (seen faces a start) start part) where
    none : EffectsTie ring faces a start kept start (no_effects part)
    none = effects_none ring faces a start kept part t same

    ticked : (campaign : Campaign) → CampaignTies (acceptors ring) (seen faces a start) start campaign → CampaignTies (acceptors ring) (seen faces a start) start (with_tick_taken campaign)
    ticked campaign r = record {
      next = r.next;
      leads = r.leads;
      passed = r.passed;
      promised = r.promised;
      reports = r.reports;
      outstanding = r.outstanding;
      sized = r.sized;
      ended = r.ended;
      ordered = r.ordered;
    }

    pub offered : (campaign : Campaign) → CampaignTies (acceptors ring) (seen faces a start) start campaign → IsSettled ring part.kept.trim campaign → leads_now ring campaign ≡ true
        → (missing : ℕ) → 0 < missing → (has_room ring campaign && nat_lt campaign.next END) ≡ true
        → After ring faces a start kept start (offers ring link (with_tick_taken campaign) (shortfall_from campaign.next missing) 0 (no_effects part))
    offered campaign r s leads missing some e =
        let parts = and_parts (has_room ring campaign) (nat_lt campaign.next END) e in
        let test = parts.1 in
        let under : campaign.next < END = grind (arith, nat_tests) in
        let above = s.above leads parts.0 under in
        let trim : start.trim ≡ part.kept.trim = t.kept.trim in
        let all_covered : END ≤ covered_to ring campaign.covered = grind (arith, nat_tests) in
        effects_offers ring faces a seat within all start local kept start link (with_tick_taken campaign) (shortfall_from campaign.next missing) 0 (no_effects part)
        (record {
          before = none;
          ties = ticked campaign r;
          above = omega arith;
          offer = record {
            begins = refl;
            some = omega arith;
            covered = λ i x y. omega arith;
            agrees = λ i x y cast is. let nothing = s.fresh leads parts.0 under i x in absurd (cc);
          };
        })

    pub levels_ties : RoleSettled ring part.kept.trim part.coordinator.role → After ring faces a start kept start (levels ring link part)
    unfolding levels
    levels_ties settled = by_role part.coordinator.role t.role settled
      where
        stays : After ring faces a start kept start (no_effects part)
        stays = record { face = start; grows = Grows-refl start; ties = none }

        kept_on : (campaign : Campaign) → CampaignTies (acceptors ring) (seen faces a start) start campaign
            → After ring faces a start kept start (no_effects (with_campaign (with_tick_taken campaign) part))
        kept_on campaign r = record {
          face = start;
          grows = Grows-refl start;
          ties = effects_none ring faces a start kept (with_campaign (with_tick_taken campaign) part) (record { kept = t.kept; role = ticked campaign r; learner = t.learner }) same;
        }

        by_room : (campaign : Campaign) → CampaignTies (acceptors ring) (seen faces a start) start campaign → IsSettled ring part.kept.trim campaign → leads_now ring campaign ≡ true
            → (missing : ℕ) → 0 < missing → (b : Bool) → (has_room ring campaign && nat_lt campaign.next END) ≡ b
            → After ring faces a start kept start (if b then proposes_after ring link (offers ring link (with_tick_taken campaign) (shortfall_from campaign.next missing) 0 (no_effects part))
            else no_effects (with_campaign (with_tick_taken campaign) part))
        by_room campaign r s leads missing some false e = kept_on campaign r
        by_room campaign r s leads missing some true e =
            let o = offered campaign r s leads missing some e in
            let rest = proposes_after_ties ring faces a seat within all start local kept o.face link (offers ring link (with_tick_taken campaign) (shortfall_from campaign.next missing) 0 (no_effects part)) o.ties in
            record { face = rest.face; grows = Grows-trans o.grows rest.grows; ties = rest.ties }

        by_answer : (campaign : Campaign) → CampaignTies (acceptors ring) (seen faces a start) start campaign → IsSettled ring part.kept.trim campaign → leads_now ring campaign ≡ true
            → (answer : Option ℕ) → ((missing : ℕ) → answer ≡ Some missing → 0 < missing) → After ring faces a start kept start (levels_by ring link part (with_tick_taken campaign) answer)
        by_answer campaign r s leads None some = kept_on campaign r
        by_answer campaign r s leads (Some missing) some = by_room campaign r s leads missing (some missing refl) (has_room ring campaign && nat_lt campaign.next END) refl

        by_role : (role : Role) → RoleTies (acceptors ring) (seen faces a start) start role → RoleSettled ring part.kept.trim role → After ring faces a start kept start (levels_in ring link part role)
        by_role Idle r s = stays
        by_role (Active campaign) r s = by_lead (leads_now ring campaign) refl
          where
            by_lead : (b : Bool) → leads_now ring campaign ≡ b
                → After ring faces a start kept start (if b then levels_by ring link part (with_tick_taken campaign) (answer_of campaign.leveller) else no_effects part)
            by_lead false e = stays
            by_lead true e = by_answer campaign r s e (answer_of campaign.leveller) (λ missing is. some_missing campaign.leveller missing is)
