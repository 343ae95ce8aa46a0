-- The rules of acceptors, coordinators and learners, and a start: each frame fits, and the part keeps its shape.
use Rattle.std.proofs.Common.{◌≡◌, ℕ, zero, suc, ◌<◌, ◌≤◌, ◌^◌, max, Bool, true, false, true≢false, ◌&&◌, List, [], ◌∷◌, length, Option, Some, None, refl, sym, ◌∙◌, subst, arith}
use Rattle.std.specs.Prelude.{◌==◌, nat_lt, nat_le, not, if◌then◌else◌, slice_index}
use Rattle.std.specs.List.{AllByRecursion}
use Rattle.std.proofs.lemmas.Bool.{and_parts}
use Rattle.std.proofs.lemmas.Bool.Decides.{nat_tests}
use Rattle.mrp_types.specs.declared.id.NodeId.{NodeId}
use Rattle.mrp_types.specs.declared.id.ClientId.{ClientId}
use Rattle.mrp_types.specs.declared.id.TheConstants.{END}
use Rattle.mrp_types.specs.declared.value.Entry.{Entry}
use Rattle.mrp_types.specs.declared.value.Value.{Value}
use Rattle.mrp_types.specs.declared.voted.Voted.{Voted}
use Rattle.mrp_types.specs.declared.voted.Decided.{Decided}
use Rattle.mrp_types.specs.Entries.{IsEntry}
use Rattle.plain_model.specs.Fold.{entries_of_value}
use Rattle.range_map.specs.Entries.{entries_from}
use Rattle.vote_state.specs.State.{IsKept, with_promise}
use Rattle.vote_state.specs.Valid.{IsRing, IsBallot, IsInst, IsVoted}
use Rattle.vote_state.proofs.StateLemmas.{append_all, promise_is_kept}
use Rattle.ring_link.specs.Silence.{Link}
use Rattle.skip_leveller.specs.Levelling.{answer_of}
use Rattle.frames.specs.declared.body.Body.TheVariants as body
use Rattle.frames.specs.declared.sent.Sent.{Sent}
use Rattle.protocol.specs.Lines.{BallotLimit, InstanceLimit}
use Rattle.protocol.specs.Parts.{Ring, Pending, Campaign, Role, Idle, Active, Part, Effects}
use Rattle.protocol.specs.Rings.{is_acceptor, is_node, owner_of, position_of, has_bit, with_bit, next_acceptor, next_member, other_acceptors, sends, sends_each}
use Rattle.protocol.specs.Effects.{no_effects, with_learned, with_part, with_frames, with_campaign, with_line}
use Rattle.protocol.specs.Learner.{is_news, role_unfinished, role_without, learned_ranges, learns_news, learns, passed_on, decided, chosen}
use Rattle.protocol.specs.Acceptor.{promises, promises_anew, votes_anew, trims_to, promise_of, tells_promise, refuses, tells_trim, prepares, decides_or_forwards, accepts_at, accepts, tells_ranges, ranges_page, fetches}
use Rattle.protocol.specs.Ballots.{leads_now, greatest_seen, own_ballot, new_campaign, campaigns, Page, with_page, counts, asks_more, reported_at, reported}
use Rattle.protocol.specs.Coordinator.{starts_at, leads, promised, role_refused, refused, passes_on, is_pending, with_pending, most_pending, submits_leading, submits_in, submits}
use Rattle.protocol.specs.Leading.{is_to_start, starts_idle, starts_on_tick, prepares_again, accepts_again, resends_in, resends, with_tick_taken, shortfall_from, levels_by, levels_in, levels}
use Rattle.protocol.specs.Proposing.{has_room, own_mask, turn_in, proposing, offers, proposes_after, proposes}
use Rattle.protocol.specs.Trimming.{trimmed}
use Rattle.protocol.proofs.OfferLemmas.{some_missing}
use Rattle.step_valid.specs.Valid.{CampaignValid, RoleValid, PartValid, EffectsValid}
use Rattle.step_valid.proofs.Words.{valid_none, valid_promises, valid_trims, valid_offers}
use Rattle.step_valid.proofs.Tables.{valid_reported, valid_campaigns}
use Rattle.step_shape.specs.Shaped.{IsOpen, OpenFits, NextFits, IsOutside, PartFits, EffectsNear, EffectsFit}
use Rattle.step_shape.proofs.Pages.{told_page, told_past, learned_page}
use Rattle.step_shape.proofs.Words.{AllFit, EffectsNext, open_unfinished, next_unfinished, sends_fit, each_fit, near_frames, near_none, near_promises, near_trims, fits_offers, fits_proposes, next_promises, next_promises_anew, next_votes_anew, next_decides_or_forwards}

module _ (ring : Ring) (numbered : IsRing ring.id) (fine : ℕ → Type 0) (id : NodeId) (mine : ring.own ≡ id) where
  abbrev pub Fits : Effects → Type 0
  Fits effects = EffectsFit ring fine id effects

  pub fits_none : (part : Part) → PartFits ring part → Fits (no_effects part)
  fits_none part f = record { part = f; frames = tt }

  pub fits_sent : (part : Part) → PartFits ring part → (frames : List Sent) → AllFit fine id frames → Fits (with_frames frames (no_effects part))
  fits_sent part f frames are = record { part = f; frames = are }

  pub begins_next : (part : Part) → PartFits ring part → EffectsNext fine id (no_effects part)
  begins_next part f = record { near = near_none ring numbered fine id mine part f.outstanding; next = f.next }

  -- ---- what any member does

  pub fits_decided : (link : Link) (part : Part) → PartFits ring part → (lo hi left : ℕ) (value : Value) → lo < hi → Fits (decided ring link part lo hi left value)
  unfolding decided
  fits_decided link part f lo hi left value some = go left
    where
      go : (left : ℕ) → Fits (with_learned (record { lo = lo; hi = hi; value = value }) (passed_on ring link lo hi left value (no_effects part)))
      go zero = record { part = f; frames = tt }
      go (suc left) = record { part = f; frames = sends_fit ring numbered fine id mine (next_member ring link) (body.Decide ring.id lo hi left value) (numbered, some) }

  pub fits_chosen : (part : Part) → PartFits ring part → (ranges : List Decided) → Fits (chosen ring part ranges)
  unfolding chosen
  fits_chosen part f ranges = record { part = f; frames = tt }

  next_without : (entries : List Entry) (trim : ℕ) (role : Role) → NextFits trim role → NextFits trim (role_without entries role)
  next_without entries trim Idle n = tt
  next_without entries trim (Active campaign) n = n

  idle_left : (trim : ℕ) (held : List (ℕ × Value)) (entries : List Entry) (role : Role) → role ≡ Idle → role_unfinished trim held (role_without entries role) ≡ Idle
  idle_left trim held entries Idle e = refl
  idle_left trim held entries (Active campaign) e = absurd (cc)

  pub fits_learns : (part : Part) → PartFits ring part → (range : Decided) → PartFits ring (learns ring part range).part
  unfolding learns
  fits_learns part f range = go (is_news range part.learner)
    where
      go : (b : Bool) → PartFits ring (learns_news b part range).part
      go false = f
      go true = record {
        outstanding = open_unfinished part.kept.trim _ (role_without (entries_of_value range.value) part.coordinator.role);
        next = next_unfinished part.kept.trim _ (role_without (entries_of_value range.value) part.coordinator.role) (next_without (entries_of_value range.value) part.kept.trim part.coordinator.role f.next);
        outside = λ e. let o = f.outside e in record { kept = o.kept; idle = idle_left part.kept.trim _ (entries_of_value range.value) part.coordinator.role o.idle; round = o.round };
      }

  -- an Idle coordinator proposes nothing
  stops : (n : ℕ) (link : Link) (effects : Effects) (role : Role) → role ≡ Idle → proposing n ring link (turn_in ring effects role) ≡ effects
  unfolding proposing
  stops zero link effects Idle e = refl
  stops (suc n) link effects Idle e = refl
  stops n link effects (Active campaign) e = absurd (cc)

  pub fits_proposing_member : (link : Link) (part : Part) → PartValid part → PartFits ring part → Fits (proposes ring link part)
  unfolding proposes_after
  fits_proposing_member link part p f = record {
    part = record {
      outstanding = made.near.outstanding;
      next = made.next;
      outside = λ e. let o = f.outside e in subst (λ (x : Effects). IsOutside x.part) (sym (stops END link (no_effects part) part.coordinator.role o.idle)) o;
    };
    frames = made.near.frames;
  }
    where
      made : EffectsNext fine id (proposes ring link part)
      made = fits_proposes ring numbered fine id mine (no_effects part) link (valid_none ring numbered part p) (near_none ring numbered fine id mine part f.outstanding)

  -- ---- at an acceptor

  module _ (acceptor : is_acceptor ring ≡ true) where
    pub ends_fit : (effects : Effects) → EffectsNext fine id effects → Fits effects
    ends_fit effects n = record { part = record { outstanding = n.near.outstanding; next = n.next; outside = λ e. absurd (true≢false (sym acceptor ∙ e)) }; frames = n.near.frames }

    pub proposes_fit : (effects : Effects) (link : Link) → EffectsValid effects → EffectsNear fine id effects → Fits (proposes_after ring link effects)
    proposes_fit effects link d n = ends_fit (proposes_after ring link effects) (fits_proposes ring numbered fine id mine effects link d n)

    pub fits_prepares : (part : Part) → PartValid part → PartFits ring part → (from : NodeId) (ballot lo : ℕ) → IsBallot ballot → IsInst lo → Fits (prepares ring part from ballot lo)
    unfolding prepares
    fits_prepares part p f from ballot lo is inst = go (not (is_node from (owner_of ring ballot))) (nat_lt ballot part.kept.promise)
      where
        kept : IsKept (with_promise ballot part.kept)
        kept = promise_is_kept ballot part.kept is p.kept

        go : (b c : Bool) → Fits (if b then no_effects part else if c then refuses ring (Some from) ballot part
            else tells_promise ring from ballot lo (promises ring ballot (no_effects part)))
        go true c = fits_none part f
        go false true = fits_sent part f _ (sends_fit ring numbered fine id mine (Some from) (body.Refuse ring.id ballot part.kept.promise) (numbered, is, p.kept.promise))
        go false false =
            let next = next_promises ring numbered fine id mine (no_effects part) ballot (begins_next part f) in
            ends_fit (tells_promise ring from ballot lo (promises ring ballot (no_effects part))) (record {
              near = near_frames ring numbered fine id mine (promises ring ballot (no_effects part)) (sends ring (Some from) (promise_of ring ballot lo (with_promise ballot part.kept)))
                  (sends_fit ring numbered fine id mine (Some from) (promise_of ring ballot lo (with_promise ballot part.kept)) (numbered, told_past (with_promise ballot part.kept) kept lo inst, told_page (with_promise ballot part.kept) kept lo)) next.near;
              next = next.next;
            })

    pub fits_accepts : (link : Link) (part : Part) → PartValid part → PartFits ring part → (ballot lo hi mask : ℕ) (value : Value) → IsBallot ballot → lo < hi → Fits (accepts ring link part ballot lo hi mask value)
    unfolding accepts
    fits_accepts link part p f ballot lo hi mask value is some = at (position_of ring ring.own)
      where
        at : (o : Option ℕ) → Fits (accepts_at ring link part mask (record { lo = lo; hi = hi; ballot = ballot; value = value }) o)
        at None = fits_none part f
        at (Some position) = go (nat_lt ballot part.kept.promise) (nat_lt lo part.kept.trim) (has_bit mask position)
          where
            go : (b c d : Bool) → Fits (if b then refuses ring (owner_of ring ballot) ballot part else if c then tells_trim ring (owner_of ring ballot) part
                else if d then no_effects part
                else decides_or_forwards ring link (with_bit mask position) (record { lo = lo; hi = hi; ballot = ballot; value = value })
                (votes_anew ring (record { lo = lo; hi = hi; ballot = ballot; value = value }) (promises_anew ring ballot (no_effects part))))
            go true c d = fits_sent part f _ (sends_fit ring numbered fine id mine (owner_of ring ballot) (body.Refuse ring.id ballot part.kept.promise) (numbered, is, p.kept.promise))
            go false true d = fits_sent part f _ (sends_fit ring numbered fine id mine (owner_of ring ballot) (body.Trimmed ring.id part.kept.trim) numbered)
            go false false true = fits_none part f
            go false false false =
                let vote : Voted = record { lo = lo; hi = hi; ballot = ballot; value = value } in
                let one = promises_anew ring ballot (no_effects part) in
                ends_fit _ (next_decides_or_forwards ring numbered fine id mine (votes_anew ring vote one) link (with_bit mask position) vote some
                (next_votes_anew ring numbered fine id mine one vote (next_promises_anew ring numbered fine id mine (no_effects part) ballot (begins_next part f))))

    pub fits_fetches : (part : Part) → PartValid part → PartFits ring part → (from : NodeId) (lo : ℕ) → Fits (fetches ring part from lo)
    unfolding fetches
    fits_fetches part p f from lo = go (nat_lt lo part.kept.trim)
      where
        page : (ranges : List Decided) → ranges_page (learned_ranges (entries_from lo part.learner.held)) ≡ ranges → AllFit fine id (tells_ranges ring from ranges)
        page [] e = tt
        page (range ∷ ranges) e =
            sends_fit ring numbered fine id mine (Some from) (body.Chosen ring.id (range ∷ ranges)) (numbered, learned_page lo part.learner.held p.held p.ordered (range ∷ ranges) e (omega arith))

        go : (b : Bool) → Fits (if b then tells_trim ring (Some from) part
            else with_frames (tells_ranges ring from (ranges_page (learned_ranges (entries_from lo part.learner.held)))) (no_effects part))
        go true = fits_sent part f _ (sends_fit ring numbered fine id mine (Some from) (body.Trimmed ring.id part.kept.trim) numbered)
        go false = fits_sent part f _ (page (ranges_page (learned_ranges (entries_from lo part.learner.held))) refl)

    pub fits_trimmed : (link : Link) (part : Part) → PartValid part → PartFits ring part → (trim : ℕ) → IsInst trim → Fits (trimmed ring link part trim)
    unfolding trimmed
    fits_trimmed link part p f trim is =
        proposes_fit (trims_to ring trim (no_effects part)) link (valid_trims ring numbered (no_effects part) trim is (valid_none ring numbered part p))
        (near_trims ring numbered fine id mine (no_effects part) trim (near_none ring numbered fine id mine part f.outstanding))

    -- ---- the coordinator's rules

    near_reported : (effects : Effects) (from : NodeId) (page : Page) → page.hi ≤ END → EffectsNear fine id effects → EffectsNear fine id (reported ring from page effects)
    near_reported effects from page top n = at effects.part.coordinator.role n.outstanding (position_of ring from)
      where
        asks_of : (b : Bool) → (page.hi == END) ≡ b → AllFit fine id (if b then [] else sends ring (Some from) (body.Prepare ring.id page.ballot page.hi))
        asks_of true e = tt
        asks_of false e = let lt : page.hi < END = grind (arith, nat_tests) in sends_fit ring numbered fine id mine (Some from) (body.Prepare ring.id page.ballot page.hi) (numbered, lt)

        by_test : (campaign : Campaign) → AllByRecursion (IsOpen effects.part.kept.trim) campaign.outstanding → (k : ℕ) (b : Bool)
            → EffectsNear fine id (if b then with_frames (asks_more ring from page) (with_part (with_campaign (with_page k (slice_index campaign.covered k) page campaign) effects.part) effects) else effects)
        by_test campaign o k false = n
        by_test campaign o k true =
            near_frames ring numbered fine id mine (with_part (with_campaign (with_page k (slice_index campaign.covered k) page campaign) effects.part) effects) (asks_more ring from page) (asks_of (page.hi == END) refl)
            (record { outstanding = o; frames = n.frames })

        at : (role : Role) → OpenFits effects.part.kept.trim role → (k : Option ℕ) → EffectsNear fine id (reported_at ring from page role k effects)
        at Idle o k = n
        at (Active campaign) o None = n
        at (Active campaign) o (Some k) = by_test campaign o k (counts page campaign.ballot (slice_index campaign.covered k))

    pub fits_promised : (link : Link) (part : Part) → PartValid part → PartFits ring part → (from : NodeId) (ballot lo hi trim : ℕ) (votes : List Voted) → IsBallot ballot → IsInst trim → hi ≤ END
        → AllByRecursion IsVoted votes → Fits (promised ring link part from ballot lo hi trim votes)
    unfolding promised
    fits_promised link part p f from ballot lo hi trim votes is inst top all =
        let page : Page = record { ballot = ballot; lo = lo; hi = hi; votes = votes } in
        proposes_fit (reported ring from page (trims_to ring trim (no_effects part))) link
        (valid_reported ring numbered (trims_to ring trim (no_effects part)) from page is top all (valid_trims ring numbered (no_effects part) trim inst (valid_none ring numbered part p)))
        (near_reported (trims_to ring trim (no_effects part)) from page top (near_trims ring numbered fine id mine (no_effects part) trim (near_none ring numbered fine id mine part f.outstanding)))

    pub fits_refused : (part : Part) → PartFits ring part → (ballot promise : ℕ) → Fits (refused ring part ballot promise)
    unfolding refused
    fits_refused part f ballot promise = ends_fit _ (record { near = record { outstanding = out part.coordinator.role f.outstanding; frames = tt }; next = next part.coordinator.role f.next })
      where
        out : (role : Role) → OpenFits part.kept.trim role → OpenFits part.kept.trim (role_refused ballot role)
        out Idle o = tt
        out (Active campaign) o = go (campaign.ballot == ballot)
          where
            go : (b : Bool) → OpenFits part.kept.trim (if b then Idle else Active campaign)
            go true = tt
            go false = o

        next : (role : Role) → NextFits part.kept.trim role → NextFits part.kept.trim (role_refused ballot role)
        next Idle n = tt
        next (Active campaign) n = go (campaign.ballot == ballot)
          where
            go : (b : Bool) → NextFits part.kept.trim (if b then Idle else Active campaign)
            go true = tt
            go false = n

    -- ---- a start

    near_campaigns : (effects : Effects) (ballot : ℕ) → EffectsValid effects → EffectsNear fine id effects → EffectsNear fine id (campaigns ring ballot effects)
    near_campaigns effects ballot d n =
        near_frames ring numbered fine id mine (with_part (with_campaign (new_campaign ring ballot effects.part.kept) effects.part) effects) (sends_each ring (other_acceptors ring) (body.Prepare ring.id ballot effects.part.kept.trim))
        (each_fit ring numbered fine id mine (other_acceptors ring) (body.Prepare ring.id ballot effects.part.kept.trim) (numbered, d.part.kept.trim)) (record { outstanding = tt; frames = n.frames })

    pub fits_leads : (link : Link) (part : Part) → PartValid part → PartFits ring part → Fits (leads ring link part)
    unfolding leads
    fits_leads link part p f = at (position_of ring ring.own)
      where
        by_limit : (ballot : ℕ) (b : Bool) → nat_le (2 ^ 48) ballot ≡ b → Fits (if b then with_line (BallotLimit ring.own ring.id) (no_effects part)
            else proposes_after ring link (campaigns ring ballot (promises ring ballot (no_effects part))))
        by_limit ballot true e = record { part = f; frames = tt }
        by_limit ballot false e =
            let is : ballot < 2 ^ 48 = grind (arith, nat_tests) in
            let d = valid_promises ring numbered (no_effects part) ballot is (valid_none ring numbered part p) in
            proposes_fit (campaigns ring ballot (promises ring ballot (no_effects part))) link (valid_campaigns ring numbered (promises ring ballot (no_effects part)) ballot is d)
            (near_campaigns (promises ring ballot (no_effects part)) ballot d (near_promises ring numbered fine id mine (no_effects part) ballot (near_none ring numbered fine id mine part f.outstanding)))

        at : (o : Option ℕ) → Fits (starts_at ring link part o)
        at None = fits_none part f
        at (Some position) = by_limit (own_ballot ring part position) (nat_le (2 ^ 48) (own_ballot ring part position)) refl

    pub fits_starts : (link : Link) (part : Part) → PartValid part → PartFits ring part → Fits (starts_on_tick ring link part)
    unfolding starts_on_tick
    fits_starts link part p f = by_role part.coordinator.role
      where
        by_role : (role : Role) → Fits (starts_idle ring link part role)
        by_role (Active campaign) = fits_none part f
        by_role Idle = go (is_to_start ring link (owner_of ring (greatest_seen part)))
          where
            go : (b : Bool) → Fits (if b then leads ring link part else no_effects part)
            go true = fits_leads link part p f
            go false = fits_none part f

    -- ---- commands

    pub fits_submits : (link : Link) (part : Part) → PartValid part → PartFits ring part → (hops : ℕ) (client : ClientId) (seq : ℕ) (command : List ℕ) → IsEntry (record { client = client; seq = seq; command = command })
        → Fits (submits ring link part hops client seq command)
    unfolding submits
    fits_submits link part p f hops client seq command is = by_role part.coordinator.role p.role f.outstanding
      where
        on : (hops : ℕ) → Fits (passes_on ring part hops (record { client = client; seq = seq; command = command }))
        on zero = fits_sent part f _ (sends_fit ring numbered fine id mine (owner_of ring (greatest_seen part)) (body.Submit ring.id 1 client seq command) (numbered, omega arith))
        on (suc hops) = fits_none part f

        by_test : (campaign : Campaign) → CampaignValid campaign → AllByRecursion (IsOpen part.kept.trim) campaign.outstanding → (b c d : Bool) → Fits (if b then with_line (InstanceLimit ring.own ring.id) (no_effects part)
            else if c then proposes ring link part
            else if d then no_effects part
            else proposes ring link (with_campaign (with_pending (record { client = client; seq = seq; command = command }) campaign) part))
        by_test campaign c o true x y = record { part = f; frames = tt }
        by_test campaign c o false true y = proposes_fit (no_effects part) link (valid_none ring numbered part p) (near_none ring numbered fine id mine part f.outstanding)
        by_test campaign c o false false true = fits_none part f
        by_test campaign c o false false false =
            let now : Part = with_campaign (with_pending (record { client = client; seq = seq; command = command }) campaign) part in
            proposes_fit (no_effects now) link
            (valid_none ring numbered now (record {
              kept = p.kept;
              role = record {
                ballot = c.ballot;
                reports = c.reports;
                ordered = c.ordered;
                pending = append_all (λ (q : Pending). IsEntry q.entry) campaign.pending ((record { entry = record { client = client; seq = seq; command = command }; proposed = false }) ∷ []) c.pending (is, tt);
                outstanding = c.outstanding;
                covered = c.covered;
              };
              round = p.round;
              held = p.held;
              ordered = p.ordered;
            })) (near_none ring numbered fine id mine now o)

        by_role : (role : Role) → RoleValid role → OpenFits part.kept.trim role → Fits (submits_in ring link part hops (record { client = client; seq = seq; command = command }) role)
        by_role Idle r o = on hops
        by_role (Active campaign) r o = leading (leads_now ring campaign)
          where
            leading : (b : Bool) → Fits (if b then submits_leading ring link part (record { client = client; seq = seq; command = command }) campaign
                else passes_on ring part hops (record { client = client; seq = seq; command = command }))
            leading false = on hops
            leading true = by_test campaign r o (nat_le END campaign.next) (is_pending (record { client = client; seq = seq; command = command }) campaign.pending) (nat_le most_pending (length campaign.pending))

    -- ---- sent again

    pub fits_resends : (link : Link) (part : Part) → PartFits ring part → Fits (resends ring link part)
    unfolding resends
    fits_resends link part f = by_role part.coordinator.role f.outstanding
      where
        prepared : (ballot : ℕ) (nodes : List NodeId) (covered : List ℕ) → AllFit fine id (prepares_again ring ballot nodes covered)
        prepared ballot [] covered = tt
        prepared ballot (node ∷ nodes) [] = tt
        prepared ballot (node ∷ nodes) (c ∷ later) =
            append_all _ (if nat_lt c END then sends ring (Some node) (body.Prepare ring.id ballot c) else []) (prepares_again ring ballot nodes later) (one (nat_lt c END) refl) (prepared ballot nodes later)
          where
            one : (b : Bool) → nat_lt c END ≡ b → AllFit fine id (if b then sends ring (Some node) (body.Prepare ring.id ballot c) else [])
            one true e = let lt : c < END = grind (arith, nat_tests) in sends_fit ring numbered fine id mine (Some node) (body.Prepare ring.id ballot c) (numbered, lt)
            one false e = tt

        accepted : (ballot : ℕ) (ranges : List Decided) → AllByRecursion (IsOpen part.kept.trim) ranges → AllFit fine id (accepts_again ring (next_acceptor ring link) ballot part.kept.trim ranges)
        accepted ballot [] all = tt
        accepted ballot (range ∷ ranges) all =
            append_all _ (sends ring (next_acceptor ring link) (body.Accept ring.id ballot (max range.lo part.kept.trim) range.hi (own_mask ring) range.value))
            (accepts_again ring (next_acceptor ring link) ballot part.kept.trim ranges)
            (sends_fit ring numbered fine id mine (next_acceptor ring link) (body.Accept ring.id ballot (max range.lo part.kept.trim) range.hi (own_mask ring) range.value) (numbered, all.0)) (accepted ballot ranges all.1)

        by_role : (role : Role) → OpenFits part.kept.trim role → Fits (resends_in ring link part role)
        by_role Idle o = fits_none part f
        by_role (Active campaign) o = record {
          part = f;
          frames = append_all _ (prepares_again ring campaign.ballot ring.acceptors campaign.covered) (accepts_again ring (next_acceptor ring link) campaign.ballot part.kept.trim campaign.outstanding)
              (prepared campaign.ballot ring.acceptors campaign.covered) (accepted campaign.ballot campaign.outstanding o);
        }

    -- ---- levelling

    pub fits_levels : (link : Link) (part : Part) → PartValid part → PartFits ring part → Fits (levels ring link part)
    unfolding levels
    fits_levels link part p f = by_role part.coordinator.role p.role f.outstanding f.next
      where
        kept_on : (campaign : Campaign) → AllByRecursion (IsOpen part.kept.trim) campaign.outstanding → part.kept.trim ≤ campaign.next → Fits (no_effects (with_campaign campaign part))
        kept_on campaign o n = ends_fit _ (record { near = record { outstanding = o; frames = tt }; next = n })

        by_room : (campaign : Campaign) → CampaignValid campaign → AllByRecursion (IsOpen part.kept.trim) campaign.outstanding → part.kept.trim ≤ campaign.next → (missing : ℕ) (some : 0 < missing) (b : Bool)
            → (has_room ring campaign && nat_lt campaign.next END) ≡ b → Fits (if b then proposes_after ring link (offers ring link campaign (shortfall_from campaign.next missing) 0 (no_effects part))
            else no_effects (with_campaign campaign part))
        by_room campaign c o n missing some true e =
            let test = (and_parts (has_room ring campaign) (nat_lt campaign.next END) e).1 in
            let under : campaign.next < END = grind (arith, nat_tests) in
            let made = fits_offers ring numbered fine id mine (no_effects part) link campaign (shortfall_from campaign.next missing) 0 o n (omega arith) tt in
            proposes_fit (offers ring link campaign (shortfall_from campaign.next missing) 0 (no_effects part)) link
            (valid_offers ring numbered (no_effects part) link campaign (shortfall_from campaign.next missing) 0
            (record { ballot = c.ballot; range = omega arith; end = omega arith; alone = λ is. absurd (cc); value = tt }) c (valid_none ring numbered part p)) made.near
        by_room campaign c o n missing some false e = kept_on campaign o n

        by_answer : (campaign : Campaign) → CampaignValid campaign → AllByRecursion (IsOpen part.kept.trim) campaign.outstanding → part.kept.trim ≤ campaign.next → (x : Option ℕ)
            → ((missing : ℕ) → x ≡ Some missing → 0 < missing) → Fits (levels_by ring link part campaign x)
        by_answer campaign c o n None some = kept_on campaign o n
        by_answer campaign c o n (Some missing) some = by_room campaign c o n missing (some missing refl) (has_room ring campaign && nat_lt campaign.next END) refl

        by_role : (role : Role) → RoleValid role → OpenFits part.kept.trim role → NextFits part.kept.trim role → Fits (levels_in ring link part role)
        by_role Idle r o n = fits_none part f
        by_role (Active campaign) r o n = go (leads_now ring campaign)
          where
            go : (b : Bool) → Fits (if b then levels_by ring link part (with_tick_taken campaign) (answer_of campaign.leveller) else no_effects part)
            go false = fits_none part f
            go true =
                by_answer (with_tick_taken campaign) (record { ballot = r.ballot; reports = r.reports; ordered = r.ordered; pending = r.pending; outstanding = r.outstanding; covered = r.covered }) o n (answer_of campaign.leveller)
                (λ missing is. some_missing campaign.leveller missing is)
