-- The rules of acceptors, coordinators and learners, and a start: what they record may stand in a record.
use Rattle.std.proofs.Common.{◌≡◌, ℕ, zero, suc, ◌<◌, ◌≤◌, ◌^◌, max, Bool, true, false, List, [], ◌∷◌, ◌++◌, map, Option, Some, None, refl, sym, subst, arith}
use Rattle.std.specs.Prelude.{◌==◌, nat_lt, nat_le, not, if◌then◌else◌, slice_index}
use Rattle.std.specs.List.{AllByRecursion}
use Rattle.std.proofs.lemmas.Bool.Decides.{nat_tests}
use Rattle.mrp_types.specs.declared.id.NodeId.{NodeId}
use Rattle.mrp_types.specs.declared.id.TheConstants.{END}
use Rattle.mrp_types.specs.declared.value.Value.{Value}
use Rattle.mrp_types.specs.declared.voted.Voted.{Voted}
use Rattle.mrp_types.specs.declared.voted.Decided.{Decided}
use Rattle.step_valid.specs.Valid.{MayVote, MayLearn, BodyValid, SentValid, CampaignValid, RoleValid, PartValid, EffectsValid}
use Rattle.step_valid.proofs.Listed.{back_all, set_all, reports_spelled, page_may}
use Rattle.beside_rings.specs.Beside.{IsNoLearn}
use Rattle.command_codec.specs.Parts.{IsSpelled}
use Rattle.range_map.specs.Entries.{entries_from}
use Rattle.vote_state.specs.declared.cast.Cast.{Cast}
use Rattle.vote_state.specs.declared.ring.RingState.{RingState}
use Rattle.vote_state.specs.Ranges.{ranges_of}
use Rattle.vote_state.specs.State.{IsKept}
use Rattle.vote_state.specs.Valid.{IsRing, IsBallot, IsInst, IsVoted, IsHeld}
use Rattle.vote_state.proofs.StateLemmas.{filter_all, append_all}
use Rattle.vote_state.proofs.ValidLemmas.{ranges_valid}
use Rattle.ring_link.specs.Silence.{Link}
use Rattle.frames.specs.Spelling.{vote_size}
use Rattle.frames.specs.declared.body.Body.TheVariants as body
use Rattle.plain_model.specs.Pages.{left_out}
use Rattle.plain_model.proofs.Pages.{front-longest}
use Rattle.protocol.specs.Lines.{Line, BallotLimit}
use Rattle.protocol.specs.Parts.{Ring, Campaign, Role, Idle, Active, Part, Effects}
use Rattle.protocol.specs.Rings.{is_node, is_own, other_acceptors, owner_of, position_of, has_bit, with_bit, next_member, sends, sends_each}
use Rattle.protocol.specs.Effects.{no_effects, with_part, with_frames, with_campaign, with_line}
use Rattle.protocol.specs.Learner.{learned_ranges, passed_on, decided, chosen}
use Rattle.protocol.specs.Acceptor.{promises, promises_anew, votes_anew, trims_to, page_room, votes_page, page_end, promise_of, tells_promise, refuses, tells_trim, prepares, decides_or_forwards, accepts_at, accepts, tells_ranges, ranges_page, fetches}
use Rattle.protocol.specs.Ballots.{greatest_seen, new_campaign, campaigns, own_ballot, Page, with_page, asks_more, counts, reported_at, reported}
use Rattle.protocol.specs.Proposing.{proposes_after}
use Rattle.protocol.proofs.OfferLemmas.{reports_ordered}
use Rattle.protocol.specs.Coordinator.{starts_at, leads, promised, role_refused, refused}
use Rattle.protocol.specs.Leading.{is_to_start, starts_idle, starts_on_tick}
use Rattle.protocol.specs.Trimming.{trimmed}
use Rattle.step_valid.proofs.Words.{valid_sends, valid_each, valid_none, valid_frames, valid_sent, valid_learned, valid_promises, valid_promises_anew, valid_votes_anew, valid_trims, valid_decides_or_forwards, valid_proposes}
use Rattle.quorums.proofs.Each.{mapped, front_all}

module _ (ring : Ring) (numbered : IsRing ring.id) where
  -- ---- the acceptor's rules

  pub valid_prepares : (part : Part) → PartValid part → (from : NodeId) (ballot lo : ℕ) → IsBallot ballot → EffectsValid (prepares ring part from ballot lo)
  unfolding prepares
  valid_prepares part p from ballot lo is = go (not (is_node from (owner_of ring ballot))) (nat_lt ballot part.kept.promise)
    where
      told : (kept : RingState) → IsKept kept → BodyValid (promise_of ring ballot lo kept)
      told kept k =
          let all : List Voted = ranges_of (entries_from (max lo kept.trim) kept.votes) in
          let each : AllByRecursion IsVoted (ranges_of (entries_from (max lo kept.trim) kept.votes)) = ranges_valid (entries_from (max lo kept.trim) kept.votes) (filter_all IsHeld _ kept.votes k.votes) in
          let both : AllByRecursion IsVoted (votes_page all ++ left_out (votes_page all) all) = subst (λ (l : List Voted). AllByRecursion IsVoted l) (sym (front-longest vote_size page_room all).whole) each in
          (k.trim, end (left_out (votes_page all) all) (back_all IsVoted (votes_page all) (left_out (votes_page all) all) both), front_all IsVoted (votes_page all) (left_out (votes_page all) all) both, is)
        where
          end : (votes : List Voted) → AllByRecursion IsVoted votes → page_end votes ≤ END
          end [] a = omega arith
          end (vote ∷ votes) a = let range = a.0.range in let top = a.0.end in omega arith

      go : (b c : Bool) → EffectsValid (if b then no_effects part else if c then refuses ring (Some from) ballot part
          else tells_promise ring from ballot lo (promises ring ballot (no_effects part)))
      go true c = valid_none ring numbered part p
      go false true = valid_sent ring numbered (no_effects part) (Some from) (body.Refuse ring.id ballot part.kept.promise) tt (valid_none ring numbered part p)
      go false false =
          let d = valid_promises ring numbered (no_effects part) ballot is (valid_none ring numbered part p) in
          valid_sent ring numbered (promises ring ballot (no_effects part)) (Some from) (promise_of ring ballot lo (promises ring ballot (no_effects part)).part.kept)
          (told (promises ring ballot (no_effects part)).part.kept d.part.kept) d

  pub valid_accepts : (link : Link) (part : Part) → PartValid part → (ballot lo hi mask : ℕ) (value : Value) → IsBallot ballot → MayVote (record { lo = lo; hi = hi; ballot = ballot; value = value })
      → EffectsValid (accepts ring link part ballot lo hi mask value)
  unfolding accepts
  valid_accepts link part p ballot lo hi mask value is may = at (position_of ring ring.own)
    where
      vote : Voted
      vote = record { lo = lo; hi = hi; ballot = ballot; value = value }

      at : (o : Option ℕ) → EffectsValid (accepts_at ring link part mask (record { lo = lo; hi = hi; ballot = ballot; value = value }) o)
      at None = valid_none ring numbered part p
      at (Some position) = go (nat_lt ballot part.kept.promise) (nat_lt lo part.kept.trim) (has_bit mask position)
        where
          go : (b c d : Bool) → EffectsValid (if b then refuses ring (owner_of ring ballot) ballot part else if c then tells_trim ring (owner_of ring ballot) part
              else if d then no_effects part
              else decides_or_forwards ring link (with_bit mask position) (record { lo = lo; hi = hi; ballot = ballot; value = value })
              (votes_anew ring (record { lo = lo; hi = hi; ballot = ballot; value = value }) (promises_anew ring ballot (no_effects part))))
          go true c d = valid_sent ring numbered (no_effects part) (owner_of ring ballot) (body.Refuse ring.id ballot part.kept.promise) tt (valid_none ring numbered part p)
          go false true d = valid_sent ring numbered (no_effects part) (owner_of ring ballot) (body.Trimmed ring.id part.kept.trim) p.kept.trim (valid_none ring numbered part p)
          go false false true = valid_none ring numbered part p
          go false false false =
              valid_decides_or_forwards ring numbered (votes_anew ring (record { lo = lo; hi = hi; ballot = ballot; value = value }) (promises_anew ring ballot (no_effects part))) link (with_bit mask position)
              (record { lo = lo; hi = hi; ballot = ballot; value = value }) is may
              (valid_votes_anew ring numbered (promises_anew ring ballot (no_effects part)) (record { lo = lo; hi = hi; ballot = ballot; value = value }) may (valid_promises_anew ring numbered (no_effects part) ballot is (valid_none ring numbered part p)))

  pub valid_fetches : (part : Part) → PartValid part → (from : NodeId) (lo : ℕ) → EffectsValid (fetches ring part from lo)
  unfolding fetches
  valid_fetches part p from lo = go (nat_lt lo part.kept.trim)
    where
      page : (ranges : List Decided) → AllByRecursion MayLearn ranges → AllByRecursion SentValid (tells_ranges ring from ranges)
      page [] all = tt
      page (range ∷ ranges) all = valid_sends ring numbered (Some from) (body.Chosen ring.id (range ∷ ranges)) all

      go : (b : Bool) → EffectsValid (if b then tells_trim ring (Some from) part
          else with_frames (tells_ranges ring from (ranges_page (learned_ranges (entries_from lo part.learner.held)))) (no_effects part))
      go true = valid_sent ring numbered (no_effects part) (Some from) (body.Trimmed ring.id part.kept.trim) p.kept.trim (valid_none ring numbered part p)
      go false = valid_frames ring numbered (no_effects part) _ (page (ranges_page (learned_ranges (entries_from lo part.learner.held))) (page_may lo part.learner.held p.held)) (valid_none ring numbered part p)

  pub valid_trimmed : (link : Link) (part : Part) → PartValid part → (trim : ℕ) → IsInst trim → EffectsValid (trimmed ring link part trim)
  unfolding trimmed
  valid_trimmed link part p trim is = valid_proposes ring numbered (trims_to ring trim (no_effects part)) link (valid_trims ring numbered (no_effects part) trim is (valid_none ring numbered part p))

  pub valid_decided : (link : Link) (part : Part) → PartValid part → (lo hi left : ℕ) (value : Value) → MayLearn (record { lo = lo; hi = hi; value = value })
      → EffectsValid (decided ring link part lo hi left value)
  unfolding decided
  valid_decided link part p lo hi left value may =
      valid_learned ring numbered (passed_on ring link lo hi left value (no_effects part)) (record { lo = lo; hi = hi; value = value }) may (passed left)
    where
      passed : (left : ℕ) → EffectsValid (passed_on ring link lo hi left value (no_effects part))
      passed zero = valid_none ring numbered part p
      passed (suc left) = valid_sent ring numbered (no_effects part) (next_member ring link) (body.Decide ring.id lo hi left value) may (valid_none ring numbered part p)

  pub valid_chosen : (part : Part) → PartValid part → (ranges : List Decided) → AllByRecursion MayLearn ranges → EffectsValid (chosen ring part ranges)
  unfolding chosen
  valid_chosen part p ranges all = record { part = p; changes = tt; frames = tt; learned = all; lines = tt }

  -- ---- the coordinator's rules

  pub valid_reported : (effects : Effects) (from : NodeId) (page : Page) → IsBallot page.ballot → page.hi ≤ END → AllByRecursion IsVoted page.votes → EffectsValid effects → EffectsValid (reported ring from page effects)
  valid_reported effects from page is top votes d = at effects.part.coordinator.role d.part.role (position_of ring from)
    where
      asks_of : (b : Bool) → AllByRecursion SentValid (if b then [] else sends ring (Some from) (body.Prepare ring.id page.ballot page.hi))
      asks_of true = tt
      asks_of false = valid_sends ring numbered (Some from) (body.Prepare ring.id page.ballot page.hi) is

      by_test : (campaign : Campaign) → CampaignValid campaign → (k : ℕ) (b : Bool)
          → EffectsValid (if b then with_frames (asks_more ring from page) (with_part (with_campaign (with_page k (slice_index campaign.covered k) page campaign) effects.part) effects) else effects)
      by_test campaign c k false = d
      by_test campaign c k true =
          valid_frames ring numbered (with_part (with_campaign (with_page k (slice_index campaign.covered k) page campaign) effects.part) effects) (asks_more ring from page) (asks_of (page.hi == END))
          (record {
            part = record {
              kept = d.part.kept;
              role = record {
                ballot = c.ballot;
                reports = reports_spelled (slice_index campaign.covered k) page.votes campaign.reports votes c.reports;
                ordered = reports_ordered (slice_index campaign.covered k) page.votes campaign.reports c.ordered;
                pending = c.pending;
                outstanding = c.outstanding;
                covered = set_all campaign.covered k page.hi c.covered top;
              };
              round = d.part.round;
              held = d.part.held;
              ordered = d.part.ordered;
            };
            changes = d.changes;
            frames = d.frames;
            learned = d.learned;
            lines = d.lines;
          })

      at : (role : Role) → RoleValid role → (k : Option ℕ) → EffectsValid (reported_at ring from page role k effects)
      at Idle r k = d
      at (Active campaign) r None = d
      at (Active campaign) r (Some k) = by_test campaign r k (counts page campaign.ballot (slice_index campaign.covered k))

  pub valid_promised : (link : Link) (part : Part) → PartValid part → (from : NodeId) (ballot lo hi trim : ℕ) (votes : List Voted) → IsBallot ballot → IsInst trim → hi ≤ END
      → AllByRecursion IsVoted votes
      → EffectsValid (promised ring link part from ballot lo hi trim votes)
  unfolding promised
  valid_promised link part p from ballot lo hi trim votes is inst top all =
      let page : Page = record { ballot = ballot; lo = lo; hi = hi; votes = votes } in
      valid_proposes ring numbered (reported ring from page (trims_to ring trim (no_effects part))) link
      (valid_reported (trims_to ring trim (no_effects part)) from page is top all (valid_trims ring numbered (no_effects part) trim inst (valid_none ring numbered part p)))

  pub valid_refused : (part : Part) → PartValid part → (ballot promise : ℕ) → EffectsValid (refused ring part ballot promise)
  unfolding refused
  valid_refused part p ballot promise = record { part = record { kept = p.kept; role = role part.coordinator.role p.role; round = p.round; held = p.held; ordered = p.ordered }; changes = tt; frames = tt; learned = tt; lines = tt }
    where
      role : (r : Role) → RoleValid r → RoleValid (role_refused ballot r)
      role Idle h = tt
      role (Active campaign) h = go (campaign.ballot == ballot)
        where
          go : (b : Bool) → RoleValid (if b then Idle else Active campaign)
          go true = tt
          go false = h

  -- ---- a start

  pub covered_start : (next : ℕ) (nodes : List NodeId) → next ≤ END → AllByRecursion (λ c. c ≤ END) (map (λ (node : NodeId). if is_own ring node then END else next) nodes)
  covered_start next [] le = tt
  covered_start next (node ∷ nodes) le = (go (is_own ring node), covered_start next nodes le)
    where
      go : (b : Bool) → (if b then END else next) ≤ END
      go true = omega arith
      go false = le

  pub valid_campaigns : (effects : Effects) (ballot : ℕ) → IsBallot ballot → EffectsValid effects → EffectsValid (campaigns ring ballot effects)
  valid_campaigns effects ballot is d =
      let k = d.part.kept in
      let trim : effects.part.kept.trim < 2 ^ 40 = k.trim in
      valid_frames ring numbered (with_part (with_campaign (new_campaign ring ballot effects.part.kept) effects.part) effects) (sends_each ring (other_acceptors ring) (body.Prepare ring.id ballot effects.part.kept.trim))
      (valid_each ring numbered (other_acceptors ring) (body.Prepare ring.id ballot effects.part.kept.trim) is)
      (record {
        part = record {
          kept = d.part.kept;
          role = record {
            ballot = is;
            reports = mapped IsHeld (λ (e : ℕ × Cast). IsSpelled e.1.value) (λ e h. h.2) effects.part.kept.votes k.votes;
            ordered = k.ordered;
            pending = tt;
            outstanding = tt;
            covered = covered_start effects.part.kept.trim ring.acceptors (omega arith);
          };
          round = d.part.round;
          held = d.part.held;
          ordered = d.part.ordered;
        };
        changes = d.changes;
        frames = d.frames;
        learned = d.learned;
        lines = d.lines;
      })

  pub valid_line : (effects : Effects) (line : Line) → IsNoLearn line → EffectsValid effects → EffectsValid (with_line line effects)
  valid_line effects line is d = record { part = d.part; changes = d.changes; frames = d.frames; learned = d.learned; lines = append_all IsNoLearn effects.lines (line ∷ []) d.lines (is, tt) }

  pub valid_leads : (link : Link) (part : Part) → PartValid part → EffectsValid (leads ring link part)
  unfolding leads
  valid_leads link part p = at (position_of ring ring.own)
    where
      by_limit : (ballot : ℕ) (b : Bool) → nat_le (2 ^ 48) ballot ≡ b → EffectsValid (if b then with_line (BallotLimit ring.own ring.id) (no_effects part)
          else proposes_after ring link (campaigns ring ballot (promises ring ballot (no_effects part))))
      by_limit ballot true e = valid_line (no_effects part) (BallotLimit ring.own ring.id) tt (valid_none ring numbered part p)
      by_limit ballot false e =
          let is : ballot < 2 ^ 48 = grind (arith, nat_tests) in
          valid_proposes ring numbered (campaigns ring ballot (promises ring ballot (no_effects part))) link
          (valid_campaigns (promises ring ballot (no_effects part)) ballot is (valid_promises ring numbered (no_effects part) ballot is (valid_none ring numbered part p)))

      at : (o : Option ℕ) → EffectsValid (starts_at ring link part o)
      at None = valid_none ring numbered part p
      at (Some position) = by_limit (own_ballot ring part position) (nat_le (2 ^ 48) (own_ballot ring part position)) refl

  pub valid_starts : (link : Link) (part : Part) → PartValid part → EffectsValid (starts_on_tick ring link part)
  unfolding starts_on_tick
  valid_starts link part p = by_role part.coordinator.role
    where
      by_role : (role : Role) → EffectsValid (starts_idle ring link part role)
      by_role (Active campaign) = valid_none ring numbered part p
      by_role Idle = go (is_to_start ring link (owner_of ring (greatest_seen part)))
        where
          go : (b : Bool) → EffectsValid (if b then leads ring link part else no_effects part)
          go true = valid_leads link part p
          go false = valid_none ring numbered part p
