-- Commands, what is sent again, the leveller and rounds of trimming: what they record may stand in a record.
use Rattle.std.proofs.Common.{◌≡◌, ℕ, zero, suc, ◌<◌, min, max, Bool, true, false, ◌&&◌, List, [], ◌∷◌, ◌++◌, length, Option, Some, None, refl, subst, arith}
use Rattle.std.specs.Prelude.{◌==◌, nat_lt, nat_le, not, if◌then◌else◌}
use Rattle.std.specs.List.{AllByRecursion}
use Rattle.std.proofs.lemmas.Bool.{and_parts}
use Rattle.std.proofs.lemmas.Bool.Decides.{nat_tests}
use Rattle.mrp_types.specs.declared.id.NodeId.{NodeId}
use Rattle.mrp_types.specs.declared.id.ClientId.{ClientId}
use Rattle.mrp_types.specs.declared.id.TheConstants.{END}
use Rattle.mrp_types.specs.declared.value.Entry.{Entry}
use Rattle.mrp_types.specs.declared.voted.Decided.{Decided}
use Rattle.mrp_types.specs.Entries.{IsEntry}
use Rattle.step_valid.specs.Valid.{MayVote, SentValid, CampaignValid, RoleValid, RoundValid, PartValid, EffectsValid}
use Rattle.vote_state.specs.Valid.{IsRing, IsBallot, IsInst, IsVoted}
use Rattle.vote_state.proofs.StateLemmas.{append_all}
use Rattle.ring_link.specs.Silence.{Link}
use Rattle.skip_leveller.specs.Levelling.{answer_of}
use Rattle.protocol.proofs.OfferLemmas.{some_missing}
use Rattle.frames.specs.declared.body.Body.TheVariants as body
use Rattle.protocol.specs.Lines.{Trim, InstanceLimit}
use Rattle.protocol.specs.Parts.{Ring, Pending, Campaign, Role, Idle, Active, Round, Part, Effects}
use Rattle.protocol.specs.Rings.{is_subscribed, by_id, replicas_of, other_acceptors, owner_of, next_acceptor, sends, sends_each}
use Rattle.protocol.specs.Effects.{no_effects, with_part, with_frames, with_campaign, with_line}
use Rattle.protocol.specs.Acceptor.{trims_to}
use Rattle.protocol.specs.Ballots.{leads_now, role_leads, greatest_seen}
use Rattle.protocol.specs.Proposing.{has_room, own_mask, vote_of, offers, proposes_after, proposes}
use Rattle.protocol.specs.Coordinator.{passes_on, is_pending, with_pending, most_pending, submits_leading, submits_in, submits}
use Rattle.protocol.specs.Leading.{prepares_again, accepts_again, resends_in, resends, with_tick_taken, shortfall_from, levels_by, levels_in, levels}
use Rattle.protocol.specs.Trimming.{is_answered, least_of, least_above_last, least_where, least, with_answer, has_answered, in_round, trims_all, trims_above, ends_by, goes_on_round, with_own_answer, next_round, with_asked, asks, asks_round, answers_in, answers}
use Rattle.step_valid.proofs.Words.{valid_sends, valid_each, valid_none, valid_frames, valid_sent, valid_trims, valid_offers, valid_proposes}
use Rattle.step_valid.proofs.Tables.{valid_line}

module _ (ring : Ring) (numbered : IsRing ring.id) where
  -- ---- commands

  pub valid_submits : (link : Link) (part : Part) → PartValid part → (hops : ℕ) (client : ClientId) (seq : ℕ) (command : List ℕ) → IsEntry (record { client = client; seq = seq; command = command })
      → EffectsValid (submits ring link part hops client seq command)
  unfolding submits
  valid_submits link part p hops client seq command is = by_role part.coordinator.role p.role
    where
      on : (hops : ℕ) → EffectsValid (passes_on ring part hops (record { client = client; seq = seq; command = command }))
      on zero = valid_sent ring numbered (no_effects part) (owner_of ring (greatest_seen part)) (body.Submit ring.id 1 client seq command) is (valid_none ring numbered part p)
      on (suc hops) = valid_none ring numbered part p

      by_test : (campaign : Campaign) → CampaignValid campaign → (b c d : Bool) → EffectsValid (if b then with_line (InstanceLimit ring.own ring.id) (no_effects part)
          else if c then proposes ring link part
          else if d then no_effects part
          else proposes ring link (with_campaign (with_pending (record { client = client; seq = seq; command = command }) campaign) part))
      by_test campaign c true x y = valid_line ring numbered (no_effects part) (InstanceLimit ring.own ring.id) tt (valid_none ring numbered part p)
      by_test campaign c false true y = valid_proposes ring numbered (no_effects part) link (valid_none ring numbered part p)
      by_test campaign c false false true = valid_none ring numbered part p
      by_test campaign c false false false =
          let entry : Entry = record { client = client; seq = seq; command = command } in
          let now : Part = with_campaign (with_pending (record { client = client; seq = seq; command = command }) campaign) part in
          valid_proposes ring numbered (no_effects now) link
          (valid_none ring numbered now (record {
            kept = p.kept;
            role = record {
              ballot = c.ballot;
              reports = c.reports;
              ordered = c.ordered;
              pending = append_all (λ (q : Pending). IsEntry q.entry) campaign.pending ((record { entry = record { client = client; seq = seq; command = command }; proposed = false }) ∷ []) c.pending (is, tt);
              outstanding = c.outstanding;
              covered = c.covered;
            };
            round = p.round;
            held = p.held;
            ordered = p.ordered;
          }))

      by_role : (role : Role) → RoleValid role → EffectsValid (submits_in ring link part hops (record { client = client; seq = seq; command = command }) role)
      by_role Idle r = on hops
      by_role (Active campaign) r = leading (leads_now ring campaign)
        where
          leading : (b : Bool) → EffectsValid (if b then submits_leading ring link part (record { client = client; seq = seq; command = command }) campaign
              else passes_on ring part hops (record { client = client; seq = seq; command = command }))
          leading false = on hops
          leading true = by_test campaign r (nat_le END campaign.next) (is_pending (record { client = client; seq = seq; command = command }) campaign.pending) (nat_le most_pending (length campaign.pending))

  -- ---- sent again

  -- from the trim on: a batch stands for one instance there too
  later_may : (ballot trim : ℕ) (range : Decided) → MayVote (vote_of ballot range) → MayVote (record { lo = max range.lo trim; hi = range.hi; ballot = ballot; value = range.value })
  later_may ballot trim range may = λ lt.
      let v : IsVoted (vote_of ballot range) = may (omega arith) in
      record { ballot = v.ballot; range = lt; end = v.end; alone = λ e. let one = v.alone e in omega arith; value = v.value }

  pub valid_resends : (link : Link) (part : Part) → PartValid part → EffectsValid (resends ring link part)
  unfolding resends
  valid_resends link part p = by_role part.coordinator.role p.role
    where
      prepared : (ballot : ℕ) → IsBallot ballot → (nodes : List NodeId) (covered : List ℕ) → AllByRecursion SentValid (prepares_again ring ballot nodes covered)
      prepared ballot is [] covered = tt
      prepared ballot is (node ∷ nodes) [] = tt
      prepared ballot is (node ∷ nodes) (c ∷ later) =
          append_all SentValid (if nat_lt c END then sends ring (Some node) (body.Prepare ring.id ballot c) else []) (prepares_again ring ballot nodes later)
          (one (nat_lt c END)) (prepared ballot is nodes later)
        where
          one : (b : Bool) → AllByRecursion SentValid (if b then sends ring (Some node) (body.Prepare ring.id ballot c) else [])
          one true = valid_sends ring numbered (Some node) (body.Prepare ring.id ballot c) is
          one false = tt

      accepted : (ballot : ℕ) → IsBallot ballot → (ranges : List Decided) → AllByRecursion (λ (range : Decided). MayVote (vote_of ballot range)) ranges
          → AllByRecursion SentValid (accepts_again ring (next_acceptor ring link) ballot part.kept.trim ranges)
      accepted ballot is [] all = tt
      accepted ballot is (range ∷ ranges) all =
          append_all SentValid
          (sends ring (next_acceptor ring link) (body.Accept ring.id ballot (max range.lo part.kept.trim) range.hi (own_mask ring) range.value))
          (accepts_again ring (next_acceptor ring link) ballot part.kept.trim ranges)
          (valid_sends ring numbered (next_acceptor ring link) (body.Accept ring.id ballot (max range.lo part.kept.trim) range.hi (own_mask ring) range.value) (is, later_may ballot part.kept.trim range all.0))
          (accepted ballot is ranges all.1)

      by_role : (role : Role) → RoleValid role → EffectsValid (resends_in ring link part role)
      by_role Idle r = valid_none ring numbered part p
      by_role (Active campaign) r =
          valid_frames ring numbered (with_frames (prepares_again ring campaign.ballot ring.acceptors campaign.covered) (no_effects part))
          (accepts_again ring (next_acceptor ring link) campaign.ballot part.kept.trim campaign.outstanding) (accepted campaign.ballot r.ballot campaign.outstanding r.outstanding)
          (valid_frames ring numbered (no_effects part) (prepares_again ring campaign.ballot ring.acceptors campaign.covered) (prepared campaign.ballot r.ballot ring.acceptors campaign.covered) (valid_none ring numbered part p))

  -- ---- levelling

  pub valid_levels : (link : Link) (part : Part) → PartValid part → EffectsValid (levels ring link part)
  unfolding levels
  valid_levels link part p = by_role part.coordinator.role p.role
    where
      kept_on : (campaign : Campaign) → CampaignValid campaign → EffectsValid (no_effects (with_campaign campaign part))
      kept_on campaign c = record { part = record { kept = p.kept; role = c; round = p.round; held = p.held; ordered = p.ordered }; changes = tt; frames = tt; learned = tt; lines = tt }

      by_room : (campaign : Campaign) → CampaignValid campaign → (missing : ℕ) (some : 0 < missing) (b : Bool) → (has_room ring campaign && nat_lt campaign.next END) ≡ b → EffectsValid (if b then proposes_after ring link (offers ring link campaign (shortfall_from campaign.next missing) 0 (no_effects part))
          else no_effects (with_campaign campaign part))
      by_room campaign c missing some true e =
          let test = (and_parts (has_room ring campaign) (nat_lt campaign.next END) e).1 in
          let under : campaign.next < END = grind (arith, nat_tests) in
          valid_proposes ring numbered (offers ring link campaign (shortfall_from campaign.next missing) 0 (no_effects part)) link
          (valid_offers ring numbered (no_effects part) link campaign (shortfall_from campaign.next missing) 0
          (record { ballot = c.ballot; range = omega arith; end = omega arith; alone = λ is. absurd (cc); value = tt }) c (valid_none ring numbered part p))
      by_room campaign c missing some false e = kept_on campaign c

      by_answer : (campaign : Campaign) → CampaignValid campaign → (o : Option ℕ) → ((missing : ℕ) → o ≡ Some missing → 0 < missing) → EffectsValid (levels_by ring link part campaign o)
      by_answer campaign c None some = kept_on campaign c
      by_answer campaign c (Some missing) some = by_room campaign c missing (some missing refl) (has_room ring campaign && nat_lt campaign.next END) refl

      by_role : (role : Role) → RoleValid role → EffectsValid (levels_in ring link part role)
      by_role Idle r = valid_none ring numbered part p
      by_role (Active campaign) r = go (leads_now ring campaign)
        where
          go : (b : Bool) → EffectsValid (if b then levels_by ring link part (with_tick_taken campaign) (answer_of campaign.leveller) else no_effects part)
          go false = valid_none ring numbered part p
          go true =
              by_answer (with_tick_taken campaign) (record { ballot = r.ballot; reports = r.reports; ordered = r.ordered; pending = r.pending; outstanding = r.outstanding; covered = r.covered }) (answer_of campaign.leveller)
              (λ missing is. some_missing campaign.leveller missing is)

  -- ---- rounds

  abbrev AnswerIn : NodeId × ℕ → Type 0
  AnswerIn answer = IsInst answer.1

  least_in : (inst : ℕ) (answers : List (NodeId × ℕ)) → IsInst inst → IsInst (least_of inst answers)
  least_in inst [] is = is
  least_in inst (answer ∷ answers) is = least_in (min inst answer.1) answers (omega arith)

  least_valid : (round : Round) → AllByRecursion AnswerIn round.answers → (inst : ℕ) → least ring round ≡ Some inst → IsInst inst
  unfolding least
  least_valid round all inst = by_test (is_answered ring.subscribers round.answers)
    where
      by_above : (first : ℕ) → IsInst first → (b : Bool) → (if b then Some first else None) ≡ Some inst → IsInst inst
      by_above first is true e = let same : first ≡ inst = cc in subst (λ x. IsInst x) same is
      by_above first is false e = absurd (cc)

      by_answers : (answers : List (NodeId × ℕ)) → AllByRecursion AnswerIn answers → least_above_last round.last answers ≡ Some inst → IsInst inst
      by_answers [] a e = absurd (cc)
      by_answers (answer ∷ answers) a e = by_above (least_of answer.1 answers) (least_in answer.1 answers a.0) (nat_lt round.last (least_of answer.1 answers)) e

      by_test : (b : Bool) → least_where b round.last round.answers ≡ Some inst → IsInst inst
      by_test true e = by_answers round.answers all e
      by_test false e = absurd (cc)

  answered_valid : (node : NodeId) (inst : ℕ) (round : Round) → IsInst inst → AllByRecursion AnswerIn round.answers → AllByRecursion AnswerIn (with_answer ring node inst round).answers
  answered_valid node inst round is all = go (is_subscribed ring node && not (has_answered node round.answers))
    where
      go : (b : Bool) → AllByRecursion AnswerIn (if b then record round { answers = round.answers ++ (node, inst) ∷ [] } else round).answers
      go true = append_all AnswerIn round.answers ((node, inst) ∷ []) all (is, tt)
      go false = all

  valid_trims_above : (effects : Effects) (inst : ℕ) → IsInst inst → EffectsValid effects → EffectsValid (trims_above ring inst effects)
  valid_trims_above effects inst is d = go (nat_lt effects.part.kept.trim inst)
    where
      go : (b : Bool) → EffectsValid (if b then trims_all ring inst effects else effects)
      go false = d
      go true =
          valid_frames ring numbered (trims_to ring inst (with_line (Trim ring.own ring.id inst) effects)) (sends_each ring (other_acceptors ring) (body.TrimTo ring.id inst))
          (valid_each ring numbered (other_acceptors ring) (body.TrimTo ring.id inst) is) (valid_trims ring numbered (with_line (Trim ring.own ring.id inst) effects) inst is (valid_line ring numbered effects (Trim ring.own ring.id inst) tt d))

  valid_ends : (link : Link) (round : Round) → AllByRecursion AnswerIn round.answers → (effects : Effects) → EffectsValid effects → (o : Option ℕ) → ((inst : ℕ) → o ≡ Some inst → IsInst inst)
      → EffectsValid (ends_by ring link round effects o)
  valid_ends link round all effects d None is = record { part = record { kept = d.part.kept; role = d.part.role; round = all; held = d.part.held; ordered = d.part.ordered }; changes = d.changes; frames = d.frames; learned = d.learned; lines = d.lines }
  valid_ends link round all effects d (Some inst) is =
      valid_proposes ring numbered (trims_above ring inst (with_part (in_round None effects.part) effects)) link
      (valid_trims_above (with_part (in_round None effects.part) effects) inst (is inst refl) (record { part = record { kept = d.part.kept; role = d.part.role; round = tt; held = d.part.held; ordered = d.part.ordered }; changes = d.changes; frames = d.frames; learned = d.learned; lines = d.lines }))

  pub valid_asks_round : (link : Link) (part : Part) → PartValid part → (own_safe : Option ℕ) → ((inst : ℕ) → own_safe ≡ Some inst → IsInst inst) → EffectsValid (asks_round ring link part own_safe)
  unfolding asks_round
  valid_asks_round link part p own_safe safe = go (role_leads ring part.coordinator.role)
    where
      answered : (o : Option ℕ) → ((inst : ℕ) → o ≡ Some inst → IsInst inst) → AllByRecursion AnswerIn (with_own_answer ring o (next_round part)).answers
      answered None s = tt
      answered (Some inst) s = answered_valid ring.own inst (next_round part) (s inst refl) tt

      go : (b : Bool) → EffectsValid (if b then asks ring link part own_safe else no_effects part)
      go false = valid_none ring numbered part p
      go true =
          let round : Round = with_own_answer ring own_safe (next_round part) in
          let effects : Effects = with_frames (sends_each ring (by_id (replicas_of ring.subscribers)) (body.AskSafe ring.id (suc part.rounds.asked))) (no_effects (with_asked part)) in
          valid_ends link round (answered own_safe safe) effects
          (valid_frames ring numbered (no_effects (with_asked part)) (sends_each ring (by_id (replicas_of ring.subscribers)) (body.AskSafe ring.id (suc part.rounds.asked)))
          (valid_each ring numbered (by_id (replicas_of ring.subscribers)) (body.AskSafe ring.id (suc part.rounds.asked)) tt)
          (valid_none ring numbered (with_asked part) (record { kept = p.kept; role = p.role; round = tt; held = p.held; ordered = p.ordered })))
          (least ring round) (least_valid round (answered own_safe safe))

  pub valid_answers : (link : Link) (part : Part) → PartValid part → (from : NodeId) (number inst : ℕ) → IsInst inst → EffectsValid (answers ring link part from number inst)
  unfolding answers
  valid_answers link part p from number inst is = by_round part.rounds.current p.round
    where
      by_round : (o : Option Round) → RoundValid o → EffectsValid (answers_in ring link part from number inst o)
      by_round None r = valid_none ring numbered part p
      by_round (Some current) r = go (number == current.number)
        where
          go : (b : Bool) → EffectsValid (if b then goes_on_round ring link (with_answer ring from inst current) (no_effects part) else no_effects part)
          go false = valid_none ring numbered part p
          go true =
              let round : Round = with_answer ring from inst current in
              valid_ends link (with_answer ring from inst current) (answered_valid from inst current is r) (no_effects part) (valid_none ring numbered part p)
              (least ring (with_answer ring from inst current)) (least_valid (with_answer ring from inst current) (answered_valid from inst current is r))
