-- A step of a node, whatever happens to it: as one ring sees it, it goes on from face to face.
use Rattle.std.proofs.Common.{◌≡◌, inl, inr, ◌⊎◌, ℕ, zero, suc, ◌/◌, ◌%◌, Bool, true, false, ◌&&◌, List, [], ◌∷◌, Option, Some, None, refl, sym, ◌∙◌, ap, subst}
use Rattle.std.specs.Prelude.{◌==◌, if◌then◌else◌}
use Rattle.std.proofs.lemmas.Bool.{cases_eq}
use Rattle.mrp_types.specs.declared.id.NodeId.{NodeId}
use Rattle.mrp_types.specs.declared.id.RingId.{RingId}
use Rattle.mrp_types.specs.declared.id.ClientId.{ClientId}
use Rattle.mrp_types.specs.declared.id.Party.{Party}
use Rattle.mrp_types.specs.declared.id.Party.TheVariants.{Node, Client}
use Rattle.mrp_types.specs.declared.id.TheConstants.{END}
use Rattle.mrp_types.specs.declared.value.Value.{Value}
use Rattle.mrp_types.specs.declared.voted.Decided.{Decided}
use Rattle.mrp_config.specs.Config.{Config}
use Rattle.command_codec.specs.Grammar.{command_of}
use Rattle.vote_journal.specs.Journal.{Journal}
use Rattle.ring_link.specs.Silence.{Link, with_heard}
use Rattle.frames.specs.declared.body.Body.{Body}
use Rattle.frames.specs.declared.body.Body.TheVariants as body
use Rattle.ring_reach.specs.Reach.{Reaches, seen}
use Rattle.ring_reach.proofs.Reaching.{Local-reach, seen_from}
use Rattle.protocol.specs.Parts.{Ring, Idle, Part, Effects}
use Rattle.protocol.specs.Rings.{is_acceptor}
use Rattle.protocol.specs.Effects.{no_effects}
use Rattle.protocol.specs.Learner.{decided, chosen}
use Rattle.protocol.specs.Acceptor.{prepares, accepts, fetches}
use Rattle.protocol.specs.Ballots.{is_active}
use Rattle.protocol.specs.Proposing.{Stops, proposing, turn_in, proposes_after, proposes}
use Rattle.protocol.specs.Coordinator.{leads, promised, refused, submits}
use Rattle.protocol.specs.Leading.{starts_on_tick, resends, levels}
use Rattle.protocol.specs.Trimming.{trimmed, asks_round, answers}
use Rattle.protocol.specs.Node.{StepSoFar, View, RingPart, part_at}
use Rattle.protocol.specs.Recovery.{tells_checkpoint, answered_by, tells_part, takes_part, takes_gone, safe_of}
use Rattle.protocol.specs.Learning.{applies_effects}
use Rattle.protocol.specs.Step.{at_member, at_acceptor, is_for, recovers_if_trimmed, handles_trim_at, handles_submit, handles_body, handles_from}
use Rattle.protocol.specs.Tick.{rules_at, rules_for, ticks_ring, ticks_rings, recovery_ticks_at, asks_on_beat, beats_with}
use Rattle.beside_rings.specs.Beside.{Untouched}
use Rattle.beside_rings.proofs.Recovered.{untouched_recovers_if_trimmed, untouched_safe, untouched_service, untouched_recovering, untouched_tells, untouched_tells_part, untouched_answered, untouched_part, untouched_gone, untouched_recovery}
use Rattle.beside_rings.proofs.Asked.{untouched_beat}
use Rattle.ring_safety.specs.Faces.{Face}
use Rattle.ring_safety.specs.Invariant.{Local}
use Rattle.ring_safety.proofs.Local.{Grows-refl, Grows-trans}
use Rattle.ring_tables.specs.Ties.{acceptors, IsRangeChosen, PartTies, BodySaid, SaidBy}
use Rattle.ring_tables.proofs.More.{IsRangeChosen-more}
use Rattle.ring_tables.proofs.Effects.{effects_none}
use Rattle.ring_tables.proofs.Offering.{proposes_after_ties}
use Rattle.ring_tables.specs.Settled.{RoleSettled, PartFine}
use Rattle.ring_tables.proofs.Settling.{proposes_after_settled}
use Rattle.ring_rules.specs.Own.{IsOf}
use Rattle.ring_rules.proofs.Apart.{of_prepares, of_accepts}
use Rattle.ring_rules.proofs.Rules.{of_promised, of_refused, of_trimmed, of_decided, of_chosen, of_fetches, of_leads, of_starts_on_tick, of_submits, of_resends, of_levels, of_asks_round, of_answers}
use Rattle.ring_steps.proofs.Along.{Leaves, untouched_leaves, part_id, PartFine-same, PartIdle, OnWay, WayAfter, way_leaves, applies_effects_way}
use Rattle.ring_rules.specs.Ruled.{Ruled}
use Rattle.ring_steps.proofs.Elsewhere.{applies_effects_leaves}
use Rattle.ring_tables.specs.Done.{Seats}
use Rattle.ring_rules.proofs.Ruling.{ruled_prepares, ruled_accepts, ruled_fetches, ruled_refused, ruled_resends, ruled_levels, ruled_trimmed, ruled_promised, ruled_leads, ruled_starts, ruled_submits, ruled_answers, ruled_asks_round, ruled_decided, ruled_chosen}
use Rattle.quorums.proofs.Each.{mapped}

same_ring : (r s : RingId) → r.0 ≡ s.0 → s ≡ r
same_ring r s e = ap (λ (n : ℕ). let made : RingId = record { 0 = n } in made) (sym e)

-- an Idle coordinator proposes nothing
idle_proposes : (ring : Ring) (link : Link) (effects : Effects) → effects.part.coordinator.role ≡ Idle → proposes_after ring link effects ≡ effects
unfolding proposes_after proposing
idle_proposes ring link effects e = ap (λ role. proposing END ring link (turn_in ring effects role)) e ∙ stopped END
  where
    stopped : (count : ℕ) → proposing count ring link (Stops effects) ≡ effects
    stopped zero = refl
    stopped (suc count) = refl

module _ (config : Config) (ring : Ring) (faces : ℕ → Face Value) (a : ℕ) (start : Face Value) (j : Journal) (at_seats : is_acceptor ring ≡ true → Seats ring a)
    (all : (k : ℕ) → Local (acceptors ring) faces k (faces k)) (local : Local (acceptors ring) faces a start) where
  abbrev pub Way : Face Value → StepSoFar → Type 0
  Way f so_far = OnWay ring faces a start j (PartFine ring) f so_far

  abbrev pub Goes : Face Value → StepSoFar → Type 0
  Goes f so_far = WayAfter ring faces a start j (PartFine ring) f so_far

  local_at : (f : Face Value) → Reaches (acceptors ring) faces a start f → Local (acceptors ring) faces a f
  local_at f reached = Local-reach (acceptors ring) faces a all start f local reached

  -- proposing after something was learned: at an acceptor, and at a member that is none
  resumes : (f : Face Value) → Reaches (acceptors ring) faces a start f → (link : Link) (part : Part) → PartTies (acceptors ring) (seen faces a f) f part → PartIdle ring part
      → Ruled ring faces a f part.kept (proposes ring link part)
  resumes f reached link part t idle = go (is_acceptor ring) refl
    where
      go : (b : Bool) → is_acceptor ring ≡ b → Ruled ring faces a f part.kept (proposes ring link part)
      go true is =
          let s = at_seats is in
          let none = effects_none ring faces a f part.kept part t refl in
          record {
            after = proposes_after_ties ring faces a s.seat s.within all f (local_at f reached) part.kept f link (no_effects part) none;
            fine = record {
              settled = proposes_after_settled ring faces a s.seat s.within all f (local_at f reached) part.kept f link (no_effects part) none;
              idle = λ no. absurd (cc);
            };
          }
      go false is =
          let role : part.coordinator.role ≡ Idle = idle is in
          subst (λ (effects : Effects). Ruled ring faces a f part.kept effects) (sym (idle_proposes ring link (no_effects part) role))
          (record {
            after = record { face = f; grows = Grows-refl f; ties = effects_none ring faces a f part.kept part t refl };
            fine = record { settled = subst (λ r. RoleSettled ring part.kept.trim r) (sym role) tt; idle = λ no. role };
          })

  -- ---- what goes on

  stays : (f : Face Value) (so_far : StepSoFar) → Way f so_far → Goes f so_far
  stays f so_far w = record { face = f; grows = Grows-refl f; way = w }

  goes_leaves : (f : Face Value) (old new : StepSoFar) → Leaves ring old new → Way f old → Goes f new
  goes_leaves f old new l w = stays f new (way_leaves ring faces a start j (PartFine ring) (PartFine-same ring) f old new l w)

  then_goes : (f : Face Value) (old new : StepSoFar) → Goes f old → ((g : Face Value) → Way g old → Goes g new) → Goes f new
  then_goes f old new first rest = let r = rest first.face first.way in record { face = r.face; grows = Grows-trans first.grows r.grows; way = r.way }

  goes_untouched : (f : Face Value) (old new : StepSoFar) → Untouched old new → Way f old → Goes f new
  goes_untouched f old new u w = goes_leaves f old new (untouched_leaves ring old new u) w

  then_untouched : (f : Face Value) (old new : StepSoFar) → Goes f old → Untouched old new → Goes f new
  then_untouched f old new first u = then_goes f old new first (λ g w. goes_untouched g old new u w)

  -- ---- a rule at a ring

  -- what a rule makes of a part of this ring, and that it is nothing to this ring at another
  pub record MemberRule (f : Face Value) (fr : RingId) (effects : Ring → Part → Effects) : Type 0 where
    pub own : fr.0 ≡ ring.id.0 → (part : Part) → PartTies (acceptors ring) (seen faces a f) f part → PartFine ring part → Ruled ring faces a f part.kept (effects ring part)
    pub other : (r : Ring) (part : Part) → IsOf r (effects r part)

  pub record AcceptorRule (f : Face Value) (fr : RingId) (effects : Ring → Part → Effects) : Type 0 where
    pub own : fr.0 ≡ ring.id.0 → (s : Seats ring a) → is_acceptor ring ≡ true → Local (acceptors ring) faces a f → (part : Part) → PartTies (acceptors ring) (seen faces a f) f part
        → RoleSettled ring part.kept.trim part.coordinator.role → Ruled ring faces a f part.kept (effects ring part)
    pub other : (r : Ring) (part : Part) → IsOf r (effects r part)

  applies_effects_goes : (f : Face Value) (so_far : StepSoFar) → Way f so_far → (fr : RingId) (p : RingPart) → part_at so_far.view fr ≡ Some p → (effects : Ring → Part → Effects)
      → (fr.0 ≡ ring.id.0 → p.ring ≡ ring → PartTies (acceptors ring) (seen faces a f) f p.part → PartFine ring p.part → Ruled ring faces a f p.part.kept (effects ring p.part))
      → IsOf p.ring (effects p.ring p.part) → Goes f (applies_effects config p.ring (effects p.ring p.part) so_far)
  applies_effects_goes f so_far w fr p there effects own other = go (cases_eq fr.0 ring.id.0)
    where
      go : (fr.0 ≡ ring.id.0) ⊎ (fr.0 ≡ ring.id.0 → ⊥) → Goes f (applies_effects config p.ring (effects p.ring p.part) so_far)
      go (inl same) =
          let here : part_at so_far.view ring.id ≡ Some p = subst (λ (x : RingId). part_at so_far.view x ≡ Some p) (sym (same_ring fr ring.id same)) there in
          let m = w.part p here in
          let r : Ruled ring faces a f p.part.kept (effects ring p.part) = own same m.of_ring m.ties m.fine in
          subst (λ (x : Ring). Goes f (applies_effects config x (effects x p.part) so_far)) (sym m.of_ring)
          (applies_effects_way ring faces a start j config resumes f so_far w p here (effects ring p.part) (subst (λ (x : Ring). IsOf x (effects x p.part)) m.of_ring other).lines r.after r.fine)
      go (inr ne) =
          let id = part_id so_far.view.parts fr p there in
          let apart : (p.ring.id.0 ≡ ring.id.0 → ⊥) = λ e. ne (sym id ∙ e) in
          goes_leaves f so_far (applies_effects config p.ring (effects p.ring p.part) so_far)
          (applies_effects_leaves ring p.ring apart config (effects p.ring p.part) so_far other) w

  member_goes : (f : Face Value) (so_far : StepSoFar) → Way f so_far → (fr : RingId) (effects : Ring → Part → StepSoFar → Effects) → MemberRule f fr (λ r part. effects r part so_far)
      → Goes f (at_member (λ r part b. applies_effects config r (effects r part b) b) (part_at so_far.view fr) so_far)
  member_goes f so_far w fr effects rule = go (part_at so_far.view fr) refl
    where
      go : (o : Option RingPart) → part_at so_far.view fr ≡ o → Goes f (at_member (λ r part b. applies_effects config r (effects r part b) b) o so_far)
      go None e = stays f so_far w
      go (Some p) e = applies_effects_goes f so_far w fr p e (λ r part. effects r part so_far) (λ same is t fine. rule.own same p.part t fine) (rule.other p.ring p.part)

  -- where the node is an acceptor
  acceptor_applies_effects : (f : Face Value) (so_far : StepSoFar) → Way f so_far → (fr : RingId) (p : RingPart) → part_at so_far.view fr ≡ Some p → (effects : Ring → Part → Effects) → AcceptorRule f fr effects
      → Goes f (if is_acceptor p.ring then applies_effects config p.ring (effects p.ring p.part) so_far else so_far)
  acceptor_applies_effects f so_far w fr p there effects rule = go (is_acceptor p.ring) refl
    where
      go : (b : Bool) → is_acceptor p.ring ≡ b → Goes f (if b then applies_effects config p.ring (effects p.ring p.part) so_far else so_far)
      go false e = stays f so_far w
      go true e =
          applies_effects_goes f so_far w fr p there effects
          (λ same is t fine.
          let member : is_acceptor ring ≡ true = subst (λ (x : Ring). is_acceptor x ≡ true) is e in
          rule.own same (at_seats member) member (local_at f w.reached) p.part t fine.settled)
          (rule.other p.ring p.part)

  acceptor_goes : (f : Face Value) (so_far : StepSoFar) → Way f so_far → (fr : RingId) (effects : Ring → Part → StepSoFar → Effects) → AcceptorRule f fr (λ r part. effects r part so_far)
      → Goes f (at_acceptor (λ r part b. applies_effects config r (effects r part b) b) (part_at so_far.view fr) so_far)
  acceptor_goes f so_far w fr effects rule = go (part_at so_far.view fr) refl
    where
      go : (o : Option RingPart) → part_at so_far.view fr ≡ o → Goes f (at_acceptor (λ r part b. applies_effects config r (effects r part b) b) o so_far)
      go None e = stays f so_far w
      go (Some p) e = acceptor_applies_effects f so_far w fr p e (λ r part. effects r part so_far) rule

  tick_goes : (f : Face Value) (so_far : StepSoFar) → Way f so_far → (fr : RingId) (effects : Ring → Part → View → Effects) → AcceptorRule f fr (λ r part. effects r part so_far.view)
      → Goes f (rules_for config fr effects so_far)
  tick_goes f so_far w fr effects rule = go (part_at so_far.view fr) refl
    where
      go : (o : Option RingPart) → part_at so_far.view fr ≡ o → Goes f (rules_at config effects o so_far)
      go None e = stays f so_far w
      go (Some p) e = acceptor_applies_effects f so_far w fr p e (λ r part. effects r part so_far.view) rule

  -- ---- frames

  submit_goes : (fr : RingId) (hops : ℕ) (client : ClientId) (seq : ℕ) (command : List ℕ) (f : Face Value) (so_far : StepSoFar) → Way f so_far
      → Goes f (handles_submit config fr hops client seq command so_far)
  submit_goes fr hops client seq command f so_far w = go (is_for config fr (command_of command))
    where
      go : (b : Bool) → Goes f (if b then at_acceptor (λ r part b. applies_effects config r (submits r b.view.link part hops client seq command) b) (part_at so_far.view fr) so_far else so_far)
      go false = stays f so_far w
      go true = acceptor_goes f so_far w fr (λ r part b. submits r b.view.link part hops client seq command)
          (record {
            own = λ same s member here part t settled. ruled_submits ring faces a s member all f here part t settled so_far.view.link hops client seq command;
            other = λ r part. of_submits r so_far.view.link part hops client seq command;
          })

  trim_goes : (fr : RingId) (trim : ℕ) (f : Face Value) (so_far : StepSoFar) → Way f so_far → (o : Option RingPart) → part_at so_far.view fr ≡ o → Goes f (handles_trim_at config fr trim o so_far)
  trim_goes fr trim f so_far w None e = stays f so_far w
  trim_goes fr trim f so_far w (Some p) e =
      let taken : StepSoFar = if is_acceptor p.ring then applies_effects config p.ring (trimmed p.ring so_far.view.link p.part trim) so_far else so_far in
      then_untouched f taken (recovers_if_trimmed config fr trim taken)
      (acceptor_applies_effects f so_far w fr p e (λ r part. trimmed r so_far.view.link part trim)
      (record {
        own = λ same s member here part t settled. ruled_trimmed ring faces a s member all f here part t settled so_far.view.link trim;
        other = λ r part. of_trimmed r so_far.view.link part trim;
      }))
      (untouched_recovers_if_trimmed config fr trim taken)

  now_chosen : (f : Face Value) → Reaches (acceptors ring) faces a start f → (range : Decided) → IsRangeChosen (acceptors ring) faces range → IsRangeChosen (acceptors ring) (seen faces a f) range
  now_chosen f reached range is = IsRangeChosen-more (acceptors ring) faces (seen faces a f) (seen_from (acceptors ring) faces a f (local_at f reached).grown) range is

  pub body_goes : (from : NodeId) (b : Body) → BodySaid ring faces from b → (f : Face Value) (so_far : StepSoFar) → Way f so_far → Goes f (handles_body config from b so_far)
  body_goes from (body.Submit fr hops client seq command) said f so_far w = submit_goes fr hops client seq command f so_far w
  body_goes from (body.Prepare fr ballot lo) said f so_far w =
      acceptor_goes f so_far w fr (λ r part b. prepares r part from ballot lo)
      (record {
        own = λ same s member here part t settled. ruled_prepares ring faces a s member all f here part t settled from ballot lo;
        other = λ r part. of_prepares r part from ballot lo;
      })
  body_goes from (body.Promise fr ballot lo hi trim votes) said f so_far w = go (part_at so_far.view fr) refl
    where
      rule : AcceptorRule f fr (λ r part. promised r so_far.view.link part from ballot lo hi trim votes)
      rule = record {
        own = λ same s member here part t settled. ruled_promised ring faces a s member all f here part t settled so_far.view.link from ballot lo hi trim votes (said same);
        other = λ r part. of_promised r so_far.view.link part from ballot lo hi trim votes;
      }

      go : (o : Option RingPart) → part_at so_far.view fr ≡ o
          → Goes f (at_acceptor (λ r part b. recovers_if_trimmed config fr trim (applies_effects config r (promised r b.view.link part from ballot lo hi trim votes) b)) o so_far)
      go None e = stays f so_far w
      go (Some p) e = by_test (is_acceptor p.ring) refl
        where
          now : StepSoFar
          now = applies_effects config p.ring (promised p.ring so_far.view.link p.part from ballot lo hi trim votes) so_far

          by_test : (t : Bool) → is_acceptor p.ring ≡ t
              → Goes f (if t then recovers_if_trimmed config fr trim (applies_effects config p.ring (promised p.ring so_far.view.link p.part from ballot lo hi trim votes) so_far) else so_far)
          by_test false is = stays f so_far w
          by_test true is =
              let made : StepSoFar = applies_effects config p.ring (promised p.ring so_far.view.link p.part from ballot lo hi trim votes) so_far in
              then_untouched f made (recovers_if_trimmed config fr trim made)
              (subst (λ (t : Bool). Goes f (if t then applies_effects config p.ring (promised p.ring so_far.view.link p.part from ballot lo hi trim votes) so_far else so_far)) is
              (acceptor_applies_effects f so_far w fr p e (λ r part. promised r so_far.view.link part from ballot lo hi trim votes) rule))
              (untouched_recovers_if_trimmed config fr trim made)
  body_goes from (body.Refuse fr ballot promise) said f so_far w =
      acceptor_goes f so_far w fr (λ r part b. refused r part ballot promise)
      (record {
        own = λ same s member here part t settled. ruled_refused ring faces a s member all f here part t settled ballot promise;
        other = λ r part. of_refused r part ballot promise;
      })
  body_goes from (body.Accept fr ballot lo hi mask value) said f so_far w =
      acceptor_goes f so_far w fr (λ r part b. accepts r b.view.link part ballot lo hi mask value)
      (record {
        own = λ same s member here part t settled. ruled_accepts ring faces a s member all f here part t settled so_far.view.link ballot lo hi mask value (said same);
        other = λ r part. of_accepts r so_far.view.link part ballot lo hi mask value;
      })
  body_goes from (body.Decide fr lo hi left value) said f so_far w =
      member_goes f so_far w fr (λ r part b. decided r b.view.link part lo hi left value)
      (record {
        own = λ same part t fine. ruled_decided ring faces a f part t fine so_far.view.link lo hi left value (now_chosen f w.reached (record { lo = lo; hi = hi; value = value }) (said same));
        other = λ r part. of_decided r so_far.view.link part lo hi left value;
      })
  body_goes from (body.Fetch fr lo) said f so_far w =
      acceptor_goes f so_far w fr (λ r part b. fetches r part from lo)
      (record {
        own = λ same s member here part t settled. ruled_fetches ring faces a s member all f here part t settled from lo;
        other = λ r part. of_fetches r part from lo;
      })
  body_goes from (body.Chosen fr ranges) said f so_far w =
      member_goes f so_far w fr (λ r part b. chosen r part ranges)
      (record {
        own = λ same part t fine. ruled_chosen ring faces a f part t fine ranges
            (mapped (IsRangeChosen (acceptors ring) faces) (IsRangeChosen (acceptors ring) (seen faces a f)) (now_chosen f w.reached) ranges (said same));
        other = λ r part. of_chosen r part ranges;
      })
  body_goes from (body.Trimmed fr trim) said f so_far w = trim_goes fr trim f so_far w (part_at so_far.view fr) refl
  body_goes from (body.TrimTo fr trim) said f so_far w = trim_goes fr trim f so_far w (part_at so_far.view fr) refl
  body_goes from (body.AskSafe fr round) said f so_far w =
      goes_untouched f so_far (handles_body config from (body.AskSafe fr round) so_far) (untouched_safe from fr round so_far) w
  body_goes from (body.Safe fr round inst) said f so_far w =
      acceptor_goes f so_far w fr (λ r part b. answers r b.view.link part from round inst)
      (record {
        own = λ same s member here part t settled. ruled_answers ring faces a s member all f here part t settled so_far.view.link from round inst;
        other = λ r part. of_answers r so_far.view.link part from round inst;
      })
  body_goes from (body.AskCheckpoint epoch attempt) said f so_far w =
      goes_untouched f so_far (handles_body config from (body.AskCheckpoint epoch attempt) so_far)
      (untouched_service (λ s. tells_checkpoint s from epoch attempt) (λ s b. untouched_tells s from epoch attempt b) so_far.view.service so_far) w
  body_goes from (body.HaveCheckpoint epoch attempt tuple) said f so_far w =
      goes_untouched f so_far (handles_body config from (body.HaveCheckpoint epoch attempt tuple) so_far)
      (untouched_recovering (λ s now. answered_by config s now from epoch attempt tuple) (λ s now b. untouched_answered config s now from epoch attempt tuple b) so_far.view.service so_far) w
  body_goes from (body.AskPart epoch attempt tuple offset) said f so_far w =
      goes_untouched f so_far (handles_body config from (body.AskPart epoch attempt tuple offset) so_far)
      (untouched_service (λ s. tells_part config s from epoch attempt tuple offset) (λ s b. untouched_tells_part config s from epoch attempt tuple offset b) so_far.view.service so_far) w
  body_goes from (body.Part epoch attempt tuple offset total bytes) said f so_far w =
      goes_untouched f so_far (handles_body config from (body.Part epoch attempt tuple offset total bytes) so_far)
      (untouched_recovering (λ s now. takes_part config s now from epoch attempt tuple offset total bytes) (λ s now b. untouched_part config s now from epoch attempt tuple offset total bytes b) so_far.view.service so_far) w
  body_goes from (body.Gone epoch attempt asked newer) said f so_far w =
      goes_untouched f so_far (handles_body config from (body.Gone epoch attempt asked newer) so_far)
      (untouched_recovering (λ s now. takes_gone config s now from epoch attempt asked newer) (λ s now b. untouched_gone config s now from epoch attempt asked newer b) so_far.view.service so_far) w
  body_goes from (body.Reply client seq partition reply) said f so_far w = stays f so_far w
  body_goes from body.Hello said f so_far w = stays f so_far w

  pub from_goes : (from : Party) (b : Body) → SaidBy ring faces from b → (f : Face Value) (so_far : StepSoFar) → Way f so_far → Goes f (handles_from config from b so_far)
  from_goes (Node from) b said f so_far w =
      let heard : StepSoFar = record so_far { view = record so_far.view { link = with_heard from.0 so_far.view.link } } in
      body_goes from b said f heard
      (record { reached = w.reached; journal = w.journal; kept = w.kept; frames = w.frames; replies = w.replies; lines = w.lines; recorded = w.recorded; told = w.told; part = w.part })
  from_goes (Client from) (body.Submit fr hops client seq command) said f so_far w = submit_goes fr hops client seq command f so_far w
  from_goes (Client from) other said f so_far w = stays f so_far w

  -- ---- an order to lead

  pub lead_goes : (fr : RingId) (f : Face Value) (so_far : StepSoFar) → Way f so_far → Goes f (at_acceptor (λ r part b. applies_effects config r (leads r b.view.link part) b) (part_at so_far.view fr) so_far)
  lead_goes fr f so_far w =
      acceptor_goes f so_far w fr (λ r part b. leads r b.view.link part)
      (record {
        own = λ same s member here part t settled. ruled_leads ring faces a s member all f here part t settled so_far.view.link;
        other = λ r part. of_leads r so_far.view.link part;
      })

  -- ---- a beat

  ring_goes : (active again trims : Bool) (fr : RingId) (f : Face Value) (so_far : StepSoFar) → Way f so_far → Goes f (ticks_ring config active again trims fr so_far)
  ring_goes active again trims fr f so_far w =
      let one : StepSoFar = rules_for config fr (λ r part view. starts_on_tick r view.link part) so_far in
      let two : StepSoFar = (if again && active then rules_for config fr (λ r part view. resends r view.link part) else (λ b. b)) one in
      let three : StepSoFar = (if trims then rules_for config fr (λ r part view. asks_round r view.link part (safe_of view fr view.service)) else (λ b. b)) two in
      then_goes f three (rules_for config fr (λ r part view. levels r view.link part) three)
      (then_goes f two three
      (then_goes f one two
      (tick_goes f so_far w fr (λ r part view. starts_on_tick r view.link part)
      (record {
        own = λ same s member here part t settled. ruled_starts ring faces a s member all f here part t settled so_far.view.link;
        other = λ r part. of_starts_on_tick r so_far.view.link part;
      }))
      (λ g v. resent (again && active) g one v))
      (λ g v. asked trims g two v))
      (λ g v. tick_goes g three v fr (λ r part view. levels r view.link part)
      (record {
        own = λ same s member here part t settled. ruled_levels ring faces a s member all g here part t settled three.view.link;
        other = λ r part. of_levels r three.view.link part;
      }))
    where
      resent : (b : Bool) (g : Face Value) (now : StepSoFar) → Way g now → Goes g ((if b then rules_for config fr (λ r part view. resends r view.link part) else (λ x. x)) now)
      resent false g now v = stays g now v
      resent true g now v = tick_goes g now v fr (λ r part view. resends r view.link part)
          (record {
            own = λ same s member here part t settled. ruled_resends ring faces a s member all g here part t settled now.view.link;
            other = λ r part. of_resends r now.view.link part;
          })

      asked : (b : Bool) (g : Face Value) (now : StepSoFar) → Way g now
          → Goes g ((if b then rules_for config fr (λ r part view. asks_round r view.link part (safe_of view fr view.service)) else (λ x. x)) now)
      asked false g now v = stays g now v
      asked true g now v = tick_goes g now v fr (λ r part view. asks_round r view.link part (safe_of view fr view.service))
          (record {
            own = λ same s member here part t settled. ruled_asks_round ring faces a s member all g here part t settled now.view.link (safe_of now.view fr now.view.service);
            other = λ r part. of_asks_round r now.view.link part (safe_of now.view fr now.view.service);
          })

  rings_go : (again trims : Bool) (parts : List RingPart) (f : Face Value) (so_far : StepSoFar) → Way f so_far → Goes f (ticks_rings config again trims parts so_far)
  rings_go again trims [] f so_far w = stays f so_far w
  rings_go again trims (p ∷ parts) f so_far w =
      let next : StepSoFar = ticks_ring config (is_active p.part.coordinator) again trims p.ring.id so_far in
      then_goes f next (ticks_rings config again trims parts next) (ring_goes (is_active p.part.coordinator) again trims p.ring.id f so_far w) (λ g v. rings_go again trims parts g next v)

  pub beats_go : (parts : List RingPart) (beat : ℕ) (again : Bool) (f : Face Value) (so_far : StepSoFar) → Way f so_far → Goes f (beats_with config parts beat again so_far)
  beats_go parts beat again f so_far w =
      let one : StepSoFar = recovery_ticks_at config again so_far.view.service so_far in
      let two : StepSoFar = ticks_rings config again (beat % config.trim == 0) parts one in
      then_goes f two (beats_with config parts beat again so_far)
      (then_goes f one two (goes_untouched f so_far one (untouched_recovery config again so_far.view.service so_far) w) (λ g v. rings_go again (beat % config.trim == 0) parts g one v))
      (λ g v. on_beat again g two v)
    where
      on_beat : (b : Bool) (g : Face Value) (now : StepSoFar) → Way g now → Goes g ((if b then asks_on_beat config (beat / config.resend) else (λ x. x)) now)
      on_beat false g now v = stays g now v
      on_beat true g now v = goes_untouched g now (asks_on_beat config (beat / config.resend) now) (untouched_beat config (beat / config.resend) now) v
