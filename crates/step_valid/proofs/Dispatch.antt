-- Whatever happens to a node, its step on its way stays valid: a frame, an order to lead, a beat.
use Rattle.std.proofs.Common.{◌≡◌, ℕ, ◌/◌, ◌%◌, Bool, true, false, ◌&&◌, List, [], ◌∷◌, Option, Some, None, refl}
use Rattle.std.specs.Prelude.{◌==◌, if◌then◌else◌}
use Rattle.mrp_types.specs.declared.id.NodeId.{NodeId}
use Rattle.mrp_types.specs.declared.id.RingId.{RingId}
use Rattle.mrp_types.specs.declared.id.ClientId.{ClientId}
use Rattle.mrp_types.specs.declared.id.Party.{Party}
use Rattle.mrp_types.specs.declared.id.Party.TheVariants.{Node, Client}
use Rattle.mrp_types.specs.Entries.{IsEntry}
use Rattle.mrp_config.specs.Config.{Config}
use Rattle.command_codec.specs.Grammar.{command_of}
use Rattle.vote_state.specs.Valid.{IsRing, IsBallot, IsInst}
use Rattle.ring_link.specs.Silence.{with_heard}
use Rattle.frames.specs.declared.body.Body.{Body}
use Rattle.frames.specs.declared.body.Body.TheVariants as body
use Rattle.beside_rings.specs.Beside.{Untouched}
use Rattle.beside_rings.proofs.Recovered.{safe_is_inst, untouched_recovers_if_trimmed, untouched_safe, untouched_service, untouched_recovering, untouched_tells, untouched_tells_part, untouched_answered, untouched_part, untouched_gone, untouched_recovery}
use Rattle.beside_rings.proofs.Asked.{untouched_beat}
use Rattle.protocol.specs.Parts.{Ring, Part, Effects}
use Rattle.protocol.specs.Rings.{is_acceptor}
use Rattle.protocol.specs.Learner.{decided, chosen}
use Rattle.protocol.specs.Acceptor.{prepares, accepts, fetches}
use Rattle.protocol.specs.Ballots.{is_active}
use Rattle.protocol.specs.Coordinator.{leads, promised, refused, submits}
use Rattle.protocol.specs.Leading.{starts_on_tick, resends, levels}
use Rattle.protocol.specs.Trimming.{trimmed, asks_round, answers}
use Rattle.protocol.specs.Node.{StepSoFar, View, RingPart, part_at}
use Rattle.protocol.specs.Recovery.{tells_checkpoint, answered_by, tells_part, takes_part, takes_gone, safe_of}
use Rattle.protocol.specs.Learning.{applies_effects}
use Rattle.protocol.specs.Step.{at_member, at_acceptor, is_for, recovers_if_trimmed, handles_trim_at, handles_submit, handles_body, handles_from}
use Rattle.protocol.specs.Tick.{rules_at, rules_for, ticks_ring, ticks_rings, recovery_ticks_at, asks_on_beat, beats_with}
use Rattle.step_valid.specs.Valid.{BodyValid, PartValid, EffectsValid, MemberValid, AreNumbered}
use Rattle.step_valid.proofs.Tables.{valid_prepares, valid_accepts, valid_fetches, valid_trimmed, valid_decided, valid_chosen, valid_promised, valid_refused, valid_leads, valid_starts}
use Rattle.step_valid.proofs.Others.{valid_submits, valid_resends, valid_levels, valid_asks_round, valid_answers}
use Rattle.step_valid.proofs.Going.{SoFarValid, untouched_valid, found, member_numbered, applies_effects_valid}

-- what a rule makes of a valid part of any ring is valid
abbrev pub RuleValid : (Ring → Part → Effects) → Type 0
RuleValid effects = (r : Ring) → IsRing r.id → (part : Part) → PartValid part → EffectsValid (effects r part)

module _ (config : Config) (id : NodeId) (numbered : AreNumbered config) where
  abbrev Goes : StepSoFar → Type 0
  Goes a = SoFarValid config id a

  leaves : (a b : StepSoFar) → Untouched a b → Goes a → Goes b
  leaves a b u v = untouched_valid config id a b u v

  -- ---- a rule at a ring

  applies_effects_at : (p : RingPart) (effects : Ring → Part → Effects) → RuleValid effects → (a : StepSoFar) → MemberValid config id p → Goes a → Goes (applies_effects config p.ring (effects p.ring p.part) a)
  applies_effects_at p effects rule a m v = applies_effects_valid config id numbered p.ring m.of_ring (effects p.ring p.part) a (rule p.ring (member_numbered config id p.ring numbered m.of_ring) p.part m.part) v

  member_goes : (fr : RingId) (effects : Ring → Part → StepSoFar → Effects) (a : StepSoFar) → RuleValid (λ r part. effects r part a) → Goes a
      → Goes (at_member (λ r part b. applies_effects config r (effects r part b) b) (part_at a.view fr) a)
  member_goes fr effects a rule v = go (part_at a.view fr) refl
    where
      go : (o : Option RingPart) → part_at a.view fr ≡ o → Goes (at_member (λ r part b. applies_effects config r (effects r part b) b) o a)
      go None e = v
      go (Some p) e = applies_effects_at p (λ r part. effects r part a) rule a (found (MemberValid config id) a.view.parts fr p v.parts e) v

  acceptor_applies_effects : (p : RingPart) (effects : Ring → Part → Effects) → RuleValid effects → (a : StepSoFar) → MemberValid config id p → Goes a
      → Goes (if is_acceptor p.ring then applies_effects config p.ring (effects p.ring p.part) a else a)
  acceptor_applies_effects p effects rule a m v = go (is_acceptor p.ring)
    where
      go : (b : Bool) → Goes (if b then applies_effects config p.ring (effects p.ring p.part) a else a)
      go true = applies_effects_at p effects rule a m v
      go false = v

  acceptor_goes : (fr : RingId) (effects : Ring → Part → StepSoFar → Effects) (a : StepSoFar) → RuleValid (λ r part. effects r part a) → Goes a
      → Goes (at_acceptor (λ r part b. applies_effects config r (effects r part b) b) (part_at a.view fr) a)
  acceptor_goes fr effects a rule v = go (part_at a.view fr) refl
    where
      go : (o : Option RingPart) → part_at a.view fr ≡ o → Goes (at_acceptor (λ r part b. applies_effects config r (effects r part b) b) o a)
      go None e = v
      go (Some p) e = acceptor_applies_effects p (λ r part. effects r part a) rule a (found (MemberValid config id) a.view.parts fr p v.parts e) v

  tick_goes : (fr : RingId) (effects : Ring → Part → View → Effects) (a : StepSoFar) → RuleValid (λ r part. effects r part a.view) → Goes a → Goes (rules_for config fr effects a)
  tick_goes fr effects a rule v = go (part_at a.view fr) refl
    where
      go : (o : Option RingPart) → part_at a.view fr ≡ o → Goes (rules_at config effects o a)
      go None e = v
      go (Some p) e = acceptor_applies_effects p (λ r part. effects r part a.view) rule a (found (MemberValid config id) a.view.parts fr p v.parts e) v

  -- ---- frames

  submit_goes : (fr : RingId) (hops : ℕ) (client : ClientId) (seq : ℕ) (command : List ℕ) → IsEntry (record { client = client; seq = seq; command = command }) → (a : StepSoFar) → Goes a
      → Goes (handles_submit config fr hops client seq command a)
  submit_goes fr hops client seq command is a v = go (is_for config fr (command_of command))
    where
      go : (b : Bool) → Goes (if b then at_acceptor (λ r part b. applies_effects config r (submits r b.view.link part hops client seq command) b) (part_at a.view fr) a else a)
      go false = v
      go true = acceptor_goes fr (λ r part b. submits r b.view.link part hops client seq command) a (λ r n part p. valid_submits r n a.view.link part p hops client seq command is) v

  trim_goes : (fr : RingId) (trim : ℕ) → IsInst trim → (a : StepSoFar) → Goes a → (o : Option RingPart) → part_at a.view fr ≡ o → Goes (handles_trim_at config fr trim o a)
  trim_goes fr trim is a v None e = v
  trim_goes fr trim is a v (Some p) e =
      let taken : StepSoFar = if is_acceptor p.ring then applies_effects config p.ring (trimmed p.ring a.view.link p.part trim) a else a in
      leaves taken (recovers_if_trimmed config fr trim taken) (untouched_recovers_if_trimmed config fr trim taken)
      (acceptor_applies_effects p (λ r part. trimmed r a.view.link part trim) (λ r n part q. valid_trimmed r n a.view.link part q trim is) a (found (MemberValid config id) a.view.parts fr p v.parts e) v)

  promise_goes : (from : NodeId) (fr : RingId) (ballot lo hi trim : ℕ) (votes : _) → BodyValid (body.Promise fr ballot lo hi trim votes) → IsBallot ballot → (a : StepSoFar) → Goes a
      → Goes (handles_body config from (body.Promise fr ballot lo hi trim votes) a)
  promise_goes from fr ballot lo hi trim votes is small a v = go (part_at a.view fr) refl
    where
      made : RingPart → StepSoFar
      made p = applies_effects config p.ring (promised p.ring a.view.link p.part from ballot lo hi trim votes) a

      by_test : (p : RingPart) → MemberValid config id p → (b : Bool)
          → Goes (if b then recovers_if_trimmed config fr trim (applies_effects config p.ring (promised p.ring a.view.link p.part from ballot lo hi trim votes) a) else a)
      by_test p m false = v
      by_test p m true =
          let now : StepSoFar = applies_effects config p.ring (promised p.ring a.view.link p.part from ballot lo hi trim votes) a in
          leaves now (recovers_if_trimmed config fr trim now) (untouched_recovers_if_trimmed config fr trim now)
          (applies_effects_at p (λ r part. promised r a.view.link part from ballot lo hi trim votes) (λ r n part q. valid_promised r n a.view.link part q from ballot lo hi trim votes small is.0 is.1 is.2) a m v)

      go : (o : Option RingPart) → part_at a.view fr ≡ o
          → Goes (at_acceptor (λ r part b. recovers_if_trimmed config fr trim (applies_effects config r (promised r b.view.link part from ballot lo hi trim votes) b)) o a)
      go None e = v
      go (Some p) e = by_test p (found (MemberValid config id) a.view.parts fr p v.parts e) (is_acceptor p.ring)

  body_goes : (from : NodeId) (b : Body) → BodyValid b → (a : StepSoFar) → Goes a → Goes (handles_body config from b a)
  body_goes from (body.Submit fr hops client seq command) is a v = submit_goes fr hops client seq command is a v
  body_goes from (body.Prepare fr ballot lo) is a v = acceptor_goes fr (λ r part b. prepares r part from ballot lo) a (λ r n part p. valid_prepares r n part p from ballot lo is) v
  body_goes from (body.Promise fr ballot lo hi trim votes) is a v = promise_goes from fr ballot lo hi trim votes is is.3 a v
  body_goes from (body.Refuse fr ballot promise) is a v = acceptor_goes fr (λ r part b. refused r part ballot promise) a (λ r n part p. valid_refused r n part p ballot promise) v
  body_goes from (body.Accept fr ballot lo hi mask value) is a v =
      acceptor_goes fr (λ r part b. accepts r b.view.link part ballot lo hi mask value) a (λ r n part p. valid_accepts r n a.view.link part p ballot lo hi mask value is.0 is.1) v
  body_goes from (body.Decide fr lo hi left value) is a v =
      member_goes fr (λ r part b. decided r b.view.link part lo hi left value) a (λ r n part p. valid_decided r n a.view.link part p lo hi left value is) v
  body_goes from (body.Fetch fr lo) is a v = acceptor_goes fr (λ r part b. fetches r part from lo) a (λ r n part p. valid_fetches r n part p from lo) v
  body_goes from (body.Chosen fr ranges) is a v = member_goes fr (λ r part b. chosen r part ranges) a (λ r n part p. valid_chosen r n part p ranges is) v
  body_goes from (body.Trimmed fr trim) is a v = trim_goes fr trim is a v (part_at a.view fr) refl
  body_goes from (body.TrimTo fr trim) is a v = trim_goes fr trim is a v (part_at a.view fr) refl
  body_goes from (body.AskSafe fr round) is a v = leaves a (handles_body config from (body.AskSafe fr round) a) (untouched_safe from fr round a) v
  body_goes from (body.Safe fr round inst) is a v =
      acceptor_goes fr (λ r part b. answers r b.view.link part from round inst) a (λ r n part p. valid_answers r n a.view.link part p from round inst is) v
  body_goes from (body.AskCheckpoint epoch attempt) is a v =
      leaves a (handles_body config from (body.AskCheckpoint epoch attempt) a)
      (untouched_service (λ s. tells_checkpoint s from epoch attempt) (λ s b. untouched_tells s from epoch attempt b) a.view.service a) v
  body_goes from (body.HaveCheckpoint epoch attempt tuple) is a v =
      leaves a (handles_body config from (body.HaveCheckpoint epoch attempt tuple) a)
      (untouched_recovering (λ s now. answered_by config s now from epoch attempt tuple) (λ s now b. untouched_answered config s now from epoch attempt tuple b) a.view.service a) v
  body_goes from (body.AskPart epoch attempt tuple offset) is a v =
      leaves a (handles_body config from (body.AskPart epoch attempt tuple offset) a)
      (untouched_service (λ s. tells_part config s from epoch attempt tuple offset) (λ s b. untouched_tells_part config s from epoch attempt tuple offset b) a.view.service a) v
  body_goes from (body.Part epoch attempt tuple offset total bytes) is a v =
      leaves a (handles_body config from (body.Part epoch attempt tuple offset total bytes) a)
      (untouched_recovering (λ s now. takes_part config s now from epoch attempt tuple offset total bytes) (λ s now b. untouched_part config s now from epoch attempt tuple offset total bytes b) a.view.service a) v
  body_goes from (body.Gone epoch attempt asked newer) is a v =
      leaves a (handles_body config from (body.Gone epoch attempt asked newer) a)
      (untouched_recovering (λ s now. takes_gone config s now from epoch attempt asked newer) (λ s now b. untouched_gone config s now from epoch attempt asked newer b) a.view.service a) v
  body_goes from (body.Reply client seq partition reply) is a v = v
  body_goes from body.Hello is a v = v

  pub from_goes : (from : Party) (b : Body) → BodyValid b → (a : StepSoFar) → Goes a → Goes (handles_from config from b a)
  from_goes (Node from) b is a v =
      let heard : StepSoFar = record a { view = record a.view { link = with_heard from.0 a.view.link } } in
      body_goes from b is heard (record { own = v.own; state = v.state; parts = v.parts; changes = v.changes; frames = v.frames; replies = v.replies; lines = v.lines })
  from_goes (Client from) (body.Submit fr hops client seq command) is a v = submit_goes fr hops client seq command is a v
  from_goes (Client from) other is a v = v

  -- ---- an order to lead

  pub lead_goes : (fr : RingId) (a : StepSoFar) → Goes a → Goes (at_acceptor (λ r part b. applies_effects config r (leads r b.view.link part) b) (part_at a.view fr) a)
  lead_goes fr a v = acceptor_goes fr (λ r part b. leads r b.view.link part) a (λ r n part p. valid_leads r n a.view.link part p) v

  -- ---- a beat

  ring_goes : (active again trims : Bool) (fr : RingId) (a : StepSoFar) → Goes a → Goes (ticks_ring config active again trims fr a)
  ring_goes active again trims fr a v =
      let one : StepSoFar = rules_for config fr (λ r part view. starts_on_tick r view.link part) a in
      let two : StepSoFar = (if again && active then rules_for config fr (λ r part view. resends r view.link part) else (λ b. b)) one in
      let three : StepSoFar = (if trims then rules_for config fr (λ r part view. asks_round r view.link part (safe_of view fr view.service)) else (λ b. b)) two in
      tick_goes fr (λ r part view. levels r view.link part) three (λ r n part p. valid_levels r n three.view.link part p)
      (asked trims two
      (resent (again && active) one (tick_goes fr (λ r part view. starts_on_tick r view.link part) a (λ r n part p. valid_starts r n a.view.link part p) v)))
    where
      resent : (b : Bool) (now : StepSoFar) → Goes now → Goes ((if b then rules_for config fr (λ r part view. resends r view.link part) else (λ x. x)) now)
      resent false now w = w
      resent true now w = tick_goes fr (λ r part view. resends r view.link part) now (λ r n part p. valid_resends r n now.view.link part p) w

      asked : (b : Bool) (now : StepSoFar) → Goes now → Goes ((if b then rules_for config fr (λ r part view. asks_round r view.link part (safe_of view fr view.service)) else (λ x. x)) now)
      asked false now w = w
      asked true now w =
          tick_goes fr (λ r part view. asks_round r view.link part (safe_of view fr view.service)) now
          (λ r n part p. valid_asks_round r n now.view.link part p (safe_of now.view fr now.view.service) (safe_is_inst now.view fr now.view.service)) w

  rings_go : (again trims : Bool) (parts : List RingPart) (a : StepSoFar) → Goes a → Goes (ticks_rings config again trims parts a)
  rings_go again trims [] a v = v
  rings_go again trims (p ∷ parts) a v =
      rings_go again trims parts (ticks_ring config (is_active p.part.coordinator) again trims p.ring.id a) (ring_goes (is_active p.part.coordinator) again trims p.ring.id a v)

  pub beats_go : (parts : List RingPart) (beat : ℕ) (again : Bool) (a : StepSoFar) → Goes a → Goes (beats_with config parts beat again a)
  beats_go parts beat again a v =
      let one : StepSoFar = recovery_ticks_at config again a.view.service a in
      on_beat again (ticks_rings config again (beat % config.trim == 0) parts one)
      (rings_go again (beat % config.trim == 0) parts one (leaves a one (untouched_recovery config again a.view.service a) v))
    where
      on_beat : (b : Bool) (now : StepSoFar) → Goes now → Goes ((if b then asks_on_beat config (beat / config.resend) else (λ x. x)) now)
      on_beat false now w = w
      on_beat true now w = leaves now (asks_on_beat config (beat / config.resend) now) (untouched_beat config (beat / config.resend) now) w
