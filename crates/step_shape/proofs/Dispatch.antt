-- Whatever happens to a node, its step on its way keeps its shape: a frame, an order to lead, a beat.
use Rattle.std.proofs.Common.{◌≡◌, ℕ, ◌/◌, ◌%◌, Bool, true, false, ◌&&◌, List, [], ◌∷◌, Option, Some, None, refl, sym, subst}
use Rattle.std.specs.Prelude.{◌==◌, if◌then◌else◌}
use Rattle.mrp_types.specs.declared.id.NodeId.{NodeId}
use Rattle.mrp_types.specs.declared.id.RingId.{RingId}
use Rattle.mrp_types.specs.declared.id.ClientId.{ClientId}
use Rattle.mrp_types.specs.declared.id.Party.{Party}
use Rattle.mrp_types.specs.declared.id.Party.TheVariants.{Node, Client}
use Rattle.mrp_types.specs.declared.value.Entry.{Entry}
use Rattle.mrp_types.specs.declared.voted.Voted.{Voted}
use Rattle.mrp_types.specs.Entries.{IsEntry}
use Rattle.mrp_config.specs.Config.{Config}
use Rattle.mrp_config.specs.declared.tables.RingTable.{RingTable}
use Rattle.command_codec.specs.Grammar.{command_of}
use Rattle.quorums.specs.Groups.{Has}
use Rattle.vote_state.specs.Valid.{IsRing, IsInst}
use Rattle.ring_link.specs.Silence.{with_heard}
use Rattle.frames.specs.declared.body.Body.{Body}
use Rattle.frames.specs.declared.body.Body.TheVariants as body
use Rattle.beside_rings.proofs.Recovered.{safe_is_inst, untouched_recovers_if_trimmed, untouched_safe, untouched_service, untouched_recovering, untouched_tells, untouched_tells_part, untouched_answered, untouched_part, untouched_gone, untouched_recovery}
use Rattle.beside_rings.proofs.Asked.{untouched_beat}
use Rattle.protocol.specs.Parts.{Ring, Part, Effects}
use Rattle.protocol.specs.Rings.{is_acceptor}
use Rattle.protocol.specs.Learner.{decided, chosen}
use Rattle.protocol.specs.Acceptor.{prepares, accepts, fetches}
use Rattle.protocol.specs.Ballots.{is_active}
use Rattle.protocol.specs.Coordinator.{leads, promised, refused, submits}
use Rattle.protocol.specs.Leading.{starts_on_tick, resends, levels}
use Rattle.protocol.specs.Trimming.{trimmed, asks_round, answers}
use Rattle.protocol.specs.Node.{StepSoFar, View, RingPart, part_at}
use Rattle.protocol.specs.Recovery.{tells_checkpoint, answered_by, tells_part, takes_part, takes_gone, safe_of}
use Rattle.protocol.specs.Learning.{applies_effects}
use Rattle.protocol.specs.Step.{at_member, at_acceptor, is_for, recovers_if_trimmed, handles_trim_at, handles_submit, handles_body, handles_from}
use Rattle.protocol.specs.Tick.{rules_at, rules_for, ticks_ring, ticks_rings, recovery_ticks_at, asks_on_beat, beats_with}
use Rattle.step_valid.specs.Valid.{BodyValid, PartValid, MemberValid, AreNumbered}
use Rattle.step_valid.proofs.Tables.{valid_prepares, valid_accepts, valid_fetches, valid_trimmed, valid_decided, valid_chosen, valid_promised, valid_refused, valid_leads, valid_starts}
use Rattle.step_valid.proofs.Others.{valid_submits, valid_resends, valid_levels, valid_asks_round, valid_answers}
use Rattle.step_valid.proofs.Going.{found, member_numbered}
use Rattle.ask_laws.specs.Carried.{PartCarries, RangesCarry, ValueCarries, VotedCarry, BodyCarries, PartyCarries}
use Rattle.ask_laws.proofs.Commands.{IsOfBytes}
use Rattle.ask_laws.proofs.Acceptor.{prepares_made, accepts_made, fetches_made}
use Rattle.ask_laws.proofs.Coordinating.{leads_made, promised_made, refused_made, submits_made, starts_made, resends_made, levels_made, trimmed_made, asks_round_made, answers_made, decided_made, chosen_made}
use Rattle.ask_laws.proofs.SoFar.{FoundCarries, part_found}
use Rattle.ask_laws.proofs.Recovering.{answered_keeps as answered_act, part_keeps as part_act, gone_keeps as gone_act, tells_keep as tells_act, tells_part_keeps as tells_part_act, recovery_keeps as recovery_act, recovers_if_trimmed_keeps as trimmed_act, safe_keeps as safe_act, service_keeps as service_act, recovering_keeps as recovering_act, beat_keeps as beat_act}
use Rattle.step_shape.specs.Shaped.{BodyFits, FrameFits, PartFits, MemberFits}
use Rattle.step_shape.proofs.Tables.{fits_decided, fits_chosen, fits_prepares, fits_accepts, fits_fetches, fits_trimmed, fits_promised, fits_refused, fits_leads, fits_starts, fits_submits, fits_resends, fits_levels}
use Rattle.step_shape.proofs.Rounds.{fits_asks_round, fits_answers}
use Rattle.step_shape.proofs.Recovering.{answered_keeps, part_keeps, gone_keeps, tells_keep, tells_part_keeps, recovery_keeps, recovers_if_trimmed_keeps, safe_keeps, service_keeps, recovering_keeps, beat_keeps}
use Rattle.step_shape.proofs.Going.{Whole, Made, own_ring, ground, leaves, applies_whole}

module _ (config : Config) (numbered : AreNumbered config) (unique : (t u : RingTable) → Has config.rings t → Has config.rings u → t.id.0 ≡ u.id.0 → t ≡ u)
    (Is : ℕ → Entry → Type 0) (Valid : Type 0) (known : Valid) (entry : (r : ℕ) (e : Entry) → Is r e → IsEntry e) (given : Valid → (r : ℕ) (e : Entry) → Is r e → IsOfBytes e) (fine : ℕ → Type 0) (id : NodeId) where
  abbrev Goes : StepSoFar → Type 0
  Goes a = Whole config fine id Is Valid a

  -- a part of a ring of this number, by the three laws together
  pub record IsHere (fr : RingId) (ring : Ring) (part : Part) : Type 0 where
    pub number : IsRing ring.id
    pub mine : ring.own ≡ id
    pub same : ring.id.0 ≡ fr.0
    pub valid : PartValid part
    pub carries : PartCarries Is ring.id.0 part
    pub fits : PartFits ring part

  -- what a rule makes of such a part
  abbrev MemberRule : RingId → (Ring → Part → Effects) → Type 0
  MemberRule fr effects = (r : Ring) (part : Part) → IsHere fr r part → Made r fine id Is Valid (effects r part)

  abbrev AcceptorRule : RingId → (Ring → Part → Effects) → Type 0
  AcceptorRule fr effects = (r : Ring) (part : Part) → IsHere fr r part → is_acceptor r ≡ true → Made r fine id Is Valid (effects r part)

  here : (fr : RingId) (a : StepSoFar) (p : RingPart) → part_at a.view fr ≡ Some p → Goes a → IsHere fr p.ring p.part × MemberValid config id p
  here fr a p e w =
      let v = found (MemberValid config id) a.view.parts fr p w.valid.parts e in
      let c = subst (λ (o : Option RingPart). FoundCarries Is Valid fr o) e (part_found Is Valid fr a.view.parts w.carries.view.parts) in
      let f = found MemberFits a.view.parts fr p w.fits.view.parts e in (
        record { number = member_numbered config id p.ring numbered v.of_ring; mine = own_ring config numbered unique Is Valid known entry given fine id p.ring v.of_ring; same = c.0; valid = v.part; carries = c.1; fits = f },
        v,
      )

  member_goes : (fr : RingId) (effects : Ring → Part → StepSoFar → Effects) (a : StepSoFar) → MemberRule fr (λ r part. effects r part a) → Goes a
      → Goes (at_member (λ r part b. applies_effects config r (effects r part b) b) (part_at a.view fr) a)
  member_goes fr effects a rule w = go (part_at a.view fr) refl
    where
      go : (o : Option RingPart) → part_at a.view fr ≡ o → Goes (at_member (λ r part b. applies_effects config r (effects r part b) b) o a)
      go None e = w
      go (Some p) e =
          let h = here fr a p e w in
          applies_whole config numbered unique Is Valid known entry given fine id p.ring h.1.of_ring (effects p.ring p.part a) a (rule p.ring p.part h.0) w

  acceptor_made : (fr : RingId) (p : RingPart) (effects : Ring → Part → Effects) (a : StepSoFar) → AcceptorRule fr effects → part_at a.view fr ≡ Some p → Goes a
      → Goes (if is_acceptor p.ring then applies_effects config p.ring (effects p.ring p.part) a else a)
  acceptor_made fr p effects a rule e w = go (is_acceptor p.ring) refl
    where
      go : (b : Bool) → is_acceptor p.ring ≡ b → Goes (if b then applies_effects config p.ring (effects p.ring p.part) a else a)
      go true acceptor =
          let h = here fr a p e w in
          applies_whole config numbered unique Is Valid known entry given fine id p.ring h.1.of_ring (effects p.ring p.part) a (rule p.ring p.part h.0 acceptor) w
      go false acceptor = w

  acceptor_goes : (fr : RingId) (effects : Ring → Part → StepSoFar → Effects) (a : StepSoFar) → AcceptorRule fr (λ r part. effects r part a) → Goes a
      → Goes (at_acceptor (λ r part b. applies_effects config r (effects r part b) b) (part_at a.view fr) a)
  acceptor_goes fr effects a rule w = go (part_at a.view fr) refl
    where
      go : (o : Option RingPart) → part_at a.view fr ≡ o → Goes (at_acceptor (λ r part b. applies_effects config r (effects r part b) b) o a)
      go None e = w
      go (Some p) e = acceptor_made fr p (λ r part. effects r part a) a rule e w

  tick_goes : (fr : RingId) (effects : Ring → Part → View → Effects) (a : StepSoFar) → AcceptorRule fr (λ r part. effects r part a.view) → Goes a → Goes (rules_for config fr effects a)
  tick_goes fr effects a rule w = go (part_at a.view fr) refl
    where
      go : (o : Option RingPart) → part_at a.view fr ≡ o → Goes (rules_at config effects o a)
      go None e = w
      go (Some p) e = acceptor_made fr p (λ r part. effects r part a.view) a rule e w

  -- ---- frames

  submit_goes : (fr : RingId) (hops : ℕ) (client : ClientId) (seq : ℕ) (command : List ℕ) → IsEntry (record { client = client; seq = seq; command = command })
      → Is fr.0 (record { client = client; seq = seq; command = command }) → (a : StepSoFar) → Goes a → Goes (handles_submit config fr hops client seq command a)
  submit_goes fr hops client seq command is asked a w = go (is_for config fr (command_of command))
    where
      go : (b : Bool) → Goes (if b then at_acceptor (λ r part b. applies_effects config r (submits r b.view.link part hops client seq command) b) (part_at a.view fr) a else a)
      go false = w
      go true = acceptor_goes fr (λ r part b. submits r b.view.link part hops client seq command) a
          (λ r part h acc. record {
            valid = valid_submits r h.number a.view.link part h.valid hops client seq command is;
            carries = submits_made Is Valid entry r a.view.link part hops client seq command (subst (λ (n : ℕ). Is n (record { client = client; seq = seq; command = command })) (sym h.same) asked) h.carries;
            fits = fits_submits r h.number fine id h.mine acc a.view.link part h.valid h.fits hops client seq command is;
          }) w

  after_trimmed : (fr : RingId) (trim : ℕ) (a : StepSoFar) → Goes a → Goes (recovers_if_trimmed config fr trim a)
  after_trimmed fr trim a w = leaves config numbered unique Is Valid known entry given fine id a (recovers_if_trimmed config fr trim a) (untouched_recovers_if_trimmed config fr trim a) (trimmed_act Is Valid given config fr trim a w.carries)
      (recovers_if_trimmed_keeps Is (given known) fine id config fr trim a (ground config numbered unique Is Valid known entry given fine id a w)) w

  trim_goes : (fr : RingId) (trim : ℕ) → IsInst trim → (a : StepSoFar) → Goes a → (o : Option RingPart) → part_at a.view fr ≡ o → Goes (handles_trim_at config fr trim o a)
  trim_goes fr trim is a w None e = w
  trim_goes fr trim is a w (Some p) e =
      after_trimmed fr trim (if is_acceptor p.ring then applies_effects config p.ring (trimmed p.ring a.view.link p.part trim) a else a)
      (acceptor_made fr p (λ r part. trimmed r a.view.link part trim) a
      (λ r part h acc. record {
        valid = valid_trimmed r h.number a.view.link part h.valid trim is;
        carries = trimmed_made Is Valid entry r a.view.link part trim h.carries;
        fits = fits_trimmed r h.number fine id h.mine acc a.view.link part h.valid h.fits trim is;
      }) e w)

  promise_goes : (from : NodeId) (fr : RingId) (ballot lo hi trim : ℕ) (votes : List Voted) → BodyValid (body.Promise fr ballot lo hi trim votes) → VotedCarry Is fr.0 votes → (a : StepSoFar) → Goes a
      → Goes (handles_body config from (body.Promise fr ballot lo hi trim votes) a)
  promise_goes from fr ballot lo hi trim votes is carry a w = go (part_at a.view fr) refl
    where
      by_test : (p : RingPart) → part_at a.view fr ≡ Some p → (b : Bool) → is_acceptor p.ring ≡ b
          → Goes (if b then recovers_if_trimmed config fr trim (applies_effects config p.ring (promised p.ring a.view.link p.part from ballot lo hi trim votes) a) else a)
      by_test p e false acc = w
      by_test p e true acc =
          let x = here fr a p e w in
          let h = x.0 in
          after_trimmed fr trim (applies_effects config p.ring (promised p.ring a.view.link p.part from ballot lo hi trim votes) a)
          (applies_whole config numbered unique Is Valid known entry given fine id p.ring x.1.of_ring (promised p.ring a.view.link p.part from ballot lo hi trim votes) a
          (record {
            valid = valid_promised p.ring h.number a.view.link p.part h.valid from ballot lo hi trim votes is.3 is.0 is.1 is.2;
            carries = promised_made Is Valid entry p.ring a.view.link p.part from ballot lo hi trim votes (subst (λ (n : ℕ). VotedCarry Is n votes) (sym h.same) carry) h.carries;
            fits = fits_promised p.ring h.number fine id h.mine acc a.view.link p.part h.valid h.fits from ballot lo hi trim votes is.3 is.0 is.1 is.2;
          }) w)

      go : (o : Option RingPart) → part_at a.view fr ≡ o
          → Goes (at_acceptor (λ r part b. recovers_if_trimmed config fr trim (applies_effects config r (promised r b.view.link part from ballot lo hi trim votes) b)) o a)
      go None e = w
      go (Some p) e = by_test p e (is_acceptor p.ring) refl

  body_goes : (from : NodeId) (b : Body) → BodyValid b → BodyCarries Is Valid b → BodyFits fine b → (a : StepSoFar) → Goes a → Goes (handles_body config from b a)
  body_goes from (body.Submit fr hops client seq command) is c f a w = submit_goes fr hops client seq command is c a w
  body_goes from (body.Prepare fr ballot lo) is c f a w =
      acceptor_goes fr (λ r part b. prepares r part from ballot lo) a
      (λ r part h acc. record {
        valid = valid_prepares r h.number part h.valid from ballot lo is;
        carries = prepares_made Is Valid r part from ballot lo h.carries;
        fits = fits_prepares r h.number fine id h.mine acc part h.valid h.fits from ballot lo is f.1;
      }) w
  body_goes from (body.Promise fr ballot lo hi trim votes) is c f a w = promise_goes from fr ballot lo hi trim votes is c a w
  body_goes from (body.Refuse fr ballot promise) is c f a w =
      acceptor_goes fr (λ r part b. refused r part ballot promise) a
      (λ r part h acc. record {
        valid = valid_refused r h.number part h.valid ballot promise;
        carries = refused_made Is Valid entry r part ballot promise h.carries;
        fits = fits_refused r h.number fine id h.mine acc part h.fits ballot promise;
      }) w
  body_goes from (body.Accept fr ballot lo hi mask value) is c f a w =
      acceptor_goes fr (λ r part b. accepts r b.view.link part ballot lo hi mask value) a
      (λ r part h acc. record {
        valid = valid_accepts r h.number a.view.link part h.valid ballot lo hi mask value is.0 is.1;
        carries = accepts_made Is Valid r a.view.link part ballot lo hi mask value (subst (λ (n : ℕ). ValueCarries Is n value) (sym h.same) c) h.carries;
        fits = fits_accepts r h.number fine id h.mine acc a.view.link part h.valid h.fits ballot lo hi mask value is.0 f.1;
      }) w
  body_goes from (body.Decide fr lo hi left value) is c f a w =
      member_goes fr (λ r part b. decided r b.view.link part lo hi left value) a
      (λ r part h. record {
        valid = valid_decided r h.number a.view.link part h.valid lo hi left value is;
        carries = decided_made Is Valid entry r a.view.link part lo hi left value (subst (λ (n : ℕ). ValueCarries Is n value) (sym h.same) c) h.carries;
        fits = fits_decided r h.number fine id h.mine a.view.link part h.fits lo hi left value f.1;
      }) w
  body_goes from (body.Fetch fr lo) is c f a w =
      acceptor_goes fr (λ r part b. fetches r part from lo) a
      (λ r part h acc. record {
        valid = valid_fetches r h.number part h.valid from lo;
        carries = fetches_made Is Valid r part from lo h.carries;
        fits = fits_fetches r h.number fine id h.mine acc part h.valid h.fits from lo;
      }) w
  body_goes from (body.Chosen fr ranges) is c f a w =
      member_goes fr (λ r part b. chosen r part ranges) a
      (λ r part h. record {
        valid = valid_chosen r h.number part h.valid ranges is;
        carries = chosen_made Is Valid entry r part ranges (subst (λ (n : ℕ). RangesCarry Is n ranges) (sym h.same) c) h.carries;
        fits = fits_chosen r h.number fine id h.mine part h.fits ranges;
      }) w
  body_goes from (body.Trimmed fr trim) is c f a w = trim_goes fr trim is a w (part_at a.view fr) refl
  body_goes from (body.TrimTo fr trim) is c f a w = trim_goes fr trim is a w (part_at a.view fr) refl
  body_goes from (body.AskSafe fr round) is c f a w =
      leaves config numbered unique Is Valid known entry given fine id a (handles_body config from (body.AskSafe fr round) a) (untouched_safe from fr round a) (safe_act Is Valid given from fr round (safe_of a.view fr a.view.service) a w.carries)
      (safe_keeps Is (given known) fine id from fr round a (ground config numbered unique Is Valid known entry given fine id a w)) w
  body_goes from (body.Safe fr round inst) is c f a w =
      acceptor_goes fr (λ r part b. answers r b.view.link part from round inst) a
      (λ r part h acc. record {
        valid = valid_answers r h.number a.view.link part h.valid from round inst is;
        carries = answers_made Is Valid entry r a.view.link part from round inst h.carries;
        fits = fits_answers r h.number fine id h.mine acc a.view.link part h.valid h.fits from round inst is;
      }) w
  body_goes from (body.AskCheckpoint epoch attempt) is c f a w =
      leaves config numbered unique Is Valid known entry given fine id a (handles_body config from (body.AskCheckpoint epoch attempt) a)
      (untouched_service (λ s. tells_checkpoint s from epoch attempt) (λ s b. untouched_tells s from epoch attempt b) a.view.service a)
      (service_act Is Valid given (λ s. tells_checkpoint s from epoch attempt) (λ s. tells_act Is Valid given s from epoch attempt) a.view.service a w.carries)
      (service_keeps Is (given known) fine id (λ s. tells_checkpoint s from epoch attempt) (λ s. tells_keep Is (given known) fine id s from epoch attempt f.0 f.1) a.view.service a (ground config numbered unique Is Valid known entry given fine id a w)) w
  body_goes from (body.HaveCheckpoint epoch attempt tuple) is c f a w =
      let g = ground config numbered unique Is Valid known entry given fine id a w in
      leaves config numbered unique Is Valid known entry given fine id a (handles_body config from (body.HaveCheckpoint epoch attempt tuple) a)
      (untouched_recovering (λ s now. answered_by config s now from epoch attempt tuple) (λ s now b. untouched_answered config s now from epoch attempt tuple b) a.view.service a)
      (recovering_act Is Valid given (λ s now. answered_by config s now from epoch attempt tuple) (λ s now. answered_act Is Valid given config s now from epoch attempt tuple) a.view.service w.carries.view.replica a w.carries)
      (recovering_keeps Is (given known) fine id (λ s now. answered_by config s now from epoch attempt tuple) (λ s now able going. answered_keeps Is (given known) fine id config s now from epoch attempt tuple able going) a.view.service g.replica g.fits.view.replica a g) w
  body_goes from (body.AskPart epoch attempt tuple offset) is c f a w =
      leaves config numbered unique Is Valid known entry given fine id a (handles_body config from (body.AskPart epoch attempt tuple offset) a)
      (untouched_service (λ s. tells_part config s from epoch attempt tuple offset) (λ s b. untouched_tells_part config s from epoch attempt tuple offset b) a.view.service a)
      (service_act Is Valid given (λ s. tells_part config s from epoch attempt tuple offset) (λ s. tells_part_act Is Valid given config s from epoch attempt tuple offset) a.view.service a w.carries)
      (service_keeps Is (given known) fine id (λ s. tells_part config s from epoch attempt tuple offset) (λ s. tells_part_keeps Is (given known) fine id config s from epoch attempt tuple offset f.0 f.2) a.view.service a (ground config numbered unique Is Valid known entry given fine id a w)) w
  body_goes from (body.Part epoch attempt tuple offset total bytes) is c f a w =
      let g = ground config numbered unique Is Valid known entry given fine id a w in
      leaves config numbered unique Is Valid known entry given fine id a (handles_body config from (body.Part epoch attempt tuple offset total bytes) a)
      (untouched_recovering (λ s now. takes_part config s now from epoch attempt tuple offset total bytes) (λ s now b. untouched_part config s now from epoch attempt tuple offset total bytes b) a.view.service a)
      (recovering_act Is Valid given (λ s now. takes_part config s now from epoch attempt tuple offset total bytes) (λ s now. part_act Is Valid given config s now from epoch attempt tuple offset total bytes c) a.view.service w.carries.view.replica a w.carries)
      (recovering_keeps Is (given known) fine id (λ s now. takes_part config s now from epoch attempt tuple offset total bytes)
      (λ s now able going. part_keeps Is (given known) fine id config s now from epoch attempt tuple offset total bytes (c known) f.2 f.3 f.4 able going) a.view.service g.replica g.fits.view.replica a g) w
  body_goes from (body.Gone epoch attempt asked newer) is c f a w =
      let g = ground config numbered unique Is Valid known entry given fine id a w in
      leaves config numbered unique Is Valid known entry given fine id a (handles_body config from (body.Gone epoch attempt asked newer) a)
      (untouched_recovering (λ s now. takes_gone config s now from epoch attempt asked newer) (λ s now b. untouched_gone config s now from epoch attempt asked newer b) a.view.service a)
      (recovering_act Is Valid given (λ s now. takes_gone config s now from epoch attempt asked newer) (λ s now. gone_act Is Valid given config s now from epoch attempt asked newer) a.view.service w.carries.view.replica a w.carries)
      (recovering_keeps Is (given known) fine id (λ s now. takes_gone config s now from epoch attempt asked newer) (λ s now able going. gone_keeps Is (given known) fine id config s now from epoch attempt asked newer able going) a.view.service g.replica g.fits.view.replica a g) w
  body_goes from (body.Reply client seq partition reply) is c f a w = w
  body_goes from body.Hello is c f a w = w

  pub from_goes : (from : Party) (b : Body) → BodyValid b → PartyCarries Is Valid from b → FrameFits fine from b → (a : StepSoFar) → Goes a → Goes (handles_from config from b a)
  from_goes (Node from) b is c f a w =
      let heard : StepSoFar = record a { view = record a.view { link = with_heard from.0 a.view.link } } in
      body_goes from b is c f heard (record {
        valid = record { own = w.valid.own; state = w.valid.state; parts = w.valid.parts; changes = w.valid.changes; frames = w.valid.frames; replies = w.valid.replies; lines = w.valid.lines };
        carries = record {
          view = record { state = w.carries.view.state; parts = w.carries.view.parts; replica = w.carries.view.replica; newest = w.carries.view.newest };
          changes = w.carries.changes;
          frames = w.carries.frames;
          replies = w.carries.replies;
          lines = w.carries.lines;
        };
        fits = record { view = record { parts = w.fits.view.parts; replica = w.fits.view.replica; newest = w.fits.view.newest }; frames = w.fits.frames; replies = w.fits.replies; epoch = w.fits.epoch };
      })
  from_goes (Client from) (body.Submit fr hops client seq command) is c f a w = submit_goes fr hops client seq command is c.2 a w
  from_goes (Client from) other is c f a w = w

  -- ---- an order to lead

  pub lead_goes : (fr : RingId) (a : StepSoFar) → Goes a → Goes (at_acceptor (λ r part b. applies_effects config r (leads r b.view.link part) b) (part_at a.view fr) a)
  lead_goes fr a w =
      acceptor_goes fr (λ r part b. leads r b.view.link part) a
      (λ r part h acc. record { valid = valid_leads r h.number a.view.link part h.valid; carries = leads_made Is Valid entry r a.view.link part h.carries; fits = fits_leads r h.number fine id h.mine acc a.view.link part h.valid h.fits }) w

  -- ---- a beat

  ring_goes : (active again trims : Bool) (fr : RingId) (a : StepSoFar) → Goes a → Goes (ticks_ring config active again trims fr a)
  ring_goes active again trims fr a w =
      let one : StepSoFar = rules_for config fr (λ r part view. starts_on_tick r view.link part) a in
      let two : StepSoFar = (if again && active then rules_for config fr (λ r part view. resends r view.link part) else (λ b. b)) one in
      let three : StepSoFar = (if trims then rules_for config fr (λ r part view. asks_round r view.link part (safe_of view fr view.service)) else (λ b. b)) two in
      tick_goes fr (λ r part view. levels r view.link part) three
      (λ r part h acc. record { valid = valid_levels r h.number three.view.link part h.valid; carries = levels_made Is Valid entry r three.view.link part h.carries; fits = fits_levels r h.number fine id h.mine acc three.view.link part h.valid h.fits })
      (asked trims two
      (resent (again && active) one
      (tick_goes fr (λ r part view. starts_on_tick r view.link part) a
      (λ r part h acc. record { valid = valid_starts r h.number a.view.link part h.valid; carries = starts_made Is Valid entry r a.view.link part h.carries; fits = fits_starts r h.number fine id h.mine acc a.view.link part h.valid h.fits }) w)))
    where
      resent : (b : Bool) (now : StepSoFar) → Goes now → Goes ((if b then rules_for config fr (λ r part view. resends r view.link part) else (λ x. x)) now)
      resent false now v = v
      resent true now v = tick_goes fr (λ r part view. resends r view.link part) now
          (λ r part h acc. record { valid = valid_resends r h.number now.view.link part h.valid; carries = resends_made Is Valid entry r now.view.link part h.carries; fits = fits_resends r h.number fine id h.mine acc now.view.link part h.fits }) v

      asked : (b : Bool) (now : StepSoFar) → Goes now → Goes ((if b then rules_for config fr (λ r part view. asks_round r view.link part (safe_of view fr view.service)) else (λ x. x)) now)
      asked false now v = v
      asked true now v =
          tick_goes fr (λ r part view. asks_round r view.link part (safe_of view fr view.service)) now
          (λ r part h acc. record {
            valid = valid_asks_round r h.number now.view.link part h.valid (safe_of now.view fr now.view.service) (safe_is_inst now.view fr now.view.service);
            carries = asks_round_made Is Valid entry r now.view.link part (safe_of now.view fr now.view.service) h.carries;
            fits = fits_asks_round r h.number fine id h.mine acc now.view.link part h.valid h.fits (safe_of now.view fr now.view.service) (safe_is_inst now.view fr now.view.service);
          }) v

  rings_go : (again trims : Bool) (parts : List RingPart) (a : StepSoFar) → Goes a → Goes (ticks_rings config again trims parts a)
  rings_go again trims [] a w = w
  rings_go again trims (p ∷ parts) a w =
      rings_go again trims parts (ticks_ring config (is_active p.part.coordinator) again trims p.ring.id a) (ring_goes (is_active p.part.coordinator) again trims p.ring.id a w)

  pub beats_go : (parts : List RingPart) (beat : ℕ) (again : Bool) (a : StepSoFar) → Goes a → Goes (beats_with config parts beat again a)
  beats_go parts beat again a w =
      let one : StepSoFar = recovery_ticks_at config again a.view.service a in
      let g = ground config numbered unique Is Valid known entry given fine id a w in
      on_beat again (ticks_rings config again (beat % config.trim == 0) parts one)
      (rings_go again (beat % config.trim == 0) parts one
      (leaves config numbered unique Is Valid known entry given fine id a one (untouched_recovery config again a.view.service a) (recovery_act Is Valid given config again a.view.service w.carries.view.replica a w.carries)
      (recovery_keeps Is (given known) fine id config again a.view.service g.replica g.fits.view.replica a g) w))
    where
      on_beat : (b : Bool) (now : StepSoFar) → Goes now → Goes ((if b then asks_on_beat config (beat / config.resend) else (λ x. x)) now)
      on_beat false now v = v
      on_beat true now v = leaves config numbered unique Is Valid known entry given fine id now (asks_on_beat config (beat / config.resend) now) (untouched_beat config (beat / config.resend) now) (beat_act Is Valid given config (beat / config.resend) now v.carries)
          (beat_keeps Is (given known) fine id config (beat / config.resend) now (ground config numbered unique Is Valid known entry given fine id now v)) v
