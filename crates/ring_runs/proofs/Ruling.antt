-- The rules, of histories that stand for worlds of the machine: from what such a history shows, and the machine's rules alone.
use Rattle.std.proofs.Common.{◌≡◌, ◌⊎◌, inl, inr, ℕ, suc, ◌<◌, ◌≤◌, true, List, Option, Some, None, refl, sym, ◌∙◌, ap, subst, arith}
use Rattle.mrp_types.specs.declared.id.NodeId.{NodeId}
use Rattle.mrp_types.specs.declared.value.Value.{Value}
use Rattle.mrp_types.specs.declared.voted.Decided.{Decided}
use Rattle.mrp_types.specs.declared.voted.Voted.{Voted}
use Rattle.mrp_config.specs.Config.{Config}
use Rattle.mrp_config.specs.declared.tables.RingTable.{RingTable}
use Rattle.frames.specs.declared.body.Body.TheVariants as body
use Rattle.quorums.specs.Groups.{Has}
use Rattle.range_map.specs.Entries.{value_at}
use Rattle.vote_state.specs.declared.cast.Cast.{Cast}
use Rattle.vote_state.specs.declared.change.Change.TheVariants as change
use Rattle.vote_state.specs.Ranges.{cast_at}
use Rattle.vote_state.specs.State.{State, ring_at}
use Rattle.ring_safety.specs.Deeds as deeds
use Rattle.ring_safety.specs.Faces.{Face, Promise, Vote, rank, owner}
use Rattle.ring_safety.specs.Invariant.{Local, Sound}
use Rattle.ring_safety.specs.Rules.{Grows}
use Rattle.ring_safety.specs.Rules as rules
use Rattle.ring_safety.specs.Worlds.{IsFaceOf, Chosen, durables}
use Rattle.ring_safety.specs.Worlds as machine
use Rattle.ring_safety.proofs.Choosing.{all_for, one_chosen}
use Rattle.ring_safety.proofs.Rules.{Chosen-more, keeps_vote}
use Rattle.ring_safety.proofs.Worlds.{either_face}
use Rattle.ring_reach.specs.Reach.{proposal}
use Rattle.ring_kept.specs.Kept.{told_of}
use Rattle.protocol.specs.Lines.{Learn}
use Rattle.protocol.specs.Node.{Work}
use Rattle.protocol.specs.Rings.{ring_of}
use Rattle.ring_tables.specs.Ties.{AcceptSaid, IsRangeChosen, IsRecorded, IsTold, PromiseSaid, IsToldIn, IsVotedIn}
use Rattle.beside_rings.specs.Beside.{changes_in}
use Rattle.ring_steps.specs.Stands.{ViewStands}
use Rattle.bare_world.specs.Worlds.{Host}
use Rattle.ring_runs.specs.Histories.{History}
use Rattle.ring_runs.specs.Rules.{IsToldUpTo, PromiseRule, IsHeldUpTo, KeepsVote, AreCast, VoteRule, DoneRule, HasPromised, Backs, ProposeRule, ChooseRule, OneValueRule, LearnRule, AddsNoneBelow, StartRule}
use Rattle.ring_runs.specs.Seats.{acceptors, acceptor_at, nobody, position_or, seat, IsDeployed}
use Rattle.ring_runs.specs.Standing.{HostStands, ReadStands, Tied, WorkStands, WorldStands}
use Rattle.ring_runs.specs.Votes.{HasCast, IsInStopped, HasSent, HasVoted, IsChosen, IsProposed, MayKeep}
use Rattle.ring_runs.proofs.Adding.{Adds, BothAdd, both_run, reached_adds}
use Rattle.ring_runs.proofs.Growing.{later_grows, one_of}
use Rattle.ring_runs.proofs.Reading.{Shown, shown, sent_said, cast_there, was_cast, was_cast_at, voted_there, offered, vote_proposed, is_chosen, chosen_there}
use Rattle.ring_runs.proofs.Static.{seat_at}

told_up_to : (o : Option Cast) (votes : List Voted) (i ballot : ℕ) → cast_at i votes ≡ o → ballot < rank (told_of o) → IsToldUpTo votes i ballot
told_up_to None votes i ballot e lt = absurd (omega arith)
told_up_to (Some told) votes i ballot e lt = record { told = told; there = e; below = omega arith }

-- ---- rules of one history

module _ (config : Config) (table : RingTable) (d : IsDeployed config table) (w : machine.World Value) (sound : Sound (acceptors table) w) (h : History) (t : WorldStands config table w h) where
  -- the pending face of the owner backs each proposal
  backed_at : (ballot i : ℕ) (value : Value) → IsProposed table h ballot i value
      → rules.Backed (acceptors table) (durables w) (owner (acceptors table) ballot) (w (owner (acceptors table) ballot)).pending (proposal ballot i value)
  backed_at ballot i value p = (sound.pending (owner (acceptors table) ballot)).backed (proposal ballot i value) (offered config table d w sound h t ballot i value p)

  module _ (ballot i : ℕ) (value : Value) (p : IsProposed table h ballot i value) where
    back : rules.Backed (acceptors table) (durables w) (owner (acceptors table) ballot) (w (owner (acceptors table) ballot)).pending (proposal ballot i value)
    back = backed_at ballot i value p

    -- a member's promise stands in its pending face
    said_there : (k : ℕ) (q : Promise Value) → deeds.IsPromised (durables w) (owner (acceptors table) ballot) (w (owner (acceptors table) ballot)).pending k q → Has (w k).pending.promises q
    said_there k q (inl has) = (sound.pending k).grown.promises q has
    said_there k q (inr own) = subst (λ (x : ℕ). Has (w x).pending.promises q) (sym own.0) own.1

    -- a member's vote of a lower ballot is outdone by what its promise told
    told_there : (k : ℕ) → k < acceptors table → back.backing.members k ≡ true → (below : ℕ) (other : Value) → HasVoted table h (acceptor_at table k) below i other → below < ballot
        → below < rank ((back.backing.promise k).told i)
    told_there k lt is below other v less =
        let q : Promise Value = back.backing.promise k in
        let serves = back.backing.serves k lt is in
        let same : (back.backing.promise k).ballot ≡ ballot = serves.of_ballot in
        let cast : Has (w k).pending.casts (proposal below i other) =
        subst (λ (x : ℕ). Has (w x).pending.casts (proposal below i other)) (seat_at config table d k lt) (voted_there config table d w sound h t (acceptor_at table k) below i other v) in
        (sound.pending k).outdone (back.backing.promise k) (said_there k (back.backing.promise k) (back.backing.made k lt is)) (proposal below i other) cast (omega arith)
        serves.from_low serves.to_high serves.untrimmed

    -- a member's promise was sent in a frame, or it is the owner's own
    promised : (k : ℕ) → k < acceptors table → back.backing.members k ≡ true
        → HasPromised table h (acceptor_at table k) ballot i ((back.backing.promise k).told i) ⊎ (k ≡ owner (acceptors table) ballot)
    promised k lt is = go (back.backing.made k lt is)
      where
        sent : (owner (acceptors table) (back.backing.promise k).ballot ≡ seat table (acceptor_at table k)) ⊎ IsToldIn (ring_of config (acceptor_at table k) table) h.world.frames (back.backing.promise k)
            → HasPromised table h (acceptor_at table k) ballot i ((back.backing.promise k).told i) ⊎ (k ≡ owner (acceptors table) ballot)
        sent (inl own) =
            let same : (back.backing.promise k).ballot ≡ ballot = (back.backing.serves k lt is).of_ballot in
            inr (sym (seat_at config table d k lt) ∙ sym own ∙ ap (λ (b : ℕ). owner (acceptors table) b) same)
        sent (inr s) =
            let serves = back.backing.serves k lt is in
            let same : (back.backing.promise k).ballot ≡ ballot = serves.of_ballot in
            let body_is : s.sent.frame.body ≡ body.Promise table.id ballot (back.backing.promise k).low (back.backing.promise k).high (back.backing.promise k).trim s.votes =
            s.same ∙ ap (λ (b : ℕ). body.Promise table.id b (back.backing.promise k).low (back.backing.promise k).high (back.backing.promise k).trim s.votes) same in
            inl (record {
              lo = (back.backing.promise k).low;
              hi = (back.backing.promise k).high;
              trim = (back.backing.promise k).trim;
              votes = s.votes;
              sent = record { sent = s.sent; there = s.there; by = s.by; same = body_is };
              low = serves.from_low;
              high = serves.to_high;
              untrimmed = serves.untrimmed;
              reports = s.tells i;
            })

        go : deeds.IsPromised (durables w) (owner (acceptors table) ballot) (w (owner (acceptors table) ballot)).pending k (back.backing.promise k)
            → HasPromised table h (acceptor_at table k) ballot i ((back.backing.promise k).told i) ⊎ (k ≡ owner (acceptors table) ballot)
        go (inl has) =
            let serves = back.backing.serves k lt is in
            let low : (back.backing.promise k).low ≤ i = serves.from_low in
            let high : i < (back.backing.promise k).high = serves.to_high in
            sent (t.told (acceptor_at table k) (back.backing.promise k)
            (subst (λ (x : ℕ). Has (durables w x).promises (back.backing.promise k)) (sym (seat_at config table d k lt)) has) (omega arith))
        go (inr own) = inr own.0

    -- and what it told was cast, or its own step that was stopped has recorded it
    reported : (k : ℕ) → k < acceptors table → back.backing.members k ≡ true → (vote : Vote Value) → (back.backing.promise k).told i ≡ Some vote
        → HasCast table h (acceptor_at table k) vote.ballot i vote.value
        ⊎ ((k ≡ owner (acceptors table) ballot) × IsInStopped table h (acceptor_at table k) vote.ballot i vote.value)
    reported k lt is vote e = go (back.backing.made k lt is)
      where
        beyond : k ≡ owner (acceptors table) ballot
            → Has (durables w (seat table (acceptor_at table k))).casts (proposal vote.ballot i vote.value)
            ⊎ IsVotedIn table.id (changes_in (h.stopped (acceptor_at table k).0)) (proposal vote.ballot i vote.value)
            → HasCast table h (acceptor_at table k) vote.ballot i vote.value
            ⊎ ((k ≡ owner (acceptors table) ballot) × IsInStopped table h (acceptor_at table k) vote.ballot i vote.value)
        beyond own (inl has) = inl (was_cast config table d w sound h t (acceptor_at table k) vote.ballot i vote.value has)
        beyond own (inr v) = inr (own, record { vote = v.vote; recorded = v.there; from = v.from; to = v.to; of_ballot = v.of_ballot; of_value = v.of_value })

        go : deeds.IsPromised (durables w) (owner (acceptors table) ballot) (w (owner (acceptors table) ballot)).pending k (back.backing.promise k)
            → HasCast table h (acceptor_at table k) vote.ballot i vote.value
            ⊎ ((k ≡ owner (acceptors table) ballot) × IsInStopped table h (acceptor_at table k) vote.ballot i vote.value)
        go (inl has) =
            inl (was_cast_at config table d w sound h t k vote.ballot i vote.value lt ((sound.durable k).told_cast (back.backing.promise k) has i vote e))
        go (inr own) =
            let cast : Has (w k).pending.casts (proposal vote.ballot i vote.value) =
            (sound.pending k).told_cast (back.backing.promise k) (said_there k (back.backing.promise k) (inr own)) i vote e in
            beyond own.0 (t.beyond (acceptor_at table k) (proposal vote.ballot i vote.value)
            (subst (λ (x : ℕ). Has (w x).pending.casts (proposal vote.ballot i vote.value)) (sym (seat_at config table d k lt)) cast))

    backs : Backs table h ballot i value
    backs = record {
      members = back.backing.members;
      majority = back.backing.majority;
      report = λ k. (back.backing.promise k).told i;
      promised = promised;
      cast = reported;
      lower = back.lower;
      outdone = told_there;
      due = back.backing.due;
    }

  pub propose_rule : ProposeRule table h
  propose_rule = record {
    one = λ ballot i u v p q.
        (sound.pending (owner (acceptors table) ballot)).one_value (proposal ballot i u) (offered config table d w sound h t ballot i u p) (proposal ballot i v)
        (offered config table d w sound h t ballot i v q) refl refl;
    backed = backs;
  }

  range_chosen : (range : Decided) → IsRangeChosen (acceptors table) (durables w) range → (i : ℕ) → range.lo ≤ i → i < range.hi → IsChosen table h i range.value
  range_chosen range c i from to = is_chosen config table d w sound h t i range.value (c i from to)

  pub learn_rule : LearnRule table h
  learn_rule = record {
    decide = λ id lo hi left value sent. range_chosen (record { lo = lo; hi = hi; value = value }) (sent_said config table d w sound h t id (body.Decide table.id lo hi left value) sent refl);
    chosen = λ id ranges sent range has.
        range_chosen range (one_of (IsRangeChosen (acceptors table) (durables w)) ranges range has (sent_said config table d w sound h t id (body.Chosen table.id ranges) sent refl));
    learner = λ id view up p there i value e.
        let stands : ViewStands (ring_of config id table) (durables w) (w (seat table id)).durable view =
        subst (λ (x : Host). HostStands config table w id (h.stopped id.0) x) up (t.hosts id) in
        is_chosen config table d w sound h t i value ((stands.part p there).ties.learner.chosen i value e);
    line = λ id lo hi value has.
        let told : IsTold (ring_of config nobody table) (durables w) (Learn id table.id lo hi value) =
        one_of (IsTold (ring_of config nobody table) (durables w)) h.world.lines (Learn id table.id lo hi value) has t.lines in
        range_chosen (record { lo = lo; hi = hi; value = value }) (told refl);
  }

  masks : (id : NodeId) (ballot lo hi mask : ℕ) (value : Value) → HasSent h id (body.Accept table.id ballot lo hi mask value) → AreCast table h ballot lo hi mask value
  masks id ballot lo hi mask value sent k bit =
      let said : AcceptSaid (acceptors table) (durables w) ballot lo hi mask value = sent_said config table d w sound h t id (body.Accept table.id ballot lo hi mask value) sent refl in
      let low = said.member k bit in
      (low, λ i from to. was_cast_at config table d w sound h t k ballot i value low (said.cast k i bit from to))

  held : (id : NodeId) (state : State) → MayKeep (h.world.hosts id.0) state → (i : ℕ) (vote : Cast) → value_at i (ring_at state table.id).votes ≡ Some vote
      → (vote.ballot ≤ (ring_at state table.id).promise) × ((ring_at state table.id).trim ≤ i)
  held id state keeps i vote e =
      let s : Shown table w id state = shown config table d w sound h t id state keeps in
      let local : Local (acceptors table) (durables w) (seat table id) s.face = either_face (acceptors table) w sound (seat table id) s.face s.is in
      let v : s.face.votes i ≡ Some (record { ballot = vote.ballot; value = vote.value }) = s.ties.votes i ∙ ap (λ (o : Option Cast). told_of o) e in
      let promised = local.held_promised i (record { ballot = vote.ballot; value = vote.value }) v in
      let untrimmed = local.held_untrimmed i (record { ballot = vote.ballot; value = vote.value }) v in
      let promise : s.face.promise ≡ (ring_at state table.id).promise = s.ties.promise in
      let trim : s.face.trim ≡ (ring_at state table.id).trim = s.ties.trim in
      (omega arith, omega arith)

-- ---- rules of an earlier and a later history

module _ (config : Config) (table : RingTable) (d : IsDeployed config table) (from : machine.World Value) (early late : History)
    (t : Tied config table from early) (after : Tied config table t.machine_world late) where
  more : (k : ℕ) → Grows (durables t.machine_world k) (durables after.machine_world k)
  more = later_grows (acceptors table) t.machine_world after.machine_world t.sound after.later

  shown_late : (id : NodeId) (state : State) → MayKeep (late.world.hosts id.0) state → Shown table after.machine_world id state
  shown_late = shown config table d after.machine_world after.sound late after.stands

  pub promise_rule : PromiseRule table early late
  promise_rule id ballot lo hi trim votes member sent =
      let said : PromiseSaid (durables t.machine_world member.position) ballot lo hi trim votes =
      sent_said config table d t.machine_world t.sound early t.stands id (body.Promise table.id ballot lo hi trim votes) sent refl member.position member.there in
      let here : seat table id ≡ member.position = ap (λ o. position_or (acceptors table) id o) member.there in
      let made : Has (durables after.machine_world (seat table id)).promises said.promise =
      (more (seat table id)).promises said.promise (subst (λ (x : ℕ). Has (durables t.machine_world x).promises said.promise) (sym here) said.made) in
      let same : said.promise.ballot ≡ ballot = said.of_ballot in
      record {
        promised = λ state keeps.
            let s : Shown table after.machine_world id state = shown_late id state keeps in
            let local : Local (acceptors table) (durables after.machine_world) (seat table id) s.face = either_face (acceptors table) after.machine_world after.sound (seat table id) s.face s.is in
            let low : said.promise.ballot ≤ s.face.promise = local.promised said.promise (local.grown.promises said.promise made) in
            let face : s.face.promise ≡ (ring_at state table.id).promise = s.ties.promise in
            omega arith;
        outdone = λ lower i value from to above v less.
            let from_low : said.promise.low ≡ lo = said.low in
            let to_high : said.promise.high ≡ hi = said.high in
            let trimmed : said.promise.trim ≡ trim = said.trimmed in
            let local : Local (acceptors table) (durables after.machine_world) (seat table id) (after.machine_world (seat table id)).pending = after.sound.pending (seat table id) in
            let cast : Has (after.machine_world (seat table id)).pending.casts (proposal lower i value) =
            voted_there config table d after.machine_world after.sound late after.stands id lower i value v in
            let out = local.outdone said.promise (local.grown.promises said.promise made) (proposal lower i value) cast (omega arith) (omega arith) (omega arith) (omega arith) in
            told_up_to (cast_at i votes) votes i lower refl (subst (λ (o : Option (Vote Value)). lower < rank o) (said.told i) out);
      }

  held_up_to : (f : Face Value) (ballot i : ℕ) (value : Value) (o : Option Cast) → f.votes i ≡ told_of o → rules.KeepsVote f (proposal ballot i value) → (i < f.trim) ⊎ IsHeldUpTo ballot value o
  held_up_to f ballot i value None e k = go k.kept
    where
      go : (i < f.trim) ⊎ (ballot < rank (f.votes i)) → (i < f.trim) ⊎ ⊥
      go (inl below) = inl below
      go (inr lt) = let zero = ap (λ (o : Option (Vote Value)). rank o) e in absurd (omega arith)
  held_up_to f ballot i value (Some held) e k = go k.kept
    where
      go : (i < f.trim) ⊎ (ballot < rank (f.votes i)) → (i < f.trim) ⊎ ((ballot ≤ held.ballot) × (ballot ≡ held.ballot → value ≡ held.value))
      go (inl below) = inl below
      go (inr lt) =
          let is = ap (λ (o : Option (Vote Value)). rank o) e in
          inr (omega arith, λ same. sym (k.same (record { ballot = held.ballot; value = held.value }) e (sym same)))

  cast_kept : (id : NodeId) (ballot i : ℕ) (value : Value) → HasCast table early id ballot i value → (state : State) → MayKeep (late.world.hosts id.0) state → KeepsVote table ballot i value state
  cast_kept id ballot i value c state keeps =
      let s : Shown table after.machine_world id state = shown_late id state keeps in
      let local : Local (acceptors table) (durables after.machine_world) (seat table id) s.face = either_face (acceptors table) after.machine_world after.sound (seat table id) s.face s.is in
      let cast : Has s.face.casts (proposal ballot i value) =
      local.grown.casts (proposal ballot i value) ((more (seat table id)).casts (proposal ballot i value) (cast_there config table d t.machine_world t.sound early t.stands id ballot i value c)) in
      let kept : rules.KeepsVote s.face (proposal ballot i value) = keeps_vote (acceptors table) after.machine_world after.sound (seat table id) s.face s.is (proposal ballot i value) cast in
      let low : ballot ≤ s.face.promise = kept.promised in
      let face : s.face.promise ≡ (ring_at state table.id).promise = s.ties.promise in
      let trim : s.face.trim ≡ (ring_at state table.id).trim = s.ties.trim in
      record {
        promised = omega arith;
        kept = subst (λ (x : ℕ). (i < x) ⊎ IsHeldUpTo ballot value (value_at i (ring_at state table.id).votes)) trim
            (held_up_to s.face ballot i value (value_at i (ring_at state table.id).votes) (s.ties.votes i) kept);
      }

  pub vote_rule : VoteRule table early late
  vote_rule = record {
    proposed = vote_proposed config table d after.machine_world after.sound late after.stands;
    masks = masks config table d after.machine_world after.sound late after.stands;
    held = held config table d after.machine_world after.sound late after.stands;
    kept = cast_kept;
  }

  pub done_rule : DoneRule table early late
  done_rule = record {
    works = λ id work has. one_of (λ (e : NodeId × Work). Has early.done e) early.world.works (id, work) has t.stands.works;
    read = λ id state has i vote e.
        let r : ReadStands table t.machine_world (id, state) = one_of (ReadStands table t.machine_world) early.world.read (id, state) has t.stands.read in
        was_cast config table d t.machine_world t.sound early t.stands id vote.ballot i vote.value (r.cast i vote e);
    promised = λ id work ballot has recorded state keeps.
        let s : Shown table after.machine_world id state = shown_late id state keeps in
        let all : WorkStands table t.machine_world (id, work) = one_of (WorkStands table t.machine_world) early.done (id, work) has t.stands.done in
        let low : ballot ≤ (durables t.machine_world (seat table id)).promise =
        one_of (IsRecorded table.id (durables t.machine_world (seat table id))) (changes_in work) (change.Promise table.id ballot) recorded all refl in
        let up = (more (seat table id)).promise in
        let on = (either_face (acceptors table) after.machine_world after.sound (seat table id) s.face s.is).grown.promise in
        let face : s.face.promise ≡ (ring_at state table.id).promise = s.ties.promise in
        omega arith;
    trimmed = λ id work inst has recorded state keeps.
        let s : Shown table after.machine_world id state = shown_late id state keeps in
        let all : WorkStands table t.machine_world (id, work) = one_of (WorkStands table t.machine_world) early.done (id, work) has t.stands.done in
        let low : inst ≤ (durables t.machine_world (seat table id)).trim =
        one_of (IsRecorded table.id (durables t.machine_world (seat table id))) (changes_in work) (change.Trim table.id inst) recorded all refl in
        let up = (more (seat table id)).trim in
        let on = (either_face (acceptors table) after.machine_world after.sound (seat table id) s.face s.is).grown.trim in
        let face : s.face.trim ≡ (ring_at state table.id).trim = s.ties.trim in
        omega arith;
    kept = λ id before has state keeps.
        let s : Shown table after.machine_world id state = shown_late id state keeps in
        let r : ReadStands table t.machine_world (id, before) = one_of (ReadStands table t.machine_world) early.world.read (id, before) has t.stands.read in
        let low = r.promise in
        let low_trim = r.trim in
        let up : Grows (durables t.machine_world (seat table id)) (durables after.machine_world (seat table id)) = more (seat table id) in
        let up_promise = up.promise in
        let up_trim = up.trim in
        let on = (either_face (acceptors table) after.machine_world after.sound (seat table id) s.face s.is).grown in
        let on_promise = on.promise in
        let on_trim = on.trim in
        let face : s.face.promise ≡ (ring_at state table.id).promise = s.ties.promise in
        let face_trim : s.face.trim ≡ (ring_at state table.id).trim = s.ties.trim in
        (omega arith, omega arith);
  }

  pub choose_rule : ChooseRule table early late
  choose_rule ballot i value c higher other le p =
      let chosen : Chosen (acceptors table) (durables after.machine_world) (proposal ballot i value) =
      Chosen-more (acceptors table) (durables t.machine_world) (durables after.machine_world) more (proposal ballot i value)
      (chosen_there config table d t.machine_world t.sound early t.stands ballot i value c) in
      all_for (acceptors table) (durables after.machine_world) after.sound.durable (proposal ballot i value) chosen (suc higher) (owner (acceptors table) higher)
      (after.machine_world (owner (acceptors table) higher)).pending (after.sound.pending (owner (acceptors table) higher)) (proposal higher i other)
      (offered config table d after.machine_world after.sound late after.stands higher i other p) refl le (omega arith)

  pub one_value_rule : OneValueRule table early late
  one_value_rule i u v c e =
      one_chosen (acceptors table) (durables after.machine_world) after.sound.durable (proposal c.ballot i u) (proposal e.ballot i v)
      (Chosen-more (acceptors table) (durables t.machine_world) (durables after.machine_world) more (proposal c.ballot i u)
      (chosen_there config table d t.machine_world t.sound early t.stands c.ballot i u c.chosen))
      (chosen_there config table d after.machine_world after.sound late after.stands e.ballot i v e.chosen) refl

-- ---- what is added to an earlier history that a run reaches from nothing

module _ (config : Config) (table : RingTable) (d : IsDeployed config table) (early late : History)
    (t : Tied config table machine.empty early) (after : Tied config table t.machine_world late) where
  adds : (k : ℕ) → Adds (durables t.machine_world k) (after.machine_world k).pending
  adds k =
      let first : BothAdd (t.machine_world k).durable (t.machine_world k) =
      subst (λ (x : machine.World Value). BothAdd (x k).durable (x k)) t.later.is (reached_adds (acceptors table) t.later.events t.later.can k) in
      let second : BothAdd (t.machine_world k).durable (after.machine_world k) =
      subst (λ (x : machine.World Value). BothAdd (t.machine_world k).durable (x k)) after.later.is
      (both_run (acceptors table) (t.machine_world k).durable k t.machine_world first after.later.events after.later.can) in
      second.pending

  none_below : (id : NodeId) (ballot : ℕ) → ballot ≤ (durables t.machine_world (seat table id)).promise → AddsNoneBelow table early late id ballot
  none_below id ballot low lower i value v less =
      go ((adds (seat table id)).casts (proposal lower i value) (voted_there config table d after.machine_world after.sound late after.stands id lower i value v))
    where
      go : Has (durables t.machine_world (seat table id)).casts (proposal lower i value) ⊎ ((durables t.machine_world (seat table id)).promise ≤ lower) → HasCast table early id lower i value
      go (inl has) = was_cast config table d t.machine_world t.sound early t.stands id lower i value has
      go (inr le) = absurd (omega arith)

  pub start_rule : StartRule table early late
  start_rule = record {
    recorded = λ id work ballot has recorded.
        let all : WorkStands table t.machine_world (id, work) = one_of (WorkStands table t.machine_world) early.done (id, work) has t.stands.done in
        none_below id ballot
        (one_of (IsRecorded table.id (durables t.machine_world (seat table id))) (changes_in work) (change.Promise table.id ballot) recorded all refl);
    read = λ id state has.
        let r : ReadStands table t.machine_world (id, state) = one_of (ReadStands table t.machine_world) early.world.read (id, state) has t.stands.read in
        none_below id (ring_at state table.id).promise r.promise;
  }
