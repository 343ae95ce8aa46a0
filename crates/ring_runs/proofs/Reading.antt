-- What a history that stands for a world of the machine shows: states are faces, and votes and proposals are the machine's.
use Rattle.std.proofs.Common.{◌≡◌, inl, inr, ℕ, ◌<◌, Option, Some, refl, sym, ◌∙◌, ap, subst}
use Rattle.std.proofs.Math.Nat.{mod-lt}
use Rattle.mrp_types.specs.declared.id.NodeId.{NodeId}
use Rattle.mrp_types.specs.declared.id.Party.{Party}
use Rattle.mrp_types.specs.declared.id.Party.TheVariants.{Node}
use Rattle.mrp_types.specs.declared.value.Value.{Value}
use Rattle.mrp_config.specs.Config.{Config}
use Rattle.mrp_config.specs.declared.tables.RingTable.{RingTable}
use Rattle.frames.specs.declared.body.Body.{Body}
use Rattle.frames.specs.declared.body.Body.TheVariants as body
use Rattle.quorums.specs.Groups.{Has}
use Rattle.vote_state.specs.declared.cast.Cast.{Cast}
use Rattle.vote_state.specs.declared.change.Change.TheVariants as change
use Rattle.vote_state.specs.State.{State, ring_at}
use Rattle.ring_safety.specs.Faces.{Face, owner}
use Rattle.ring_safety.specs.Invariant.{Local, Sound}
use Rattle.ring_safety.specs.Worlds.{IsFaceOf, Chosen, durables}
use Rattle.ring_safety.specs.Worlds as machine
use Rattle.ring_safety.specs.Deeds as deeds
use Rattle.ring_safety.proofs.Rules.{in_owner, in_pending}
use Rattle.ring_safety.proofs.Worlds.{either_face}
use Rattle.ring_reach.specs.Reach.{proposal}
use Rattle.ring_kept.specs.Kept.{told_of, KeptTies}
use Rattle.protocol.specs.Rings.{ring_of}
use Rattle.ring_tables.specs.Ties.{AcceptSaid, BodySaid, SaidBy, IsSaid, IsRecorded}
use Rattle.ring_tables.specs.Ties as ties
use Rattle.beside_rings.specs.Beside.{changes_in}
use Rattle.bare_world.specs.Worlds.{Host, Up, Down}
use Rattle.ring_runs.specs.Histories.{History}
use Rattle.ring_runs.specs.Seats.{acceptors, acceptor_at, nobody, seat, IsDeployed}
use Rattle.ring_runs.specs.Standing.{IsDoneBy, HostStands, WorkStands, WorldStands}
use Rattle.ring_runs.specs.Votes.{MayKeep, HasSent, HasCast, HasVoted, IsProposed, IsChosenIn, IsChosen}
use Rattle.ring_runs.proofs.Growing.{one_of}
use Rattle.ring_runs.proofs.Static.{acceptor_seat, seat_at, low_seat}

-- a possible state, and the face that it stands for
pub record Shown (table : RingTable) (w : machine.World Value) (id : NodeId) (state : State) : Type 0 where
  pub face : Face Value
  pub is : IsFaceOf w (seat table id) face
  pub ties : KeptTies face (ring_at state table.id)

module _ (config : Config) (table : RingTable) (d : IsDeployed config table) (w : machine.World Value) (sound : Sound (acceptors table) w) (h : History) (t : WorldStands config table w h) where
  pub shown : (id : NodeId) (state : State) → MayKeep (h.world.hosts id.0) state → Shown table w id state
  shown id state keeps = go (h.world.hosts id.0) (t.hosts id) keeps
    where
      durable : (kept : State) → state ≡ kept → KeptTies (w (seat table id)).durable (ring_at kept table.id) → Shown table w id state
      durable kept e k = record { face = (w (seat table id)).durable; is = inl refl; ties = subst (λ (s : State). KeptTies (w (seat table id)).durable (ring_at s table.id)) (sym e) k }

      go : (host : Host) → HostStands config table w id (h.stopped id.0) host → MayKeep host state → Shown table w id state
      go (Up view) s e = durable view.journal.state e s.kept
      go (Down before after) s (inl e) = durable before.state e s.durable_ties
      go (Down before after) s (inr e) =
          record { face = (w (seat table id)).pending; is = inr refl; ties = subst (λ (s : State). KeptTies (w (seat table id)).pending (ring_at s table.id)) (sym e) s.pending_ties }

  -- what a frame said
  pub sent_said : (id : NodeId) (b : Body) → HasSent h id b → BodySaid (ring_of config nobody table) (durables w) id b
  sent_said id b s =
      let said : IsSaid (ring_of config nobody table) (durables w) s.sent = one_of (IsSaid (ring_of config nobody table) (durables w)) h.world.frames s.sent s.there t.frames in
      let by : SaidBy (ring_of config nobody table) (durables w) (Node id) s.sent.frame.body =
      subst (λ (p : Party). SaidBy (ring_of config nobody table) (durables w) p s.sent.frame.body) s.by said in
      subst (λ (x : Body). BodySaid (ring_of config nobody table) (durables w) id x) s.same by

  -- ---- votes

  pub cast_there : (id : NodeId) (ballot i : ℕ) (value : Value) → HasCast table h id ballot i value → Has (durables w (seat table id)).casts (proposal ballot i value)
  cast_there id ballot i value c =
      let all : WorkStands table w (id, c.work) = one_of (WorkStands table w) h.done (id, c.work) c.there t.done in
      let one : IsRecorded table.id (durables w (seat table id)) (change.Vote table.id c.vote) =
      one_of (IsRecorded table.id (durables w (seat table id))) (changes_in c.work) (change.Vote table.id c.vote) c.recorded all in
      let here : Has (durables w (seat table id)).casts (proposal c.vote.ballot i c.vote.value) = one refl i c.from c.to in
      subst (λ (b : ℕ). Has (durables w (seat table id)).casts (proposal b i value)) (sym c.of_ballot)
      (subst (λ (v : Value). Has (durables w (seat table id)).casts (proposal c.vote.ballot i v)) (sym c.of_value) here)

  -- and each vote of a durable face is done
  pub was_cast : (id : NodeId) (ballot i : ℕ) (value : Value) → Has (durables w (seat table id)).casts (proposal ballot i value) → HasCast table h id ballot i value
  was_cast id ballot i value has =
      let c : IsDoneBy table h.done id (proposal ballot i value) = t.cast id (proposal ballot i value) has in
      record {
        work = c.work;
        there = c.there;
        vote = c.voted.vote;
        recorded = c.voted.there;
        from = c.voted.from;
        to = c.voted.to;
        of_ballot = c.voted.of_ballot;
        of_value = c.voted.of_value;
      }

  pub was_cast_at : (k ballot i : ℕ) (value : Value) → k < acceptors table → Has (durables w k).casts (proposal ballot i value) → HasCast table h (acceptor_at table k) ballot i value
  was_cast_at k ballot i value lt has =
      was_cast (acceptor_at table k) ballot i value (subst (λ (x : ℕ). Has (durables w x).casts (proposal ballot i value)) (sym (seat_at config table d k lt)) has)

  -- a vote that is cast or held stands in the pending face
  pub voted_there : (id : NodeId) (ballot i : ℕ) (value : Value) → HasVoted table h id ballot i value → Has (w (seat table id)).pending.casts (proposal ballot i value)
  voted_there id ballot i value (inl c) = (sound.pending (seat table id)).grown.casts (proposal ballot i value) (cast_there id ballot i value c)
  voted_there id ballot i value (inr m) =
      let s : Shown table w id m.state = shown id m.state m.keeps in
      let local : Local (acceptors table) (durables w) (seat table id) s.face = either_face (acceptors table) w sound (seat table id) s.face s.is in
      let cast : Has s.face.casts (proposal ballot i value) =
      local.held_cast i (record { ballot = ballot; value = value }) (s.ties.votes i ∙ ap (λ (o : Option Cast). told_of o) m.held) in
      (in_pending (acceptors table) w sound (seat table id) s.face s.is).casts (proposal ballot i value) cast

  -- ---- proposals

  pub owner_low : (ballot : ℕ) → owner (acceptors table) ballot < acceptors table
  owner_low ballot = mod-lt ballot d.some

  voted_offered : (id : NodeId) (ballot i : ℕ) (value : Value) → HasVoted table h id ballot i value
      → Has (w (owner (acceptors table) ballot)).pending.proposals (proposal ballot i value)
  voted_offered id ballot i value v =
      in_owner (acceptors table) w sound (seat table id) (w (seat table id)).pending (inr refl) (proposal ballot i value)
      ((sound.pending (seat table id)).proposed (proposal ballot i value) (voted_there id ballot i value v))

  -- what is proposed stands in the pending face of the ballot's owner
  pub offered : (ballot i : ℕ) (value : Value) → IsProposed table h ballot i value → Has (w (owner (acceptors table) ballot)).pending.proposals (proposal ballot i value)
  offered ballot i value (inl a) =
      let said : AcceptSaid (acceptors table) (durables w) ballot a.lo a.hi a.mask value = sent_said a.from (body.Accept table.id ballot a.lo a.hi a.mask value) a.sent refl in
      (sound.pending (owner (acceptors table) ballot)).grown.proposals (proposal ballot i value) (said.proposed i a.low a.high)
  offered ballot i value (inr o) = voted_offered o.id ballot i value o.voted

  -- each vote was proposed: its ballot's owner has cast it too
  pub vote_proposed : (id : NodeId) (ballot i : ℕ) (value : Value) → HasVoted table h id ballot i value → IsProposed table h ballot i value
  vote_proposed id ballot i value v = go ((sound.pending (seat table id)).proposed (proposal ballot i value) (voted_there id ballot i value v))
    where
      go : deeds.IsProposed (acceptors table) (durables w) (w (seat table id)).pending (proposal ballot i value) → IsProposed table h ballot i value
      go (inl has) =
          let k : ℕ = owner (acceptors table) ballot in
          inr (record {
            id = acceptor_at table (owner (acceptors table) ballot);
            owns = acceptor_seat config table d (owner (acceptors table) ballot) (owner_low ballot);
            voted = inl (was_cast_at (owner (acceptors table) ballot) ballot i value (owner_low ballot)
                ((sound.durable (owner (acceptors table) ballot)).proposal_cast (proposal ballot i value) has));
          })
      go (inr has) =
          let own : owner (acceptors table) ballot ≡ seat table id = (sound.pending (seat table id)).owned (proposal ballot i value) has in
          let low : owner (acceptors table) ballot < acceptors table = owner_low ballot in
          inr (record {
            id = id;
            owns = low_seat config table d id (subst (λ (x : ℕ). x < acceptors table) own low) ∙ ap (λ (x : ℕ). Some x) (sym own);
            voted = v;
          })

  -- ---- what is chosen

  pub is_chosen : (i : ℕ) (value : Value) → ties.IsChosen (acceptors table) (durables w) i value → IsChosen table h i value
  is_chosen i value c = record {
    ballot = c.ballot;
    chosen = record {
      members = c.chosen.members;
      majority = c.chosen.majority;
      cast = λ k lt is. was_cast_at k c.ballot i value lt (c.chosen.cast k lt is);
    };
  }

  pub chosen_there : (ballot i : ℕ) (value : Value) → IsChosenIn table h ballot i value → Chosen (acceptors table) (durables w) (proposal ballot i value)
  chosen_there ballot i value c = record {
    members = c.members;
    majority = c.majority;
    cast = λ k lt is. subst (λ (x : ℕ). Has (durables w x).casts (proposal ballot i value)) (seat_at config table d k lt)
        (cast_there (acceptor_at table k) ballot i value (c.cast k lt is));
  }
