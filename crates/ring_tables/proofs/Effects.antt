-- What a rule has made so far, and the words that add to it.
use Rattle.std.proofs.Common.{◌≡◌, ℕ, ◌-◌, ◌<◌, ◌≤◌, Bool, true, false, List, [], ◌∷◌, Option, Some, None, refl, sym, ◌∙◌, ap, subst, arith, ◌⊎◌, inl, inr}
use Rattle.std.specs.Prelude.{◌==◌, nat_eq, nat_lt, if◌then◌else◌, ◌||◌}
use Rattle.std.specs.List.{AllByRecursion}
use Rattle.std.proofs.lemmas.Bool.Decides.{nat_tests}
use Rattle.mrp_types.specs.declared.id.NodeId.{NodeId}
use Rattle.mrp_types.specs.declared.id.Party.TheVariants as party
use Rattle.mrp_types.specs.declared.id.TheConstants.{END}
use Rattle.mrp_types.specs.declared.value.Value.{Value}
use Rattle.mrp_types.specs.declared.voted.Voted.{Voted}
use Rattle.mrp_types.specs.declared.voted.Decided.{Decided}
use Rattle.quorums.specs.Groups.{Has}
use Rattle.ring_safety.specs.Invariant.{Local}
use Rattle.vote_state.proofs.HeldLemmas.{held_meaning, not_held_not_empty}
use Rattle.vote_state.specs.declared.cast.Cast.{Cast}
use Rattle.vote_state.specs.declared.ring.RingState.{RingState}
use Rattle.vote_state.specs.declared.change.Change.{Change}
use Rattle.vote_state.specs.declared.change.Change.TheVariants as change
use Rattle.vote_state.specs.Ranges.{are_held}
use Rattle.vote_state.specs.State.{with_vote}
use Rattle.frames.specs.declared.body.Body.{Body}
use Rattle.frames.specs.declared.sent.Sent.{Sent}
use Rattle.ring_reach.specs.Reach.{Reaches, seen, HasVoted, IsAmong, proposal}
use Rattle.ring_reach.proofs.Reaching.{reach_none, reach_one, reach_both, seen_more}
use Rattle.protocol.specs.Parts.{Ring, Role, Idle, Active, Part, Effects}
use Rattle.protocol.specs.Rings.{sends, is_beyond}
use Rattle.protocol.specs.Effects.{no_effects, with_change, with_frames, with_learned, with_kept}
use Rattle.protocol.specs.Acceptor.{idle_below, promised_part, promises, votes_for, promises_anew, votes_anew}
use Rattle.ring_tables.specs.Done.{DoneTies, EffectsTie, After}
use Rattle.ring_safety.specs.Faces.{Promise, Face, Proposal}
use Rattle.ring_safety.specs.Deeds.{Promises, done}
use Rattle.ring_safety.specs.Rules.{Grows}
use Rattle.ring_safety.proofs.Local.{Grows-refl}
use Rattle.ring_safety.proofs.Deeds.{Grows-done}
use Rattle.ring_kept.specs.Kept.{KeptTies, kept_by, told_of}
use Rattle.ring_kept.proofs.Keeping.{kept_promised, kept_voted, kept_held, kept_after_more}
use Rattle.ring_tables.specs.Ties.{acceptors, IsRangeChosen, RoleTies, LearnerTies, PartTies, BodySaid, IsSaid, IsVotedIn, AreRecorded, AreTold}
use Rattle.ring_tables.proofs.More.{IsRangeChosen-more, LearnerTies-more, all_said_more, none_recorded, recorded_on, recorded_both, told_more, told_on}
use Rattle.quorums.proofs.Each.{mapped, appended}

pub same_number : (x : ℕ) → nat_eq x x ≡ true
same_number x = grind (arith, nat_tests)

-- a frame of the own node
pub said_sends : (ring : Ring) (now : ℕ → Face Value) (to : Option NodeId) (b : Body) → BodySaid ring now ring.own b → AllByRecursion (IsSaid ring now) (sends ring to b)
said_sends ring now None b s = tt
said_sends ring now (Some to) b s = go (to.0 == ring.own.0 || is_beyond b)
  where
    go : (t : Bool) → AllByRecursion (IsSaid ring now) (if t then [] else (record { to = party.Node to; frame = record { from = party.Node ring.own; body = b } }) ∷ [])
    go true = tt
    go false = (s, tt)

pub votes_frames : (ring : Ring) (vote : Voted) (effects : Effects) → (votes_anew ring vote effects).frames ≡ effects.frames
votes_frames ring vote effects = go (are_held vote effects.part.kept.votes)
  where
    go : (b : Bool) → (if b then effects else votes_for ring vote effects).frames ≡ effects.frames
    go true = refl
    go false = refl

module _ (ring : Ring) (faces : ℕ → Face Value) (a : ℕ) (start : Face Value) (kept : RingState) where
  pub effects_none : (part : Part) → PartTies (acceptors ring) (seen faces a start) start part → kept ≡ part.kept → EffectsTie ring faces a start kept start (no_effects part)
  effects_none part t e = record {
    done = record { reached = reach_none (acceptors ring) faces a start; kept = t.kept; learner = t.learner; changes = e; frames = tt; learned = tt; recorded = none_recorded ring.id start };
    role = t.role;
    told = λ p h lt. inl h;
  }

  pub done_frames : (f : Face Value) (effects : Effects) (frames : List Sent) → AllByRecursion (IsSaid ring (seen faces a f)) frames → DoneTies ring faces a start kept f effects
      → DoneTies ring faces a start kept f (with_frames frames effects)
  done_frames f effects frames said t = record {
    reached = t.reached;
    kept = t.kept;
    learner = t.learner;
    changes = t.changes;
    frames = appended (IsSaid ring (seen faces a f)) effects.frames frames t.frames said;
    learned = t.learned;
    recorded = t.recorded;
  }

  pub effects_frames : (f : Face Value) (effects : Effects) (frames : List Sent) → AllByRecursion (IsSaid ring (seen faces a f)) frames → EffectsTie ring faces a start kept f effects
      → EffectsTie ring faces a start kept f (with_frames frames effects)
  effects_frames f effects frames said t = record { done = done_frames f effects frames said t.done; role = t.role; told = told_more ring a start f effects.frames frames t.told }

  pub effects_learned : (f : Face Value) (effects : Effects) (range : Decided) → IsRangeChosen (acceptors ring) (seen faces a f) range → EffectsTie ring faces a start kept f effects
      → EffectsTie ring faces a start kept f (with_learned range effects)
  effects_learned f effects range chosen t =
      let d = t.done in
      record {
        done = record {
          reached = d.reached;
          kept = d.kept;
          learner = d.learner;
          changes = d.changes;
          frames = d.frames;
          learned = appended (IsRangeChosen (acceptors ring) (seen faces a f)) effects.learned (range ∷ []) d.learned (chosen, tt);
          recorded = d.recorded;
        };
        role = t.role;
        told = t.told;
      }

  -- ---- the face goes on

  module _ (f g : Face Value) (effects : Effects) (reach : Reaches (acceptors ring) faces a f g) (grows : Grows f g) (t : DoneTies ring faces a start kept f effects) where
    more : (k : ℕ) → Grows (seen faces a f k) (seen faces a g k)
    more = seen_more (acceptors ring) faces a f g grows

    -- what was said, learned and reached
    pub done_on : ((c : Proposal Value) → Has g.casts c → Has f.casts c) → KeptTies g effects.part.kept → DoneTies ring faces a start kept g effects
    done_on same k = record {
      reached = reach_both (acceptors ring) faces a start f g t.reached reach;
      kept = k;
      learner = LearnerTies-more (acceptors ring) (seen faces a f) (seen faces a g) more effects.part.learner t.learner;
      changes = t.changes;
      frames = all_said_more ring (seen faces a f) (seen faces a g) more effects.frames t.frames;
      learned = mapped (IsRangeChosen (acceptors ring) (seen faces a f)) (IsRangeChosen (acceptors ring) (seen faces a g))
          (IsRangeChosen-more (acceptors ring) (seen faces a f) (seen faces a g) more) effects.learned t.learned;
      recorded = recorded_on ring start f g effects.changes grows same t.recorded;
    }

    pub done_changed : (c : Change) (part : Part) → AreRecorded ring.id f g (c ∷ []) → kept_by ring.id c effects.part.kept ≡ part.kept → part.learner ≡ effects.part.learner → KeptTies g part.kept
        → DoneTies ring faces a start kept g (with_change c part effects)
    done_changed c part is e same k = record {
      reached = reach_both (acceptors ring) faces a start f g t.reached reach;
      kept = k;
      learner = subst (λ l. LearnerTies (acceptors ring) (seen faces a g) l) (sym same)
          (LearnerTies-more (acceptors ring) (seen faces a f) (seen faces a g) more effects.part.learner t.learner);
      changes = kept_after_more ring.id effects.changes c kept ∙ ap (λ r. kept_by ring.id c r) t.changes ∙ e;
      frames = all_said_more ring (seen faces a f) (seen faces a g) more effects.frames t.frames;
      learned = mapped (IsRangeChosen (acceptors ring) (seen faces a f)) (IsRangeChosen (acceptors ring) (seen faces a g))
          (IsRangeChosen-more (acceptors ring) (seen faces a f) (seen faces a g) more) effects.learned t.learned;
      recorded = recorded_both ring start f g effects.changes (c ∷ []) grows t.recorded is;
    }

  -- ---- promises

  pub effects_promises : (f : Face Value) (effects : Effects) (ballot : ℕ) → effects.part.kept.promise ≤ ballot → EffectsTie ring faces a start kept f effects
      → After ring faces a start kept f (promises ring ballot effects)
  effects_promises f effects ballot le t = go (ballot == effects.part.kept.promise) refl
    where
      go : (b : Bool) → (ballot == effects.part.kept.promise) ≡ b → After ring faces a start kept f (promises ring ballot effects)
      -- what is promised already is recorded once more, and nothing else happens
      go true e =
          let is : effects.part.kept.promise ≡ ballot = grind (arith, nat_tests) in
          let same : f.promise ≡ effects.part.kept.promise = t.done.kept.promise in
          record {
            face = f;
            grows = Grows-refl f;
            ties = record {
              done = done_changed f f effects (reach_none (acceptors ring) faces a f) (Grows-refl f) t.done (change.Promise ring.id ballot) (promised_part ballot effects.part) (record { stand = ((λ r. omega arith), tt); voted = λ c h. inl h })
                  (rw (same_number ring.id.0) refl) refl (record { promise = same ∙ is; trim = t.done.kept.trim; votes = t.done.kept.votes; ordered = t.done.kept.ordered; ended = t.done.kept.ended });
              role = active effects.part.coordinator.role t.role is;
              told = t.told;
            };
          }
        where
          active : (role : Role) → RoleTies (acceptors ring) (seen faces a f) f role → effects.part.kept.promise ≡ ballot → RoleTies (acceptors ring) (seen faces a f) f (idle_below ballot role)
          active Idle r is = tt
          active (Active campaign) r is =
              let same : f.promise ≡ effects.part.kept.promise = t.done.kept.promise in
              let own : f.promise ≡ campaign.ballot = r.promised in
              let e : nat_lt campaign.ballot ballot ≡ false = grind (arith, nat_tests) in
              rw e r
      go false e =
          let g : Face Value = done (Promises ballot 0 0) f in
          let same : f.promise ≡ effects.part.kept.promise = t.done.kept.promise in
          let may : f.promise ≤ ballot = omega arith in
          let ne : effects.part.kept.promise < ballot = grind (arith, nat_tests) in
          let grows : Grows f g = Grows-done (acceptors ring) faces a f (Promises ballot 0 0) may in
          record {
            face = g;
            grows = grows;
            ties = record {
              done = done_changed f g effects (reach_one (acceptors ring) faces a f (Promises ballot 0 0) may) grows t.done (change.Promise ring.id ballot) (promised_part ballot effects.part) (record { stand = ((λ r. omega arith), tt); voted = λ c h. inl h })
                  (rw (same_number ring.id.0) refl) refl (kept_promised f effects.part.kept ballot 0 0 t.done.kept);
              role = idle effects.part.coordinator.role t.role ne;
              told = told_on ring a start f g effects.frames (λ p h lt. inl (no_page p h lt)) t.told;
            };
          }
        where
          -- its page is empty
          no_page : (p : Promise Value) → Has (done (Promises ballot 0 0) f).promises p → p.low < p.high → Has f.promises p
          no_page p (inl e) lt =
              let low : p.low ≡ 0 = ap (λ (q : Promise Value). q.low) e in
              let high : p.high ≡ 0 = ap (λ (q : Promise Value). q.high) e in
              absurd (omega arith)
          no_page p (inr h) lt = h

          idle : (role : Role) → RoleTies (acceptors ring) (seen faces a f) f role → effects.part.kept.promise < ballot
              → RoleTies (acceptors ring) (seen faces a (done (Promises ballot 0 0) f)) (done (Promises ballot 0 0) f) (idle_below ballot role)
          idle Idle r lt = tt
          idle (Active campaign) r lt =
              let same : f.promise ≡ effects.part.kept.promise = t.done.kept.promise in
              let own : f.promise ≡ campaign.ballot = r.promised in
              let e : nat_lt campaign.ballot ballot ≡ true = grind (arith, nat_tests) in
              rw e tt

  pub effects_promises_anew : (f : Face Value) (effects : Effects) (ballot : ℕ) → effects.part.kept.promise ≤ ballot → EffectsTie ring faces a start kept f effects
      → After ring faces a start kept f (promises_anew ring ballot effects)
  effects_promises_anew f effects ballot le t = go (ballot == effects.part.kept.promise)
    where
      go : (b : Bool) → After ring faces a start kept f (if b then effects else promises ring ballot effects)
      go true = record { face = f; grows = Grows-refl f; ties = t }
      go false = effects_promises f effects ballot le t

  -- ---- votes

  module _ (f g : Face Value) (effects : Effects) (vote : Voted) (reach : Reaches (acceptors ring) faces a f g) (voted : HasVoted f g vote.ballot vote.lo (vote.hi - vote.lo) vote.value)
      (top : vote.hi ≤ END) (local : Local (acceptors ring) faces a f) (t : DoneTies ring faces a start kept f effects) where
    once : (c : Proposal Value) → Has f.casts c ⊎ IsAmong vote.ballot vote.lo (vote.hi - vote.lo) vote.value c → Has f.casts c ⊎ IsVotedIn ring.id (change.Vote ring.id vote ∷ []) c
    once c (inl h) = inl h
    once c (inr m) =
        let from = m.from in
        let to = m.to in
        inr (record { vote = vote; there = inl refl; of_ballot = m.of_ballot; from = m.from; to = omega arith; of_value = m.of_value })

    pub done_votes : vote.lo < vote.hi → DoneTies ring faces a start kept g (votes_for ring vote effects)
    done_votes some =
        done_changed f g effects reach voted.grows t (change.Vote ring.id vote) (with_kept (with_vote vote effects.part.kept) effects.part)
        (record { stand = ((λ r i x y. voted.cast i (omega arith) (omega arith)), tt); voted = λ c h. once c (voted.new c h) }) (rw (same_number ring.id.0) refl) refl
        (kept_voted f g effects.part.kept vote t.kept voted some top)

    pub done_votes_anew : DoneTies ring faces a start kept g (votes_anew ring vote effects)
    done_votes_anew = go (are_held vote effects.part.kept.votes) refl
      where
        -- a vote that is held was cast
        again : are_held vote effects.part.kept.votes ≡ true → (c : Proposal Value) → Has f.casts c ⊎ IsAmong vote.ballot vote.lo (vote.hi - vote.lo) vote.value c → Has f.casts c
        again e c (inl h) = h
        again e c (inr m) =
            let from = m.from in
            let to = m.to in
            let held = (held_meaning true vote effects.part.kept.votes (sym e)).0 refl c.instance from (omega arith) in
            let cast : Has f.casts (proposal vote.ballot c.instance vote.value) =
            local.held_cast c.instance (record { ballot = vote.ballot; value = vote.value }) (t.kept.votes c.instance ∙ ap (λ (o : Option Cast). told_of o) held) in
            subst (λ (b : ℕ). Has f.casts (proposal b c.instance c.value)) (sym m.of_ballot)
            (subst (λ (v : Value). Has f.casts (proposal vote.ballot c.instance v)) (sym m.of_value) cast)

        go : (b : Bool) → are_held vote effects.part.kept.votes ≡ b → DoneTies ring faces a start kept g (if b then effects else votes_for ring vote effects)
        go true e = done_on f g effects reach voted.grows t (λ c h. again e c (voted.new c h)) (kept_held f g effects.part.kept vote t.kept voted e)
        go false e = done_votes (not_held_not_empty vote effects.part.kept.votes e)

  -- votes make no promise
  pub told_votes : (f g : Face Value) (frames : List Sent) → g.promises ≡ f.promises → AreTold ring a start f frames → AreTold ring a start g frames
  told_votes f g frames same t = told_on ring a start f g frames (λ p h lt. inl (subst (λ (l : List (Promise Value)). Has l p) same h)) t

-- ---- what these words leave alone

pub promised_anew : (ring : Ring) (ballot : ℕ) (effects : Effects) → (promises_anew ring ballot effects).part.kept.promise ≡ ballot
promised_anew ring ballot effects = go (ballot == effects.part.kept.promise) refl
  where
    go : (b : Bool) → (ballot == effects.part.kept.promise) ≡ b → (if b then effects else promises ring ballot effects).part.kept.promise ≡ ballot
    go true e = grind (arith, nat_tests)
    go false e = refl

pub promises_trim : (ring : Ring) (ballot : ℕ) (effects : Effects) → (promises_anew ring ballot effects).part.kept.trim ≡ effects.part.kept.trim
promises_trim ring ballot effects = go (ballot == effects.part.kept.promise)
  where
    go : (b : Bool) → (if b then effects else promises ring ballot effects).part.kept.trim ≡ effects.part.kept.trim
    go true = refl
    go false = refl

pub votes_role : (ring : Ring) (vote : Voted) (effects : Effects) → (votes_anew ring vote effects).part.coordinator.role ≡ effects.part.coordinator.role
votes_role ring vote effects = go (are_held vote effects.part.kept.votes)
  where
    go : (b : Bool) → (if b then effects else votes_for ring vote effects).part.coordinator.role ≡ effects.part.coordinator.role
    go true = refl
    go false = refl
