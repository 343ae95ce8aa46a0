-- The acceptor's table: promises that tell a page of votes, and votes.
use Rattle.std.proofs.Common.{◌≡◌, ◌⊎◌, inl, inr, ℕ, ◌-◌, ◌<◌, ◌≤◌, max, Bool, true, false, ◌&&◌, List, [], ◌∷◌, ◌++◌, Option, Some, None, refl, sym, ◌∙◌, ap, subst, arith}
use Rattle.std.specs.Prelude.{nat_lt, nat_le, not, if◌then◌else◌, count_ones, length}
use Rattle.std.specs.List.{AllByRecursion}
use Rattle.std.proofs.lemmas.Bool.{cases_lt}
use Rattle.std.proofs.lemmas.Option.{get_or_from_slice_get, slice_get_within}
use Rattle.std.specs.List.{slice_get}
use Rattle.mrp_types.specs.declared.id.Party.TheVariants.{Node}
use Rattle.frames.specs.declared.sent.Sent.{Sent}
use Rattle.ring_safety.specs.Faces.{Promise, owner}
use Rattle.ring_tables.specs.Ties.{IsToldIn, AreTold}
use Rattle.ring_tables.proofs.More.{told_more, has_second}
use Rattle.ring_tables.proofs.Effects.{done_frames, told_votes}
use Rattle.std.proofs.Common.{◌%◌, ◌||◌, get_or}
use Rattle.std.specs.Prelude.{◌==◌}
use Rattle.protocol.specs.Rings.{is_own}
use Rattle.std.proofs.lemmas.Bool.Decides.{nat_tests}
use Rattle.mrp_types.specs.declared.id.NodeId.{NodeId}
use Rattle.mrp_types.specs.declared.id.TheConstants.{END}
use Rattle.mrp_types.specs.declared.value.Value.{Value}
use Rattle.mrp_types.specs.declared.voted.Voted.{Voted}
use Rattle.range_map.specs.Entries.{value_at, entries_from}
use Rattle.vote_state.specs.declared.cast.Cast.{Cast}
use Rattle.vote_state.specs.declared.ring.RingState.{RingState}
use Rattle.vote_state.specs.Ranges.{ranges_of, cast_at, AreInOrderFrom, AreMaximalRanges}
use Rattle.vote_state.proofs.MaximalLemmas.{maximal_from}
use Rattle.ring_link.specs.Silence.{Link}
use Rattle.frames.specs.Spelling.{vote_size}
use Rattle.frames.specs.declared.body.Body.TheVariants as body
use Rattle.plain_model.specs.Pages.{left_out}
use Rattle.plain_model.proofs.Pages.{front-longest}
use Rattle.quorums.specs.Groups.{Has}
use Rattle.ring_reach.specs.Reach.{seen, proposal, Voting}
use Rattle.ring_reach.proofs.Reaching.{reach_one, Local-reach, seen_more, seen_from, seen_own, votes_range}
use Rattle.protocol.specs.Parts.{Ring, Part, Effects}
use Rattle.protocol.specs.Rings.{is_node, owner_of, position_of, majority_of, has_bit, with_bit, next_acceptor, next_member, sends}
use Rattle.protocol.specs.Effects.{no_effects, with_frames}
use Rattle.protocol.specs.Learner.{decided_of}
use Rattle.protocol.specs.Acceptor.{promises, promises_anew, votes_anew, page_room, votes_page, page_end, promise_of, tells_promise, refuses, tells_trim, prepares, first_decide, decides, decides_or_forwards, accepts_at, accepts}
use Rattle.ring_safety.specs.Faces.{Face, Vote, page}
use Rattle.ring_safety.specs.Deeds.{Promises, done}
use Rattle.ring_safety.specs.Rules.{Grows}
use Rattle.ring_safety.proofs.Votes.{page_inside}
use Rattle.ring_safety.specs.Invariant.{Local}
use Rattle.ring_safety.proofs.Local.{Grows-refl, Grows-trans}
use Rattle.ring_safety.proofs.Deeds.{Grows-done}
use Rattle.ring_kept.specs.Kept.{told_of, KeptTies}
use Rattle.ring_kept.proofs.Keeping.{kept_said, cut_above, cut_below}
use Rattle.ring_kept.proofs.Masks.{mask_count, mask_more}
use Rattle.ring_kept.specs.Pages.{front_end}
use Rattle.ring_kept.proofs.Pages.{front_order, front_ended, front_tells}
use Rattle.ring_tables.specs.Ties.{acceptors, IsRangeChosen, RoleTies, PartTies, PromiseSaid, AcceptSaid, BodySaid, IsSaid}
use Rattle.ring_tables.proofs.More.{RoleTies-more, AcceptSaid-more}
use Rattle.ring_tables.specs.Done.{EffectsTie, After}
use Rattle.ring_tables.proofs.Effects.{said_sends, votes_frames, effects_none, effects_frames, effects_learned, done_on, effects_promises, effects_promises_anew, done_votes_anew, promised_anew, promises_trim, votes_role}

-- ---- a page of votes

page_below : (votes : ℕ → Option (Vote Value)) (low high j : ℕ) → j < low → page votes low high j ≡ None
page_below votes low high j below = let e : (nat_le low j && nat_lt j high) ≡ false = grind (arith, nat_tests) in rw e refl

page_above : (votes : ℕ → Option (Vote Value)) (low high j : ℕ) → high ≤ j → page votes low high j ≡ None
page_above votes low high j above = let e : (nat_le low j && nat_lt j high) ≡ false = grind (arith, nat_tests) in rw e refl

ends_same : (rest : List Voted) → page_end rest ≡ front_end rest
ends_same [] = refl
ends_same (vote ∷ rest) = refl

no_vote : (o : Option (Vote Value)) → ((v : Vote Value) → o ≡ Some v → ⊥) → o ≡ None
no_vote None h = refl
no_vote (Some v) h = absurd (h v refl)

-- what a face tells of a page, and what the frame of the page tells
module _ (f : Face Value) (kept : RingState) (lo : ℕ) (k : KeptTies f kept) (untrimmed : (i : ℕ) (v : Vote Value) → f.votes i ≡ Some v → f.trim ≤ i) where
  abbrev all : List Voted
  all = ranges_of (entries_from (max lo kept.trim) kept.votes)

  abbrev rest : List Voted
  rest = left_out (votes_page all) all

  maximal : AreMaximalRanges (entries_from (max lo kept.trim) kept.votes) all
  maximal = maximal_from kept.votes (max lo kept.trim) k.ordered

  whole : votes_page all ++ rest ≡ all
  whole = (front-longest vote_size page_room all).whole

  order : AreInOrderFrom 0 (votes_page all ++ rest)
  order = subst (λ l. AreInOrderFrom 0 l) (sym whole) maximal.in_order

  same : (i : ℕ) → cast_at i (votes_page all ++ rest) ≡ value_at i (entries_from (max lo kept.trim) kept.votes)
  same i = ap (λ l. cast_at i l) whole ∙ maximal.same i

  nothing : (i : ℕ) → END ≤ i → cast_at i (votes_page all ++ rest) ≡ None
  nothing i past = same i ∙ elim (cases_lt i (max lo kept.trim)) [
    | inl below ↦ cut_below (max lo kept.trim) kept.votes i below
    | inr from ↦ cut_above (max lo kept.trim) kept.votes i from ∙ k.ended i past
  ]

  tells : (i : ℕ) → page f.votes lo (page_end rest) i ≡ told_of (cast_at i (votes_page all))
  tells i = go (front_tells (votes_page all) rest i order nothing)
    where
      end : page_end rest ≡ front_end rest
      end = ends_same rest

      go : ((i < front_end rest) × (cast_at i (votes_page all) ≡ cast_at i (votes_page all ++ rest))) ⊎ ((front_end rest ≤ i) × (cast_at i (votes_page all) ≡ None))
          → page f.votes lo (page_end rest) i ≡ told_of (cast_at i (votes_page all))
      go (inr past) = page_above f.votes lo (page_end rest) i (let a = past.0 in omega arith) ∙ ap (λ (o : Option Cast). told_of o) (sym past.1)
      go (inl here) =
          let below = here.0 in
          let there : cast_at i (votes_page all) ≡ value_at i (entries_from (max lo kept.trim) kept.votes) = here.1 ∙ same i in
          elim (cases_lt i lo) [
            | inl under ↦
                page_below f.votes lo (page_end rest) i under
                ∙ ap (λ (o : Option Cast). told_of o) (sym (there ∙ cut_below (max lo kept.trim) kept.votes i (omega arith)))
            | inr from ↦ elim (cases_lt i kept.trim) [
              | inl let_go ↦
                  let trim : f.trim ≡ kept.trim = k.trim in
                  page_inside f.votes lo (page_end rest) i from (omega arith)
                  ∙ no_vote (f.votes i) (λ v e. let up = untrimmed i v e in omega arith)
                  ∙ ap (λ (o : Option Cast). told_of o) (sym (there ∙ cut_below (max lo kept.trim) kept.votes i (omega arith)))
              | inr kept_there ↦
                  page_inside f.votes lo (page_end rest) i from (omega arith) ∙ k.votes i
                  ∙ ap (λ (o : Option Cast). told_of o) (sym (there ∙ cut_above (max lo kept.trim) kept.votes i (omega arith)))
            ]
          ]

  none_past : (i : ℕ) → front_end rest ≤ i
      → ((i < front_end rest) × (cast_at i (votes_page all) ≡ cast_at i (votes_page all ++ rest))) ⊎ ((front_end rest ≤ i) × (cast_at i (votes_page all) ≡ None))
      → cast_at i (votes_page all) ≡ None
  none_past i past (inl here) = let below = here.0 in absurd (omega arith)
  none_past i past (inr there) = there.1

  pub page_said : (ballot : ℕ) → PromiseSaid (done (Promises ballot lo (page_end rest)) f) ballot lo (page_end rest) kept.trim (votes_page all)
  page_said ballot = record {
    promise = record { ballot = ballot; low = lo; high = page_end rest; trim = f.trim; told = page f.votes lo (page_end rest) };
    made = inl refl;
    of_ballot = refl;
    low = refl;
    high = refl;
    trimmed = k.trim;
    told = tells;
    paged = λ i past. none_past i (let e = ends_same rest in omega arith) (front_tells (votes_page all) rest i order nothing);
    ordered = front_order 0 (votes_page all) rest order;
    ended = let e = ends_same rest in omega (arith, front_ended (votes_page all) rest order nothing);
  }

some_same : {x y : ℕ} → Some x ≡ Some y → x ≡ y
some_same e = cc

module _ (ring : Ring) (faces : ℕ → Face Value) (a : ℕ) (seat : position_of ring ring.own ≡ Some a) (within : a < acceptors ring)
    (all : (k : ℕ) → Local (acceptors ring) faces k (faces k)) (start : Face Value) (local : Local (acceptors ring) faces a start) (kept : RingState) where
  local_at : (f : Face Value) (effects : Effects) → EffectsTie ring faces a start kept f effects → Local (acceptors ring) faces a f
  local_at f effects t = Local-reach (acceptors ring) faces a all start f local t.done.reached

  stays : (f : Face Value) (effects : Effects) → EffectsTie ring faces a start kept f effects → After ring faces a start kept f effects
  stays f effects t = record { face = f; grows = Grows-refl f; ties = t }

  then_after : (f g : Face Value) (effects : Effects) → Grows f g → After ring faces a start kept g effects → After ring faces a start kept f effects
  then_after f g effects grows r = record { face = r.face; grows = Grows-trans grows r.grows; ties = r.ties }

  -- ---- a promise is told

  pub effects_tells : (f : Face Value) (effects : Effects) (to : NodeId) (ballot lo : ℕ) → (to.0 ≡ ring.own.0 → owner (acceptors ring) ballot ≡ a) → effects.part.kept.promise ≡ ballot
      → EffectsTie ring faces a start kept f effects → After ring faces a start kept f (tells_promise ring to ballot lo effects)
  effects_tells f effects to ballot lo mine same t =
      let high : ℕ = page_end (rest f effects.part.kept lo t.done.kept (local_at f effects t).held_untrimmed) in
      let g : Face Value = done (Promises ballot lo high) f in
      let votes : List Voted = votes_page (ranges_of (entries_from (max lo effects.part.kept.trim) effects.part.kept.votes)) in
      let tied : f.promise ≡ effects.part.kept.promise = t.done.kept.promise in
      let may : f.promise ≤ ballot = omega arith in
      let grows : Grows f g = Grows-done (acceptors ring) faces a f (Promises ballot lo high) may in
      let said : BodySaid ring (seen faces a g) ring.own (promise_of ring ballot lo effects.part.kept) =
      λ e k at. subst (λ x. PromiseSaid (seen faces a g x) ballot lo high effects.part.kept.trim votes) (some_same (sym seat ∙ at))
      (subst (λ x. PromiseSaid x ballot lo high effects.part.kept.trim votes) (sym (seen_own (acceptors ring) faces a g))
      (page_said f effects.part.kept lo t.done.kept (local_at f effects t).held_untrimmed ballot)) in
      record {
        face = g;
        grows = grows;
        ties = record {
          done = done_frames ring faces a start kept g effects (sends ring (Some to) (promise_of ring ballot lo effects.part.kept))
              (said_sends ring (seen faces a g) (Some to) (promise_of ring ballot lo effects.part.kept) said)
              (done_on ring faces a start kept f g effects (reach_one (acceptors ring) faces a f (Promises ballot lo high) may) grows t.done (λ c h. h)
              (kept_said f effects.part.kept ballot lo high same t.done.kept));
          role = RoleTies-more (acceptors ring) (seen faces a f) (seen faces a g) (seen_more (acceptors ring) faces a f g grows) f g effects.part.coordinator.role grows refl (sym (tied ∙ same)) t.role;
          told = told;
        };
      }
    where
      tails : List Voted
      tails = rest f effects.part.kept lo t.done.kept (local_at f effects t).held_untrimmed

      new : Promise Value
      new = record {
        ballot = ballot;
        low = lo;
        high = page_end (rest f effects.part.kept lo t.done.kept (local_at f effects t).held_untrimmed);
        trim = f.trim;
        told = page f.votes lo (page_end (rest f effects.part.kept lo t.done.kept (local_at f effects t).held_untrimmed));
      }

      frame : Sent
      frame = record { to = Node to; frame = record { from = Node ring.own; body = promise_of ring ballot lo effects.part.kept } }

      -- its frame, but where the node itself is the ballot's owner
      fresh : (b : Bool) → (to.0 == ring.own.0) ≡ b → (owner (acceptors ring) ballot ≡ a) ⊎ IsToldIn ring (effects.frames ++ (if b || false then [] else frame ∷ [])) new
      fresh true e = inl (mine (grind (arith, nat_tests)))
      fresh false e = inr (record {
        sent = frame;
        there = has_second effects.frames (frame ∷ []) frame (inl refl);
        by = refl;
        votes = votes_page (ranges_of (entries_from (max lo effects.part.kept.trim) effects.part.kept.votes));
        same = ap (λ x. body.Promise ring.id ballot lo (page_end (rest f effects.part.kept lo t.done.kept (local_at f effects t).held_untrimmed)) x
            (votes_page (ranges_of (entries_from (max lo effects.part.kept.trim) effects.part.kept.votes)))) (sym t.done.kept.trim);
        tells = tells f effects.part.kept lo t.done.kept (local_at f effects t).held_untrimmed;
      })

      told : AreTold ring a start (done (Promises ballot lo (page_end (rest f effects.part.kept lo t.done.kept (local_at f effects t).held_untrimmed))) f)
          (effects.frames ++ sends ring (Some to) (promise_of ring ballot lo effects.part.kept))
      told p (inr h) lt = told_more ring a start f effects.frames (sends ring (Some to) (promise_of ring ballot lo effects.part.kept)) t.told p h lt
      told p (inl e) lt =
          subst (λ (q : Promise Value). Has start.promises q ⊎ ((owner (acceptors ring) q.ballot ≡ a) ⊎ IsToldIn ring (effects.frames ++ sends ring (Some to) (promise_of ring ballot lo effects.part.kept)) q))
          (sym e) (inr (fresh (to.0 == ring.own.0) refl))

  -- ---- Prepare

  module _ (part : Part) (same : kept ≡ part.kept) (t : PartTies (acceptors ring) (seen faces a start) start part) where
    none : EffectsTie ring faces a start kept start (no_effects part)
    none = effects_none ring faces a start kept part t same

    refused : (to : Option NodeId) (ballot : ℕ) → After ring faces a start kept start (refuses ring to ballot part)
    refused to ballot =
        stays start (refuses ring to ballot part) (effects_frames ring faces a start kept start (no_effects part) (sends ring to (body.Refuse ring.id ballot part.kept.promise))
        (said_sends ring (seen faces a start) to (body.Refuse ring.id ballot part.kept.promise) tt) none)

    told_trim : (to : Option NodeId) → After ring faces a start kept start (tells_trim ring to part)
    told_trim to =
        stays start (tells_trim ring to part) (effects_frames ring faces a start kept start (no_effects part) (sends ring to (body.Trimmed ring.id part.kept.trim))
        (said_sends ring (seen faces a start) to (body.Trimmed ring.id part.kept.trim) tt) none)

    -- a ballot whose owner is this node
    own_ballot : (alone : (k : ℕ) → k < acceptors ring → is_own ring (get_or ring.acceptors k (record { 0 = 0 })) ≡ true → k ≡ a) (from : NodeId) (ballot : ℕ)
        → not (is_node from (owner_of ring ballot)) ≡ false → from.0 ≡ ring.own.0 → owner (acceptors ring) ballot ≡ a
    own_ballot alone from ballot is me = by_zero (ballot == 0) is
      where
        by_node : (o : Option NodeId) → slice_get ring.acceptors (ballot % length ring.acceptors) ≡ o → not (is_node from o) ≡ false → owner (acceptors ring) ballot ≡ a
        by_node None e h = absurd (cc)
        by_node (Some node) e h =
            let test : (from.0 == node.0) ≡ true = by_not (from.0 == node.0) h in
            let here = get_or_from_slice_get ring.acceptors (ballot % length ring.acceptors) node (record { 0 = 0 }) e in
            let own : is_own ring node ≡ true = grind (arith, nat_tests) in
            alone (ballot % length ring.acceptors) (slice_get_within ring.acceptors (ballot % length ring.acceptors) node e)
            (subst (λ (x : NodeId). is_own ring x ≡ true) (sym here) own)
          where
            by_not : (b : Bool) → not b ≡ false → b ≡ true
            by_not true x = refl
            by_not false x = absurd (cc)

        by_zero : (b : Bool) → not (is_node from (if b then None else slice_get ring.acceptors (ballot % length ring.acceptors))) ≡ false → owner (acceptors ring) ballot ≡ a
        by_zero true h = absurd (cc)
        by_zero false h = by_node (slice_get ring.acceptors (ballot % length ring.acceptors)) refl h

    pub prepares_ties : ((k : ℕ) → k < acceptors ring → is_own ring (get_or ring.acceptors k (record { 0 = 0 })) ≡ true → k ≡ a) → (from : NodeId) (ballot lo : ℕ)
        → After ring faces a start kept start (prepares ring part from ballot lo)
    unfolding prepares
    prepares_ties alone from ballot lo = go (not (is_node from (owner_of ring ballot))) (nat_lt ballot part.kept.promise) refl refl
      where
        go : (b c : Bool) → not (is_node from (owner_of ring ballot)) ≡ b → nat_lt ballot part.kept.promise ≡ c
            → After ring faces a start kept start (if b then no_effects part else if c then refuses ring (Some from) ballot part
            else tells_promise ring from ballot lo (promises ring ballot (no_effects part)))
        go true c h e = stays start (no_effects part) none
        go false true h e = refused (Some from) ballot
        go false false h e =
            let le : part.kept.promise ≤ ballot = grind (arith, nat_tests) in
            let p : After ring faces a start kept start (promises ring ballot (no_effects part)) = effects_promises ring faces a start kept start (no_effects part) ballot le none in
            then_after start p.face (tells_promise ring from ballot lo (promises ring ballot (no_effects part))) p.grows
            (effects_tells p.face (promises ring ballot (no_effects part)) from ballot lo (own_ballot alone from ballot h) refl p.ties)

  -- ---- a vote goes on

  pub effects_decides_or_forwards : (f : Face Value) (effects : Effects) (link : Link) (mask : ℕ) (vote : Voted) → AcceptSaid (acceptors ring) (seen faces a f) vote.ballot vote.lo vote.hi mask vote.value
      → EffectsTie ring faces a start kept f effects → EffectsTie ring faces a start kept f (decides_or_forwards ring link mask vote effects)
  effects_decides_or_forwards f effects link mask vote said t = go (nat_le (majority_of ring) (count_ones mask)) refl
    where
      go : (b : Bool) → nat_le (majority_of ring) (count_ones mask) ≡ b
          → EffectsTie ring faces a start kept f (if b then decides ring link (decided_of vote) effects
          else with_frames (sends ring (next_acceptor ring link) (body.Accept ring.id vote.ballot vote.lo vote.hi mask vote.value)) effects)
      go false e =
          effects_frames ring faces a start kept f effects (sends ring (next_acceptor ring link) (body.Accept ring.id vote.ballot vote.lo vote.hi mask vote.value))
          (said_sends ring (seen faces a f) (next_acceptor ring link) (body.Accept ring.id vote.ballot vote.lo vote.hi mask vote.value) (λ r. said)) t
      go true e =
          effects_learned ring faces a start kept f (with_frames (first_decide ring link (decided_of vote)) effects) (decided_of vote) chosen
          (effects_frames ring faces a start kept f effects (first_decide ring link (decided_of vote)) (first (nat_le 2 (length ring.members))) t)
        where
          chosen : IsRangeChosen (acceptors ring) (seen faces a f) (decided_of vote)
          chosen i x y = record {
            ballot = vote.ballot;
            chosen = record {
              members = has_bit mask;
              majority =
                  let many : majority_of ring ≤ count_ones mask = grind (arith, nat_tests) in
                  let few = mask_count (acceptors ring) mask said.member in
                  omega arith;
              cast = λ k lt is. said.cast k i is x y;
            };
          }

          first : (b : Bool) → AllByRecursion (IsSaid ring (seen faces a f))
              (if b then sends ring (next_member ring link) (body.Decide ring.id vote.lo vote.hi (length ring.members - 2) vote.value) else [])
          first true = said_sends ring (seen faces a f) (next_member ring link) (body.Decide ring.id vote.lo vote.hi (length ring.members - 2) vote.value) (λ r. chosen)
          first false = tt

  -- ---- Accept

  module _ (link : Link) (part : Part) (same : kept ≡ part.kept) (t : PartTies (acceptors ring) (seen faces a start) start part)
      (mask : ℕ) (vote : Voted) (said : AcceptSaid (acceptors ring) faces vote.ballot vote.lo vote.hi mask vote.value) where
    abbrev first : Effects
    first = promises_anew ring vote.ballot (no_effects part)

    voted : (f : Face Value) → EffectsTie ring faces a start kept f first → part.kept.trim ≤ vote.lo
        → After ring faces a start kept f (decides_or_forwards ring link (with_bit mask a) vote (votes_anew ring vote first))
    voted f p above =
        let promised : f.promise ≡ vote.ballot = p.done.kept.promise ∙ promised_anew ring vote.ballot (no_effects part) in
        let trim : f.trim ≡ part.kept.trim = p.done.kept.trim ∙ promises_trim ring vote.ballot (no_effects part) in
        let v : Voting (acceptors ring) faces a f vote.ballot vote.lo (vote.hi - vote.lo) vote.value =
        votes_range (acceptors ring) faces a (vote.hi - vote.lo) f vote.ballot vote.lo vote.value promised (omega arith) (λ i x y. inl (said.proposed i x (omega arith))) in
        let g : Face Value = v.face in
        let grown : Grows (faces a) f = (local_at f first p).grown in
        let from_durable : (k : ℕ) → Grows (faces k) (seen faces a g k) = seen_from (acceptors ring) faces a g (Grows-trans grown v.voted.grows) in
        let durable : AcceptSaid (acceptors ring) (seen faces a g) vote.ballot vote.lo vote.hi mask vote.value =
        AcceptSaid-more (acceptors ring) faces (seen faces a g) from_durable vote.ballot vote.lo vote.hi mask vote.value said in
        let own : (i : ℕ) → vote.lo ≤ i → i < vote.hi → Has (seen faces a g a).casts (proposal vote.ballot i vote.value) =
        λ i x y. subst (λ (z : Face Value). Has z.casts (proposal vote.ballot i vote.value)) (sym (seen_own (acceptors ring) faces a g)) (v.voted.cast i x (omega arith)) in
        let next : AcceptSaid (acceptors ring) (seen faces a g) vote.ballot vote.lo vote.hi (with_bit mask a) vote.value = record {
          proposed = durable.proposed;
          member = λ k is. elim (mask_more mask a k is) [ inl me ↦ omega arith | inr old ↦ durable.member k old ];
          cast = λ k i is x y. elim (mask_more mask a k is) [
            | inl me ↦ subst (λ z. Has (seen faces a g z).casts (proposal vote.ballot i vote.value)) (sym me) (own i x y)
            | inr old ↦ durable.cast k i old x y
          ];
          ended = durable.ended;
        } in
        record {
          face = g;
          grows = v.voted.grows;
          ties = effects_decides_or_forwards g (votes_anew ring vote first) link (with_bit mask a) vote next (record {
            done = done_votes_anew ring faces a start kept f g first vote v.reached v.voted said.ended (local_at f first p) p.done;
            role = subst (λ r. RoleTies (acceptors ring) (seen faces a g) g r) (sym (votes_role ring vote first))
                (RoleTies-more (acceptors ring) (seen faces a f) (seen faces a g) (seen_more (acceptors ring) faces a f g v.voted.grows) f g first.part.coordinator.role v.voted.grows v.leads v.voted.promise p.role);
            told = subst (λ (l : List Sent). AreTold ring a start g l) (sym (votes_frames ring vote first)) (told_votes ring faces a start kept f g first.frames v.voted.promises p.told);
          });
        }

    accepts_seated : After ring faces a start kept start (accepts_at ring link part mask vote (Some a))
    accepts_seated = go (nat_lt vote.ballot part.kept.promise) (nat_lt vote.lo part.kept.trim) (has_bit mask a) refl refl
      where
        go : (b c d : Bool) → nat_lt vote.ballot part.kept.promise ≡ b → nat_lt vote.lo part.kept.trim ≡ c
            → After ring faces a start kept start (if b then refuses ring (owner_of ring vote.ballot) vote.ballot part
            else if c then tells_trim ring (owner_of ring vote.ballot) part
            else if d then no_effects part
            else decides_or_forwards ring link (with_bit mask a) vote (votes_anew ring vote first))
        go true c d e h = refused part same t (owner_of ring vote.ballot) vote.ballot
        go false true d e h = told_trim part same t (owner_of ring vote.ballot)
        go false false true e h = stays start (no_effects part) (none part same t)
        go false false false e h =
            let le : part.kept.promise ≤ vote.ballot = grind (arith, nat_tests) in
            let above : part.kept.trim ≤ vote.lo = grind (arith, nat_tests) in
            let p : After ring faces a start kept start first = effects_promises_anew ring faces a start kept start (no_effects part) vote.ballot le (none part same t) in
            then_after start p.face (decides_or_forwards ring link (with_bit mask a) vote (votes_anew ring vote first)) p.grows (voted p.face p.ties above)

  pub accepts_ties : (link : Link) (part : Part) → kept ≡ part.kept → PartTies (acceptors ring) (seen faces a start) start part
      → (ballot lo hi mask : ℕ) (value : Value) → AcceptSaid (acceptors ring) faces ballot lo hi mask value
      → After ring faces a start kept start (accepts ring link part ballot lo hi mask value)
  unfolding accepts
  accepts_ties link part same t ballot lo hi mask value said =
      let vote : Voted = record { lo = lo; hi = hi; ballot = ballot; value = value } in
      subst (λ o. After ring faces a start kept start (accepts_at ring link part mask vote o)) (sym seat) (accepts_seated link part same t mask vote said)
