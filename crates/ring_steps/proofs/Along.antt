-- A step on its way, as one ring sees it, at any node: an acceptor, a member that only learns, or one that is no member.
use Rattle.std.proofs.Common.{◌≡◌, ℕ, zero, suc, ◌^◌, Bool, true, false, List, [], ◌∷◌, ◌++◌, Option, Some, None, refl, sym, ◌∙◌, ap, subst, arith}
use Rattle.std.proofs.lemmas.Bool.Decides.{nat_tests}
use Rattle.std.specs.Prelude.{◌==◌, if◌then◌else◌}
use Rattle.std.specs.List.{AllByRecursion}
use Rattle.mrp_types.specs.declared.id.RingId.{RingId}
use Rattle.mrp_types.specs.declared.value.Value.{Value}
use Rattle.mrp_types.specs.declared.voted.Decided.{Decided}
use Rattle.mrp_config.specs.Config.{Config}
use Rattle.range_map.specs.Entries.{IsIncreasingFrom, value_at}
use Rattle.vote_state.specs.declared.ring.RingState.{RingState}
use Rattle.vote_state.specs.declared.change.Change.{Change}
use Rattle.vote_state.specs.State.{ring_at}
use Rattle.vote_journal.specs.Journal.{Journal}
use Rattle.ring_link.specs.Silence.{Link}
use Rattle.ring_reach.specs.Reach.{Reaches, seen}
use Rattle.ring_reach.proofs.Reaching.{reach_both, seen_more}
use Rattle.protocol.specs.Lines.{Learn}
use Rattle.protocol.specs.Parts.{Ring, Idle, Part, Effects}
use Rattle.protocol.specs.Rings.{is_acceptor}
use Rattle.protocol.specs.Effects.{no_effects}
use Rattle.protocol.specs.Learner.{is_news, learns_news, learns}
use Rattle.protocol.specs.Proposing.{proposes}
use Rattle.protocol.specs.Node.{StepSoFar, View, RingPart, part_in, part_at, with_part_in, with_part, prints}
use Rattle.protocol.specs.Merging.{merges}
use Rattle.protocol.specs.Learning.{with_effects, Queued, queued, proposes_then, by_news, learns_one, then_learns, learns_up_to, applies_effects}
use Rattle.mrp_types.specs.declared.id.Party.{Party}
use Rattle.mrp_types.specs.declared.id.Party.TheVariants.{Node, Client}
use Rattle.frames.specs.declared.body.Body.{Body}
use Rattle.frames.specs.declared.sent.Sent.{Sent}
use Rattle.frames.specs.declared.body.Body.TheVariants as body
use Rattle.beside_rings.specs.Beside.{IsQuiet, IsQuietSent, SameBut, AreSame, Untouched}
use Rattle.beside_rings.proofs.Following.{Follows-all, SameBut-refl, SameBut-trans}
use Rattle.beside_rings.proofs.Merge.{merges_untouched}
use Rattle.ring_rules.proofs.Apart.{lines_told}
use Rattle.ring_tables.specs.Ties.{SaidBy, AreRecorded, IsToldIn, AreTold}
use Rattle.ring_rules.specs.Ruled.{Ruled}
use Rattle.ring_safety.specs.Faces.{Promise, Face}
use Rattle.ring_safety.specs.Rules.{Grows}
use Rattle.ring_safety.proofs.Local.{Grows-refl, Grows-trans}
use Rattle.ring_kept.specs.Kept.{KeptTies, kept_after, kept_by}
use Rattle.ring_tables.specs.Ties.{acceptors, IsRangeChosen, RoleTies, PartTies, IsSaid, IsTold}
use Rattle.ring_tables.proofs.More.{IsRangeChosen-more, all_said_more, all_told_more, recorded_both, told_first, told_through, told_both}
use Rattle.beside_rings.specs.Beside.{IsNoLearn}
use Rattle.ring_rules.proofs.Apart.{none_learned, of_none, of_proposes_after}
use Rattle.ring_tables.specs.Done.{EffectsTie, After}
use Rattle.ring_rules.proofs.Coordinating.{learns_ties}
use Rattle.ring_tables.specs.Settled.{RoleSettled, PartFine}
use Rattle.quorums.proofs.Each.{mapped, appended}

-- ---- what a ring doesn't see

pub record WasThere (id : RingId) (view : View) (p : RingPart) : Type 0 where
  pub before : RingPart
  pub there : part_at view id ≡ Some before
  pub same : SameBut before p

pub record Leaves (ring : Ring) (old new : StepSoFar) : Type 0 where
  pub part : (p : RingPart) → part_at new.view ring.id ≡ Some p → WasThere ring.id old.view p
  pub journal : new.view.journal ≡ old.view.journal
  pub changes : (base : RingState) → kept_after ring.id new.changes base ≡ kept_after ring.id old.changes base
  pub recorded : (start f : Face Value) → AreRecorded ring.id start f old.changes → AreRecorded ring.id start f new.changes
  pub sent : (p : Promise Value) → IsToldIn ring old.frames p → IsToldIn ring new.frames p
  pub frames : (now : ℕ → Face Value) → AllByRecursion (IsSaid ring now) old.frames → AllByRecursion (IsSaid ring now) new.frames
  pub replies : (now : ℕ → Face Value) → AllByRecursion (IsSaid ring now) old.replies → AllByRecursion (IsSaid ring now) new.replies
  pub lines : (now : ℕ → Face Value) → AllByRecursion (IsTold ring now) old.lines → AllByRecursion (IsTold ring now) new.lines

pub Leaves-refl : (ring : Ring) (a : StepSoFar) → Leaves ring a a
Leaves-refl ring a = record {
  part = λ p is. record { before = p; there = is; same = SameBut-refl p };
  journal = refl;
  changes = λ base. refl;
  recorded = λ z f s. s;
  sent = λ p t. t;
  frames = λ now s. s;
  replies = λ now s. s;
  lines = λ now s. s;
}

pub Leaves-trans : (ring : Ring) {a b c : StepSoFar} → Leaves ring a b → Leaves ring b c → Leaves ring a c
Leaves-trans ring {a} {b} {c} x y = record {
  part = part;
  journal = y.journal ∙ x.journal;
  changes = λ base. y.changes base ∙ x.changes base;
  recorded = λ z f s. y.recorded z f (x.recorded z f s);
  sent = λ p t. y.sent p (x.sent p t);
  frames = λ now s. y.frames now (x.frames now s);
  replies = λ now s. y.replies now (x.replies now s);
  lines = λ now s. y.lines now (x.lines now s);
}
  where
    part : (p : RingPart) → part_at c.view ring.id ≡ Some p → WasThere ring.id a.view p
    part p is =
        let late = y.part p is in
        let early = x.part late.before late.there in
        record { before = early.before; there = early.there; same = SameBut-trans early.same late.same }

-- a part among parts that are the same
same_there : (id : RingId) (qs ps : List RingPart) → AreSame qs ps → (p : RingPart) → part_in ps id ≡ Some p → (q : RingPart) × (part_in qs id ≡ Some q) × SameBut q p
same_there id [] [] s p e = absurd (cc)
same_there id [] (x ∷ ps) s p e = absurd s
same_there id (y ∷ qs) [] s p e = absurd s
same_there id (y ∷ qs) (x ∷ ps) s p e = go (x.ring.id.0 == id.0) refl e (λ f. same_there id qs ps s.1 p f)
  where
    test : (y.ring.id.0 == id.0) ≡ (x.ring.id.0 == id.0)
    test = ap (λ (r : Ring). r.id.0 == id.0) (sym s.0.ring)

    go : (b : Bool) → (x.ring.id.0 == id.0) ≡ b → (if b then Some x else part_in ps id) ≡ Some p → (part_in ps id ≡ Some p → (q : RingPart) × (part_in qs id ≡ Some q) × SameBut q p)
        → (q : RingPart) × ((if y.ring.id.0 == id.0 then Some y else part_in qs id) ≡ Some q) × SameBut q p
    go true t here later =
        let same : x ≡ p = cc in
        let found : (if y.ring.id.0 == id.0 then Some y else part_in qs id) ≡ Some y = rw (test ∙ t) refl in
        (y, found, subst (λ (r : RingPart). SameBut y r) same s.0)
    go false t here later =
        let rest = later here in
        let found : (if y.ring.id.0 == id.0 then Some y else part_in qs id) ≡ part_in qs id = rw (test ∙ t) refl in
        (rest.0, found ∙ rest.1, rest.2)

quiet_said : (ring : Ring) (now : ℕ → Face Value) (from : Party) (b : Body) → IsQuiet b → SaidBy ring now from b
quiet_said ring now (Client from) b quiet = tt
quiet_said ring now (Node from) (body.Promise r ballot lo hi trim votes) quiet = absurd quiet
quiet_said ring now (Node from) (body.Accept r ballot lo hi mask value) quiet = absurd quiet
quiet_said ring now (Node from) (body.Decide r lo hi left value) quiet = absurd quiet
quiet_said ring now (Node from) (body.Chosen r ranges) quiet = absurd quiet
quiet_said ring now (Node from) other quiet = tt

-- what touches no ring leaves this one
pub untouched_leaves : (ring : Ring) (a b : StepSoFar) → Untouched a b → Leaves ring a b
untouched_leaves ring a b u = record {
  part = λ p is. let q = same_there ring.id a.view.parts b.view.parts u.parts p is in record { before = q.0; there = q.1; same = q.2 };
  journal = u.journal;
  changes = λ base. ap (λ (l : List Change). kept_after ring.id l base) u.changes;
  recorded = λ z f s. subst (λ (l : List Change). AreRecorded ring.id z f l) (sym u.changes) s;
  sent = λ p t. subst (λ (l : List Sent). IsToldIn ring l p) (sym u.frames.whole) (told_first ring a.frames u.frames.more p t);
  frames = λ now s. Follows-all IsQuietSent (IsSaid ring now) a.frames b.frames (λ sent. quiet_said ring now sent.frame.from sent.frame.body) u.frames s;
  replies = λ now s. Follows-all IsQuietSent (IsSaid ring now) a.replies b.replies (λ sent. quiet_said ring now sent.frame.from sent.frame.body) u.replies s;
  lines = λ now s. Follows-all IsNoLearn (IsTold ring now) a.lines b.lines (lines_told ring now) u.lines s;
}

-- ---- a part among the parts

pub put_there : (id : RingId) (new : Part) (parts : List RingPart) (p q : RingPart) → part_in parts id ≡ Some p → part_in (with_part_in id new parts) id ≡ Some q
    → record p { part = new } ≡ q
put_there id new [] p q e f = absurd (cc)
put_there id new (x ∷ parts) p q e f = go (x.ring.id.0 == id.0) refl e f (λ g h. put_there id new parts p q g h)
  where
    go : (b : Bool) → (x.ring.id.0 == id.0) ≡ b → (if b then Some x else part_in parts id) ≡ Some p
        → part_in (if b then record x { part = new } ∷ parts else x ∷ with_part_in id new parts) id ≡ Some q
        → (part_in parts id ≡ Some p → part_in (with_part_in id new parts) id ≡ Some q → record p { part = new } ≡ q) → record p { part = new } ≡ q
    go true t here found later =
        let same : x ≡ p = cc in
        let made : RingPart = record x { part = new } in
        let head : (if x.ring.id.0 == id.0 then Some made else part_in parts id) ≡ Some made = rw t refl in
        let is : made ≡ q = some_here (sym head ∙ found) in
        ap (λ (r : RingPart). let s : RingPart = record r { part = new } in s) (sym same) ∙ is
      where
        some_here : {a b : RingPart} → Some a ≡ Some b → a ≡ b
        some_here e = cc
    go false t here found later =
        let tail : (if x.ring.id.0 == id.0 then Some x else part_in (with_part_in id new parts) id) ≡ part_in (with_part_in id new parts) id = rw t refl in
        later here (sym tail ∙ found)

-- the part that is found is of the ring that was asked for
pub part_id : (parts : List RingPart) (id : RingId) (p : RingPart) → part_in parts id ≡ Some p → p.ring.id.0 ≡ id.0
part_id [] id p e = absurd (cc)
part_id (x ∷ parts) id p e = go (x.ring.id.0 == id.0) refl e (λ f. part_id parts id p f)
  where
    go : (b : Bool) → (x.ring.id.0 == id.0) ≡ b → (if b then Some x else part_in parts id) ≡ Some p → (part_in parts id ≡ Some p → p.ring.id.0 ≡ id.0) → p.ring.id.0 ≡ id.0
    go true t here later =
        let same : x ≡ p = cc in
        let number : x.ring.id.0 ≡ id.0 = grind (arith, nat_tests) in
        subst (λ (r : RingPart). r.ring.id.0 ≡ id.0) same number
    go false t here later = later here

-- ---- changes

pub kept_both : (ring : RingId) (xs ys : List Change) (kept : RingState) → kept_after ring (xs ++ ys) kept ≡ kept_after ring ys (kept_after ring xs kept)
kept_both ring [] ys kept = refl
kept_both ring (c ∷ xs) ys kept = kept_both ring xs ys (kept_by ring c kept)

pub learns_kept : (ring : Ring) (part : Part) (range : Decided) → (learns ring part range).part.kept ≡ part.kept
unfolding learns
learns_kept ring part range = go (is_news range part.learner)
  where
    go : (b : Bool) → (learns_news b part range).part.kept ≡ part.kept
    go true = refl
    go false = refl

-- ---- a step on its way

-- what is left of that within a rule
abbrev pub PartIdle : Ring → Part → Type 0
PartIdle ring part = is_acceptor ring ≡ false → part.coordinator.role ≡ Idle

pub record MemberTies (ring : Ring) (faces : ℕ → Face Value) (a : ℕ) (base : RingState) (P : Part → Type 0) (f : Face Value) (changes : List Change) (p : RingPart) : Type 0 where
  pub of_ring : p.ring ≡ ring
  pub ties : PartTies (acceptors ring) (seen faces a f) f p.part
  pub kept : kept_after ring.id changes base ≡ p.part.kept
  pub fine : P p.part

-- From the face `start` and the journal j a step has come to the face f.
pub record OnWay (ring : Ring) (faces : ℕ → Face Value) (a : ℕ) (start : Face Value) (j : Journal) (P : Part → Type 0) (f : Face Value) (so_far : StepSoFar) : Type 0 where
  pub reached : Reaches (acceptors ring) faces a start f
  pub journal : so_far.view.journal ≡ j
  pub kept : KeptTies f (kept_after ring.id so_far.changes (ring_at j.state ring.id))
  pub frames : AllByRecursion (IsSaid ring (seen faces a f)) so_far.frames
  pub replies : AllByRecursion (IsSaid ring (seen faces a f)) so_far.replies
  pub lines : AllByRecursion (IsTold ring (seen faces a f)) so_far.lines
  pub recorded : AreRecorded ring.id start f so_far.changes
  pub told : AreTold ring a start f so_far.frames
  pub part : (p : RingPart) → part_at so_far.view ring.id ≡ Some p → MemberTies ring faces a (ring_at j.state ring.id) P f so_far.changes p

pub record WayAfter (ring : Ring) (faces : ℕ → Face Value) (a : ℕ) (start : Face Value) (j : Journal) (P : Part → Type 0) (f : Face Value) (so_far : StepSoFar) : Type 0 where
  pub face : Face Value
  pub grows : Grows f face
  pub way : OnWay ring faces a start j P face so_far

-- with ranges that are still to be learned
pub record QueueWay (ring : Ring) (faces : ℕ → Face Value) (a : ℕ) (start : Face Value) (j : Journal) (P : Part → Type 0) (f : Face Value) (q : Queued) : Type 0 where
  pub face : Face Value
  pub grows : Grows f face
  pub way : OnWay ring faces a start j P face q.so_far
  pub chosen : AllByRecursion (IsRangeChosen (acceptors ring) (seen faces a face)) q.ranges

-- ---- what is left alone

pub PartTies-same : (n : ℕ) (now : ℕ → Face Value) (f : Face Value) (q p : RingPart) → SameBut q p → PartTies n now f q.part → PartTies n now f p.part
PartTies-same n now f q p s t = record {
  kept = subst (λ k. KeptTies f k) (sym s.kept) t.kept;
  role = subst (λ r. RoleTies n now f r) (sym (ap (λ (c : _). c.role) s.coordinator)) t.role;
  learner = record {
    ordered = subst (λ (l : List (ℕ × Value)). IsIncreasingFrom 0 l) (sym s.held) t.learner.ordered;
    chosen = λ i value e. t.learner.chosen i value (ap (λ (l : List (ℕ × Value)). value_at i l) (sym s.held) ∙ e);
  };
}

pub PartFine-same : (ring : Ring) (q p : RingPart) → SameBut q p → PartFine ring q.part → PartFine ring p.part
PartFine-same ring q p s t =
    let role = ap (λ (c : _). c.role) s.coordinator in
    let trim = ap (λ (k : RingState). k.trim) s.kept in
    record {
      settled = subst (λ r. RoleSettled ring p.part.kept.trim r) (sym role) (subst (λ x. RoleSettled ring x q.part.coordinator.role) (sym trim) t.settled);
      idle = λ none. role ∙ t.idle none;
    }

pub PartIdle-same : (ring : Ring) (q p : RingPart) → SameBut q p → PartIdle ring q.part → PartIdle ring p.part
PartIdle-same ring q p s t = λ none. ap (λ (c : _). c.role) s.coordinator ∙ t none

module _ (ring : Ring) (faces : ℕ → Face Value) (a : ℕ) (start : Face Value) (j : Journal) where
  abbrev base : RingState
  base = ring_at j.state ring.id

  pub way_leaves : (P : Part → Type 0) → ((q p : RingPart) → SameBut q p → P q.part → P p.part) → (f : Face Value) (old new : StepSoFar) → Leaves ring old new
      → OnWay ring faces a start j P f old → OnWay ring faces a start j P f new
  way_leaves P same f old new l w = record {
    reached = w.reached;
    journal = l.journal ∙ w.journal;
    kept = subst (λ k. KeptTies f k) (sym (l.changes base)) w.kept;
    frames = l.frames (seen faces a f) w.frames;
    replies = l.replies (seen faces a f) w.replies;
    lines = l.lines (seen faces a f) w.lines;
    recorded = l.recorded start f w.recorded;
    told = told_through ring a start f old.frames new.frames l.sent w.told;
    part = λ p is.
        let was = l.part p is in
        let m = w.part was.before was.there in
        record {
          of_ring = was.same.ring ∙ m.of_ring;
          ties = PartTies-same (acceptors ring) (seen faces a f) f was.before p was.same m.ties;
          kept = l.changes base ∙ m.kept ∙ sym was.same.kept;
          fine = same was.before p was.same m.fine;
        };
  }

  -- a rule of the ring was made here
  pub way_effects : (P Q : Part → Type 0) (f g : Face Value) (so_far : StepSoFar) → OnWay ring faces a start j P f so_far → (p : RingPart) → part_at so_far.view ring.id ≡ Some p
      → (effects : Effects) → AllByRecursion IsNoLearn effects.lines → Grows f g → EffectsTie ring faces a f p.part.kept g effects → Q effects.part → OnWay ring faces a start j Q g (with_effects ring effects so_far)
  way_effects P Q f g so_far w p there effects unlearned grows u fine =
      let e = u.done in
      let m = w.part p there in
      let more : (k : ℕ) → Grows (seen faces a f k) (seen faces a g k) = seen_more (acceptors ring) faces a f g grows in
      let changed : kept_after ring.id (so_far.changes ++ effects.changes) base ≡ effects.part.kept =
      kept_both ring.id so_far.changes effects.changes base ∙ ap (λ k. kept_after ring.id effects.changes k) m.kept ∙ e.changes in
      record {
        reached = reach_both (acceptors ring) faces a start f g w.reached e.reached;
        journal = w.journal;
        kept = subst (λ k. KeptTies g k) (sym changed) e.kept;
        frames = appended (IsSaid ring (seen faces a g)) so_far.frames effects.frames (all_said_more ring (seen faces a f) (seen faces a g) more so_far.frames w.frames) e.frames;
        replies = all_said_more ring (seen faces a f) (seen faces a g) more so_far.replies w.replies;
        lines = appended (IsTold ring (seen faces a g)) so_far.lines effects.lines (all_told_more ring (seen faces a f) (seen faces a g) more so_far.lines w.lines)
            (none_learned ring (seen faces a g) effects.lines unlearned);
        recorded = recorded_both ring start f g so_far.changes effects.changes grows w.recorded e.recorded;
        told = told_both ring a start f g so_far.frames effects.frames w.told u.told;
        part = λ q is.
            let made : RingPart = record p { part = effects.part } in
            let same : made ≡ q = put_there ring.id effects.part so_far.view.parts p q there is in
            subst (λ (x : RingPart). MemberTies ring faces a base Q g (so_far.changes ++ effects.changes) x) same
            (record { of_ring = m.of_ring; ties = record { kept = e.kept; role = u.role; learner = e.learner }; kept = changed; fine = fine });
      }

  -- a range was learned
  pub way_learned : (P Q : Part → Type 0) (f : Face Value) (so_far : StepSoFar) → OnWay ring faces a start j P f so_far → (p : RingPart) → part_at so_far.view ring.id ≡ Some p
      → (range : Decided) → IsRangeChosen (acceptors ring) (seen faces a f) range → Q (learns ring p.part range).part
      → OnWay ring faces a start j Q f (with_part ring (learns ring p.part range).part so_far)
  way_learned P Q f so_far w p there range chosen fine =
      let m = w.part p there in
      let new : Part = (learns ring p.part range).part in
      record {
        reached = w.reached;
        journal = w.journal;
        kept = w.kept;
        frames = w.frames;
        replies = w.replies;
        lines = w.lines;
        recorded = w.recorded;
        told = w.told;
        part = λ q is.
            let made : RingPart = record p { part = (learns ring p.part range).part } in
            let same : made ≡ q = put_there ring.id (learns ring p.part range).part so_far.view.parts p q there is in
            subst (λ (x : RingPart). MemberTies ring faces a base Q f so_far.changes x) same
            (record {
              of_ring = m.of_ring;
              ties = learns_ties (acceptors ring) (seen faces a f) f ring p.part range chosen m.ties;
              kept = m.kept ∙ sym (learns_kept ring p.part range);
              fine = fine;
            });
      }

  -- ---- learning, range by range

  module _ (config : Config)
      (resumes : (f : Face Value) → Reaches (acceptors ring) faces a start f → (link : Link) (part : Part) → PartTies (acceptors ring) (seen faces a f) f part → PartIdle ring part
      → Ruled ring faces a f part.kept (proposes ring link part)) where
    ranges_more : (f g : Face Value) → Grows f g → (ranges : List Decided) → AllByRecursion (IsRangeChosen (acceptors ring) (seen faces a f)) ranges
        → AllByRecursion (IsRangeChosen (acceptors ring) (seen faces a g)) ranges
    ranges_more f g grows ranges all =
        mapped (IsRangeChosen (acceptors ring) (seen faces a f)) (IsRangeChosen (acceptors ring) (seen faces a g))
        (IsRangeChosen-more (acceptors ring) (seen faces a f) (seen faces a g) (seen_more (acceptors ring) faces a f g grows)) ranges all

    queue_effects : (P : Part → Type 0) (f g : Face Value) (so_far : StepSoFar) → OnWay ring faces a start j P f so_far → (p : RingPart) → part_at so_far.view ring.id ≡ Some p
        → (later : List Decided) → AllByRecursion (IsRangeChosen (acceptors ring) (seen faces a f)) later
        → (effects : Effects) → AllByRecursion IsNoLearn effects.lines → Grows f g → EffectsTie ring faces a f p.part.kept g effects → PartFine ring effects.part
        → QueueWay ring faces a start j (PartFine ring) f (queued ring later effects so_far)
    queue_effects P f g so_far w p there later chosen effects unlearned grows u fine = record {
      face = g;
      grows = grows;
      way = way_effects P (PartFine ring) f g so_far w p there effects unlearned grows u fine;
      chosen = appended (IsRangeChosen (acceptors ring) (seen faces a g)) later effects.learned (ranges_more f g grows later chosen) u.done.learned;
    }

    then_proposes : (f : Face Value) (so_far : StepSoFar) → OnWay ring faces a start j (PartIdle ring) f so_far → (later : List Decided)
        → AllByRecursion (IsRangeChosen (acceptors ring) (seen faces a f)) later
        → (o : Option RingPart) → part_at so_far.view ring.id ≡ o → QueueWay ring faces a start j (PartFine ring) f (proposes_then ring later o so_far)
    then_proposes f so_far w later chosen None e = record {
      face = f;
      grows = Grows-refl f;
      way = record { reached = w.reached; journal = w.journal; kept = w.kept; frames = w.frames; replies = w.replies; lines = w.lines; recorded = w.recorded; told = w.told; part = λ p is. absurd (cc) };
      chosen = chosen;
    }
    then_proposes f so_far w later chosen (Some p) e =
        let m = w.part p e in
        let r : Ruled ring faces a f p.part.kept (proposes ring so_far.view.link p.part) = resumes f w.reached so_far.view.link p.part m.ties m.fine in
        queue_effects (PartIdle ring) f r.after.face so_far w p e later chosen (proposes ring so_far.view.link p.part)
        (of_proposes_after ring (no_effects p.part) so_far.view.link (of_none ring p.part)).lines r.after.grows r.after.ties r.fine

    learned_fine : (part : Part) (range : Decided) → PartFine ring part → (learns ring part range).news ≡ false → PartFine ring (learns ring part range).part
    unfolding learns
    learned_fine part range fine = go (is_news range part.learner)
      where
        go : (b : Bool) → (learns_news b part range).news ≡ false → PartFine ring (learns_news b part range).part
        go false e = fine
        go true e = absurd (cc)

    learned_idle : (part : Part) (range : Decided) → PartIdle ring part → PartIdle ring (learns ring part range).part
    unfolding learns
    learned_idle part range idle = go (is_news range part.learner)
      where
        go : (b : Bool) → PartIdle ring (learns_news b part range).part
        go false = idle
        go true = λ none. rw (idle none) refl

    one_learned : (f : Face Value) (so_far : StepSoFar) → OnWay ring faces a start j (PartFine ring) f so_far → (range : Decided) (later : List Decided)
        → IsRangeChosen (acceptors ring) (seen faces a f) range → AllByRecursion (IsRangeChosen (acceptors ring) (seen faces a f)) later
        → (o : Option RingPart) → part_at so_far.view ring.id ≡ o → QueueWay ring faces a start j (PartFine ring) f (learns_one config ring range later o so_far)
    one_learned f so_far w range later here chosen None e = record { face = f; grows = Grows-refl f; way = w; chosen = chosen }
    one_learned f so_far w range later here chosen (Some p) e = by_test (learns ring p.part range).news refl
      where
        m : MemberTies ring faces a base (PartFine ring) f so_far.changes p
        m = w.part p e

        by_test : (b : Bool) → (learns ring p.part range).news ≡ b
            → QueueWay ring faces a start j (PartFine ring) f (by_news config ring range later b (with_part ring (learns ring p.part range).part so_far))
        by_test false news = record {
          face = f;
          grows = Grows-refl f;
          way = way_learned (PartFine ring) (PartFine ring) f so_far w p e range here (learned_fine p.part range m.fine news);
          chosen = chosen;
        }
        by_test true news =
            let now : StepSoFar = with_part ring (learns ring p.part range).part so_far in
            let told : StepSoFar = prints (Learn so_far.view.id ring.id range.lo range.hi range.value ∷ []) now in
            let way : OnWay ring faces a start j (PartIdle ring) f now =
            way_learned (PartFine ring) (PartIdle ring) f so_far w p e range here (learned_idle p.part range m.fine.idle) in
            let printed : OnWay ring faces a start j (PartIdle ring) f told = record {
              reached = way.reached;
              journal = way.journal;
              kept = way.kept;
              frames = way.frames;
              replies = way.replies;
              lines = appended (IsTold ring (seen faces a f)) so_far.lines (Learn so_far.view.id ring.id range.lo range.hi range.value ∷ []) way.lines ((λ e. here), tt);
              recorded = way.recorded;
              told = way.told;
              part = way.part;
            } in
            then_proposes f (merges config told)
            (way_leaves (PartIdle ring) (PartIdle-same ring) f told (merges config told) (untouched_leaves ring told (merges config told) (merges_untouched config told)) printed)
            later chosen (part_at (merges config told).view ring.id) refl

    queue_learns : (most : ℕ) (f : Face Value) (q : Queued) → OnWay ring faces a start j (PartFine ring) f q.so_far → AllByRecursion (IsRangeChosen (acceptors ring) (seen faces a f)) q.ranges
        → WayAfter ring faces a start j (PartFine ring) f (learns_up_to most config ring q)
    queue_learns zero f q w chosen = record { face = f; grows = Grows-refl f; way = w }
    queue_learns (suc most) f q w chosen = go q.ranges chosen (λ g r. queue_learns most g r)
      where
        go : (ranges : List Decided) → AllByRecursion (IsRangeChosen (acceptors ring) (seen faces a f)) ranges
            → ((g : Face Value) (r : Queued) → OnWay ring faces a start j (PartFine ring) g r.so_far → AllByRecursion (IsRangeChosen (acceptors ring) (seen faces a g)) r.ranges
            → WayAfter ring faces a start j (PartFine ring) g (learns_up_to most config ring r))
            → WayAfter ring faces a start j (PartFine ring) f (then_learns (learns_up_to most config ring) config ring q ranges)
        go [] chosen rest = record { face = f; grows = Grows-refl f; way = w }
        go (range ∷ later) chosen rest =
            let one = one_learned f q.so_far w range later chosen.0 chosen.1 (part_at q.so_far.view ring.id) refl in
            let end = rest one.face (learns_one config ring range later (part_at q.so_far.view ring.id) q.so_far) one.way one.chosen in
            record { face = end.face; grows = Grows-trans one.grows end.grows; way = end.way }

    -- a rule of the ring was made, and what it decided is learned
    pub applies_effects_way : (f : Face Value) (so_far : StepSoFar) → OnWay ring faces a start j (PartFine ring) f so_far → (p : RingPart) → part_at so_far.view ring.id ≡ Some p
        → (effects : Effects) → AllByRecursion IsNoLearn effects.lines → After ring faces a f p.part.kept f effects → PartFine ring effects.part → WayAfter ring faces a start j (PartFine ring) f (applies_effects config ring effects so_far)
    unfolding applies_effects
    applies_effects_way f so_far w p there effects unlearned u fine =
        let q = queue_effects (PartFine ring) f u.face so_far w p there [] tt effects unlearned u.grows u.ties fine in
        let end = queue_learns (2 ^ 44) q.face (queued ring [] effects so_far) q.way q.chosen in
        record { face = end.face; grows = Grows-trans q.grows end.grows; way = end.way }
