-- Rules of rings among the lines: what a rule prints and sends, a range that is learned with the merge that follows, the end of
-- a step, and the other nodes.
use Rattle.std.proofs.Common.{◌≡◌, ℕ, ◌<◌, ◌≤◌, ◌⊎◌, inl, inr, Bool, true, false, List, [], ◌∷◌, ◌++◌, map, Option, Some, None, refl, sym, ◌∙◌, ap, subst, arith, true≢false, le_refl}
use Rattle.std.specs.Prelude.{◌==◌, nat_lt, nat_le, if◌then◌else◌}
use Rattle.std.specs.List.{AllByRecursion}
use Rattle.std.proofs.lemmas.Bool.Decides.{nat_tests}
use Rattle.mrp_types.specs.declared.id.NodeId.{NodeId}
use Rattle.mrp_types.specs.declared.id.RingId.{RingId}
use Rattle.mrp_types.specs.declared.value.Value.{Value}
use Rattle.mrp_types.specs.declared.voted.Decided.{Decided}
use Rattle.mrp_config.specs.Config.{Config, subscribers_of}
use Rattle.mrp_config.specs.declared.tables.PartitionTable.{PartitionTable}
use Rattle.frames.specs.declared.sent.Sent.{Sent}
use Rattle.checkpoint.specs.Checkpoints.{Checkpoint}
use Rattle.plain_model.proofs.TupleAt.{by_number}
use Rattle.vote_state.specs.State.{State, taken, changed}
use Rattle.vote_state.specs.declared.change.Change.{Change}
use Rattle.vote_journal.specs.Journal.{Journal, recorded}
use Rattle.range_map.specs.Entries.{value_at, IsIncreasingFrom}
use Rattle.range_map.proofs.EntryLemmas.{value_at-entries_from, increasing_entries_from}
use Rattle.protocol.specs.Lines.{Line, Learn, Trim, BallotLimit, InstanceLimit}
use Rattle.protocol.specs.Parts.{Ring, Part, Effects, Learner}
use Rattle.protocol.specs.Learner.{value_in, with_base}
use Rattle.protocol.specs.Recovery.{epoch_of}
use Rattle.protocol.specs.Bases.{rebased, rebases}
use Rattle.protocol.specs.Node.{StepSoFar, RingPart, Service, with_part_in, with_part, prints, finished}
use Rattle.protocol.specs.Learning.{with_effects}
use Rattle.protocol.specs.Merging.{merges}
use Rattle.faithful.specs.Scanners.{past, touches, or_else, told, learned_by, book}
use Rattle.step_lines.specs.Effects.{IsPlain, EffectsTold, AllTold, Onward}
use Rattle.step_lines.proofs.Onward.{put_rings}
use Rattle.recovery_lines.specs.Ties.{IsFit, IsRightLine, AreRight, IsSaid, PartLines, CurrentLines, KnownLines, KeptLines, ReplicaLines, ActLines, AfterLines, StepLines, IsOf, AreCovered, IsCovered, PartTold}
use Rattle.faithful.proofs.Growing.{past_more, book_more}
use Rattle.recovery_lines.proofs.More.{IsSaid-more, PartLines-more, KnownLines-more, ReplicaLines-quiet, KeptLines-same, quiet_own, AllHaveTold-more}
use Rattle.recovery_lines.proofs.Merging.{merged_all}
use Rattle.vote_state.proofs.StateLemmas.{taken-append}
use Rattle.quorums.proofs.Each.{mapped, appended}

-- ---- changes

recorded_epoch : (j : Journal) (cs : List Change) → (recorded j cs).state.epoch ≡ (taken cs j.state).epoch
recorded_epoch j [] = refl
recorded_epoch j (x ∷ cs) = refl

-- ---- what was told stays told

module _ (c : Config) (l : Line) (lines : List Line) where
  IsPlain-more : (other : Line) → IsPlain c lines other → IsPlain c (l ∷ lines) other
  IsPlain-more (Trim node ring inst) h = record { fits_node = h.fits_node; fits_ring = h.fits_ring; told = AllHaveTold-more c l lines ring inst (subscribers_of c.partitions ring) h.told }
  IsPlain-more other h = h

pub plain_quiet : (c : Config) (lines : List Line) (l : Line) → IsPlain c lines l → (x : ℕ) → touches x l ≡ false
plain_quiet c lines (Trim node ring inst) h x = refl
plain_quiet c lines (BallotLimit node ring) h x = refl
plain_quiet c lines (InstanceLimit node ring) h x = refl
plain_quiet c lines (Learn node ring lo hi value) h x = refl
plain_quiet c lines other h x = absurd h

plain_rule : (c : Config) (lines : List Line) (l : Line) → IsPlain c lines l → IsRightLine c lines l
plain_rule c lines (Trim node ring inst) h = h
plain_rule c lines (BallotLimit node ring) h = tt
plain_rule c lines (InstanceLimit node ring) h = tt
plain_rule c lines (Learn node ring lo hi value) h = tt
plain_rule c lines other h = absurd h

pub plain_many : (c : Config) (P : List Line → Type 0) → ((l : Line) (lines : List Line) → IsPlain c lines l → P lines → P (l ∷ lines)) → (new lines : List Line) → AllByRecursion (IsPlain c lines) new → P lines
    → P (past lines new)
plain_many c P step [] lines plain p = p
plain_many c P step (l ∷ new) lines plain p =
    plain_many c P step new (l ∷ lines) (mapped (IsPlain c lines) (IsPlain c (l ∷ lines)) (IsPlain-more c l lines) new plain.1) (step l lines plain.0 p)

-- whatever the lines are
pub all_many : (P : List Line → Type 0) → ((l : Line) (lines : List Line) → P lines → P (l ∷ lines)) → (new lines : List Line) → P lines → P (past lines new)
all_many P step [] lines p = p
all_many P step (l ∷ new) lines p = all_many P step new (l ∷ lines) (step l lines p)

-- frames that were sent before
pub frames_still : (c : Config) (new lines : List Line) (frames : List Sent) → AllByRecursion (IsSaid c lines) frames → AllByRecursion (IsSaid c (past lines new)) frames
frames_still c new lines frames all = all_many (λ (ls : List Line). AllByRecursion (IsSaid c ls) frames) (λ l ls p. mapped (IsSaid c ls) (IsSaid c (l ∷ ls)) (IsSaid-more c l ls) frames p) new lines all

-- ---- parts

pub part_put : (lines : List Line) (ring : Ring) (part : Part) → IsIncreasingFrom 0 part.learner.held → ((inst : ℕ) (value : Value) → value_in part.learner inst ≡ Some value → book lines ring.id inst ≡ Some value)
    → (parts : List RingPart) → AllByRecursion (PartLines lines) parts → AllByRecursion (PartLines lines) (with_part_in ring.id part parts)
part_put lines ring part ordered booked [] all = tt
part_put lines ring part ordered booked (p ∷ parts) all = go (p.ring.id.0 == ring.id.0) refl (part_put lines ring part ordered booked parts all.1)
  where
    same_num : (i j : ℕ) → (i == j) ≡ true → j ≡ i
    same_num i j e = grind (arith, nat_tests)

    go : (b : Bool) → (p.ring.id.0 == ring.id.0) ≡ b → AllByRecursion (PartLines lines) (with_part_in ring.id part parts)
        → AllByRecursion (PartLines lines) (if b then record p { part = part } ∷ parts else p ∷ with_part_in ring.id part parts)
    go true e rest =
        let same : ring.id ≡ p.ring.id = by_number ring.id p.ring.id (same_num p.ring.id.0 ring.id.0 e) in
        (record { ordered = ordered; booked = λ inst value h. subst (λ (r : RingId). book lines r inst ≡ Some value) same (booked inst value h) }, all.1)
    go false e rest = (all.0, rest)

pub told_put : (c : Config) (lines : List Line) (ring : RingId) (part : Part) → CurrentLines c lines ring part.rounds.current → IsCovered c lines ring part.kept.trim → (parts : List RingPart)
    → AllByRecursion (PartTold c lines) parts → AllByRecursion (PartTold c lines) (with_part_in ring part parts)
told_put c lines ring part round trim [] all = tt
told_put c lines ring part round trim (p ∷ parts) all = go (p.ring.id.0 == ring.0) refl (told_put c lines ring part round trim parts all.1)
  where
    same_num : (i j : ℕ) → (i == j) ≡ true → j ≡ i
    same_num i j e = grind (arith, nat_tests)

    go : (b : Bool) → (p.ring.id.0 == ring.0) ≡ b → AllByRecursion (PartTold c lines) (with_part_in ring part parts)
        → AllByRecursion (PartTold c lines) (if b then record p { part = part } ∷ parts else p ∷ with_part_in ring part parts)
    go true e rest =
        let same : ring ≡ p.ring.id = by_number ring p.ring.id (same_num p.ring.id.0 ring.0 e) in (
          record {
            round = subst (λ (r : RingId). CurrentLines c lines r part.rounds.current) same round;
            trim = subst (λ (r : RingId). IsCovered c lines r part.kept.trim) same trim;
          },
          all.1,
        )
    go false e rest = (all.0, rest)

-- ---- a rule of a ring was made

pub effects_onward : (c : Config) (lines : List Line) (ring : Ring) (effects : Effects) (a : StepSoFar) → (AllTold c lines a → EffectsTold c lines ring.id effects) → Onward c lines a (with_effects ring effects a)
effects_onward c lines ring effects a told = record {
  more = effects.lines;
  printed = refl;
  id = refl;
  rings = put_rings ring.id effects.part a.view.parts;
  journal = refl;
  checkpoints = refl;
  told = λ t. let d : EffectsTold c lines ring.id effects = told t in record {
    parts = told_put c lines ring.id effects.part d.round d.trim a.view.parts t.parts;
    trims = subst (λ (s : State). AreCovered c lines s) (sym (taken-append a.changes effects.changes a.view.journal.state)) (d.changes (taken a.changes a.view.journal.state) t.trims);
    epoch = ap (λ (s : State). s.epoch) (taken-append a.changes effects.changes a.view.journal.state) ∙ d.epoch (taken a.changes a.view.journal.state) ∙ t.epoch;
  };
}

module _ (c : Config) (before lines : List Line) (a : StepSoFar) (ties : ActLines c before lines a) (ring : Ring) where
  pub effects_composed : (effects : Effects) → EffectsTold c before ring.id effects → IsIncreasingFrom 0 effects.part.learner.held → ((inst : ℕ) (value : Value) → value_in effects.part.learner inst ≡ Some value → book lines ring.id inst ≡ Some value)
      → ActLines c before (past lines effects.lines) (with_effects ring effects a)
  effects_composed effects d ordered booked = record {
    done = record {
      printed = past_more before a.lines effects.lines ∙ ap (λ (ls : List Line). past ls effects.lines) ties.done.printed;
      own = appended (IsOf a.view.id) a.lines effects.lines ties.done.own (mapped (IsPlain c lines) (IsOf a.view.id) (λ l p other ne. plain_quiet c lines l p other) effects.lines plain);
      right = plain_many c (AreRight c) (λ l ls p f. (plain_rule c ls l p, f)) effects.lines lines plain ties.done.right;
      known = plain_many c (KnownLines c) (λ l ls p k. KnownLines-more c l ls (λ r q t e replica fits h. absurd (true≢false (sym e ∙ plain_quiet c ls l p r.0))) k) effects.lines lines plain ties.done.known;
      frames = appended (IsSaid c (past lines effects.lines)) a.frames effects.frames (frames_still c effects.lines lines a.frames ties.done.frames) (frames_still c effects.lines lines effects.frames frames);
      replies = frames_still c effects.lines lines a.replies ties.done.replies;
      parts = all_many (λ (ls : List Line). AllByRecursion (PartLines ls) (with_part_in ring.id effects.part a.view.parts))
          (λ l ls p. mapped (PartLines ls) (PartLines (l ∷ ls)) (PartLines-more c l ls) (with_part_in ring.id effects.part a.view.parts) p) effects.lines lines
          (part_put lines ring effects.part ordered booked a.view.parts ties.done.parts);
    };
    replica = plain_many c (λ (ls : List Line). ReplicaLines c ls a.view.id (epoch_of a.view) a.view.checkpoints.newest a.view.service)
        (λ l ls p r. ReplicaLines-quiet c l ls a.view.id (epoch_of a.view) a.view.checkpoints.newest a.view.service (plain_quiet c ls l p a.view.id.0) r) effects.lines lines plain ties.replica;
  }
    where
      plain : AllByRecursion (IsPlain c lines) effects.lines
      plain = subst (λ (ls : List Line). AllByRecursion (IsPlain c ls) effects.lines) ties.done.printed
          (all_many (λ (ls : List Line). AllByRecursion (IsPlain c ls) effects.lines) (λ l ls p. mapped (IsPlain c ls) (IsPlain c (l ∷ ls)) (IsPlain-more c l ls) effects.lines p) a.lines before d.plain)

      frames : AllByRecursion (IsSaid c lines) effects.frames
      frames = subst (λ (ls : List Line). AllByRecursion (IsSaid c ls) effects.frames) ties.done.printed (frames_still c a.lines before effects.frames d.frames)

  -- ---- a range is learned, and the merge runs

  -- what is held afterwards was held, or is the range's; and what the book has in the range is its value
  pub learned_composed : (fit : IsFit c) (part : Part) (range : Decided) → IsIncreasingFrom 0 part.learner.held
      → ((inst : ℕ) (value : Value) → value_in part.learner inst ≡ Some value → (book lines ring.id inst ≡ Some value) ⊎ ((value ≡ range.value) × ((range.lo ≤ inst) × (inst < range.hi))))
      → ((inst : ℕ) (value : Value) → range.lo ≤ inst → inst < range.hi → book lines ring.id inst ≡ Some value → value ≡ range.value)
      → AfterLines c before (merges c (prints (Learn a.view.id ring.id range.lo range.hi range.value ∷ []) (with_part ring part a)))
  learned_composed fit part range ordered held agrees = merged_all c fit before (prints (l ∷ []) (with_part ring part a)) (l ∷ lines) (record {
    done = record {
      printed = past_more before a.lines (l ∷ []) ∙ ap (λ (ls : List Line). l ∷ ls) ties.done.printed;
      own = appended (IsOf a.view.id) a.lines (l ∷ []) ties.done.own ((λ other ne. refl), tt);
      right = (tt, ties.done.right);
      known = KnownLines-more c l lines (λ r p t e replica fits h. absurd (true≢false (sym e))) ties.done.known;
      frames = mapped (IsSaid c lines) (IsSaid c (l ∷ lines)) (IsSaid-more c l lines) a.frames ties.done.frames;
      replies = mapped (IsSaid c lines) (IsSaid c (l ∷ lines)) (IsSaid-more c l lines) a.replies ties.done.replies;
      parts = part_put (l ∷ lines) ring part ordered booked a.view.parts (mapped (PartLines lines) (PartLines (l ∷ lines)) (PartLines-more c l lines) a.view.parts ties.done.parts);
    };
    replica = ReplicaLines-quiet c l lines a.view.id (epoch_of a.view) a.view.checkpoints.newest a.view.service refl ties.replica;
  })
    where
      l : Line
      l = Learn a.view.id ring.id range.lo range.hi range.value

      covers : (inst : ℕ) → range.lo ≤ inst → inst < range.hi → learned_by ring.id inst l ≡ Some range.value
      covers inst from to =
          let same : (ring.id.0 == ring.id.0) ≡ true = grind (arith, nat_tests) in
          let low : nat_le range.lo inst ≡ true = grind (arith, nat_tests) in
          let high : nat_lt inst range.hi ≡ true = grind (arith, nat_tests) in
          rw same (rw low (rw high refl))

      booked : (inst : ℕ) (value : Value) → value_in part.learner inst ≡ Some value → book (l ∷ lines) ring.id inst ≡ Some value
      booked inst value e = elim (held inst value e) [
        | inl there ↦ book_more l lines ring.id inst value there
        | inr new ↦ by_book (book lines ring.id inst) refl new.0 new.1.0 new.1.1
      ]
        where
          by_book : (o : Option Value) → book lines ring.id inst ≡ o → value ≡ range.value → range.lo ≤ inst → inst < range.hi → or_else (book lines ring.id inst) (learned_by ring.id inst l) ≡ Some value
          by_book None f same from to = rw f (covers inst from to ∙ ap (λ (v : Value). Some v) (sym same))
          by_book (Some known) f same from to = rw f (ap (λ (v : Value). Some v) (agrees inst known from to f ∙ sym same))

-- ---- the end of a step

module _ (c : Config) (before lines : List Line) (a : StepSoFar) (ties : ActLines c before lines a) where
  based : (inst : ℕ) (learner : Learner) (i : ℕ) (value : Value) → value_in (with_base inst learner) i ≡ Some value → value_in learner i ≡ Some value
  based inst learner i value e = go (nat_le inst i) (sym (value_at-entries_from inst learner.held i) ∙ e)
    where
      go : (b : Bool) → (if b then value_at i learner.held else None) ≡ Some value → value_at i learner.held ≡ Some value
      go true f = f
      go false f = absurd (cc)

  parts_based : (service : Option Service) (parts : List RingPart) → AllByRecursion (PartLines lines) parts → AllByRecursion (PartLines lines) (map (rebased service) parts)
  parts_based service [] all = tt
  parts_based service (p ∷ parts) all = (record { ordered = increasing_entries_from 0 _ 0 p.part.learner.held all.0.ordered (inl (le_refl 0)); booked = λ i value e. all.0.booked i value (based _ p.part.learner i value e) }, parts_based service parts all.1)

  pub rebased_lines : ActLines c before lines (rebases a)
  rebased_lines = record {
    done = record {
      printed = ties.done.printed;
      own = ties.done.own;
      right = ties.done.right;
      known = ties.done.known;
      frames = ties.done.frames;
      replies = ties.done.replies;
      parts = parts_based a.view.service a.view.parts ties.done.parts;
    };
    replica = ties.replica;
  }

  pub finished_lines : (taken a.changes a.view.journal.state).epoch ≡ a.view.journal.state.epoch → StepLines c before lines a.view.id (finished a)
  finished_lines epoch = record {
    printed = ties.done.printed;
    own = ties.done.own;
    right = ties.done.right;
    known = ties.done.known;
    frames = appended (IsSaid c lines) a.frames a.replies ties.done.frames ties.done.replies;
    parts = ties.done.parts;
    replica = subst (λ (e : ℕ). ReplicaLines c lines a.view.id e a.view.checkpoints.newest a.view.service) (sym (recorded_epoch a.view.journal a.changes ∙ epoch)) ties.replica;
  }

-- a step's rules are over
pub ends : (c : Config) (before lines : List Line) (a : StepSoFar) → ActLines c before lines a → (taken a.changes a.view.journal.state).epoch ≡ a.view.journal.state.epoch → StepLines c before lines a.view.id (finished (rebases a))
ends c before lines a ties epoch = finished_lines c before lines (rebases a) (rebased_lines c before lines a ties) epoch

-- ---- the other nodes

-- lines of one node's life are of no other's
pub of_many : (x : NodeId) (P : List Line → Type 0) (other : ℕ) → (x.0 ≡ other → ⊥) → ((l : Line) (lines : List Line) → touches other l ≡ false → P lines → P (l ∷ lines)) → (new lines : List Line) → AllByRecursion (IsOf x) new → P lines
    → P (past lines new)
of_many x P other ne step [] lines own p = p
of_many x P other ne step (l ∷ new) lines own p = of_many x P other ne step new (l ∷ lines) own.1 (step l lines (own.0 other ne) p)

pub others_replica : (c : Config) (x y : NodeId) (epoch : ℕ) (newest : Option Checkpoint) (service : Option Service) (new lines : List Line) → (x.0 ≡ y.0 → ⊥) → AllByRecursion (IsOf x) new
    → ReplicaLines c lines y epoch newest service → ReplicaLines c (past lines new) y epoch newest service
others_replica c x y epoch newest service new lines ne own r =
    of_many x (λ (ls : List Line). ReplicaLines c ls y epoch newest service) y.0 ne (λ l ls quiet p. ReplicaLines-quiet c l ls y epoch newest service quiet p) new lines own r

pub others_kept : (c : Config) (x y : NodeId) (epoch : ℕ) (p : PartitionTable) (newest : Option Checkpoint) (new lines : List Line) → (x.0 ≡ y.0 → ⊥) → AllByRecursion (IsOf x) new
    → KeptLines c lines y epoch p newest → KeptLines c (past lines new) y epoch p newest
others_kept c x y epoch p newest new lines ne own k =
    of_many x (λ (ls : List Line). KeptLines c ls y epoch p newest) y.0 ne (λ l ls quiet q. KeptLines-same c l ls y epoch newest p (quiet_own y.0 l ls quiet) q) new lines own k
