-- A ready replica takes place after place: skips leave no line, a batch is delivered.
use Rattle.std.proofs.Common.{◌≡◌, ℕ, zero, suc, ◌+◌, ◌^◌, ◌<◌, Bool, true, false, List, [], ◌∷◌, map, Option, Some, None, refl, sym, ◌∙◌, ap, subst, arith, true≢false}
use Rattle.std.specs.Prelude.{◌==◌, nat_lt, if◌then◌else◌, length}
use Rattle.std.specs.List.{AllByRecursion}
use Rattle.std.proofs.lemmas.Bool.Decides.{nat_tests}
use Rattle.mrp_types.specs.declared.id.NodeId.{NodeId}
use Rattle.mrp_types.specs.declared.id.RingId.{RingId}
use Rattle.mrp_types.specs.declared.value.Value.{Value}
use Rattle.mrp_types.specs.declared.value.Entry.{Entry}
use Rattle.mrp_types.specs.declared.value.Value.TheVariants.{Skip, Batch}
use Rattle.mrp_types.specs.declared.id.TheConstants.{END}
use Rattle.mrp_config.specs.Config.{Config}
use Rattle.frames.specs.declared.sent.Sent.{Sent}
use Rattle.quorums.specs.Groups.{Has}
use Rattle.checkpoint.specs.Checkpoints.{Checkpoint}
use Rattle.plain_model.specs.Replicas.{AppliedAll, applies, entries_of_batch}
use Rattle.plain_model.specs.Tuples.{round_sizes, next_place, past, is_tuple_of, instances, moved_past}
use Rattle.plain_model.proofs.TupleAt.{by_number}
use Rattle.protocol.specs.Lines.{Line, Deliver}
use Rattle.protocol.specs.Learner.{value_in}
use Rattle.protocol.specs.Recovery.{epoch_of}
use Rattle.protocol.specs.Node.{StepSoFar, RingPart, Service, Stage, Recovering, Ready, Standing, part_in, with_stage, prints}
use Rattle.protocol.specs.Merging.{value_of_part, value_at_place, place_of, reply_line, reply_frame, skipped, passed_batch, delivers_applied, takes_place, merges_place, merges_stage, merges_service, merges_up_to, merges}
use Rattle.faithful.specs.Scanners.{past as printed_past, touches, told, Reaches, position, book}
use Rattle.faithful.specs.Rules.{BySkips, Delivers}
use Rattle.recovery_lines.specs.Ties.{IsRightLine, AreRight, KnownLines, IsFit, IsSaid, PartLines, OwnLines, ReadyLines, StageLines, ServiceLines, ReplicaLines, DoneLines, ActLines, AfterLines, newest_of, IsOf}
use Rattle.faithful.proofs.Growing.{same_number, past_more}
use Rattle.faithful.proofs.Ordering.{Reaches-trans, rings_fit, is_valid}
use Rattle.faithful.proofs.Quorum.{partition_there}
use Rattle.recovery_lines.proofs.More.{KnownLines-more, SameOwn, AllKnown-more, OwnLines-same, told_same, IsSaid-more, PartLines-more, ReplicaLines-quiet}
use Rattle.recovery_lines.proofs.Printing.{differ, prints_done, stage_done}
use Rattle.faithful.proofs.Between.{BySkips-refl}
use Rattle.faithful.proofs.Moving.{past_tuple, past_reaches, past_later, past_known, past_skips, same_size}
use Rattle.tuple_laws.proofs.NextPlaces.{at-next}
use Rattle.quorums.proofs.Each.{mapped, appended}

-- ---- what a learner holds is the book's

pub booked_at : (c : Config) (lines : List Line) (parts : List RingPart) (ring : RingId) (inst : ℕ) (value : Value) → AllByRecursion (PartLines lines) parts
    → value_of_part (part_in parts ring) inst ≡ Some value → book lines ring inst ≡ Some value
booked_at c lines [] ring inst value all e = absurd (cc)
booked_at c lines (p ∷ parts) ring inst value all e = go (p.ring.id.0 == ring.0) refl e (λ f. booked_at c lines parts ring inst value all.1 f)
  where
    same_num : (i j : ℕ) → (i == j) ≡ true → i ≡ j
    same_num i j t = grind (arith, nat_tests)

    held : (s : Bool) → (if s then value_in p.part.learner inst else None) ≡ Some value → value_in p.part.learner inst ≡ Some value
    held true f = f
    held false f = absurd (cc)

    go : (t : Bool) → (p.ring.id.0 == ring.0) ≡ t → value_of_part (if t then Some p else part_in parts ring) inst ≡ Some value
        → (value_of_part (part_in parts ring) inst ≡ Some value → book lines ring inst ≡ Some value) → book lines ring inst ≡ Some value
    go true t f rest = subst (λ (r : RingId). book lines r inst ≡ Some value) (by_number p.ring.id ring (same_num p.ring.id.0 ring.0 t)) (all.0.booked inst value (held (nat_lt inst END) f))
    go false t f rest = rest f

-- ---- lines that are of no node's life and that no rule here speaks of

abbrev pub IsStill : Config → Line → Type 0
IsStill c l = ((x : ℕ) → touches x l ≡ false) × ((before : List Line) → IsRightLine c before l)

pub many : (c : Config) (P : List Line → Type 0) → ((l : Line) (lines : List Line) → IsStill c l → P lines → P (l ∷ lines)) → (new lines : List Line) → AllByRecursion (IsStill c) new → P lines → P (printed_past lines new)
many c P step [] lines still p = p
many c P step (l ∷ new) lines still p = many c P step new (l ∷ lines) still.1 (step l lines still.0 p)

module _ (c : Config) (before lines : List Line) (new : List Line) (still : AllByRecursion (IsStill c) new) where
  pub still_said : (frames : List Sent) → AllByRecursion (IsSaid c lines) frames → AllByRecursion (IsSaid c (printed_past lines new)) frames
  still_said frames all = many c (λ (ls : List Line). AllByRecursion (IsSaid c ls) frames) (λ l ls s p. mapped (IsSaid c ls) (IsSaid c (l ∷ ls)) (IsSaid-more c l ls) frames p) new lines still all

  pub prints_still : (a : StepSoFar) → DoneLines c before lines a → DoneLines c before (printed_past lines new) (prints new a)
  prints_still a d = record {
    printed = past_more before a.lines new ∙ ap (λ (ls : List Line). printed_past ls new) d.printed;
    own = appended (IsOf a.view.id) a.lines new d.own (mapped (IsStill c) (IsOf a.view.id) (λ l s other ne. s.0 other) new still);
    right = many c (AreRight c) (λ l ls s f. (s.1 ls, f)) new lines still d.right;
    known = many c (KnownLines c) (λ l ls s k. KnownLines-more c l ls (λ r p t e replica fits h. absurd (true≢false (sym e ∙ s.0 r.0))) k) new lines still d.known;
    frames = still_said a.frames d.frames;
    replies = still_said a.replies d.replies;
    parts = many c (λ (ls : List Line). AllByRecursion (PartLines ls) a.view.parts) (λ l ls s p. mapped (PartLines ls) (PartLines (l ∷ ls)) (PartLines-more c l ls) a.view.parts p) new lines still d.parts;
  }

  pub still_replica : (x : NodeId) (epoch : ℕ) (newest : Option Checkpoint) (service : Option Service) → ReplicaLines c lines x epoch newest service → ReplicaLines c (printed_past lines new) x epoch newest service
  still_replica x epoch newest service r = many c (λ (ls : List Line). ReplicaLines c ls x epoch newest service) (λ l ls s p. ReplicaLines-quiet c l ls x epoch newest service (s.0 x.0) p) new lines still r

-- ---- a place

module _ (c : Config) (fit : IsFit c) (before : List Line) where
  -- a skip
  skips : (service : Service) (standing : Standing) (a : StepSoFar) (lines : List Line) → DoneLines c before lines a
      → OwnLines c lines a.view.id (epoch_of a.view) a.view.checkpoints.newest service.partition service.attempts
      → Has (told a.view.id.0 lines) (newest_of service.partition a.view.checkpoints.newest)
      → ReadyLines c lines a.view.id a.view.checkpoints.newest service.partition standing.tuple standing.delivered
      → book lines (place_of c standing).0 (place_of c standing).1 ≡ Some Skip
      → ActLines c before lines (with_stage service (Ready (skipped c standing)) a)
  skips service standing a lines d o t r skip =
      let m : ℕ → ℕ = round_sizes c in
      let k : List (RingId × ℕ) = standing.tuple in
      let up : Reaches (instances (past m k)) (instances k) = past_reaches m k (is_valid m service.partition.rings k r.valid) in
      record {
        done = stage_done c before lines a d service (Ready (skipped c standing));
        replica = record {
          own = o;
          told = t;
          stage = record {
            ready = r.ready;
            valid = past_tuple m service.partition.rings k r.valid;
            known = past_known m lines k r.known (Skip, skip);
            reached = past_skips m service.partition.rings lines _ k r.reached skip;
            after = Reaches-trans _ _ _ up r.after;
            later = λ some h. r.later some (Reaches-trans _ _ _ h up);
          };
        };
      }

  -- a batch
  batch_taken : (service : Service) (standing : Standing) (batch : List ℕ) (applied : AppliedAll) (a : StepSoFar) (lines : List Line) → DoneLines c before lines a
      → OwnLines c lines a.view.id (epoch_of a.view) a.view.checkpoints.newest service.partition service.attempts
      → Has (told a.view.id.0 lines) (newest_of service.partition a.view.checkpoints.newest)
      → ReadyLines c lines a.view.id a.view.checkpoints.newest service.partition standing.tuple standing.delivered
      → book lines (place_of c standing).0 (place_of c standing).1 ≡ Some (Batch batch)
      → AfterLines c before (delivers_applied c service standing (place_of c standing) applied a)
  batch_taken service standing batch applied a lines d o t r holds = record {
    lines = printed_past (l ∷ lines) new;
    ties = record {
      done = record {
        printed = told_lines.printed;
        own = told_lines.own;
        right = told_lines.right;
        known = told_lines.known;
        frames = told_lines.frames;
        replies = appended (IsSaid c (printed_past (l ∷ lines) new)) a.replies (map (reply_frame a.view.id service) applied.replies) told_lines.replies (frames_said applied.replies);
        parts = told_lines.parts;
      };
      replica = still_replica c before (l ∷ lines) new still a.view.id (epoch_of a.view) a.view.checkpoints.newest (Some (record service { stage = stage })) (record {
        own = OwnLines-same c l lines a.view.id (epoch_of a.view) a.view.checkpoints.newest service.partition service.attempts same o;
        told = told_same c l lines a.view.id (epoch_of a.view) a.view.checkpoints.newest service.partition same t;
        stage = record {
          ready = rw (same_number a.view.id.0) r.ready;
          valid = valid;
          known = AllKnown-more c l lines (past m k) (past_known m lines k r.known (Batch batch, holds));
          reached = subst (λ (from : List (RingId × ℕ)). BySkips m rings (l ∷ lines) from (past m k)) (sym moved) (BySkips-refl m rings (l ∷ lines) (past m k) valid);
          after = Reaches-trans _ _ _ up r.after;
          later = λ some h. past_later m k size (Reaches-trans _ _ _ r.after h);
        };
      });
    };
  }
    where
      m : ℕ → ℕ
      m = round_sizes c

      rings : List RingId
      rings = service.partition.rings

      k : List (RingId × ℕ)
      k = standing.tuple

      place : RingId × ℕ
      place = next_place m k

      l : Line
      l = Deliver a.view.id place.0 place.1

      new : List Line
      new = map (reply_line a.view.id place) applied.replies

      stage : Stage
      stage = Ready (record (passed_batch c standing) { replica = applied.replica })

      up : Reaches (instances (past m k)) (instances k)
      up = past_reaches m k (is_valid m rings k r.valid)

      valid : is_tuple_of m rings (past m k) ≡ true
      valid = past_tuple m rings k r.valid

      size : 0 < length k
      size = same_size rings k (rings_fit m rings k r.valid) (fit.some service.partition (partition_there c.partitions a.view.id service.partition o.replica).there)

      moved : position m rings a.view.id.0 (l ∷ lines) ≡ past m k
      moved = rw (same_number a.view.id.0) (ap (λ (q : List (RingId × ℕ)). moved_past place q) (at-next m rings k fit.rounds r.valid))

      same : SameOwn a.view.id.0 l lines
      same = record { tells = rw (same_number a.view.id.0) refl; begins = rw (same_number a.view.id.0) refl; up = rw (same_number a.view.id.0) refl }

      rule : Delivers c lines a.view.id place.0 place.1
      rule = record { partition = service.partition; replica = o.replica; ready = r.ready; batch = batch; holds = holds; tuple = k; next = refl; reached = r.reached }

      all_still : (replied : List (ℕ × Entry × List ℕ)) → AllByRecursion (IsStill c) (map (reply_line a.view.id place) replied)
      all_still [] = tt
      all_still (one ∷ replied) = ((λ x. refl, λ earlier. tt), all_still replied)

      still : AllByRecursion (IsStill c) new
      still = all_still applied.replies

      frames_said : (replied : List (ℕ × Entry × List ℕ)) → AllByRecursion (IsSaid c (printed_past (l ∷ lines) new)) (map (reply_frame a.view.id service) replied)
      frames_said [] = tt
      frames_said (one ∷ replied) = (tt, frames_said replied)

      told_lines : DoneLines c before (printed_past (l ∷ lines) new) (prints new (prints (l ∷ []) a))
      told_lines = prints_still c before (l ∷ lines) new still (prints (l ∷ []) a) (prints_done c before lines a d l (λ other ne. differ a.view.id.0 other ne) rule (λ r p k e replica fits h. absurd h))

  place_taken : (service : Service) (standing : Standing) (value : Value) (a : StepSoFar) (lines : List Line) → DoneLines c before lines a
      → OwnLines c lines a.view.id (epoch_of a.view) a.view.checkpoints.newest service.partition service.attempts
      → Has (told a.view.id.0 lines) (newest_of service.partition a.view.checkpoints.newest)
      → ReadyLines c lines a.view.id a.view.checkpoints.newest service.partition standing.tuple standing.delivered
      → book lines (place_of c standing).0 (place_of c standing).1 ≡ Some value
      → AfterLines c before (takes_place c service standing (place_of c standing) value a)
  place_taken service standing Skip a lines d o t r e = record { lines = lines; ties = skips service standing a lines d o t r e }
  place_taken service standing (Batch batch) a lines d o t r e = batch_taken service standing batch (applies service.partition standing.replica (entries_of_batch batch)) a lines d o t r e

  -- ---- place after place

  merging : (most : ℕ) (a : StepSoFar) (lines : List Line) → ActLines c before lines a → AfterLines c before (merges_up_to most c a)
  merging zero a lines ties = record { lines = lines; ties = ties }
  merging (suc most) a lines ties = by_service a.view.service ties.replica (λ b ls t. merging most b ls t)
    where
      as_it_was : AfterLines c before a
      as_it_was = record { lines = lines; ties = ties }

      by_value : (service : Service) (standing : Standing) (value : Option Value) → value_at_place a.view (place_of c standing) ≡ value
          → ServiceLines c lines a.view.id (epoch_of a.view) a.view.checkpoints.newest service
          → ReadyLines c lines a.view.id a.view.checkpoints.newest service.partition standing.tuple standing.delivered
          → ((b : StepSoFar) (ls : List Line) → ActLines c before ls b → AfterLines c before (merges_up_to most c b))
          → AfterLines c before (merges_place (merges_up_to most c) c service standing (place_of c standing) value a)
      by_value service standing None e s r rest = as_it_was
      by_value service standing (Some value) e s r rest =
          let one = place_taken service standing value a lines ties.done s.own s.told r
          (booked_at c lines a.view.parts (place_of c standing).0 (place_of c standing).1 value ties.done.parts e) in
          rest (takes_place c service standing (place_of c standing) value a) one.lines one.ties

      by_stage : (service : Service) (stage : Stage) → ServiceLines c lines a.view.id (epoch_of a.view) a.view.checkpoints.newest service
          → StageLines c lines a.view.id (epoch_of a.view) a.view.checkpoints.newest service.partition stage
          → ((b : StepSoFar) (ls : List Line) → ActLines c before ls b → AfterLines c before (merges_up_to most c b))
          → AfterLines c before (merges_stage (merges_up_to most c) c service stage a)
      by_stage service (Recovering attempt) s r rest = as_it_was
      by_stage service (Ready standing) s r rest = by_value service standing (value_at_place a.view (place_of c standing)) refl s r rest

      by_service : (service : Option Service) → ReplicaLines c lines a.view.id (epoch_of a.view) a.view.checkpoints.newest service
          → ((b : StepSoFar) (ls : List Line) → ActLines c before ls b → AfterLines c before (merges_up_to most c b))
          → AfterLines c before (merges_service (merges_up_to most c) c service a)
      by_service None r rest = as_it_was
      by_service (Some service) r rest = by_stage service service.stage r r.stage rest

  pub merged_all : (a : StepSoFar) (lines : List Line) → ActLines c before lines a → AfterLines c before (merges c a)
  unfolding merges
  merged_all a lines ties = merging (2 ^ 44 + 1) a lines ties
