-- A save: its line, and what the disk stands for before and after. Then what a node is once it is down, and when it opens.
use Rattle.std.proofs.Common.{◌≡◌, ℕ, ◌+◌, ◌<◌, ◌≤◌, ◌⊎◌, inl, inr, Bool, true, false, List, ◌∷◌, Option, Some, None, refl, sym, subst, arith}
use Rattle.std.specs.Prelude.{nat_lt, nat_le, ◌^◌, ◌-◌, if◌then◌else◌}
use Rattle.std.proofs.lemmas.Bool.Decides.{nat_tests}
use Rattle.mrp_types.specs.declared.id.NodeId.{NodeId}
use Rattle.mrp_types.specs.declared.id.RingId.{RingId}
use Rattle.mrp_config.specs.Config.{Config, partition_of}
use Rattle.mrp_config.specs.declared.tables.PartitionTable.{PartitionTable}
use Rattle.quorums.specs.Groups.{Has}
use Rattle.checkpoint.specs.Checkpoints.{Checkpoint}
use Rattle.plain_model.specs.StateBytes.{state_bytes}
use Rattle.plain_model.specs.Tuples.{round_sizes, instances}
use Rattle.plain_model.proofs.TupleOrder.{split_and}
use Rattle.protocol.specs.Lines.{Line, Cause, Saved, Down, Up}
use Rattle.protocol.specs.Node.{View, Service, Stage, Recovering, Ready, Standing, Stepped}
use Rattle.protocol.specs.Recovery.{epoch_of}
use Rattle.protocol.specs.Tick.{saves, is_due_to_save, saves_stage, saves_first}
use Rattle.faithful.specs.Scanners.{told, begun, Reaches, position}
use Rattle.faithful.specs.Rules.{BySkips, Saves}
use Rattle.recovery_lines.specs.Ties.{IsFit, PartLines, KeptLines, OwnLines, ReadyLines, StageLines, ServiceLines, ReplicaLines, StepLines, ViewLines}
use Rattle.faithful.proofs.Growing.{same_number}
use Rattle.faithful.proofs.Ordering.{Reaches-refl, Reaches-trans}
use Rattle.recovery_lines.proofs.More.{KnownLines-more, PartLines-more, AllKnown-more, BySkips-more}
use Rattle.recovery_lines.proofs.Printing.{differ, tells_own}
use Rattle.quorums.proofs.Each.{mapped}

-- the state that a save would leave, before its line is printed: what a disk may stand for where the step is stopped
pub kept_saved : (c : Config) (lines : List Line) (x : NodeId) (epoch : ℕ) (p : PartitionTable) (newest : Option Checkpoint) (attempts : ℕ) (standing : Standing) (state : List ℕ)
    → OwnLines c lines x epoch newest p attempts → ReadyLines c lines x newest p standing.tuple standing.delivered
    → KeptLines c lines x epoch p (Some (record { tuple = standing.tuple; state = state }))
kept_saved c lines x epoch p newest attempts standing state own r = record {
  older = own.kept.older;
  valid = r.valid;
  known = r.known;
  reaches = λ earlier h. Reaches-trans _ _ _ r.after (own.kept.reaches earlier h);
}

module _ (c : Config) (fit : IsFit c) (lines : List Line) (view : View) (ties : ViewLines c lines view) where
  saved_lines : (service : Service) (standing : Standing) (state : List ℕ) → OwnLines c lines view.id (epoch_of view) view.checkpoints.newest service.partition service.attempts
      → ReadyLines c lines view.id view.checkpoints.newest service.partition standing.tuple standing.delivered → 0 < standing.delivered
      → StepLines c lines (Saved view.id (instances standing.tuple) ∷ lines) view.id (saves view service standing state)
  saved_lines service standing state own r some = record {
    printed = refl;
    own = (λ other ne. differ view.id.0 other ne, tt);
    right = (rule, ties.right);
    known = KnownLines-more c l lines (λ q p k e replica valid h. tells_own c lines view.id q service.partition p standing.tuple k e own.replica replica r.valid valid h r.known) ties.known;
    frames = tt;
    parts = mapped (PartLines lines) (PartLines (l ∷ lines)) (PartLines-more c l lines) view.parts ties.parts;
    replica = record {
      own = record {
        replica = own.replica;
        kept = record {
          older = λ other h. own.kept.older other (same_begun other h);
          valid = r.valid;
          known = AllKnown-more c l lines standing.tuple r.known;
          reaches = λ earlier h. elim (told_now earlier h) [
            | inl e ↦ subst (λ (t : List ℕ). Reaches (instances standing.tuple) t) (sym e) (Reaches-refl (instances standing.tuple))
            | inr there ↦ Reaches-trans _ _ _ r.after (own.kept.reaches earlier there)
          ];
        };
        up = rw (same_number view.id.0) own.up;
        counted = λ other h. own.counted other (same_begun other h);
      };
      told = rw (same_number view.id.0) (inl refl);
      stage = record {
        ready = rw (same_number view.id.0) r.ready;
        valid = r.valid;
        known = AllKnown-more c l lines standing.tuple r.known;
        reached = subst (λ (k : List (RingId × ℕ)). BySkips (round_sizes c) service.partition.rings (l ∷ lines) k standing.tuple) (sym stays)
            (BySkips-more c l lines (round_sizes c) service.partition.rings _ standing.tuple r.reached);
        after = Reaches-refl (instances standing.tuple);
        later = λ none. absurd (omega (arith, none));
      };
    };
  }
    where
      l : Line
      l = Saved view.id (instances standing.tuple)

      rule : Saves c lines view.id (instances standing.tuple)
      rule = record {
        stands = record { partition = service.partition; replica = own.replica; ready = r.ready; tuple = standing.tuple; shown = refl; reached = r.reached };
        later = λ earlier h. (Reaches-trans _ _ _ r.after (own.kept.reaches earlier h), λ back. r.later some (Reaches-trans _ _ _ (own.kept.reaches earlier h) back));
      }

      stays : position (round_sizes c) service.partition.rings view.id.0 (l ∷ lines) ≡ position (round_sizes c) service.partition.rings view.id.0 lines
      stays = rw (same_number view.id.0) refl

      same_begun : (other : ℕ × ℕ) → Has (begun view.id.0 (l ∷ lines)) other → Has (begun view.id.0 lines) other
      same_begun other h = subst (λ (b : Bool). Has (if b then begun view.id.0 lines else begun view.id.0 lines) other) (same_number view.id.0) h

      told_now : (other : List ℕ) → Has (told view.id.0 (l ∷ lines)) other → (other ≡ instances standing.tuple) ⊎ Has (told view.id.0 lines) other
      told_now other h = subst (λ (b : Bool). Has (if b then instances standing.tuple ∷ told view.id.0 lines else told view.id.0 lines) other) (same_number view.id.0) h

  -- where a tick saves
  abbrev pub SavedOr : Option Stepped → Type 0
  SavedOr None = Unit {0}
  SavedOr (Some effects) = (new : List Line) × StepLines c lines new view.id effects

  pub saves_lines : SavedOr (saves_first c view view.service)
  saves_lines = by_service view.service ties.replica
    where
      by_stage : (service : Service) (stage : Stage) → service.stage ≡ stage → ServiceLines c lines view.id (epoch_of view) view.checkpoints.newest service → SavedOr (saves_stage c view service stage)
      by_stage service (Recovering attempt) e s = tt
      by_stage service (Ready standing) e s = go (is_due_to_save c view standing) refl
        where
          ready : ReadyLines c lines view.id view.checkpoints.newest service.partition standing.tuple standing.delivered
          ready = subst (λ (st : Stage). StageLines c lines view.id (epoch_of view) view.checkpoints.newest service.partition st) e s.stage

          go : (b : Bool) → is_due_to_save c view standing ≡ b → SavedOr (if b then Some (saves view service standing (state_bytes standing.replica)) else None)
          go false t = tt
          go true t =
              let due = split_and (nat_lt view.checkpoints.generation (2 ^ 64 - 1)) (nat_le c.checkpoint standing.delivered) t in
              let least : 0 < c.checkpoint = fit.checkpoint in
              let most : c.checkpoint ≤ standing.delivered = at_most c.checkpoint standing.delivered due.1 in
              let some : 0 < standing.delivered = omega arith in
              (Saved view.id (instances standing.tuple) ∷ lines, saved_lines service standing (state_bytes standing.replica) s.own ready some)
            where
              at_most : (i j : ℕ) → nat_le i j ≡ true → i ≤ j
              at_most i j h = grind (arith, nat_tests)

      by_service : (service : Option Service) → ReplicaLines c lines view.id (epoch_of view) view.checkpoints.newest service → SavedOr (saves_first c view service)
      by_service None s = tt
      by_service (Some service) s = by_stage service service.stage refl s

pub saved_right : (c : Config) (fit : IsFit c) (lines : List Line) (view : View) → ViewLines c lines view → (effects : Stepped) → saves_first c view view.service ≡ Some effects → (new : List Line) × StepLines c lines new view.id effects
saved_right c fit lines view ties effects e = go (saves_first c view view.service) e (saves_lines c fit lines view ties)
  where
    same : (u v : Stepped) → Some u ≡ Some v → u ≡ v
    same u v f = cc

    go : (o : Option Stepped) → o ≡ Some effects → SavedOr c fit lines view ties o → (new : List Line) × StepLines c lines new view.id effects
    go None f s = absurd (cc)
    go (Some saved) f s = subst (λ (q : Stepped). (new : List Line) × StepLines c lines new view.id q) (same saved effects f) s

-- ---- down and up again

-- a node goes down: its possible states stay such
pub kept_down : (c : Config) (lines : List Line) (x : NodeId) (cause : Cause) (epoch : ℕ) (p : PartitionTable) (newest : Option Checkpoint) → KeptLines c lines x epoch p newest
    → KeptLines c (Down x cause ∷ lines) x epoch p newest
kept_down c lines x cause epoch p newest k = record {
  older = λ other h. k.older other (subst (λ (b : Bool). Has (if b then begun x.0 lines else begun x.0 lines) other) (same_number x.0) h);
  valid = k.valid;
  known = AllKnown-more c (Down x cause) lines _ k.known;
  reaches = λ earlier h. k.reaches earlier (subst (λ (b : Bool). Has (if b then told x.0 lines else told x.0 lines) earlier) (same_number x.0) h);
}

-- and with an epoch more
pub kept_next : (c : Config) (lines : List Line) (x : NodeId) (epoch : ℕ) (p : PartitionTable) (newest : Option Checkpoint) → KeptLines c lines x epoch p newest → KeptLines c lines x (epoch + 1) p newest
kept_next c lines x epoch p newest k = record {
  older = λ other h. let low : other.0 ≤ epoch = k.older other h in omega arith;
  valid = k.valid;
  known = k.known;
  reaches = k.reaches;
}

-- It opens with an epoch more than that of the state that its disk stands for.
pub own_opened : (c : Config) (lines : List Line) (x : NodeId) (epoch : ℕ) (p : PartitionTable) (newest : Option Checkpoint) → partition_of c.partitions x ≡ Some p
    → KeptLines c lines x epoch p newest → OwnLines c (Up x (epoch + 1) ∷ lines) x (epoch + 1) newest p 0
own_opened c lines x epoch p newest replica k = record {
  replica = replica;
  kept = record {
    older = λ other h. let low : other.0 ≤ epoch = k.older other (same_begun other h) in omega arith;
    valid = k.valid;
    known = AllKnown-more c (Up x (epoch + 1)) lines _ k.known;
    reaches = λ earlier h. k.reaches earlier (subst (λ (b : Bool). Has (if b then told x.0 lines else told x.0 lines) earlier) (same_number x.0) h);
  };
  up = rw (same_number x.0) refl;
  counted = λ other h. let low : other.0 ≤ epoch = k.older other (same_begun other h) in inl (omega arith);
}
  where
    same_begun : (other : ℕ × ℕ) → Has (begun x.0 (Up x (epoch + 1) ∷ lines)) other → Has (begun x.0 lines) other
    same_begun other h = subst (λ (b : Bool). Has (if b then begun x.0 lines else begun x.0 lines) other) (same_number x.0) h
