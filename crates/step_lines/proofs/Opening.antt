-- A node that opens: an attempt begins, over its up line.
use Rattle.step_lines.proofs.Ending.{finished_left}
use Rattle.step_lines.proofs.Recovery.{begins_onward}
use Rattle.step_lines.proofs.Onward.{Onward-refl}
use Rattle.std.proofs.Common.{◌≡◌, ℕ, ◌+◌, inl, inr, Bool, true, false, List, [], ◌∷◌, Option, Some, None, refl, sym, ◌∙◌, subst, true≢false}
use Rattle.std.specs.Prelude.{◌==◌, if◌then◌else◌}
use Rattle.std.specs.List.{AllByRecursion}
use Rattle.mrp_types.specs.declared.id.NodeId.{NodeId}
use Rattle.mrp_types.specs.declared.value.Value.{Value}
use Rattle.mrp_config.specs.Config.{Config, ring_at, partition_of}
use Rattle.mrp_config.specs.declared.tables.RingTable.{RingTable}
use Rattle.mrp_config.specs.declared.tables.PartitionTable.{PartitionTable}
use Rattle.vote_state.specs.State.{State}
use Rattle.vote_journal.specs.Journal.{Journal}
use Rattle.checkpoint.specs.Checkpoints.{Checkpoints}
use Rattle.protocol.specs.Lines.{Line, Up}
use Rattle.protocol.specs.Rings.{ring_of, is_member}
use Rattle.protocol.specs.Opening.{part_of_ring, parts_of, view_of, begins_first, opened}
use Rattle.protocol.specs.Node.{StepSoFar, Service, Recovering, begun_with, finished}
use Rattle.protocol.specs.Recovery.{begins}
use Rattle.recovery_lines.specs.Ties.{IsFit, IsPlaced, AreRight, AreCovered, PartTold, PartLines, KnownLines, KeptLines, OwnLines, DoneLines, AfterLines, StepLines, rings_in}
use Rattle.quorums.specs.Groups.{Has}
use Rattle.faithful.specs.Rules.{HasNode, AreFaithful}
use Rattle.faithful.proofs.Growing.{same_number}
use Rattle.recovery_lines.proofs.More.{KnownLines-more}
use Rattle.recovery_lines.proofs.Beginning.{next_begins}
use Rattle.recovery_lines.proofs.Merging.{merged_all}
use Rattle.recovery_lines.proofs.Saving.{own_opened}
use Rattle.step_lines.specs.Effects.{AllTold, Onward, KeptFor, LeftTold}
use Rattle.step_lines.proofs.Composing.{finished_lines}

-- a ring that stands in a list is found there
pub ring_there : (rings : List RingTable) (ring : RingTable) → Has rings ring → (table : RingTable) × (ring_at rings ring.id.0 ≡ Some table)
ring_there [] ring has = absurd has
ring_there (r ∷ rings) ring has = go (r.id.0 == ring.id.0) refl has (λ h. ring_there rings ring h)
  where
    go : (b : Bool) → (r.id.0 == ring.id.0) ≡ b → Has (r ∷ rings) ring → (Has rings ring → (table : RingTable) × (ring_at rings ring.id.0 ≡ Some table))
        → (table : RingTable) × ((if b then Some r else ring_at rings ring.id.0) ≡ Some table)
    go true e h rest = (r, refl)
    go false e (inl same) rest = absurd (true≢false (sym (subst (λ (q : RingTable). (q.id.0 == ring.id.0) ≡ true) same (same_number ring.id.0)) ∙ e))
    go false e (inr h) rest = rest h

module _ (c : Config) (lines : List Line) (id : NodeId) (state : State) where
  parts_fresh : (rings : List RingTable) → AllByRecursion (PartLines lines) (parts_of c id state rings)
  parts_fresh [] = tt
  parts_fresh (ring ∷ rings) = go (is_member (ring_of c id ring)) (parts_fresh rings)
    where
      nothing : (value : Value) → None ≡ Some value → ⊥
      nothing value e = cc

      go : (b : Bool) → AllByRecursion (PartLines lines) (parts_of c id state rings)
          → AllByRecursion (PartLines lines) (if b then part_of_ring state (ring_of c id ring) ∷ parts_of c id state rings else parts_of c id state rings)
      go true rest = (record { ordered = tt; booked = λ inst value e. absurd (nothing value e) }, rest)
      go false rest = rest

  told_fresh : AreCovered c lines state → (rings : List RingTable) → AllByRecursion (PartTold c lines) (parts_of c id state rings)
  told_fresh covered [] = tt
  told_fresh covered (ring ∷ rings) = go (is_member (ring_of c id ring)) (told_fresh covered rings)
    where
      go : (b : Bool) → AllByRecursion (PartTold c lines) (parts_of c id state rings)
          → AllByRecursion (PartTold c lines) (if b then part_of_ring state (ring_of c id ring) ∷ parts_of c id state rings else parts_of c id state rings)
      go true rest = (record { round = tt; trim = covered ring.id }, rest)
      go false rest = rest

  pub placed_fresh : HasNode c id → (rings : List RingTable) → ((ring : RingTable) → Has rings ring → Has c.rings ring) → AllByRecursion (IsPlaced c id) (rings_in (parts_of c id state rings))
  placed_fresh fits [] sub = tt
  placed_fresh fits (ring ∷ rings) sub = go (is_member (ring_of c id ring)) (placed_fresh fits rings (λ r has. sub r (inr has)))
    where
      go : (b : Bool) → AllByRecursion (IsPlaced c id) (rings_in (parts_of c id state rings))
          → AllByRecursion (IsPlaced c id) (rings_in (if b then part_of_ring state (ring_of c id ring) ∷ parts_of c id state rings else parts_of c id state rings))
      go true rest = (record { fits_node = fits; fits_ring = ring_there c.rings ring (sub ring (inl refl)); own = refl; subscribers = refl }, rest)
      go false rest = rest

module _ (c : Config) (fit : IsFit c) (lines : List Line) (id : NodeId) (journal : Journal) (checkpoints : Checkpoints) (epoch : ℕ) (same : journal.state.epoch ≡ epoch + 1)
    (kept : KeptFor c lines id epoch checkpoints.newest (partition_of c.partitions id)) where
  begins_onward_first : (now : List Line) (o : Option PartitionTable) → Onward c now (begun_with (view_of c id journal checkpoints)) (begins_first c o (begun_with (view_of c id journal checkpoints)))
  begins_onward_first now None = Onward-refl c now (begun_with (view_of c id journal checkpoints))
  begins_onward_first now (Some p) = begins_onward c now (record { partition = p; attempts = 0; stage = Recovering (record { number = 0; ticks = 0; answers = []; choice = None }) }) (begun_with (view_of c id journal checkpoints))

  told_now : AreCovered c (Up id (epoch + 1) ∷ lines) journal.state → AllTold c (Up id (epoch + 1) ∷ lines) (begun_with (view_of c id journal checkpoints))
  told_now covered = record { parts = told_fresh c (Up id (epoch + 1) ∷ lines) id journal.state covered c.rings; trims = covered; epoch = refl }

  kept_now : KeptFor c (Up id (epoch + 1) ∷ lines) id journal.state.epoch checkpoints.newest (partition_of c.partitions id)
  kept_now = go (partition_of c.partitions id) refl kept
    where
      go : (o : Option PartitionTable) → partition_of c.partitions id ≡ o → KeptFor c lines id epoch checkpoints.newest o → KeptFor c (Up id (epoch + 1) ∷ lines) id journal.state.epoch checkpoints.newest o
      go None e k = tt
      go (Some p) e k = subst (λ (n : ℕ). KeptLines c (Up id (epoch + 1) ∷ lines) id n p checkpoints.newest) (sym same) (own_opened c lines id epoch p checkpoints.newest e k).kept

  -- what the opening leaves, with respect to the lines with its up line
  pub opened_left : AreCovered c (Up id (epoch + 1) ∷ lines) journal.state → LeftTold c (Up id (epoch + 1) ∷ lines) id (rings_in (parts_of c id journal.state c.rings)) (opened c id journal checkpoints)
  unfolding opened
  opened_left covered = finished_left c (Up id (epoch + 1) ∷ lines) (begun_with (view_of c id journal checkpoints)) (told_now covered) kept_now (begins_first c (partition_of c.partitions id) (begun_with (view_of c id journal checkpoints)))
      (begins_onward_first (Up id (epoch + 1) ∷ lines) (partition_of c.partitions id))

  pub opened_lines : AreRight c lines → KnownLines c lines → AreCovered c (Up id (epoch + 1) ∷ lines) journal.state → (new : List Line) × StepLines c (Up id (epoch + 1) ∷ lines) new id (opened c id journal checkpoints)
  unfolding opened begins
  opened_lines right known covered = by_partition (partition_of c.partitions id) refl kept
    where
      done : DoneLines c (Up id (epoch + 1) ∷ lines) (Up id (epoch + 1) ∷ lines) (begun_with (view_of c id journal checkpoints))
      done = record {
        printed = refl;
        own = tt;
        right = (tt, right);
        known = KnownLines-more c (Up id (epoch + 1)) lines (λ r p k e replica fits h. absurd h) known;
        frames = tt;
        replies = tt;
        parts = parts_fresh c (Up id (epoch + 1) ∷ lines) id journal.state c.rings;
      }

      on : (o : Option PartitionTable) → Onward c (Up id (epoch + 1) ∷ lines) (begun_with (view_of c id journal checkpoints)) (begins_first c o (begun_with (view_of c id journal checkpoints)))
      on o = begins_onward_first (Up id (epoch + 1) ∷ lines) o

      finish : (o : Option PartitionTable) → AfterLines c (Up id (epoch + 1) ∷ lines) (begins_first c o (begun_with (view_of c id journal checkpoints)))
          → (new : List Line) × StepLines c (Up id (epoch + 1) ∷ lines) new id (finished (begins_first c o (begun_with (view_of c id journal checkpoints))))
      finish o after =
          let b : StepSoFar = begins_first c o (begun_with (view_of c id journal checkpoints)) in (
            after.lines,
            subst (λ (x : NodeId). StepLines c (Up id (epoch + 1) ∷ lines) after.lines x (finished b)) (on o).id
                (finished_lines c (Up id (epoch + 1) ∷ lines) after.lines b after.ties ((on o).told (told_now covered)).epoch),
          )

      by_partition : (o : Option PartitionTable) → partition_of c.partitions id ≡ o → KeptFor c lines id epoch checkpoints.newest o
          → (new : List Line) × StepLines c (Up id (epoch + 1) ∷ lines) new id (finished (begins_first c o (begun_with (view_of c id journal checkpoints))))
      by_partition None e k = finish None (record { lines = Up id (epoch + 1) ∷ lines; ties = record { done = done; replica = e } })
      by_partition (Some p) e k =
          let service : Service = record { partition = p; attempts = 0; stage = Recovering (record { number = 0; ticks = 0; answers = []; choice = None }) } in
          let own : OwnLines c (Up id (epoch + 1) ∷ lines) id journal.state.epoch checkpoints.newest p 0 =
          subst (λ (n : ℕ). OwnLines c (Up id (epoch + 1) ∷ lines) id n checkpoints.newest p 0) (sym same) (own_opened c lines id epoch p checkpoints.newest e k) in
          finish (Some p) (next_begins c fit (Up id (epoch + 1) ∷ lines) (merged_all c fit (Up id (epoch + 1) ∷ lines)) service (begun_with (view_of c id journal checkpoints)) (Up id (epoch + 1) ∷ lines) done own)
