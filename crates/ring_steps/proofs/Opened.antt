-- A node that has opened: it is Idle, it has learned nothing, and what it keeps stands for the face that its disk showed.
use Rattle.std.proofs.Common.{◌≡◌, inl, ℕ, ◌<◌, Bool, true, false, List, [], ◌∷◌, length, Option, Some, None, refl, sym, ◌∙◌, ap, subst, arith}
use Rattle.std.specs.Prelude.{◌==◌, if◌then◌else◌}
use Rattle.std.proofs.lemmas.Bool.Decides.{nat_tests}
use Rattle.mrp_types.specs.declared.id.NodeId.{NodeId}
use Rattle.mrp_types.specs.declared.value.Value.{Value}
use Rattle.mrp_config.specs.Config.{Config, partition_of}
use Rattle.mrp_config.specs.declared.tables.RingTable.{RingTable}
use Rattle.mrp_config.specs.declared.tables.PartitionTable.{PartitionTable}
use Rattle.vote_state.specs.State.{State, ring_at}
use Rattle.vote_journal.specs.Journal.{Journal}
use Rattle.checkpoint.specs.Checkpoints.{Checkpoints}
use Rattle.ring_reach.proofs.Reaching.{reach_none}
use Rattle.protocol.specs.Parts.{Ring}
use Rattle.protocol.specs.Rings.{ring_of, is_member}
use Rattle.protocol.specs.Node.{StepSoFar, RingPart, Recovering, begun_with, part_in}
use Rattle.protocol.specs.Opening.{part_of_ring, parts_of, view_of, begins_first, opened}
use Rattle.beside_rings.specs.Beside.{Untouched}
use Rattle.beside_rings.proofs.Following.{Untouched-refl}
use Rattle.beside_rings.proofs.Recovered.{untouched_begins}
use Rattle.ring_safety.specs.Faces.{Face}
use Rattle.ring_kept.specs.Kept.{KeptTies}
use Rattle.ring_tables.specs.Ties.{acceptors}
use Rattle.ring_tables.specs.Settled.{PartFine}
use Rattle.ring_tables.proofs.More.{none_recorded}
use Rattle.ring_steps.specs.Stands.{IsTheOnly, StepStands}
use Rattle.ring_steps.proofs.Along.{Leaves, untouched_leaves, MemberTies, OnWay, PartFine-same, way_leaves}
use Rattle.ring_steps.proofs.Ending.{way_finished}

-- what an opening makes of the ring, where it makes something
new_there : (config : Config) (id : NodeId) (state : State) (table : RingTable) (tables : List RingTable) → IsTheOnly table tables → (p : RingPart)
    → part_in (parts_of config id state tables) table.id ≡ Some p → part_of_ring state (ring_of config id table) ≡ p
new_there config id state table [] only p e = absurd (cc)
new_there config id state table (t ∷ tables) only p e = by_member (is_member (ring_of config id t)) e (λ f. new_there config id state table tables only.1 p f)
  where
    by_member : (b : Bool) → part_in (if b then part_of_ring state (ring_of config id t) ∷ parts_of config id state tables else parts_of config id state tables) table.id ≡ Some p
        → (part_in (parts_of config id state tables) table.id ≡ Some p → part_of_ring state (ring_of config id table) ≡ p) → part_of_ring state (ring_of config id table) ≡ p
    by_member false found later = later found
    by_member true found later = by_id (t.id.0 == table.id.0) refl found
      where
        by_id : (b : Bool) → (t.id.0 == table.id.0) ≡ b → (if b then Some (part_of_ring state (ring_of config id t)) else part_in (parts_of config id state tables) table.id) ≡ Some p
            → part_of_ring state (ring_of config id table) ≡ p
        by_id true is here =
            let number : t.id.0 ≡ table.id.0 = grind (arith, nat_tests) in
            let same : t ≡ table = only.0 number in
            let made : part_of_ring state (ring_of config id t) ≡ p = cc in
            ap (λ (x : RingTable). part_of_ring state (ring_of config id x)) (sym same) ∙ made
        by_id false is here = later here

module _ (config : Config) (id : NodeId) (table : RingTable) (only : IsTheOnly table config.rings) (faces : ℕ → Face Value) (a : ℕ) (start : Face Value)
    (journal : Journal) (checkpoints : Checkpoints) (rings : table.id.0 < length journal.state.rings) (kept : KeptTies start (ring_at journal.state table.id)) where
  abbrev ring : Ring
  ring = ring_of config id table

  begun : OnWay (ring_of config id table) faces a start journal (PartFine (ring_of config id table)) start (begun_with (view_of config id journal checkpoints))
  begun = record {
    reached = reach_none (acceptors ring) faces a start;
    journal = refl;
    kept = kept;
    frames = tt;
    replies = tt;
    lines = tt;
    recorded = none_recorded ring.id start;
    told = λ p h lt. inl h;
    part = λ p is. subst (λ (x : RingPart). MemberTies ring faces a (ring_at journal.state ring.id) (PartFine ring) start [] x) (new_there config id journal.state table config.rings only p is)
        (record {
          of_ring = refl;
          ties = record { kept = kept; role = tt; learner = record { ordered = tt; chosen = λ i value e. absurd (cc) } };
          kept = refl;
          fine = record { settled = tt; idle = λ none. refl };
        });
  }

  begins_untouched : (o : Option PartitionTable) (so_far : StepSoFar) → Untouched so_far (begins_first config o so_far)
  begins_untouched None so_far = Untouched-refl so_far
  begins_untouched (Some partition) so_far =
      untouched_begins config (record { partition = partition; attempts = 0; stage = Recovering (record { number = 0; ticks = 0; answers = []; choice = None }) }) so_far

  pub opened_stands : StepStands (ring_of config id table) faces a start (opened config id journal checkpoints)
  unfolding opened
  opened_stands =
      let first : StepSoFar = begun_with (view_of config id journal checkpoints) in
      let so_far : StepSoFar = begins_first config (partition_of config.partitions id) first in
      let l : Leaves ring first so_far = untouched_leaves ring first (begins_first config (partition_of config.partitions id) first) (begins_untouched (partition_of config.partitions id) first) in
      let way : OnWay ring faces a start journal (PartFine ring) start so_far = way_leaves ring faces a start journal (PartFine ring) (PartFine-same ring) start first so_far l begun in
      let same : so_far.view.journal ≡ journal = l.journal in
      way_finished ring faces a start start so_far (subst (λ (x : Journal). ring.id.0 < length x.state.rings) (sym same) rings)
      (subst (λ (x : Journal). OnWay ring faces a start x (PartFine ring) start so_far) (sym same) way)
