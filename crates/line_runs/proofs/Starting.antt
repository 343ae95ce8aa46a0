-- The world before anything was printed: each node is down, and its disk stands for nothing.
use Rattle.plain_model.proofs.TupleOrder.{first_is_front, front_is_valid}
use Rattle.std.proofs.Common.{◌≡◌, ℕ, zero, suc, inl, inr, List, [], ◌∷◌, Option, Some, None, refl, arith, true}
use Rattle.std.specs.Prelude.{replicate, slice_index_or}
use Rattle.mrp_types.specs.declared.id.RingId.{RingId}
use Rattle.mrp_types.specs.declared.place.Place.{Place}
use Rattle.mrp_config.specs.Config.{Config, partition_of}
use Rattle.mrp_config.specs.declared.tables.PartitionTable.{PartitionTable}
use Rattle.plain_model.specs.Tuples.{round_sizes, first_tuple, has_rings, IsBelow}
use Rattle.vote_state.specs.State.{nothing_kept, no_votes}
use Rattle.bare_world.specs.Worlds.{nothing}
use Rattle.faithful.proofs.Growing.{same_number}
use Rattle.faithful.proofs.Ordering.{is_tuple}
use Rattle.recovery_lines.specs.Ties.{KeptLines}
use Rattle.step_lines.specs.Effects.{KeptFor}
use Rattle.line_runs.specs.Invariant.{node, PossibleLines, WorldLines}
use Rattle.mrp_types.proofs.TupleOrder.{none_below}

first_rings : (rings : List RingId) → has_rings rings (first_tuple rings) ≡ true
first_rings [] = refl
first_rings (ring ∷ rings) = rw (same_number ring.0) (first_rings rings)

kept_first : (c : Config) (n : ℕ) (p : PartitionTable) → KeptLines c [] (node n) 0 p None
kept_first c n p = record {
  older = λ other h. absurd h;
  valid = is_tuple (round_sizes c) p.rings (first_tuple p.rings) (first_rings p.rings) (front_is_valid (round_sizes c) (first_tuple p.rings) (first_is_front (round_sizes c) p.rings));
  known = λ place below. absurd (none_below p.rings place below);
  reaches = λ earlier h. absurd h;
}

no_trim : (k i : ℕ) → (slice_index_or (replicate k no_votes) i no_votes).trim ≡ 0
no_trim zero i = refl
no_trim (suc k) zero = refl
no_trim (suc k) (suc i) = no_trim k i

pub first_world : (c : Config) → WorldLines c nothing
first_world c = record { right = tt; known = λ r p k replica valid h. absurd h; frames = tt; hosts = λ n. (one n, one n) }
  where
    one : (n : ℕ) → PossibleLines c [] n (record { state = nothing_kept; newest = None })
    one n = record { kept = go (partition_of c.partitions (node n)); covered = λ ring. inl (no_trim 16 ring.0) }
      where
        go : (o : Option PartitionTable) → KeptFor c [] (node n) 0 None o
        go None = tt
        go (Some p) = kept_first c n p
