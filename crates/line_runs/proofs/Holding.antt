-- What is covered is held.
use Rattle.std.proofs.Common.{◌≡◌, ℕ, suc, ◌<◌, inl, inr, List, [], ◌∷◌, refl, arith}
use Rattle.std.specs.Prelude.{length}
use Rattle.mrp_types.specs.declared.id.RingId.{RingId}
use Rattle.mrp_config.specs.Config.{Config, subscribers_of}
use Rattle.mrp_config.specs.declared.tables.PartitionTable.{PartitionTable}
use Rattle.quorums.specs.Groups.{Has}
use Rattle.bare_world.specs.Worlds.{Happening}
use Rattle.faithful.specs.Scanners.{some_reaches, told}
use Rattle.faithful.specs.Rules.{HaveTold, AllHaveTold}
use Rattle.faithful.proofs.Quorum.{all_has}
use Rattle.recovery_lines.specs.Ties.{IsFit, IsCovered}
use Rattle.recovery_lines.proofs.Hearing.{in_partitions}
use Rattle.line_runs.specs.Invariant.{latest_first}
use Rattle.line_runs.specs.Laws.{IsRun, lines_of, HeldBy, IsHeld}
use Rattle.line_runs.proofs.Fitting.{valid_fits}
use Rattle.line_runs.proofs.Laws.{safe_stays}

module _ (c : Config) (hs : List Happening) (r : IsRun c hs) (ring : RingId) (inst : ℕ) where
  by_partition : (p : PartitionTable) → Has (subscribers_of c.partitions ring) p → HaveTold (latest_first (lines_of c hs)) ring inst p → HeldBy c hs ring inst p
  by_partition p has tells =
      let fit : IsFit c = valid_fits c r.valid in
      record {
        test = λ x. some_reaches p.rings ring inst (told x.0 (latest_first (lines_of c hs)));
        enough = tells;
        held = λ x replica passes s possible. safe_stays c hs r x.0 s p ring inst possible (fit.alone p x (in_partitions ring c.partitions p has) replica) passes;
      }

  by_told : (ps : List PartitionTable) → ((p : PartitionTable) → Has ps p → Has (subscribers_of c.partitions ring) p) → AllHaveTold (latest_first (lines_of c hs)) ring inst ps
      → (0 < length ps) × ((p : PartitionTable) → Has ps p → HeldBy c hs ring inst p)
  by_told [] sub all = absurd all
  by_told (q ∷ ps) sub all =
      let more : length (q ∷ ps) ≡ suc (length ps) = refl in
      (omega arith, λ p has. by_partition p (sub p has) (all_has (HaveTold (latest_first (lines_of c hs)) ring inst) (q ∷ ps) p all has))

  pub covered_held : IsCovered c (latest_first (lines_of c hs)) ring inst → IsHeld c hs ring inst
  covered_held (inl none) = inl none
  covered_held (inr all) = inr (by_told (subscribers_of c.partitions ring) (λ p h. h) all)
