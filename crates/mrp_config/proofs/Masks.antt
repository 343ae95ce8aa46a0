-- Ids that increase give a mask of sixteen bits.
use Rattle.std.proofs.Common.{◌≡◌, ℕ, ◌+◌, ◌^◌, ◌<◌, ◌≤◌, Bool, true, false, List, [], ◌∷◌, refl, arith, if◌then◌else◌, Option, Some, None, Ok, Err, ap, sym, ◌∙◌}
use Rattle.std.proofs.lemmas.Grind.{common_steps}
use Rattle.std.proofs.Math.Pow.{pow_mono}
use Rattle.std.specs.List.{AllByRecursion}
use Rattle.command_codec.specs.declared.command.Command.{Command}
use Rattle.mrp_config.specs.declared.tables.PartitionTable.{PartitionTable}
use Rattle.mrp_config.specs.Valid.{IncreasesFrom, AreAtMost, partition_ids}
use Rattle.mrp_config.specs.Routing.{is_concerned, bit_of, mask_of, concerned_of, first_concerned, common, route_of, no_group}

pub low_ids : (ps : List PartitionTable) → AreAtMost 15 (partition_ids ps) → AllByRecursion (λ (p : PartitionTable). p.id.0 < 16) ps
low_ids [] low = tt
low_ids (p ∷ ps) low = let one = low.0 in (omega arith, low_ids ps low.1)

bit_most : (t : Bool) (n : ℕ) → (if t then n else 0) ≤ n
bit_most true n = omega arith
bit_most false n = omega arith

power_suc : (n : ℕ) → 2 ^ (n + 1) ≡ 2 ^ n + 2 ^ n
power_suc n = grind (arith, common_steps)

power_below : (a b : ℕ) → a ≤ b → 2 ^ a ≤ 2 ^ b
power_below a b h = pow_mono h

pub mask_fits : (least : ℕ) (command : Command) (ps : List PartitionTable) → least ≤ 16 → IncreasesFrom least (partition_ids ps) → AreAtMost 15 (partition_ids ps) → mask_of command ps + 2 ^ least ≤ 2 ^ 16
mask_fits least command [] most rise low = omega (arith, power_below least 16 most)
mask_fits least command (p ∷ ps) most rise low =
    let less : p.id.0 ≤ 15 = low.0 in
    let rest = mask_fits (p.id.0 + 1) command ps (omega (arith, less)) rise.1 low.1 in
    let twice = power_suc p.id.0 in
    let below = power_below least p.id.0 rise.0 in
    let bit : bit_of command p ≤ 2 ^ p.id.0 = bit_most (is_concerned command p) (2 ^ p.id.0) in
    omega (arith, rest, twice, below, bit)

-- ---- the concerned partitions, from the first on

abbrev pub from_first : Command → Option (PartitionTable × List PartitionTable) → List PartitionTable
from_first command None = []
from_first command (Some x) = x.0 ∷ concerned_of command x.1

pub concerned_from_first : (command : Command) (ps : List PartitionTable) → concerned_of command ps ≡ from_first command (first_concerned command ps)
concerned_from_first command [] = refl
concerned_from_first command (p ∷ ps) = by_test (is_concerned command p) command p ps (concerned_from_first command ps)
  where
    by_test : (t : Bool) (command : Command) (p : PartitionTable) (ps : List PartitionTable) → concerned_of command ps ≡ from_first command (first_concerned command ps) →
        (if t then p ∷ concerned_of command ps else concerned_of command ps) ≡ from_first command (if t then Some (p, ps) else first_concerned command ps)
    by_test true command p ps later = refl
    by_test false command p ps later = later

pub route_none : (command : Command) (ps : List PartitionTable) → first_concerned command ps ≡ None → route_of (concerned_of command ps) ≡ Err no_group
route_none command ps none = ap route_of (concerned_from_first command ps ∙ ap (from_first command) none)

pub route_from : (command : Command) (ps others : List PartitionTable) (first : PartitionTable) → first_concerned command ps ≡ Some (first, others) →
    route_of (concerned_of command ps) ≡ route_of (first ∷ concerned_of command others)
route_from command ps others first some = ap route_of (concerned_from_first command ps ∙ ap (from_first command) some)

pub route_alone : (command : Command) (others : List PartitionTable) (first : PartitionTable) → first_concerned command others ≡ None →
    route_of (first ∷ concerned_of command others) ≡ Ok first.home
route_alone command others first none = ap (λ (l : List PartitionTable). route_of (first ∷ l)) (concerned_from_first command others ∙ ap (from_first command) none)

pub route_shared : (command : Command) (others : List PartitionTable) (first : PartitionTable) (x : PartitionTable × List PartitionTable) → first_concerned command others ≡ Some x →
    route_of (first ∷ concerned_of command others) ≡ common (concerned_of command others) first.rings
route_shared command others first x some =
    let rest : concerned_of command others ≡ x.0 ∷ concerned_of command x.1 = concerned_from_first command others ∙ ap (from_first command) some in
    ap (λ (l : List PartitionTable). route_of (first ∷ l)) rest ∙ ap (λ (l : List PartitionTable). common l first.rings) (sym rest)
