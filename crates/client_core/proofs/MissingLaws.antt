-- The bits of the partitions whose replies are missing.
use Rattle.std.proofs.lemmas.Nat.{pow_pos}
use Rattle.std.proofs.Common.{arith, ◌≡◌, ℕ, ◌+◌, ◌^◌, ◌<◌, ◌≤◌, ◌==◌, ◌&&◌, not, Bool, true, false, if◌then◌else◌, List, [], ◌∷◌, refl, sym, ◌∙◌, ap, Some}
use Rattle.std.specs.Int.{bit_at}
use Rattle.std.specs.List.{AllByRecursion}
use Rattle.mrp_types.specs.declared.id.PartitionId.{PartitionId}
use Rattle.command_codec.specs.declared.command.Command.{Command}
use Rattle.command_codec.specs.declared.reply.Reply.{Reply}
use Rattle.mrp_config.specs.declared.tables.PartitionTable.{PartitionTable}
use Rattle.mrp_config.specs.Config.{partition_at}
use Rattle.mrp_config.specs.Valid.{IncreasesFrom, AreAtMost, partition_ids, concerns_at}
use Rattle.mrp_config.specs.Routing.{is_concerned, concerned_of, mask_of}
use Rattle.config_laws.proofs.Bits.{bits_of_sum}
use Rattle.protocol.specs.Client.{has_part, have_all, missing_of}
use Rattle.client_core.specs.Missing.{bits_of, missing_bits, HasBitOf}

pub missing_is_sum : (command : Command) (parts : List (PartitionId × Reply)) (ps : List PartitionTable) →
    missing_bits command parts ps ≡ bits_of (missing_of (concerned_of command ps) parts)
missing_is_sum command parts [] = refl
missing_is_sum command parts (p ∷ ps) = by_concern (is_concerned command p) (missing_is_sum command parts ps)
  where
    by_part : (u : Bool) → missing_bits command parts ps ≡ bits_of (missing_of (concerned_of command ps) parts) →
        (if not u then 2 ^ p.id.0 else 0) + missing_bits command parts ps
        ≡ bits_of (if u then missing_of (concerned_of command ps) parts else p.id ∷ missing_of (concerned_of command ps) parts)
    by_part true later = omega (arith, later)
    by_part false later = omega (arith, later)

    by_concern : (t : Bool) → missing_bits command parts ps ≡ bits_of (missing_of (concerned_of command ps) parts) →
        (if t && not (has_part parts p.id) then 2 ^ p.id.0 else 0) + missing_bits command parts ps
        ≡ bits_of (missing_of (if t then p ∷ concerned_of command ps else concerned_of command ps) parts)
    by_concern true later = by_part (has_part parts p.id) later
    by_concern false later = omega (arith, later)

pub missing_at_most : (command : Command) (parts : List (PartitionId × Reply)) (ps : List PartitionTable) → missing_bits command parts ps ≤ mask_of command ps
missing_at_most command parts [] = omega arith
missing_at_most command parts (p ∷ ps) =
    let here = by_tests (is_concerned command p) (not (has_part parts p.id)) (2 ^ p.id.0) in
    let later = missing_at_most command parts ps in
    omega (arith, here, later)
  where
    by_tests : (t u : Bool) (n : ℕ) → (if t && u then n else 0) ≤ (if t then n else 0)
    by_tests true true n = omega arith
    by_tests true false n = omega arith
    by_tests false u n = omega arith

-- ---- what a bit says

counts_one : (t : Bool) (n : ℕ) → n ≡ (if t then 1 else 0) → (n == 1) ≡ t
counts_one true n is = grind arith
counts_one false n is = grind arith

pub bit_says : (command : Command) (ps : List PartitionTable) (p : PartitionTable) → IncreasesFrom 0 (partition_ids ps) → partition_at ps p.id.0 ≡ Some p → HasBitOf command (mask_of command ps) p
bit_says command ps p rise there =
    counts_one (is_concerned command p) (bit_at (mask_of command ps) p.id.0) (bits_of_sum command ps p.id.0 rise ∙ ap (concerns_at command) there)

itself : (n : ℕ) → (n == n) ≡ true
itself n = grind arith

other : (a b : ℕ) → a < b → (a == b) ≡ false
other a b less = grind arith

-- each partition is found by its number
found_each : (least : ℕ) (before ps : List PartitionTable) → IncreasesFrom least (partition_ids ps) → ((id : ℕ) → least ≤ id → partition_at before id ≡ partition_at ps id) →
    AllByRecursion (λ (p : PartitionTable). partition_at before p.id.0 ≡ Some p) ps
found_each least before [] rise same = tt
found_each least before (p ∷ ps) rise same = (
  same p.id.0 rise.0 ∙ rw (itself p.id.0) refl,
  found_each (p.id.0 + 1) before ps rise.1 (λ id above. same id (omega (arith, rise.0, above)) ∙ rw (other p.id.0 id (omega (arith, above))) refl),
)

bits_each : (command : Command) (all ps : List PartitionTable) → IncreasesFrom 0 (partition_ids all) → AllByRecursion (λ (p : PartitionTable). partition_at all p.id.0 ≡ Some p) ps →
    AllByRecursion (HasBitOf command (mask_of command all)) ps
bits_each command all [] rise found = tt
bits_each command all (p ∷ ps) rise found = (bit_says command all p rise found.0, bits_each command all ps rise found.1)

pub all_bits_say : (command : Command) (ps : List PartitionTable) → IncreasesFrom 0 (partition_ids ps) → AllByRecursion (HasBitOf command (mask_of command ps)) ps
all_bits_say command ps rise = bits_each command ps ps rise (found_each 0 ps ps rise (λ id above. refl))

pub found_low : (ps : List PartitionTable) (id : ℕ) (p : PartitionTable) → AreAtMost 15 (partition_ids ps) → partition_at ps id ≡ Some p → p.id.0 < 16
found_low [] id p low found = absurd cc
found_low (q ∷ ps) id p low found = by_test (q.id.0 == id) found (found_low ps id p low.1)
  where
    by_test : (t : Bool) → (if t then Some q else partition_at ps id) ≡ Some p → (partition_at ps id ≡ Some p → p.id.0 < 16) → p.id.0 < 16
    by_test true found later = let same : q ≡ p = cc in let is : q.id.0 ≡ p.id.0 = ap (λ (x : PartitionTable). x.id.0) same in let most : q.id.0 ≤ 15 = low.0 in omega (arith, most, is)
    by_test false found later = later found

pub found_id : (ps : List PartitionTable) (id : PartitionId) (p : PartitionTable) → partition_at ps id.0 ≡ Some p → p.id ≡ id
found_id [] id p found = absurd cc
found_id (q ∷ ps) id p found = by_test (q.id.0 == id.0) refl found (found_id ps id p)
  where
    by_test : (t : Bool) → (q.id.0 == id.0) ≡ t → (if t then Some q else partition_at ps id.0) ≡ Some p → (partition_at ps id.0 ≡ Some p → p.id ≡ id) → p.id ≡ id
    by_test true is found later =
        let same : q ≡ p = cc in
        let number : q.id.0 ≡ id.0 = grind arith in
        ap (λ (x : PartitionTable). x.id) (sym same) ∙ ap (λ n. record { 0 = n }) number
    by_test false is found later = later found

-- ---- none is missing

pow_some : (n : ℕ) → 1 ≤ 2 ^ n
pow_some n = pow_pos n

pub none_missing : (ps : List PartitionTable) (parts : List (PartitionId × Reply)) → bits_of (missing_of ps parts) ≡ 0 → have_all ps parts ≡ true
none_missing [] parts none = refl
none_missing (p ∷ ps) parts none = by_test (has_part parts p.id) none (none_missing ps parts)
  where
    by_test : (t : Bool) → bits_of (if t then missing_of ps parts else p.id ∷ missing_of ps parts) ≡ 0 → (bits_of (missing_of ps parts) ≡ 0 → have_all ps parts ≡ true) → (t && have_all ps parts) ≡ true
    by_test true none later = later none
    by_test false none later = absurd (omega (arith, none, pow_some p.id.0))

pub some_missing : (ps : List PartitionTable) (parts : List (PartitionId × Reply)) → (bits_of (missing_of ps parts) ≡ 0 → ⊥) → have_all ps parts ≡ false
some_missing [] parts some = absurd (some refl)
some_missing (p ∷ ps) parts some = by_test (has_part parts p.id) some (some_missing ps parts)
  where
    by_test : (t : Bool) → (bits_of (if t then missing_of ps parts else p.id ∷ missing_of ps parts) ≡ 0 → ⊥) → ((bits_of (missing_of ps parts) ≡ 0 → ⊥) → have_all ps parts ≡ false) → (t && have_all ps parts) ≡ false
    by_test true some later = later some
    by_test false some later = refl
