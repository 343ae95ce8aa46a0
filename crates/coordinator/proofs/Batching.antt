-- A fresh batch of commands that wait has a spelling, and takes so many of them.
use Rattle.std.proofs.Common.{◌≡◌, Bool, true, false, ◌+◌, ◌-◌, ◌*◌, ◌≤◌, List, [], ◌∷◌, length, refl, sym, ap, subst, arith, rules}
use Rattle.std.specs.Prelude.{IsTrue, sum_by, flat_map}
use Rattle.std.specs.List.{AllByRecursion}
use Rattle.std.proofs.lemmas.List.{length-append}
use Rattle.std.proofs.lemmas.List.Sums.{sum_by-cons}
use Rattle.mrp_types.specs.declared.value.Entry.{Entry}
use Rattle.mrp_types.specs.Entries.{IsEntry}
use Rattle.command_codec.specs.Fields.{u16_bytes}
use Rattle.command_codec.specs.Spelling.{entry_bytes, batch_bytes, IsBatch}
use Rattle.command_codec.proofs.Sizes.{length-u16_bytes, length-entry_bytes}
use Rattle.plain_model.specs.Pages.{left_out}
use Rattle.plain_model.proofs.Pages.{front-longest}
use Rattle.protocol.specs.Parts.{Pending}
use Rattle.protocol.specs.Proposing.{unproposed, entry_size, fresh_entries}

length-entries : (entries : List Entry) → length (flat_map entry_bytes entries) ≡ sum_by entry_size entries
length-entries [] = refl
length-entries (entry ∷ entries) =
    let more = length-entries entries in
    let both = length-append (entry_bytes entry) (flat_map entry_bytes entries) in
    let sum = sum_by-cons entry_size entry entries in
    omega arith

length-batch : (entries : List Entry) → length (batch_bytes entries) ≡ 3 + sum_by entry_size entries
length-batch entries =
    let all = length-entries entries in
    let count = length-u16_bytes (length entries) in
    let both = length-append (u16_bytes (length entries)) (flat_map entry_bytes entries) in
    omega arith

-- each entry has 11 bytes at least
few_entries : (entries : List Entry) → 11 * length entries ≤ sum_by entry_size entries
few_entries [] = omega arith
few_entries (entry ∷ entries) =
    let more = few_entries entries in
    let size = length-entry_bytes entry in
    let sum = sum_by-cons entry_size entry entries in
    omega arith

some_there : (entries : List Entry) → (entries ≡ [] → ⊥) → 1 ≤ length entries
some_there [] some = absurd (some refl)
some_there (entry ∷ entries) some = omega arith

pub fresh_batch : (pending : List Pending) (entries : List Entry) → entries ≡ fresh_entries pending → AllByRecursion IsEntry entries → (entries ≡ [] → ⊥) → IsBatch entries
fresh_batch pending entries is each some =
    let fits : sum_by entry_size entries ≤ 8192 - 3 = subst (λ (l : List Entry). sum_by entry_size l ≤ 8192 - 3) (sym is) (front-longest entry_size (8192 - 3) (unproposed pending)).fits in
    let long = length-batch entries in
    let few = few_entries entries in
    let there = some_there entries some in
    record { some = there; few = omega arith; each = each; short = omega arith }

pub fresh_few : (pending : List Pending) (entries : List Entry) → entries ≡ fresh_entries pending → length entries ≤ length (unproposed pending)
fresh_few pending entries is =
    let whole = ap (λ (l : List Entry). length l) (front-longest entry_size (8192 - 3) (unproposed pending)).whole in
    let both = length-append (fresh_entries pending) (left_out (fresh_entries pending) (unproposed pending)) in
    let count = ap (λ (l : List Entry). length l) is in
    omega arith

is_it : (b : Bool) → IsTrue b → b ≡ true
is_it b holds = search rules

pub not_true : (b : Bool) → b ≡ false → IsTrue b → ⊥
not_true b is holds = let one = is_it b holds in cc
