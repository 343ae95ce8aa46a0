-- A fresh batch of commands that wait has a spelling.
use Rattle.std.proofs.Common.{◌≡◌, ℕ, zero, suc, ◌+◌, ◌-◌, ◌*◌, ◌≤◌, Bool, true, false, List, [], ◌∷◌, ◌++◌, length, Some, refl, sym, ap, subst, arith}
use Rattle.std.specs.Prelude.{nat_eq, if◌then◌else◌, sum_by, flat_map}
use Rattle.std.specs.List.{AllByRecursion}
use Rattle.std.proofs.lemmas.List.{length-append}
use Rattle.std.proofs.lemmas.List.Sums.{sum_by-cons}
use Rattle.mrp_types.specs.declared.value.Value.TheVariants.{Batch}
use Rattle.mrp_types.specs.declared.value.Entry.{Entry}
use Rattle.mrp_types.specs.declared.voted.Decided.{Decided}
use Rattle.mrp_types.specs.Entries.{IsEntry}
use Rattle.command_codec.specs.Parts.{IsSpelled, was_read}
use Rattle.command_codec.specs.Grammar.{batch_at}
use Rattle.command_codec.specs.Fields.{u16_bytes}
use Rattle.command_codec.specs.Spelling.{entry_bytes, batch_bytes, AreEntries}
use Rattle.command_codec.proofs.BatchLaws.{batch_law}
use Rattle.command_codec.proofs.Combined.{whole_again}
use Rattle.command_codec.proofs.Sizes.{length-u16_bytes, length-entry_bytes}
use Rattle.range_map.specs.Entries.{value_at}
use Rattle.plain_model.specs.Pages.{left_out}
use Rattle.plain_model.proofs.Pages.{front-longest}
use Rattle.protocol.specs.Parts.{Pending, Campaign}
use Rattle.protocol.specs.Proposing.{unproposed, entry_size, fresh_entries, with_proposed, as_proposed, single, fresh_choice, Offers}
use Rattle.quorums.proofs.Each.{front_all}

-- ---- a batch of entries

pub all_at : {T : Type 0} (P : ℕ × T → Type 0) (es : List (ℕ × T)) (i : ℕ) (v : T) → AllByRecursion P es → value_at i es ≡ Some v → (k : ℕ) × P (k, v)
all_at P [] i v all e = absurd (cc)
all_at {T} P (x ∷ es) i v all e = go (nat_eq i x.0) e (λ f. all_at P es i v all.1 f)
  where
    go : (b : Bool) → (if b then Some x.1 else value_at i es) ≡ Some v → (value_at i es ≡ Some v → (k : ℕ) × P (k, v)) → (k : ℕ) × P (k, v)
    go true here later = let same : x.1 ≡ v = cc in (x.0, subst (λ (y : T). P (x.0, y)) same all.0)
    go false here later = later here

length-entries : (entries : List Entry) → length (flat_map entry_bytes entries) ≡ sum_by entry_size entries
length-entries [] = refl
length-entries (entry ∷ entries) =
    let more = length-entries entries in
    let both = length-append (entry_bytes entry) (flat_map entry_bytes entries) in
    let sum = sum_by-cons entry_size entry entries in
    omega arith

length-batch : (entries : List Entry) → length (batch_bytes entries) ≡ 3 + sum_by entry_size entries
length-batch entries =
    let all = length-entries entries in
    let count = length-u16_bytes (length entries) in
    let both = length-append (u16_bytes (length entries)) (flat_map entry_bytes entries) in
    omega arith

-- each entry has 11 bytes at least
few_entries : (entries : List Entry) → 11 * length entries ≤ sum_by entry_size entries
few_entries [] = omega arith
few_entries (entry ∷ entries) =
    let more = few_entries entries in
    let size = length-entry_bytes entry in
    let sum = sum_by-cons entry_size entry entries in
    omega arith

-- a batch of entries that fits has a spelling
pub fresh_spelled : (entry : Entry) (entries : List Entry) → AllByRecursion IsEntry (entry ∷ entries) → sum_by entry_size (entry ∷ entries) ≤ 8192 - 3
    → IsSpelled (Batch (batch_bytes (entry ∷ entries)))
fresh_spelled entry entries each fits =
    let long = length-batch (entry ∷ entries) in
    let few = few_entries (entry ∷ entries) in
    let are : AreEntries (entry ∷ entries) = record { some = omega arith; few = omega arith; each = each } in
    (omega arith, ap was_read (whole_again (List Entry) batch_at batch_bytes AreEntries batch_law (entry ∷ entries) are))

-- ---- commands that wait

-- commands that wait stay entries, whether they were proposed or not
pub proposed_entries : (count : ℕ) (pending : List Pending) → AllByRecursion (λ (p : Pending). IsEntry p.entry) pending
    → AllByRecursion (λ (p : Pending). IsEntry p.entry) (with_proposed count pending)
proposed_entries count [] all = tt
proposed_entries zero (p ∷ pending) all = all
proposed_entries (suc count) (p ∷ pending) all = go p.proposed (proposed_entries (suc count) pending all.1) (proposed_entries count pending all.1)
  where
    go : (b : Bool) → AllByRecursion (λ (q : Pending). IsEntry q.entry) (with_proposed (suc count) pending) → AllByRecursion (λ (q : Pending). IsEntry q.entry) (with_proposed count pending)
        → AllByRecursion (λ (q : Pending). IsEntry q.entry) (if b then p ∷ with_proposed (suc count) pending else as_proposed p ∷ with_proposed count pending)
    go true same less = (all.0, same)
    go false same less = (all.0, less)

unproposed_entries : (pending : List Pending) → AllByRecursion (λ (p : Pending). IsEntry p.entry) pending → AllByRecursion IsEntry (unproposed pending)
unproposed_entries [] all = tt
unproposed_entries (p ∷ pending) all = go p.proposed (unproposed_entries pending all.1)
  where
    go : (b : Bool) → AllByRecursion IsEntry (unproposed pending) → AllByRecursion IsEntry (if b then unproposed pending else p.entry ∷ unproposed pending)
    go true rest = rest
    go false rest = (all.0, rest)

-- a fresh batch is spelled
pub fresh_batch : (campaign : Campaign) → AllByRecursion (λ (p : Pending). IsEntry p.entry) campaign.pending → (entries : List Entry) → fresh_entries campaign.pending ≡ entries
    → (range : Decided) (taken : ℕ)
    → fresh_choice campaign.next entries ≡ Offers range taken → IsSpelled range.value × (range.hi ≡ suc range.lo)
fresh_batch campaign f [] is range taken e = absurd (cc)
fresh_batch campaign f (entry ∷ entries) is range taken e =
    let longest = front-longest entry_size (8192 - 3) (unproposed campaign.pending) in
    let each : AllByRecursion IsEntry (fresh_entries campaign.pending) =
    front_all IsEntry (fresh_entries campaign.pending) (left_out (fresh_entries campaign.pending) (unproposed campaign.pending))
    (subst (λ l. AllByRecursion IsEntry l) (sym longest.whole) (unproposed_entries campaign.pending f)) in
    let fits : sum_by entry_size (fresh_entries campaign.pending) ≤ 8192 - 3 = longest.fits in
    let here : single campaign.next (batch_bytes (entry ∷ entries)) ≡ range = cc in
    subst (λ (r : Decided). IsSpelled r.value × (r.hi ≡ suc r.lo)) here
    (fresh_spelled entry entries (subst (λ l. AllByRecursion IsEntry l) is each) (subst (λ l. sum_by entry_size l ≤ 8192 - 3) is fits), omega arith)
