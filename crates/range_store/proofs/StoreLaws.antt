-- What the calls of the service owe, from what the map says.
use Rattle.std.proofs.Common.{arith, ◌≡◌, ℕ, ◌+◌, ◌-◌, ◌≤◌, ◌⊎◌, Bool, true, false, not, if◌then◌else◌, List, [], ◌∷◌, length, Option, Some, None, Result, Ok, Err, inl, inr, refl, sym, ◌∙◌, ap, subst, true≢false}
use Rattle.std.specs.Prelude.{bytes_eq, filter, ◌&&◌, ◌||◌, ◌==◌, IfOk}
use Rattle.std.specs.List.{AllByRecursion}
use Rattle.std.specs.Ordering.{nat_cmp, is_lt, is_le, is_gt, ordering_reverse}
use Rattle.std.specs.Cmp.Lexicographic.{slice_cmp}
use Rattle.std.specs.declared.cmp.Ordering.{Ordering}
use Rattle.std.specs.declared.cmp.Ordering.TheVariants.{Less, Equal, Greater}
use Rattle.std.specs.declared.vec.Vec.{Vec}
use Rattle.std.specs.declared.alloc.Global.{Global}
use Rattle.std.proofs.lemmas.Cmp.{nat_list_cmp_total}
use Rattle.mrp_types.specs.declared.memory.Memory.{Memory}
use Rattle.command_codec.specs.declared.reply.Reply.{Reply}
use Rattle.command_codec.specs.declared.reply.TableEntry.{TableEntry}
use Rattle.command_codec.specs.Valid.{IsKey, IsStored, IsRange}
use Rattle.command_codec.specs.Replies.{IsTableEntry}
use Rattle.mrp_config.specs.Routing.{is_before, is_within}
use Rattle.plain_model.specs.Replicas.{value_of, without, with_entry, page_of, scanned, deleting}
use Rattle.state_laws.proofs.Tables.{filter_rises, with_entry_rises, without_rises, value_stored, IsStoredOrNone}
use Rattle.range_store.specs.Table.{entry_of, seen, table_size, held_size, IsTable}
use Rattle.range_store.proofs.MapLaws.{each_entry, size_with, size_without}

-- ---- scans

le_turned : (a b : List ℕ) → is_le (slice_cmp nat_cmp a b) ≡ not (is_before b a)
le_turned a b = ap is_le (nat_list_cmp_total.antisymm a b) ∙ by (slice_cmp nat_cmp b a)
  where
    by : (o : Ordering) → is_le (ordering_reverse o) ≡ not (is_lt o)
    by Less = refl
    by Equal = refl
    by Greater = refl

twice : (t : Bool) → not (not t) ≡ t
twice true = refl
twice false = refl

filter_seen : (p : Vec ℕ Global → Bool) (q : TableEntry → Bool) → ((e : Vec ℕ Global × List ℕ) → p e.0 ≡ q (entry_of e)) → (es : List (Vec ℕ Global × List ℕ)) →
    seen (filter (λ (e : Vec ℕ Global × List ℕ). p e.0) es) ≡ filter q (seen es)
filter_seen p q same [] = refl
filter_seen p q same (e ∷ es) = by (p e.0) (same e) (filter_seen p q same es)
  where
    by : (t : Bool) → t ≡ q (entry_of e) → seen (filter (λ (e : Vec ℕ Global × List ℕ). p e.0) es) ≡ filter q (seen es) →
        seen (if t then e ∷ filter (λ (e : Vec ℕ Global × List ℕ). p e.0) es else filter (λ (e : Vec ℕ Global × List ℕ). p e.0) es) ≡ (if q (entry_of e) then entry_of e ∷ filter q (seen es) else filter q (seen es))
    by true is later = ap (λ (l : List TableEntry). entry_of e ∷ l) later ∙ ap (λ (t : Bool). if t then entry_of e ∷ filter q (seen es) else filter q (seen es)) is
    by false is later = later ∙ ap (λ (t : Bool). if t then entry_of e ∷ filter q (seen es) else filter q (seen es)) is

pub open_range : (from to : List ℕ) (first : Vec ℕ Global) (es r : List (Vec ℕ Global × List ℕ)) → first.items ≡ from → (length to == 0) ≡ true →
    r ≡ filter (λ (e : Vec ℕ Global × List ℕ). is_le (slice_cmp nat_cmp first.items e.0.items) && not false) es → seen r ≡ scanned from to (seen es)
open_range from to first es r begins none is =
    ap (λ (l : List (Vec ℕ Global × List ℕ)). seen l) is
    ∙ filter_seen (λ (k : Vec ℕ Global). is_le (slice_cmp nat_cmp first.items k.items) && not false) (λ (entry : TableEntry). is_within from to entry.key) same es
  where
    same : (e : Vec ℕ Global × List ℕ) → (is_le (slice_cmp nat_cmp first.items e.0.items) && not false) ≡ is_within from to e.0.items
    same e = ap (λ (x : List ℕ). is_le (slice_cmp nat_cmp x e.0.items) && true) begins ∙ (ap (λ (t : Bool). t && true) (le_turned from e.0.items)
        ∙ sym (ap (λ (t : Bool). not (is_before e.0.items from) && (t || is_before e.0.items to)) none))

pub ended_range : (from to : List ℕ) (first last : Vec ℕ Global) (es r : List (Vec ℕ Global × List ℕ)) → first.items ≡ from → last.items ≡ to → (length to == 0) ≡ false →
    r ≡ filter (λ (e : Vec ℕ Global × List ℕ). is_le (slice_cmp nat_cmp first.items e.0.items) && not (is_le (slice_cmp nat_cmp last.items e.0.items))) es → seen r ≡ scanned from to (seen es)
ended_range from to first last es r begins ends some is =
    ap (λ (l : List (Vec ℕ Global × List ℕ)). seen l) is
    ∙ filter_seen (λ (k : Vec ℕ Global). is_le (slice_cmp nat_cmp first.items k.items) && not (is_le (slice_cmp nat_cmp last.items k.items))) (λ (entry : TableEntry). is_within from to entry.key) same es
  where
    same : (e : Vec ℕ Global × List ℕ) → (is_le (slice_cmp nat_cmp first.items e.0.items) && not (is_le (slice_cmp nat_cmp last.items e.0.items))) ≡ is_within from to e.0.items
    same e = ap (λ (x : List ℕ). is_le (slice_cmp nat_cmp x e.0.items) && not (is_le (slice_cmp nat_cmp last.items e.0.items))) begins
        ∙ (ap (λ (x : List ℕ). is_le (slice_cmp nat_cmp from e.0.items) && not (is_le (slice_cmp nat_cmp x e.0.items))) ends
        ∙ (ap (λ (t : Bool). t && not (is_le (slice_cmp nat_cmp to e.0.items))) (le_turned from e.0.items)
        ∙ (ap (λ (t : Bool). not (is_before e.0.items from) && not t) (le_turned to e.0.items)
        ∙ (ap (λ (t : Bool). not (is_before e.0.items from) && t) (twice (is_before e.0.items to))
        ∙ sym (ap (λ (t : Bool). not (is_before e.0.items from) && (t || is_before e.0.items to)) some)))))

pub scanned_entries : (from to : List ℕ) (es r : List (Vec ℕ Global × List ℕ)) → IsTable (seen es) → seen r ≡ scanned from to (seen es) → AllByRecursion IsTableEntry (seen r)
scanned_entries from to es r are is = subst (λ (l : List TableEntry). AllByRecursion IsTableEntry l) (sym is)
    (each_entry [] (scanned from to (seen es)) (filter_rises (λ (entry : TableEntry). is_within from to entry.key) [] (seen es) are))

pub page_made : (r : Result Reply Memory) (xs ys : List TableEntry) → xs ≡ ys → IfOk r (λ x. x ≡ page_of xs) → IfOk r (λ x. x ≡ page_of ys)
page_made (Ok x) xs ys same made = made ∙ ap (λ (l : List TableEntry). page_of l) same
page_made (Err e) xs ys same made = tt

pub forward : (from to first last : List ℕ) → first ≡ from → last ≡ to → IsRange from to → (length to == 0) ≡ false → is_gt (slice_cmp nat_cmp first last) ≡ false
forward from to first last begins ends is some = by is.2
  where
    by : (to ≡ []) ⊎ (slice_cmp nat_cmp from to ≡ Less) → is_gt (slice_cmp nat_cmp first last) ≡ false
    by (inl none) = absurd (true≢false (ap (λ (x : List ℕ). length x == 0) (sym none) ∙ some))
    by (inr less) = rw (begins, ends, less) refl

-- ---- what a key has

pub held_short : (key value : List ℕ) (table : List TableEntry) → IsTable table → Some value ≡ value_of key table → length value ≤ 2048
held_short key value table are is = subst (λ (o : Option (List ℕ)). IsStoredOrNone o) (sym is) (value_stored key [] table are)

none_without : (key : List ℕ) (xs : List TableEntry) → value_of key xs ≡ None → without key xs ≡ xs
none_without key [] none = refl
none_without key (x ∷ xs) none = by (bytes_eq x.key key) none (none_without key xs)
  where
    by : (t : Bool) → (if t then Some x.value else value_of key xs) ≡ None → (value_of key xs ≡ None → without key xs ≡ xs) → (if not t then x ∷ without key xs else without key xs) ≡ x ∷ xs
    by true none later = absurd cc
    by false none later = ap (λ (l : List TableEntry). x ∷ l) (later none)

-- ---- changes

pub set_fits : (inside now : List TableEntry) (key : List ℕ) (size held : ℕ) → inside ≡ now → IsTable inside → size ≡ table_size inside → held ≡ held_size key (value_of key now) → held ≤ size
set_fits inside now key size held view are sized is =
    omega (arith, size_without key inside are, ap (λ (l : List TableEntry). held_size key (value_of key l)) view)

pub set_kept : (inside now after : List TableEntry) (key value : List ℕ) (size held total : ℕ) → inside ≡ now → IsTable inside → size ≡ table_size inside → held ≡ held_size key (value_of key now) → IsKey key → IsStored value →
    total ≡ size - held + (4 + (length key + length value)) → after ≡ with_entry key value inside → IsTable after × (total ≡ table_size after)
set_kept inside now after key value size held total view are sized is named short made grown = (
  subst (λ (l : List TableEntry). IsTable l) (sym grown) (with_entry_rises key value inside named short are),
  omega (arith, size_with key value inside are, size_without key inside are, ap (λ (l : List TableEntry). held_size key (value_of key l)) view, ap (λ (l : List TableEntry). table_size l) grown),
)

pub gone_kept : (inside after : List TableEntry) (key : List ℕ) (size : ℕ) (held : Option (List ℕ)) → IsTable inside → size ≡ table_size inside → held ≡ value_of key inside → after ≡ without key inside →
    IsTable after × (size - held_size key held ≡ table_size after)
gone_kept inside after key size held are sized is left = (
  subst (λ (l : List TableEntry). IsTable l) (sym left) (without_rises key [] inside are),
  omega (arith, size_without key inside are, ap (λ (o : Option (List ℕ)). held_size key o) is, ap (λ (l : List TableEntry). table_size l) left),
)

pub gone_fits : (inside : List TableEntry) (key : List ℕ) (size : ℕ) (held : Option (List ℕ)) → IsTable inside → size ≡ table_size inside → held ≡ value_of key inside → held_size key held ≤ size
gone_fits inside key size held are sized is = omega (arith, size_without key inside are, ap (λ (o : Option (List ℕ)). held_size key o) is)

pub delete_none : (inside now after : List TableEntry) (key : List ℕ) → inside ≡ now → None ≡ value_of key inside → after ≡ without key inside → after ≡ (deleting (value_of key now) key [] now).table
delete_none inside now after key view none left =
    left ∙ (none_without key inside (sym none) ∙ (view ∙ ap (λ (o : Option (List ℕ)). (deleting o key [] now).table) (none ∙ ap (λ (l : List TableEntry). value_of key l) view)))

pub delete_some : (inside now after : List TableEntry) (key value : List ℕ) → inside ≡ now → Some value ≡ value_of key inside → after ≡ without key inside → after ≡ (deleting (value_of key now) key [] now).table
delete_some inside now after key value view some left =
    left ∙ (ap (λ (l : List TableEntry). without key l) view ∙ ap (λ (o : Option (List ℕ)). (deleting o key [] now).table) (some ∙ ap (λ (l : List TableEntry). value_of key l) view))
