-- A map by keys and the table that it stands for.
use Rattle.std.proofs.Common.{arith, ◌≡◌, ℕ, ◌+◌, Bool, true, false, not, if◌then◌else◌, cond, List, [], ◌∷◌, length, Option, Some, refl, sym, ◌∙◌, ap, subst, true≢false}
use Rattle.std.specs.Prelude.{bytes_eq}
use Rattle.std.specs.List.{sum_by, AllByRecursion}
use Rattle.std.specs.Ordering.{nat_cmp, is_lt, is_eq, ordering_reverse}
use Rattle.std.specs.Cmp.Lexicographic.{slice_cmp}
use Rattle.std.specs.declared.cmp.Ordering.{Ordering}
use Rattle.std.specs.declared.cmp.Ordering.TheVariants.{Less, Equal, Greater}
use Rattle.std.specs.BTreeMap.{insert_entry}
use Rattle.std.specs.Ordering.{match_ordering}
use Rattle.std.specs.Map.{lookup, remove_entry}
use Rattle.std.specs.declared.vec.Vec.{Vec}
use Rattle.std.specs.declared.alloc.Global.{Global}
use Rattle.std.proofs.lemmas.Cmp.{nat_list_cmp_total}
use Rattle.std.proofs.lemmas.List.Sums.{sum_by-cons}
use Rattle.std.proofs.lemmas.Map.Lookups.{exact_bytes}
use Rattle.std.proofs.lemmas.Map.Text.{is_eq-slice_cmp}
use Rattle.command_codec.specs.declared.reply.TableEntry.{TableEntry}
use Rattle.command_codec.specs.Replies.{IsTableEntry}
use Rattle.mrp_config.specs.Routing.{is_before}
use Rattle.plain_model.specs.Replicas.{value_of, without, put_in, with_entry, entry_size}
use Rattle.plain_model.proofs.FoldTable.{same_bytes, same_itself, other_turned}
use Rattle.state_laws.specs.States.{AreRisingAfter}
use Rattle.state_laws.proofs.Tables.{after_earlier}
use Rattle.range_store.specs.Table.{entry_of, seen, table_size, held_size}

-- ---- the order of keys

abbrev pub order : Vec ℕ Global → Vec ℕ Global → Ordering
order a b = slice_cmp nat_cmp a.items b.items

bytes_turned : (a b : List ℕ) → bytes_eq a b ≡ bytes_eq b a
bytes_turned a b = by (bytes_eq a b) refl
  where
    by : (t : Bool) → bytes_eq a b ≡ t → t ≡ bytes_eq b a
    by true is = sym (subst (λ (x : List ℕ). bytes_eq x a ≡ true) (same_bytes a b is) (same_itself a))
    by false is = sym (other_turned a b is)

pub same_key : (key k : List ℕ) → is_eq (slice_cmp nat_cmp key k) ≡ bytes_eq k key
same_key key k = is_eq-slice_cmp key k ∙ bytes_turned key k

pub apart_before : (a b : List ℕ) → is_before a b ≡ true → bytes_eq b a ≡ false
apart_before a b less = by (bytes_eq b a) refl
  where
    by : (t : Bool) → bytes_eq b a ≡ t → t ≡ false
    by false is = refl
    by true is =
        let eq : is_eq (slice_cmp nat_cmp a b) ≡ true = same_key a b ∙ is in
        absurd (both (slice_cmp nat_cmp a b) less eq)
      where
        both : (o : Ordering) → is_lt o ≡ true → is_eq o ≡ true → ⊥
        both Less l e = true≢false (sym e)
        both Equal l e = true≢false (sym l)
        both Greater l e = true≢false (sym l)

-- ---- look-ups

pub found : (key : List ℕ) (es : List (Vec ℕ Global × List ℕ)) → lookup (λ (k : Vec ℕ Global). is_eq (slice_cmp nat_cmp key k.items)) es ≡ value_of key (seen es)
found key [] = refl
found key (e ∷ es) = ap (λ (t : Bool). cond t (Some e.1) (lookup (λ (k : Vec ℕ Global). is_eq (slice_cmp nat_cmp key k.items)) es)) (same_key key e.0.items)
    ∙ ap (λ (o : Option (List ℕ)). if bytes_eq e.0.items key then Some e.1 else o) (found key es)

-- ---- a key comes in or goes

kept_all : (key : List ℕ) (xs : List TableEntry) → AreRisingAfter key xs → without key xs ≡ xs
kept_all key [] are = refl
kept_all key (x ∷ xs) are =
    ap (λ (t : Bool). if not t then x ∷ without key xs else without key xs) (apart_before key x.key are.1)
    ∙ ap (λ (l : List TableEntry). x ∷ l) (kept_all key xs (after_earlier key x.key xs are.1 are.2))

put_first : (key value : List ℕ) (xs : List TableEntry) → AreRisingAfter key xs → put_in (record { key = key; value = value }) xs ≡ record { key = key; value = value } ∷ xs
put_first key value [] are = refl
put_first key value (x ∷ xs) are =
    ap (λ (t : Bool). if t then record { key = key; value = value } ∷ x ∷ xs else x ∷ put_in (record { key = key; value = value }) xs) are.1

pub put_seen : (before : List ℕ) (es : List (Vec ℕ Global × List ℕ)) (k : Vec ℕ Global) (v : List ℕ) → AreRisingAfter before (seen es) → seen (insert_entry order es k v) ≡ with_entry k.items v (seen es)
put_seen before [] k v are = refl
put_seen before (e ∷ es) k v are = by (order k e.0) refl (put_seen e.0.items es k v are.2)
  where
    new : TableEntry
    new = record { key = k.items; value = v }

    by : (o : Ordering) → order k e.0 ≡ o → seen (insert_entry order es k v) ≡ with_entry k.items v (seen es) →
        seen (match_ordering o ((k, v) ∷ e ∷ es) ((e.0, v) ∷ es) (e ∷ insert_entry order es k v)) ≡ with_entry k.items v (entry_of e ∷ seen es)
    by Less is later =
        let less : is_before k.items e.0.items ≡ true = ap is_lt is in
        let all : AreRisingAfter k.items (entry_of e ∷ seen es) = (are.0, less, are.2) in
        sym (ap (λ (l : List TableEntry). put_in new l) (kept_all k.items (entry_of e ∷ seen es) all) ∙ put_first k.items v (entry_of e ∷ seen es) all)
    by Equal is later =
        let same : k.items ≡ e.0.items = exact_bytes k.items e.0.items is in
        let hit : bytes_eq e.0.items k.items ≡ true = subst (λ (x : List ℕ). bytes_eq x k.items ≡ true) same (same_itself k.items) in
        let rising : AreRisingAfter k.items (seen es) = subst (λ (x : List ℕ). AreRisingAfter x (seen es)) (sym same) are.2 in
        ap (λ (x : List ℕ). record { key = x; value = v } ∷ seen es) (sym same)
        ∙ sym (ap (λ (t : Bool). put_in new (if not t then entry_of e ∷ without k.items (seen es) else without k.items (seen es))) hit
        ∙ (ap (λ (l : List TableEntry). put_in new l) (kept_all k.items (seen es) rising) ∙ put_first k.items v (seen es) rising))
    by Greater is later =
        let after : is_before k.items e.0.items ≡ false = ap is_lt is in
        let apart : bytes_eq e.0.items k.items ≡ false = sym (same_key k.items e.0.items) ∙ ap is_eq is in
        ap (λ (l : List TableEntry). entry_of e ∷ l) later
        ∙ sym (ap (λ (t : Bool). put_in new (if not t then entry_of e ∷ without k.items (seen es) else without k.items (seen es))) apart
        ∙ ap (λ (t : Bool). if t then new ∷ entry_of e ∷ without k.items (seen es) else entry_of e ∷ put_in new (without k.items (seen es))) after)

pub removed_seen : (before key : List ℕ) (es : List (Vec ℕ Global × List ℕ)) → AreRisingAfter before (seen es) →
    seen (remove_entry (λ (k : Vec ℕ Global). is_eq (slice_cmp nat_cmp key k.items)) es) ≡ without key (seen es)
removed_seen before key [] are = refl
removed_seen before key (e ∷ es) are = by (bytes_eq e.0.items key) refl (removed_seen e.0.items key es are.2)
  where
    rest : List (Vec ℕ Global × List ℕ)
    rest = remove_entry (λ (k : Vec ℕ Global). is_eq (slice_cmp nat_cmp key k.items)) es

    by : (t : Bool) → bytes_eq e.0.items key ≡ t → seen rest ≡ without key (seen es) →
        seen (cond (is_eq (slice_cmp nat_cmp key e.0.items)) es (e ∷ rest)) ≡ (if not (bytes_eq e.0.items key) then entry_of e ∷ without key (seen es) else without key (seen es))
    by true is later =
        let same : e.0.items ≡ key = same_bytes e.0.items key is in
        let rising : AreRisingAfter key (seen es) = subst (λ (x : List ℕ). AreRisingAfter x (seen es)) same are.2 in
        ap (λ (t : Bool). seen (cond t es (e ∷ rest))) (same_key key e.0.items ∙ is)
        ∙ (sym (kept_all key (seen es) rising) ∙ sym (ap (λ (t : Bool). if not t then entry_of e ∷ without key (seen es) else without key (seen es)) is))
    by false is later =
        ap (λ (t : Bool). seen (cond t es (e ∷ rest))) (same_key key e.0.items ∙ is)
        ∙ (ap (λ (l : List TableEntry). entry_of e ∷ l) later ∙ sym (ap (λ (t : Bool). if not t then entry_of e ∷ without key (seen es) else without key (seen es)) is))

-- ---- sizes

put_size : (new : TableEntry) (xs : List TableEntry) → sum_by entry_size (put_in new xs) ≡ entry_size new + sum_by entry_size xs
put_size new [] = sum_by-cons entry_size new []
put_size new (x ∷ xs) = by (is_before new.key x.key) (put_size new xs)
  where
    by : (t : Bool) → sum_by entry_size (put_in new xs) ≡ entry_size new + sum_by entry_size xs →
        sum_by entry_size (if t then new ∷ x ∷ xs else x ∷ put_in new xs) ≡ entry_size new + sum_by entry_size (x ∷ xs)
    by true later = sum_by-cons entry_size new (x ∷ xs)
    by false later = omega (arith, sum_by-cons entry_size x (put_in new xs), sum_by-cons entry_size x xs, later)

without_size : (before key : List ℕ) (xs : List TableEntry) → AreRisingAfter before xs → sum_by entry_size (without key xs) + held_size key (value_of key xs) ≡ sum_by entry_size xs
without_size before key [] are = refl
without_size before key (x ∷ xs) are = by (bytes_eq x.key key) refl (without_size x.key key xs are.2)
  where
    by : (t : Bool) → bytes_eq x.key key ≡ t → sum_by entry_size (without key xs) + held_size key (value_of key xs) ≡ sum_by entry_size xs →
        sum_by entry_size (if not t then x ∷ without key xs else without key xs) + held_size key (if t then Some x.value else value_of key xs) ≡ sum_by entry_size (x ∷ xs)
    by true is later =
        let same : x.key ≡ key = same_bytes x.key key is in
        let rising : AreRisingAfter key xs = subst (λ (y : List ℕ). AreRisingAfter y xs) same are.2 in
        omega (arith, ap (λ (l : List TableEntry). sum_by entry_size l) (kept_all key xs rising), sum_by-cons entry_size x xs, ap (λ (y : List ℕ). length y) same)
    by false is later = omega (arith, sum_by-cons entry_size x (without key xs), sum_by-cons entry_size x xs, later)

pub size_without : (key : List ℕ) (table : List TableEntry) → AreRisingAfter [] table → table_size (without key table) + held_size key (value_of key table) ≡ table_size table
size_without key table are = omega (arith, without_size [] key table are)

pub size_with : (key value : List ℕ) (table : List TableEntry) → AreRisingAfter [] table →
    table_size (with_entry key value table) + held_size key (value_of key table) ≡ table_size table + (4 + (length key + length value))
size_with key value table are = omega (arith, without_size [] key table are, put_size (record { key = key; value = value }) (without key table))

-- ---- each entry

pub each_entry : (before : List ℕ) (xs : List TableEntry) → AreRisingAfter before xs → AllByRecursion IsTableEntry xs
each_entry before [] are = tt
each_entry before (x ∷ xs) are = (are.0, each_entry x.key xs are.2)

-- ---- a key after another

pub apart_after : (key k : List ℕ) → is_before k key ≡ true → bytes_eq k key ≡ false
apart_after key k less = bytes_turned k key ∙ apart_before k key less

turned_less : (o : Ordering) → is_lt o ≡ true → is_lt (ordering_reverse o) ≡ false
turned_less Less is = refl
turned_less Equal is = refl
turned_less Greater is = absurd (true≢false (sym is))

pub apart_before_not : (key k : List ℕ) → is_before k key ≡ true → is_before key k ≡ false
apart_before_not key k less = ap is_lt (nat_list_cmp_total.antisymm key k) ∙ turned_less (slice_cmp nat_cmp k key) less
