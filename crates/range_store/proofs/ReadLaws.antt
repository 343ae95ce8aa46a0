-- Entries that are read one after another come in at the end of the table.
use Rattle.std.proofs.Common.{arith, ◌≡◌, ℕ, ◌+◌, ◌≤◌, nat_lt, Bool, true, not, if◌then◌else◌, List, [], ◌∷◌, ◌++◌, length, take, drop, Result, Ok, Err, refl, sym, ◌∙◌, ap, subst}
use Rattle.std.specs.Prelude.{IfOk}
use Rattle.std.specs.List.{AllByRecursion}
use Rattle.std.specs.Int.{w16}
use Rattle.std.proofs.lemmas.Bool.{ltb-false}
use Rattle.std.proofs.lemmas.List.{length-take}
use Rattle.command_codec.specs.declared.fault.CodecFault.{CodecFault}
use Rattle.command_codec.specs.declared.reply.TableEntry.{TableEntry}
use Rattle.command_codec.specs.Reader.{Spot, Reads, bytes_at, number_at, length_at, string_at}
use Rattle.command_codec.proofs.ReaderLaws.{bound, ok_is, else_was}
use Rattle.mrp_config.specs.Routing.{is_before}
use Rattle.plain_model.specs.Replicas.{without, put_in, with_entry}
use Rattle.plain_model.proofs.FoldTable.{before_chain}
use Rattle.range_store.proofs.MapLaws.{apart_after, apart_before_not}

-- whatever comes after this key comes after each of the entries
abbrev pub AreUpTo : List ℕ → List TableEntry → Type 0
AreUpTo last entries = (key : List ℕ) → is_before last key ≡ true → AllByRecursion (λ (entry : TableEntry). is_before entry.key key ≡ true) entries

put_last : (key value : List ℕ) (xs : List TableEntry) → AllByRecursion (λ (entry : TableEntry). is_before entry.key key ≡ true) xs → with_entry key value xs ≡ xs ++ record { key = key; value = value } ∷ []
put_last key value [] all = refl
put_last key value (x ∷ xs) all =
    let apart = apart_after key x.key all.0 in
    let later = apart_before_not key x.key all.0 in
    ap (λ (t : Bool). put_in (record { key = key; value = value }) (if not t then x ∷ without key xs else without key xs)) apart
    ∙ (ap (λ (t : Bool). if t then record { key = key; value = value } ∷ x ∷ without key xs else x ∷ put_in (record { key = key; value = value }) (without key xs)) later
    ∙ ap (λ (l : List TableEntry). x ∷ l) (put_last key value xs all.1))

pub came_last : (key value last : List ℕ) (xs now : List TableEntry) → AreUpTo last xs → is_before last key ≡ true → now ≡ with_entry key value xs → now ≡ xs ++ record { key = key; value = value } ∷ []
came_last key value last xs now all after made = made ∙ put_last key value xs (all key after)

both_all : (key : List ℕ) (xs : List TableEntry) (e : TableEntry) → AllByRecursion (λ (entry : TableEntry). is_before entry.key key ≡ true) xs → is_before e.key key ≡ true →
    AllByRecursion (λ (entry : TableEntry). is_before entry.key key ≡ true) (xs ++ e ∷ [])
both_all key [] e all is = (is, tt)
both_all key (x ∷ xs) e all is = (all.0, both_all key xs e all.1 is)

pub next_up_to : (key value last : List ℕ) (xs now : List TableEntry) → AreUpTo last xs → is_before last key ≡ true → now ≡ with_entry key value xs → AreUpTo key now
next_up_to key value last xs now all after made = λ later less.
    subst (λ (l : List TableEntry). AllByRecursion (λ (entry : TableEntry). is_before entry.key later ≡ true) l) (sym (came_last key value last xs now all after made))
    (both_all later xs (record { key = key; value = value }) (all later (before_chain last key later after less)) less)

-- ---- lengths

counted : (count : ℕ) (spot : Spot) (x : List ℕ × Spot) → bytes_at count spot ≡ Ok x → length x.0 ≤ count
unfolding bytes_at
counted count spot x h =
    let r = else_was (nat_lt (length spot.rest) count) _ _ x h in
    let is = ok_is (take count spot.rest, record { at = spot.at + count; rest = drop count spot.rest }) x r.1 in
    omega (arith, ap (λ (y : List ℕ × Spot). length y.0) is, length-take count spot.rest)

at_most : (least most : ℕ) (spot : Spot) (x : ℕ × Spot) → length_at least most spot ≡ Ok x → (least ≤ x.0) × (x.0 ≤ most)
unfolding length_at
at_most least most spot x h =
    let a = bound (number_at w16 spot) _ x h in
    let b = else_was (nat_lt a.0.0 least) _ _ x a.2 in
    let c = else_was (nat_lt most a.0.0) _ _ x b.1 in
    let is = ok_is a.0 x c.1 in
    (omega (arith, ap (λ (y : ℕ × Spot). y.0) is, ltb-false a.0.0 least b.0), omega (arith, ap (λ (y : ℕ × Spot). y.0) is, ltb-false most a.0.0 c.0))

string_most : (least most : ℕ) (spot : Spot) (x : List ℕ × Spot) → string_at least most spot ≡ Ok x → length x.0 ≤ most
unfolding string_at
string_most least most spot x h =
    let a = bound (length_at least most spot) _ x h in
    omega (arith, (at_most least most spot a.0 a.1).1, counted a.0.0 a.0.1 x a.2)

pub read_short : {X : Type 0} (view : X → List ℕ) (least most : ℕ) (spot left : Spot) (r : Result X CodecFault) → Reads view (string_at least most spot) r left → IfOk r (λ v. length (view v) ≤ most)
read_short view least most spot left (Ok v) h = string_most least most spot (view v, left) h
read_short view least most spot left (Err e) h = tt

pub length_in : (least most : ℕ) (spot left : Spot) (r : Result ℕ CodecFault) → Reads (λ n. n) (length_at least most spot) r left → IfOk r (λ n. (least ≤ n) × (n ≤ most))
length_in least most spot left (Ok n) h = at_most least most spot (n, left) h
length_in least most spot left (Err e) h = tt
