-- What a walk that found no fault has seen.
use Rattle.std.proofs.Common.{◌≡◌, ℕ, suc, ◌+◌, ◌≤◌, ◌&&◌, Bool, true, false, if◌then◌else◌, ℤ, pos, negsuc, List, [], ◌∷◌, ◌++◌, length, nat_le, nat_lt, refl, sym, ◌∙◌, ap, subst, Option, Result, Ok, Err}
use Rattle.std.proofs.lemmas.Bool.{leb-true}
use Rattle.std.specs.Str.{bytes_eq}
use Rattle.toml.specs.Data.{Data}
use Rattle.hex.specs.Hex.{encode_lower, decode_of}
use Rattle.hex.specs.declared.error.FromHexError.{FromHexError}
use Rattle.hex.proofs.HexLemmas.{decode_of-ok}
use Rattle.mrp_types.proofs.TestLemmas.{both, at_most}
use Rattle.mrp_types.specs.declared.id.NodeId.{NodeId}
use Rattle.mrp_types.specs.Rings.{IncreasesFrom}
use Rattle.mrp_types.specs.Seats.{is_among, numbers_of_nodes, AreDifferent}
use Rattle.config_walk.specs.declared.fault.ConfigFault.{ConfigFault}
use Rattle.config_walk.proofs.Addresses.{address_is}
use Rattle.config_walk.specs.Address.{is_address, IsAddress}
use Rattle.mrp_types.specs.Reading.{◌>>=◌}
use Rattle.config_walk.specs.Values.{chain, unless, integer_of, in_range, number_of, text_of, address_of, decoded, hex_of, integers_of, each_in, numbers_of, each_once, each_rises, each_known, id_of, as_nodes, seats_of}
use Rattle.config_walk.specs.Numbers.{AreAtMost, AreAmong, AreApart, IsBetween, AreSeats, IsKey}
use Rattle.config_walk.proofs.Among.{in_neither, none_of, turned}

-- ---- steps

-- a step that found no fault had one before it that found none
pub bound : {A B : Type 0} (r : Result A ConfigFault) (f : A → Result B ConfigFault) (y : B) → (r >>= f) ≡ Ok y → (x : A) × (r ≡ Ok x) × (f x ≡ Ok y)
bound (Ok x) f y h = (x, refl, h)
bound (Err e) f y h = absurd cc

abbrev pub done : {A : Type 0} → A → Result A ConfigFault
done x = Ok x

pub ok_is : {A : Type 0} (x y : A) → done x ≡ done y → x ≡ y
ok_is x y h = cc

pub tested : (t : Bool) (fault : ConfigFault) (u : Unit {0}) → unless t fault ≡ Ok u → t ≡ true
tested true fault u h = refl
tested false fault u h = absurd cc

-- where a test chose a value over a fault
pub then_was : {A : Type 0} (t : Bool) (fault : ConfigFault) (r : Result A ConfigFault) (y : A) → (if t then r else Err fault) ≡ Ok y → (t ≡ true) × (r ≡ Ok y)
then_was true fault r y h = (refl, h)
then_was false fault r y h = absurd cc

pub else_was : {A : Type 0} (t : Bool) (fault : ConfigFault) (r : Result A ConfigFault) (y : A) → (if t then Err fault else r) ≡ Ok y → (t ≡ false) × (r ≡ Ok y)
else_was true fault r y h = absurd cc
else_was false fault r y h = (refl, h)

-- each entry gave a value
abbrev pub Chained : {S T V : Type 0} → (S → T → Result V ConfigFault) → (S → V → S) → S → List T → List V → Type 0
Chained read next asked [] [] = Unit {0}
Chained read next asked [] (v ∷ vs) = ⊥
Chained read next asked (t ∷ ts) [] = ⊥
Chained read next asked (t ∷ ts) (v ∷ vs) = (read asked t ≡ Ok v) × Chained read next (next asked v) ts vs

pub chain_saw : {S T V : Type 0} (read : S → T → Result V ConfigFault) (next : S → V → S) (asked : S) (ts : List T) (vs : List V) → chain read next asked ts ≡ Ok vs → Chained read next asked ts vs
chain_saw read next asked [] [] h = tt
chain_saw read next asked [] (v ∷ vs) h = absurd cc
chain_saw read next asked (t ∷ ts) vs h =
    let one = bound (read asked t) (λ v. chain read next (next asked v) ts >>= λ vs. Ok (v ∷ vs)) vs h in
    let two = bound (chain read next (next asked one.0) ts) (λ vs. Ok (one.0 ∷ vs)) vs one.2 in
    let whole : one.0 ∷ two.0 ≡ vs = ok_is (one.0 ∷ two.0) vs two.2 in
    subst (Chained read next asked (t ∷ ts)) whole (one.1, chain_saw read next (next asked one.0) ts two.0 two.1)

pub as_many : {S T V : Type 0} (read : S → T → Result V ConfigFault) (next : S → V → S) (asked : S) (ts : List T) (vs : List V) → Chained read next asked ts vs → length vs ≡ length ts
as_many read next asked [] [] h = refl
as_many read next asked [] (v ∷ vs) h = absurd h
as_many read next asked (t ∷ ts) [] h = absurd h
as_many read next asked (t ∷ ts) (v ∷ vs) h = ap suc (as_many read next (next asked v) ts vs h.1)

-- ---- numbers and texts

in_range_saw : (name : List ℕ) (least most : ℕ) (z : ℤ) (n : ℕ) → in_range name least most z ≡ Ok n → IsBetween least most n
in_range_saw name least most (negsuc k) n h = absurd cc
in_range_saw name least most (pos k) n h =
    let low = else_was (nat_lt k least) _ _ n h in
    let high = else_was (nat_lt most k) _ (Ok k) n low.1 in
    let same : k ≡ n = ok_is k n high.1 in
    subst (IsBetween least most) same (at_most least k low.0, at_most k most high.0)

pub number_saw : (name : List ℕ) (least most : ℕ) (found : Option Data) (n : ℕ) → number_of name least most found ≡ Ok n → IsBetween least most n
unfolding number_of
number_saw name least most found n h =
    let b = bound (integer_of name found) (λ z. in_range name least most z) n h in
    in_range_saw name least most b.0 n b.2

pub id_saw : (name : List ℕ) (most least : ℕ) (found : Option Data) (n : ℕ) → id_of name most least found ≡ Ok n → (least ≤ n) × (n ≤ most)
unfolding id_of
id_saw name most least found n h =
    let a = bound (number_of name 0 most found) _ n h in
    let b = bound (unless (nat_le least a.0) _) _ n a.2 in
    let same : a.0 ≡ n = ok_is a.0 n b.2 in
    let high = number_saw name 0 most found a.0 a.1 in
    subst (λ k. (least ≤ k) × (k ≤ most)) same (leb-true least a.0 (tested _ _ b.0 b.1), high.1)

pub address_saw : (name : List ℕ) (found : Option Data) (text : List ℕ) → address_of name found ≡ Ok text → IsAddress text
unfolding address_of
address_saw name found text h =
    let a = bound (text_of name found) _ text h in
    let b = bound (unless (is_address a.0) _) _ text a.2 in
    let same : a.0 ≡ text = ok_is a.0 text b.2 in
    subst IsAddress same (address_is a.0 (tested _ _ b.0 b.1))

decoded_saw : (name text : List ℕ) (r : Result (List ℕ) FromHexError) (bytes : List ℕ) → decode_of text ≡ r → decoded name text r ≡ Ok bytes → IsKey bytes
decoded_saw name text (Err e) bytes is h = absurd cc
decoded_saw name text (Ok found) bytes is h =
    let t = then_was (bytes_eq (encode_lower found) text && nat_le (length found) 256) _ (Ok found) bytes h in
    let pair = both (bytes_eq (encode_lower found) text) (nat_le (length found) 256) t.0 in
    let same : found ≡ bytes = ok_is found bytes t.1 in
    subst IsKey same (record { few = leb-true (length found) 256 pair.1; bytes = (decode_of-ok text found is).3 })

pub hex_saw : (name : List ℕ) (found : Option Data) (bytes : List ℕ) → hex_of name found ≡ Ok bytes → IsKey bytes
unfolding hex_of
hex_saw name found bytes h =
    let a = bound (text_of name found) _ bytes h in
    decoded_saw name a.0 (decode_of a.0) bytes refl a.2

-- ---- lists of numbers

each_saw : (name : List ℕ) (most : ℕ) (zs : List ℤ) (ns : List ℕ) → Chained (λ (s : Unit {0}) z. in_range name 0 most z) (λ s n. s) tt zs ns → AreAtMost most ns
each_saw name most [] [] h = tt
each_saw name most [] (n ∷ ns) h = absurd h
each_saw name most (z ∷ zs) [] h = absurd h
each_saw name most (z ∷ zs) (n ∷ ns) h = ((in_range_saw name 0 most z n h.0).1, each_saw name most zs ns h.1)

pub numbers_saw : (name : List ℕ) (fewest most greatest : ℕ) (found : Option Data) (ns : List ℕ) → numbers_of name fewest most greatest found ≡ Ok ns → IsBetween fewest most (length ns) × AreAtMost greatest ns
numbers_saw name fewest most greatest found ns h =
    let a = bound (integers_of name found) _ ns h in
    let b = bound (unless (nat_le fewest (length a.0)) _) _ ns a.2 in
    let c = bound (unless (nat_le (length a.0) most) _) (λ u. each_in name greatest a.0) ns b.2 in
    let each = chain_saw (λ (s : Unit {0}) z. in_range name 0 greatest z) (λ s n. s) tt a.0 ns c.2 in
    let many : length ns ≡ length a.0 = as_many _ _ tt a.0 ns each in
    let low = leb-true fewest (length a.0) (tested _ _ b.0 b.1) in
    let high = leb-true (length a.0) most (tested _ _ c.0 c.1) in
    ((rw many low, rw many high), each_saw name greatest a.0 ns each)

-- ---- membership

pub apart_split : (xs ys zs : List ℕ) → AreApart (xs ++ ys) zs → AreApart xs zs × AreApart ys zs
apart_split xs ys [] h = (tt, tt)
apart_split xs ys (z ∷ zs) h =
    let one = in_neither z xs ys h.0 in
    let rest = apart_split xs ys zs h.1 in
    ((one.0, rest.0), (one.1, rest.1))

not_among : (n : ℕ) (ns : List ℕ) → AreApart (n ∷ []) ns → is_among n ns ≡ false
not_among n [] h = refl
not_among n (m ∷ ns) h = rw (turned n m (none_of m n [] h.0).0) (not_among n ns h.1)

pub once_saw : (name taken ns : List ℕ) (u : Unit {0}) → each_once name taken ns ≡ Ok u → AreDifferent ns × AreApart taken ns
once_saw name taken [] u h = (tt, tt)
once_saw name taken (n ∷ ns) u h =
    let now = else_was (is_among n taken) _ (each_once name (taken ++ n ∷ []) ns) u h in
    let later = once_saw name (taken ++ n ∷ []) ns u now.1 in
    let free = apart_split taken (n ∷ []) ns later.1 in
    ((not_among n ns free.1, later.0), (now.0, free.0))

pub rises_saw : (name : List ℕ) (least : ℕ) (ns : List ℕ) (u : Unit {0}) → each_rises name least ns ≡ Ok u → IncreasesFrom least ns
rises_saw name least [] u h = tt
rises_saw name least (n ∷ ns) u h =
    let now = else_was (nat_lt n least) _ (each_rises name (n + 1) ns) u h in
    (at_most least n now.0, rises_saw name (n + 1) ns u now.1)

pub known_saw : (name ids ns : List ℕ) (u : Unit {0}) → each_known name ids ns ≡ Ok u → AreAmong ids ns
known_saw name ids [] u h = tt
known_saw name ids (n ∷ ns) u h =
    let now = then_was (is_among n ids) _ (each_known name ids ns) u h in
    (now.0, known_saw name ids ns u now.1)

pub back_to_numbers : (ns : List ℕ) → numbers_of_nodes (as_nodes ns) ≡ ns
back_to_numbers [] = refl
back_to_numbers (n ∷ ns) = ap (λ (l : List ℕ). n ∷ l) (back_to_numbers ns)

pub seats_saw : (name taken ids : List ℕ) (found : Option Data) (seats : List NodeId) → seats_of name taken ids found ≡ Ok seats → AreSeats ids (numbers_of_nodes seats) × AreApart taken (numbers_of_nodes seats)
unfolding seats_of
seats_saw name taken ids found seats h =
    let a = bound (numbers_of name 1 7 31 found) _ seats h in
    let b = bound (each_once name taken a.0) _ seats a.2 in
    let c = bound (each_known name ids a.0) (λ u. Ok (as_nodes a.0)) seats b.2 in
    let whole : as_nodes a.0 ≡ seats = ok_is (as_nodes a.0) seats c.2 in
    let same : a.0 ≡ numbers_of_nodes seats = sym (back_to_numbers a.0) ∙ ap numbers_of_nodes whole in
    let many = numbers_saw name 1 7 31 found a.0 a.1 in
    let once = once_saw name taken a.0 b.0 b.1 in
    let known = known_saw name ids a.0 c.0 c.1 in
    subst (λ ns. AreSeats ids ns × AreApart taken ns) same (record { few = many.0; numbers = many.1; different = once.0; known = known }, once.1)
