-- What the parts of a valid deployment's table are read as.
use Rattle.std.proofs.Common.{arith, ◌≡◌, ℕ, ◌+◌, ◌≤◌, Bool, true, false, pos, List, [], ◌∷◌, ◌++◌, length, map, min, nat_le, refl, ◌∙◌, ap, Some, Ok}
use Rattle.std.proofs.lemmas.Bool.{le-leb}
use Rattle.std.proofs.lemmas.List.{length-map}
use Rattle.std.proofs.lemmas.Slice.Eq.{bytes_eq-Decides}
use Rattle.std.specs.List.{AllByRecursion}
use Rattle.toml.specs.Data.{Members, string, table}
use Rattle.hex.specs.Hex.{encode_lower}
use Rattle.hex.proofs.HexLemmas.{decode_of-encode_lower}
use Rattle.mrp_types.proofs.TestLemmas.{not_above}
use Rattle.mrp_types.specs.declared.id.NodeId.{NodeId}
use Rattle.config_walk.specs.declared.fault.ConfigFault.{ConfigFault}
use Rattle.config_walk.specs.declared.fault.ConfigFault.TheVariants.{OutOfRange, Repeated}
use Rattle.config_walk.proofs.Addresses.{is_an_address}
use Rattle.config_walk.specs.Address.{is_address, IsAddress}
use Rattle.mrp_types.specs.Seats.{is_among, numbers_of_nodes}
use Rattle.config_walk.specs.Values.{chain, unless, integer_in, in_range, number_of, address_of, decoded, hex_of, integers_of, each_in, numbers_of, each_once, each_rises, each_known, id_of, as_nodes, seats_of, tables_in, tables_of, some_tables}
use Rattle.config_laws.specs.Tables.{number, numbers, tables_with}
use Rattle.mrp_config.specs.Valid.{IncreasesFrom, AreAtMost, AreAmong, AreDifferent, AreApart, IsBetween, AreSeats, IsKey}
use Rattle.config_walk.proofs.Among.{in_none, none_of, turned}
use Rattle.mrp_config.proofs.Steps.{step}
use Rattle.config_walk.proofs.Views.{entries_of_items}

-- ---- steps

pub passes : (t : Bool) (fault : ConfigFault) → t ≡ true → unless t fault ≡ Ok tt
passes t fault h = rw h refl

-- ---- numbers and texts

in_range_back : (name : List ℕ) (least most n : ℕ) → IsBetween least most n → in_range name least most (pos n) ≡ Ok n
in_range_back name least most n h = rw (not_above least n h.0, not_above n most h.1) refl

pub number_back : (name : List ℕ) (least most n : ℕ) → IsBetween least most n → number_of name least most (Some (number n)) ≡ Ok n
unfolding number_of
number_back name least most n h = in_range_back name least most n h

pub id_back : (name : List ℕ) (most least n : ℕ) → least ≤ n → n ≤ most → id_of name most least (Some (number n)) ≡ Ok n
unfolding id_of
id_back name most least n low high =
    step (number_of name 0 most (Some (number n))) _ n _ (number_back name 0 most n (omega arith, high))
    (step (unless (nat_le least n) (Repeated name n)) _ tt _ (passes (nat_le least n) (Repeated name n) (le-leb least n low)) refl)

pub address_back : (name text : List ℕ) → IsAddress text → address_of name (Some (string text)) ≡ Ok text
unfolding address_of
address_back name text h = step (unless (is_address text) (OutOfRange name)) _ tt _ (passes (is_address text) (OutOfRange name) (is_an_address text h)) refl

decoded_back : (name bytes : List ℕ) → IsKey bytes → decoded name (encode_lower bytes) (Ok bytes) ≡ Ok bytes
decoded_back name bytes h = rw ((bytes_eq-Decides (encode_lower bytes) (encode_lower bytes)).1 refl, le-leb (length bytes) 256 h.few) refl

pub hex_back : (name bytes : List ℕ) → IsKey bytes → hex_of name (Some (string (encode_lower bytes))) ≡ Ok bytes
unfolding hex_of
hex_back name bytes h = ap (decoded name (encode_lower bytes)) (decode_of-encode_lower bytes h.bytes) ∙ decoded_back name bytes h

pub min_of : (n most : ℕ) → n ≤ most → min n most ≡ n
min_of n most h = grind arith

-- ---- lists of numbers

integers_back : (name : List ℕ) (ns : List ℕ) → chain (λ (s : Unit {0}) value. integer_in name value) (λ s z. s) tt (map number ns) ≡ Ok (map pos ns)
integers_back name [] = refl
integers_back name (n ∷ ns) = step (chain (λ (s : Unit {0}) value. integer_in name value) (λ s z. s) tt (map number ns)) _ (map pos ns) _ (integers_back name ns) refl

each_back : (name : List ℕ) (most : ℕ) (ns : List ℕ) → AreAtMost most ns → each_in name most (map pos ns) ≡ Ok ns
each_back name most [] h = refl
each_back name most (n ∷ ns) h =
    step (in_range name 0 most (pos n)) _ n _ (in_range_back name 0 most n (omega arith, h.0))
    (step (each_in name most (map pos ns)) _ ns _ (each_back name most ns h.1) refl)

pub numbers_back : (name : List ℕ) (fewest most greatest : ℕ) (ns : List ℕ) → IsBetween fewest most (length ns) → AreAtMost greatest ns → numbers_of name fewest most greatest (Some (numbers ns)) ≡ Ok ns
numbers_back name fewest most greatest ns few low =
    let listed : integers_of name (Some (numbers ns)) ≡ Ok (map pos ns) = rw (entries_of_items (map number ns)) (integers_back name ns) in
    let some : nat_le fewest (length (map pos ns)) ≡ true = rw (length-map ns pos) (le-leb fewest (length ns) few.0) in
    let many : nat_le (length (map pos ns)) most ≡ true = rw (length-map ns pos) (le-leb (length ns) most few.1) in
    step (integers_of name (Some (numbers ns))) _ (map pos ns) _ listed
    (step (unless (nat_le fewest (length (map pos ns))) (OutOfRange name)) _ tt _ (passes _ _ some)
    (step (unless (nat_le (length (map pos ns)) most) (OutOfRange name)) _ tt _ (passes _ _ many) (each_back name greatest ns low)))

-- ---- membership

pub apart_from_none : (ns : List ℕ) → AreApart [] ns
apart_from_none [] = tt
apart_from_none (n ∷ ns) = (refl, apart_from_none ns)

pub apart_join : (xs ys zs : List ℕ) → AreApart xs zs → AreApart ys zs → AreApart (xs ++ ys) zs
apart_join xs ys [] h k = tt
apart_join xs ys (z ∷ zs) h k = (in_none z xs ys h.0 k.0, apart_join xs ys zs h.1 k.1)

pub all_join : (xs ys : List ℕ) (lists : List (List ℕ)) → AllByRecursion (AreApart xs) lists → AllByRecursion (AreApart ys) lists → AllByRecursion (AreApart (xs ++ ys)) lists
all_join xs ys [] h k = tt
all_join xs ys (zs ∷ lists) h k = (apart_join xs ys zs h.0 k.0, all_join xs ys lists h.1 k.1)

apart_from_one : (n : ℕ) (ns : List ℕ) → is_among n ns ≡ false → AreApart (n ∷ []) ns
apart_from_one n [] h = tt
apart_from_one n (m ∷ ns) h = (rw (turned m n (none_of n m ns h).0) refl, apart_from_one n ns (none_of n m ns h).1)

pub once_back : (name taken ns : List ℕ) → AreDifferent ns → AreApart taken ns → each_once name taken ns ≡ Ok tt
once_back name taken [] h k = refl
once_back name taken (n ∷ ns) h k = rw k.0 (once_back name (taken ++ n ∷ []) ns h.1 (apart_join taken (n ∷ []) ns k.1 (apart_from_one n ns h.0)))

pub rises_back : (name : List ℕ) (least : ℕ) (ns : List ℕ) → IncreasesFrom least ns → each_rises name least ns ≡ Ok tt
rises_back name least [] h = refl
rises_back name least (n ∷ ns) h = rw (not_above least n h.0) (rises_back name (n + 1) ns h.1)

pub known_back : (name ids ns : List ℕ) → AreAmong ids ns → each_known name ids ns ≡ Ok tt
known_back name ids [] h = refl
known_back name ids (n ∷ ns) h = rw h.0 (known_back name ids ns h.1)

nodes_back : (seats : List NodeId) → as_nodes (numbers_of_nodes seats) ≡ seats
nodes_back [] = refl
nodes_back (s ∷ seats) = ap (λ (l : List NodeId). s ∷ l) (nodes_back seats)

pub seats_back : (name taken ids : List ℕ) (seats : List NodeId) → AreSeats ids (numbers_of_nodes seats) → AreApart taken (numbers_of_nodes seats) → seats_of name taken ids (Some (numbers (numbers_of_nodes seats))) ≡ Ok seats
unfolding seats_of
seats_back name taken ids seats h free =
    let ns = numbers_of_nodes seats in
    step (numbers_of name 1 7 31 (Some (numbers ns))) _ ns _ (numbers_back name 1 7 31 ns h.few h.numbers)
    (step (each_once name taken ns) _ tt _ (once_back name taken ns h.different free)
    (step (each_known name ids ns) _ tt _ (known_back name ids ns h.known) (ap Ok (nodes_back seats))))

-- ---- lists of tables

tables_in_back : {T : Type 0} (name : List ℕ) (spell : T → Members) (ts : List T) → tables_in name (map (λ t. table (spell t)) ts) ≡ Ok (map spell ts)
tables_in_back name spell [] = refl
tables_in_back name spell (t ∷ ts) = step (tables_in name (map (λ t. table (spell t)) ts)) _ (map spell ts) _ (tables_in_back name spell ts) refl

pub tables_back : {T : Type 0} (name : List ℕ) (fewest most : ℕ) (spell : T → Members) (ts : List T) → IsBetween fewest most (length ts) → tables_of name fewest most (Some (tables_with spell ts)) ≡ Ok (map spell ts)
unfolding tables_of
tables_back name fewest most spell ts few =
    let some : nat_le fewest (length (map spell ts)) ≡ true = rw (length-map ts spell) (le-leb fewest (length ts) few.0) in
    let many : nat_le (length (map spell ts)) most ≡ true = rw (length-map ts spell) (le-leb (length ts) most few.1) in
    rw (entries_of_items (map (λ t. table (spell t)) ts))
    (step (tables_in name (map (λ t. table (spell t)) ts)) (some_tables name fewest most) (map spell ts) _ (tables_in_back name spell ts)
    (step (unless (nat_le fewest (length (map spell ts))) (OutOfRange name)) _ tt _ (passes _ _ some)
    (step (unless (nat_le (length (map spell ts)) most) (OutOfRange name)) _ tt _ (passes _ _ many) refl)))
