-- The replies of the concerned partitions, each at a tuple of its own, are those at the first place of the number.
use Rattle.std.proofs.Common.{arith, ◌≡◌, ◌<◌, inl, inr, ℕ, zero, suc, ◌-◌, ◌==◌, Bool, true, false, not, if◌then◌else◌, IsTrue, List, [], ◌∷◌, ◌++◌, Option, Some, None, Result, Ok, Err, refl, sym, ap, ◌∙◌, subst, append_assoc, true≢false}
use Rattle.std.specs.Prelude.{cond, is_some}
use Rattle.std.specs.List.{AllByRecursion, list_all}
use Rattle.std.proofs.lemmas.List.Sums.{take_while-cons}
use Rattle.mrp_types.specs.declared.id.ClientId.{ClientId}
use Rattle.mrp_types.specs.declared.id.RingId.{RingId}
use Rattle.mrp_types.specs.declared.place.Place.{Place}
use Rattle.mrp_types.specs.declared.value.Entry.{Entry}
use Rattle.mrp_types.specs.declared.value.Value.{Value}
use Rattle.mrp_types.specs.Book.{Learning, book_of}
use Rattle.mrp_types.specs.Places.{place_lt}
use Rattle.mrp_types.proofs.TupleOrder.{split_and, both_true, same_number}
use Rattle.mrp_types.proofs.TupleChain.{one_reaches}
use Rattle.command_codec.specs.declared.command.Command.{Command}
use Rattle.command_codec.specs.declared.fault.CodecFault.{CodecFault}
use Rattle.command_codec.specs.declared.reply.Reply.{Reply}
use Rattle.command_codec.specs.Grammar.{command_of}
use Rattle.command_codec.specs.Replies.{reply_bytes, joined}
use Rattle.mrp_config.specs.declared.tables.PartitionTable.{PartitionTable}
use Rattle.mrp_config.specs.declared.routing.NoGroup.{NoGroup}
use Rattle.mrp_config.specs.Config.{Config, has_ring}
use Rattle.mrp_config.specs.Valid.{IsValid, IsPartition, IncreasesFrom, numbers_of_rings, IsRouteOf}
use Rattle.mrp_config.specs.Walk.{node_ids, ring_ids}
use Rattle.mrp_config.specs.Routing.{is_concerned, concerned_of, route_of}
use Rattle.config_laws.proofs.Routes.{concerned_are, route_of_concerned}
use Rattle.quorums.specs.Groups.{Has}
use Rattle.plain_model.specs.Tuples.{round_sizes, next_place, past, past_many, tuple_at, is_at_or_after, is_valid_tuple, has_rings, is_tuple_of, IsBelow}
use Rattle.plain_model.specs.Fold.{entries_of_value, entries_known, entries_of_next, entries_below, count_below, concerning, concerns, answered_of, reply_in, is_asked, asked_in, before_asked, known_entries, entries_at_place, reply_there, part_at, with_part, parts_at, concerned_by, joined_parts, answer_at, answer_from, answer_of}
use Rattle.plain_model.proofs.TupleAt.{below_is_before, tuple_at_valid}
use Rattle.tuple_laws.proofs.Below.{later-below, later-reached}
use Rattle.tuple_laws.proofs.NextPlaces.{at_has, next-at}
use Rattle.state_laws.proofs.Batches.{rounds-some}
use Rattle.answer_laws.specs.Answering.{RepliesTo, AreReplies, IsAskedOnce, IsInPlace, AreInPlace}
use Rattle.answer_laws.proofs.Folds.{nothing-replied, not_shown, reply_there as fold_there}
use Rattle.answer_laws.proofs.Places.{BothParts, both_parts, entries_there, StandsBelow, StandsFirst, below_on, found_below, stands_first}

none_reply : (reply : Reply) → None ≡ Some reply → ⊥
none_reply reply d = grind arith

none_entry : (e : Entry) → None ≡ Some e → ⊥
none_entry e d = grind arith

-- ---- the entries of a value

-- the first entry of a number among others
record Split (k : ClientId) (n : ℕ) (es : List Entry) (e : Entry) (before : List Entry) : Type 0 where
  after : List Entry
  whole : es ≡ before ++ e ∷ after
  is : is_asked k n e ≡ true
  none : AllByRecursion (λ (x : Entry). is_asked k n x ≡ false) before
  has : Has es e

some_entry : (x e : Entry) → Some x ≡ Some e → e ≡ x
some_entry x e h = cc

split_asked : (k : ClientId) (n : ℕ) (es : List Entry) (e : Entry) → asked_in k n es ≡ Some e → Split k n es e (before_asked k n es)
split_asked k n [] e h = absurd (none_entry e h)
split_asked k n (x ∷ es) e h =
    subst (λ (l : List Entry). Split k n (x ∷ es) e l) (sym (take_while-cons (λ (y : Entry). not (is_asked k n y)) x es))
    (by (is_asked k n x) refl h (λ g. split_asked k n es e g))
  where
    by : (t : Bool) → is_asked k n x ≡ t → (if t then Some x else asked_in k n es) ≡ Some e → (asked_in k n es ≡ Some e → Split k n es e (before_asked k n es))
        → Split k n (x ∷ es) e (cond (not t) (x ∷ before_asked k n es) [])
    by true f g later =
        let same = some_entry x e g in
        record { after = es; whole = ap (λ (y : Entry). y ∷ es) (sym same); is = ap (λ (y : Entry). is_asked k n y) same ∙ f; none = tt; has = inl same }
    by false f g later =
        let s = later g in
        record { after = s.after; whole = ap (λ (l : List Entry). x ∷ l) s.whole; is = s.is; none = (f, s.none); has = inr s.has }

none_asked : (k : ClientId) (n : ℕ) (es : List Entry) → asked_in k n es ≡ None → AllByRecursion (λ (x : Entry). is_asked k n x ≡ false) es
none_asked k n [] h = tt
none_asked k n (x ∷ es) h = by (is_asked k n x) refl h (λ g. none_asked k n es g)
  where
    some_none : Some x ≡ None → ⊥
    some_none d = grind arith

    by : (t : Bool) → is_asked k n x ≡ t → (if t then Some x else asked_in k n es) ≡ None → (asked_in k n es ≡ None → AllByRecursion (λ (y : Entry). is_asked k n y ≡ false) es)
        → (is_asked k n x ≡ false) × AllByRecursion (λ (y : Entry). is_asked k n y ≡ false) es
    by true f g later = absurd (some_none g)
    by false f g later = (f, later g)

all_both : (Is : Entry → Type 0) (xs ys : List Entry) → AllByRecursion Is xs → AllByRecursion Is ys → AllByRecursion Is (xs ++ ys)
all_both Is [] ys first second = second
all_both Is (x ∷ xs) ys first second = (first.0, all_both Is xs ys first.1 second)

-- ---- the first place among a partition's entries

record StandsIn (m : ℕ → ℕ) (known : List Learning) (k : ClientId) (n : ℕ) (rings : List RingId) (place : Place) (es : List Entry) : Type 0 where
  below : List Entry
  rest : List Entry
  known_below : entries_below m known (tuple_at m rings place) ≡ Some below
  whole : es ≡ below ++ (entries_at_place known place ++ rest)
  none : AllByRecursion (λ (x : Entry). is_asked k n x ≡ false) below

module _ (m : ℕ → ℕ) (some : (r : ℕ) → 0 < m r) (known : List Learning) (k : ClientId) (n : ℕ) where
  found_by : (rings : List RingId) (ring : ℕ) → has_ring rings ring ≡ true → IncreasesFrom 0 (numbers_of_rings rings) → (tuple : List (RingId × ℕ)) (es : List Entry) (e : Entry)
      → is_tuple_of m rings tuple ≡ true → entries_below m known tuple ≡ Some es → asked_in k n es ≡ Some e → StandsBelow known k n tuple
  found_by [] ring has rise tuple es e is h asked = absurd (true≢false (sym has))
  found_by (r ∷ rings) ring has rise tuple es e is h asked = found_below m known k n r rings rise tuple es e is h asked

  stands_in : (rings : List RingId) → IncreasesFrom 0 (numbers_of_rings rings) → (place : Place) → has_ring rings place.ring.0 ≡ true
      → ((q : Place) (e : Entry) → asked_in k n (entries_at_place known q) ≡ Some e → IsTrue (place_lt m q place) → ⊥)
      → (tuple : List (RingId × ℕ)) (es : List Entry) (e : Entry) → is_tuple_of m rings tuple ≡ true → entries_below m known tuple ≡ Some es → asked_in k n es ≡ Some e
      → StandsIn m known k n rings place es
  stands_in rings rise place has least tuple es e is h asked = elim (one_reaches m rings tuple at is at_is) [
    | inl after ↦ later after
    | inr before ↦ absurd (not_below (below_on rings tuple at s.place (split_and (has_rings rings tuple) (is_valid_tuple m tuple) is).0 (at_has m rings place) before s.below))
  ]
    where
      at : List (RingId × ℕ)
      at = tuple_at m rings place

      at_is : is_tuple_of m rings (tuple_at m rings place) ≡ true
      at_is = both_true (has_rings rings (tuple_at m rings place)) (is_valid_tuple m (tuple_at m rings place)) (at_has m rings place) (tuple_at_valid m rings place some)

      s : StandsBelow known k n tuple
      s = found_by rings place.ring.0 has rise tuple es e is h asked

      not_below : IsBelow s.place (tuple_at m rings place) → ⊥
      not_below below = least s.place s.entry s.asked (below_is_before m rings place s.place some below)

      none_below : (xs : List Entry) → entries_below m known (tuple_at m rings place) ≡ Some xs → AllByRecursion (λ (x : Entry). is_asked k n x ≡ false) xs
      none_below xs f = by (asked_in k n xs) refl
        where
          by : (o : Option Entry) → asked_in k n xs ≡ o → AllByRecursion (λ (x : Entry). is_asked k n x ≡ false) xs
          by None g = none_asked k n xs g
          by (Some x) g =
              let t : StandsBelow known k n (tuple_at m rings place) = found_by rings place.ring.0 has rise (tuple_at m rings place) xs x at_is f g in
              absurd (least t.place t.entry t.asked (below_is_before m rings place t.place some t.below))

      later : is_at_or_after tuple (tuple_at m rings place) ≡ true → StandsIn m known k n rings place es
      later after = by (count_below tuple - count_below (tuple_at m rings place)) refl parts.is_rest
        where
          parts : BothParts (entries_below m known (tuple_at m rings place)) (entries_of_next m known (count_below tuple - count_below (tuple_at m rings place)) (tuple_at m rings place)) es
          parts = both_parts (entries_below m known (tuple_at m rings place)) (entries_of_next m known (count_below tuple - count_below (tuple_at m rings place)) (tuple_at m rings place)) es
              (sym (later-below m known rings (tuple_at m rings place) tuple rise at_is is after) ∙ h)

          by : (d : ℕ) → count_below tuple - count_below (tuple_at m rings place) ≡ d → entries_of_next m known d (tuple_at m rings place) ≡ Some parts.rest → StandsIn m known k n rings place es
          by zero f g =
              let same : tuple_at m rings place ≡ tuple =
              ap (λ (i : ℕ). past_many m i (tuple_at m rings place)) (sym f) ∙ later-reached m rings (tuple_at m rings place) tuple rise at_is is after in
              absurd (not_below (subst (λ (u : List (RingId × ℕ)). IsBelow s.place u) (sym same) s.below))
          by (suc d) f g =
              let next = both_parts (entries_known known (next_place m (tuple_at m rings place))) (entries_of_next m known d (moved (tuple_at m rings place))) parts.rest g in
              let here : entries_at_place known place ≡ next.front =
              ap (λ (q : Place). entries_at_place known q) (sym (next-at m rings place some has))
              ∙ entries_there (book_of known (next_place m (tuple_at m rings place)).0 (next_place m (tuple_at m rings place)).1) next.front next.is_front in
              record {
                below = parts.front;
                rest = next.rest;
                known_below = parts.is_front;
                whole = parts.whole ∙ ap (λ (l : List Entry). parts.front ++ l) (next.whole ∙ ap (λ (l : List Entry). l ++ next.rest) (sym here));
                none = none_below parts.front parts.is_front;
              }
            where
              moved : List (RingId × ℕ) → List (RingId × ℕ)
              moved tuple = past m tuple

-- ---- partitions

-- a concerned partition subscribes to the ring
record Subscribes (ring : RingId) (command : Command) (p : PartitionTable) : Type 0 where
  concerned : is_concerned command p ≡ true
  has : has_ring p.rings ring.0 ≡ true
  rise : IncreasesFrom 0 (numbers_of_rings p.rings)

all_concerned : (command : Command) (ps : List PartitionTable) → AllByRecursion (λ (p : PartitionTable). is_concerned command p ≡ true) (concerned_of command ps)
all_concerned command [] = tt
all_concerned command (p ∷ ps) = by (is_concerned command p) refl (all_concerned command ps)
  where
    by : (t : Bool) → is_concerned command p ≡ t → AllByRecursion (λ (q : PartitionTable). is_concerned command q ≡ true) (concerned_of command ps)
        → AllByRecursion (λ (q : PartitionTable). is_concerned command q ≡ true) (if t then p ∷ concerned_of command ps else concerned_of command ps)
    by true e later = (e, later)
    by false e later = later

all_listed : (test : PartitionTable → Bool) (ps : List PartitionTable) → list_all test ps ≡ true → AllByRecursion (λ (p : PartitionTable). test p ≡ true) ps
all_listed test [] h = tt
all_listed test (p ∷ ps) h = let s = split_and (test p) (list_all test ps) h in (s.0, all_listed test ps s.1)

same_ring : (a b : RingId) (r : Result RingId NoGroup) → r ≡ Ok a → r ≡ Ok b → a ≡ b
same_ring a b r e f = cc

err_ok : (none : NoGroup) (ring : RingId) → Err none ≡ Ok ring → ⊥
err_ok none ring e = cc

all_have : (ps : List PartitionTable) (ring : RingId) (r : Result RingId NoGroup) → IsRouteOf ps r → r ≡ Ok ring → AllByRecursion (λ (p : PartitionTable). has_ring p.rings ring.0 ≡ true) ps
all_have [] ring r is e = tt
all_have (p ∷ []) ring r is e = (ap (λ (x : RingId). has_ring p.rings x.0) (same_ring ring p.home r e is.0) ∙ is.1, tt)
all_have (p ∷ q ∷ ps) ring (Ok other) is e =
    subst (λ (x : RingId). AllByRecursion (λ (y : PartitionTable). has_ring y.rings x.0 ≡ true) (p ∷ q ∷ ps)) (same_ring other ring (Ok other) refl e)
    (all_listed (λ (y : PartitionTable). has_ring y.rings other.0) (p ∷ q ∷ ps) is.common)
all_have (p ∷ q ∷ ps) ring (Err none) is e = absurd (err_ok none ring e)

all_three : (nodes rings : List ℕ) (ring : RingId) (command : Command) (ps : List PartitionTable) → AllByRecursion (λ (p : PartitionTable). is_concerned command p ≡ true) ps
    → AllByRecursion (λ (p : PartitionTable). has_ring p.rings ring.0 ≡ true) ps → AllByRecursion (IsPartition nodes rings) ps → AllByRecursion (Subscribes ring command) ps
all_three nodes rings ring command [] first second third = tt
all_three nodes rings ring command (p ∷ ps) first second third =
    (record { concerned = first.0; has = second.0; rise = third.0.increase }, all_three nodes rings ring command ps first.1 second.1 third.1)

all_subscribe : (c : Config) → IsValid c → (ring : RingId) (command : Command) → route_of (concerned_of command c.partitions) ≡ Ok ring
    → AllByRecursion (Subscribes ring command) (concerned_of command c.partitions)
all_subscribe c valid ring command route =
    all_three (node_ids c.nodes) (ring_ids c.rings) ring command (concerned_of command c.partitions) (all_concerned command c.partitions)
    (all_have (concerned_of command c.partitions) ring (route_of (concerned_of command c.partitions))
    (route_of_concerned (node_ids c.nodes) (ring_ids c.rings) command c.partitions valid.partitions.each) route)
    (concerned_are (node_ids c.nodes) (ring_ids c.rings) command c.partitions valid.partitions.each)

-- ---- one partition at the first place

-- what the first entry of the number is
record IsTheOne (known : List Learning) (ring : RingId) (command : Command) (place : Place) (e : Entry) : Type 0 where
  on : place.ring ≡ ring
  read : command_of e.command ≡ Ok command

the_one : (known : List Learning) (k : ClientId) (n : ℕ) (ring : RingId) (command : Command) → IsAskedOnce known k n ring command → (place : Place) (e : Entry)
    → asked_in k n (entries_at_place known place) ≡ Some e → IsTheOne known ring command place e
the_one known k n ring command once place e h = by (book_of known place.ring place.inst) refl h
  where
    by : (o : Option Value) → book_of known place.ring place.inst ≡ o → asked_in k n (known_entries o) ≡ Some e → IsTheOne known ring command place e
    by None f g = absurd (none_entry e g)
    by (Some value) f g =
        let s = split_asked k n (entries_of_value value) e g in
        let t = split_and (e.client.0 == k.0) (e.seq == n) s.is in
        let r = once place value e f s.has (same_number e.client.0 k.0 t.0) (same_number e.seq n t.1) in
        record { on = r.0; read = r.1 }

-- a partition at the first place: it stands there, and this is its part
record IsPartThere (c : Config) (known : List Learning) (k : ClientId) (n : ℕ) (place : Place) (e : Entry) (p : PartitionTable) (reply : Reply) : Type 0 where
  stands : IsInPlace c known k n place p
  part : part_at (round_sizes c) known place (before_asked k n (entries_at_place known place)) e p ≡ Some reply

-- a reply is that of an entry of the number
replied_asked : (p : PartitionTable) (k : ClientId) (n : ℕ) (es : List Entry) (reply : Reply) → reply_in k n (answered_of p es) ≡ Some reply → (e : Entry) × (asked_in k n es ≡ Some e)
replied_asked p k n es reply h = by (asked_in k n es) refl
  where
    by : (o : Option Entry) → asked_in k n es ≡ o → (e : Entry) × (asked_in k n es ≡ Some e)
    by None f = absurd (none_reply reply (sym (nothing-replied p k n es (none_asked k n es f)) ∙ h))
    by (Some e) f = (e, f)

module _ (c : Config) (valid : IsValid c) (known : List Learning) (k : ClientId) (n : ℕ) (ring : RingId) (command : Command) (once : IsAskedOnce known k n ring command) where
  some : (r : ℕ) → 0 < round_sizes c r
  some r = rounds-some c r valid

  part_there : (f : StandsFirst (round_sizes c) known k n) (p : PartitionTable) (reply : Reply) → Subscribes ring command p → RepliesTo c known k n p reply → IsPartThere c known k n f.place f.entry p reply
  part_there f p reply sub r = record {
    stands = record {
      entry = f.entry;
      asked = f.asked;
      subscribes = has;
      below = u.below;
      known_below = u.known_below;
      newest = not_shown p k n (u.below ++ before) (s.after ++ u.rest) f.entry reply s.is none does found;
    };
    part = ap (λ (t : Bool). if t then reply_there p (entries_below (round_sizes c) known (tuple_at (round_sizes c) p.rings f.place)) (before_asked k n (entries_at_place known f.place)) f.entry else None) has
        ∙ ap (λ (o : Option (List Entry)). reply_there p o (before_asked k n (entries_at_place known f.place)) f.entry) u.known_below
        ∙ fold_there p k n (u.below ++ before) (s.after ++ u.rest) f.entry reply s.is none does found;
  }
    where
      one : IsTheOne known ring command f.place f.entry
      one = the_one known k n ring command once f.place f.entry f.asked

      has : has_ring p.rings f.place.ring.0 ≡ true
      has = ap (λ (x : RingId). has_ring p.rings x.0) one.on ∙ sub.has

      asked : (e : Entry) × (asked_in k n r.entries ≡ Some e)
      asked = replied_asked p k n r.entries reply r.counted

      u : StandsIn (round_sizes c) known k n p.rings f.place r.entries
      u = stands_in (round_sizes c) some known k n p.rings sub.rise f.place has f.least r.tuple r.entries asked.0 r.valid r.below asked.1

      before : List Entry
      before = before_asked k n (entries_at_place known f.place)

      s : Split k n (entries_at_place known f.place) f.entry (before_asked k n (entries_at_place known f.place))
      s = split_asked k n (entries_at_place known f.place) f.entry f.asked

      none : AllByRecursion (λ (x : Entry). is_asked k n x ≡ false) (u.below ++ before_asked k n (entries_at_place known f.place))
      none = all_both (λ (x : Entry). is_asked k n x ≡ false) u.below (before_asked k n (entries_at_place known f.place)) u.none s.none

      does : concerns p f.entry ≡ true
      does = ap (λ (x : Result Command CodecFault). is_some (concerning p x)) one.read ∙ ap (λ (t : Bool). is_some (if t then Some command else None)) sub.concerned

      whole : r.entries ≡ (u.below ++ before_asked k n (entries_at_place known f.place)) ++ f.entry ∷ (s.after ++ u.rest)
      whole = u.whole ∙ ap (λ (l : List Entry). u.below ++ (l ++ u.rest)) s.whole
          ∙ ap (λ (l : List Entry). u.below ++ l) (append_assoc (before_asked k n (entries_at_place known f.place)) (f.entry ∷ s.after) u.rest)
          ∙ sym (append_assoc u.below (before_asked k n (entries_at_place known f.place)) (f.entry ∷ (s.after ++ u.rest)))

      found : reply_in k n (answered_of p ((u.below ++ before_asked k n (entries_at_place known f.place)) ++ f.entry ∷ (s.after ++ u.rest))) ≡ Some reply
      found = ap (λ (l : List Entry). reply_in k n (answered_of p l)) (sym whole) ∙ r.counted

  -- ---- all of them

  parts_there : (f : StandsFirst (round_sizes c) known k n) (ps : List PartitionTable) (replies : List Reply) → AllByRecursion (Subscribes ring command) ps → AreReplies c known k n ps replies
      → parts_at (round_sizes c) known f.place (before_asked k n (entries_at_place known f.place)) f.entry ps ≡ Some replies
  parts_there f [] [] subs each = refl
  parts_there f [] (reply ∷ replies) subs each = absurd each
  parts_there f (p ∷ ps) [] subs each = absurd each
  parts_there f (p ∷ ps) (reply ∷ replies) subs each =
      ap (λ (o : Option Reply). with_part o (parts_at (round_sizes c) known f.place (before_asked k n (entries_at_place known f.place)) f.entry ps)) (part_there f p reply subs.0 each.0).part
      ∙ ap (λ (o : Option (List Reply)). with_part (Some reply) o) (parts_there f ps replies subs.1 each.1)

  all_stand : (f : StandsFirst (round_sizes c) known k n) (ps : List PartitionTable) (replies : List Reply) → AllByRecursion (Subscribes ring command) ps → AreReplies c known k n ps replies
      → (p : PartitionTable) → Has ps p → IsInPlace c known k n f.place p
  all_stand f [] replies subs each p has = absurd has
  all_stand f (q ∷ ps) [] subs each p has = absurd each
  all_stand f (q ∷ ps) (reply ∷ replies) subs each p (inl same) = subst (λ (x : PartitionTable). IsInPlace c known k n f.place x) (sym same) (part_there f q reply subs.0 each.0).stands
  all_stand f (q ∷ ps) (reply ∷ replies) subs each p (inr has) = all_stand f ps replies subs.1 each.1 p has

  -- one reply is enough for a first place
  first_by : (p : PartitionTable) (reply : Reply) → Subscribes ring command p → RepliesTo c known k n p reply → StandsFirst (round_sizes c) known k n
  first_by p reply sub r =
      let asked = replied_asked p k n r.entries reply r.counted in
      let s : StandsBelow known k n r.tuple = found_by (round_sizes c) some known k n p.rings ring.0 sub.has sub.rise r.tuple r.entries asked.0 r.valid r.below asked.1 in
      stands_first (round_sizes c) known k n s.place s.entry s.asked

  first_of : (ps : List PartitionTable) (replies : List Reply) → route_of ps ≡ Ok ring → AllByRecursion (Subscribes ring command) ps → AreReplies c known k n ps replies → StandsFirst (round_sizes c) known k n
  first_of [] replies route subs each = absurd (nothing route)
    where
      nothing : route_of [] ≡ Ok ring → ⊥
      nothing e = cc
  first_of (p ∷ ps) [] route subs each = absurd each
  first_of (p ∷ ps) (reply ∷ replies) route subs each = first_by p reply subs.0 each.0

  joined_some : (ps : List PartitionTable) (replies : List Reply) → route_of ps ≡ Ok ring → AreReplies c known k n ps replies → joined_parts (Some replies) ≡ Some (reply_bytes (joined replies))
  joined_some [] replies route each = absurd (nothing route)
    where
      nothing : route_of [] ≡ Ok ring → ⊥
      nothing e = cc
  joined_some (p ∷ ps) [] route each = absurd each
  joined_some (p ∷ ps) (reply ∷ replies) route each = refl

  pub answer_joined : (replies : List Reply) → route_of (concerned_of command c.partitions) ≡ Ok ring → AreReplies c known k n (concerned_of command c.partitions) replies
      → answer_of c known k n ≡ Some (reply_bytes (joined replies))
  unfolding answer_of
  answer_joined replies route each =
      ap (λ (o : Option Place). answer_from c known k n o) f.first
      ∙ ap (λ (o : Option Entry). answer_at c known f.place (before_asked k n (entries_at_place known f.place)) o) f.asked
      ∙ ap (λ (x : Result Command CodecFault). joined_parts (parts_at (round_sizes c) known f.place (before_asked k n (entries_at_place known f.place)) f.entry (concerned_by c x))) one.read
      ∙ ap (λ (o : Option (List Reply)). joined_parts o) (parts_there f (concerned_of command c.partitions) replies subs each)
      ∙ joined_some (concerned_of command c.partitions) replies route each
    where
      subs : AllByRecursion (Subscribes ring command) (concerned_of command c.partitions)
      subs = all_subscribe c valid ring command route

      f : StandsFirst (round_sizes c) known k n
      f = first_of (concerned_of command c.partitions) replies route subs each

      one : IsTheOne known ring command f.place f.entry
      one = the_one known k n ring command once f.place f.entry f.asked

  pub all_in_place : (replies : List Reply) → route_of (concerned_of command c.partitions) ≡ Ok ring → AreReplies c known k n (concerned_of command c.partitions) replies → AreInPlace c known k n command
  all_in_place replies route each =
      let subs = all_subscribe c valid ring command route in
      let f = first_of (concerned_of command c.partitions) replies route subs each in
      record { place = f.place; first = f.first; each = λ p has. all_stand f (concerned_of command c.partitions) replies subs each p has }
