-- What a partition replies to an entry at a place of the book is what it replies to the entry's number.
use Rattle.std.proofs.Common.{◌≡◌, ℕ, ◌<◌, Bool, true, false, List, [], ◌∷◌, ◌++◌, Option, Some, None, sym, ap, ◌∙◌, subst, append_assoc, true≢false}
use Rattle.std.proofs.Math.Path.{ap₂}
use Rattle.std.specs.Prelude.{find, option_map, if◌then◌else◌}
use Rattle.std.specs.List.{AllByRecursion}
use Rattle.mrp_types.specs.declared.id.ClientId.{ClientId}
use Rattle.mrp_types.specs.declared.id.RingId.{RingId}
use Rattle.mrp_types.specs.declared.place.Place.{Place}
use Rattle.mrp_types.specs.declared.value.Entry.{Entry}
use Rattle.mrp_types.specs.declared.value.Value.{Value}
use Rattle.mrp_types.specs.declared.value.Value.TheVariants.{Batch}
use Rattle.mrp_types.specs.Book.{Learning, book_of}
use Rattle.command_codec.specs.declared.reply.Reply.{Reply}
use Rattle.mrp_config.specs.declared.tables.PartitionTable.{PartitionTable}
use Rattle.mrp_config.specs.Config.{Config, has_ring}
use Rattle.mrp_config.specs.Valid.{IsValid, IsPartition, IncreasesFrom, numbers_of_rings}
use Rattle.mrp_config.specs.Walk.{node_ids, ring_ids}
use Rattle.quorums.specs.Groups.{Has}
use Rattle.plain_model.specs.Tuples.{round_sizes, next_place, past, tuple_at, is_tuple_of, has_rings, is_valid_tuple}
use Rattle.plain_model.specs.Replicas.{entries_of_batch}
use Rattle.plain_model.specs.Fold.{Answered, entries_in_book, entries_known, both_known, entries_below, counted_after, counted_entries, answered_after, answered_of, is_newest_after, is_of, reply_in, reply_to}
use Rattle.plain_model.proofs.TupleAt.{tuple_at_valid}
use Rattle.plain_model.proofs.TupleOrder.{both_true}
use Rattle.tuple_laws.proofs.Below.{below-past}
use Rattle.tuple_laws.proofs.NextPlaces.{at_has, next-at}
use Rattle.state_laws.proofs.Batches.{partition-limits, rounds-some}
use Rattle.faithful.proofs.Quorum.{all_has}
use Rattle.faithful.proofs.Moving.{past_tuple}
use Rattle.answer_laws.specs.Answering.{RepliesTo}
use Rattle.answer_laws.proofs.Folds.{counted-append, answered-append, answered-grows}

-- ---- what was replied is replied later

find_kept : (t : Answered → Bool) (xs ys : List Answered) (reply : Reply) → option_map (λ (a : Answered). a.reply) (find t xs) ≡ Some reply → option_map (λ (a : Answered). a.reply) (find t (xs ++ ys)) ≡ Some reply
find_kept t [] ys reply e = absurd (cc)
find_kept t (x ∷ xs) ys reply e = go (λ h. find_kept t xs ys reply h) (t x) e
  where
    go : (option_map (λ (a : Answered). a.reply) (find t xs) ≡ Some reply → option_map (λ (a : Answered). a.reply) (find t (xs ++ ys)) ≡ Some reply) → (b : Bool)
        → option_map (λ (a : Answered). a.reply) (if b then Some x else find t xs) ≡ Some reply → option_map (λ (a : Answered). a.reply) (if b then Some x else find t (xs ++ ys)) ≡ Some reply
    go later true h = h
    go later false h = later h

all_are : (es : List Entry) → AllByRecursion (λ (e : Entry). Unit {0}) es
all_are [] = tt
all_are (e ∷ es) = (tt, all_are es)

replied_later : (p : PartitionTable) (k : ClientId) (n : ℕ) (xs ys : List Entry) (reply : Reply) → reply_in k n (answered_of p xs) ≡ Some reply → reply_in k n (answered_of p (xs ++ ys)) ≡ Some reply
replied_later p k n xs ys reply h =
    let g = answered-grows p (λ (e : Entry). Unit {0}) (answered_of p xs) (counted_after p xs ys) (all_are (counted_after p xs ys)) in
    let whole : answered_of p (xs ++ ys) ≡ answered_of p xs ++ g.more =
    ap (λ (l : List Entry). answered_after p [] l) (counted-append p [] xs ys) ∙ answered-append p [] (counted_entries p xs) (counted_after p xs ys) ∙ g.parts in
    ap (λ (l : List Answered). reply_in k n l) whole ∙ find_kept (is_of k n) (answered_of p xs) g.more reply h

replied_there : (p : PartitionTable) (before : List Entry) (e : Entry) (reply : Reply) → reply_to p before e ≡ Some reply → reply_in e.client e.seq (answered_of p (before ++ e ∷ [])) ≡ Some reply
unfolding reply_to
replied_there p before e reply h = go (is_newest_after p before e) h
  where
    go : (t : Bool) → (if t then reply_in e.client e.seq (answered_of p (before ++ e ∷ [])) else None) ≡ Some reply → reply_in e.client e.seq (answered_of p (before ++ e ∷ [])) ≡ Some reply
    go true k = k
    go false k = absurd (cc)

-- ---- the tuple past the place

next_below : (m : ℕ → ℕ) (known : List Learning) (place : Place) (batch : List ℕ) (below : List Entry) (rings : List RingId) → ((r : ℕ) → 0 < m r) → IncreasesFrom 0 (numbers_of_rings rings) → has_ring rings place.ring.0 ≡ true
    → is_tuple_of m rings (tuple_at m rings place) ≡ true → book_of known place.ring place.inst ≡ Some (Batch batch) → entries_below m known (tuple_at m rings place) ≡ Some below
    → entries_below m known (past m (tuple_at m rings place)) ≡ Some (below ++ entries_of_batch batch)
next_below m known place batch below [] some rise has valid holds front = absurd (true≢false (sym has))
next_below m known place batch below (ring ∷ rings) some rise has valid holds front =
    below-past m known ring rings (tuple_at m (ring ∷ rings) place) rise valid ∙ ap₂ both_known front there
  where
    there : entries_known known (next_place m (tuple_at m (ring ∷ rings) place)) ≡ Some (entries_of_batch batch)
    there = ap (λ (q : Place). entries_in_book (book_of known q.ring q.inst)) (next-at m (ring ∷ rings) place some has) ∙ ap (λ (o : Option Value). entries_in_book o) holds

module _ (c : Config) (known : List Learning) (p : PartitionTable) (place : Place) (batch : List ℕ) (below front rest : List Entry) (e : Entry) (reply : Reply) where
  pub given_replies : IsValid c → Has c.partitions p → has_ring p.rings place.ring.0 ≡ true → book_of known place.ring place.inst ≡ Some (Batch batch)
      → entries_below (round_sizes c) known (tuple_at (round_sizes c) p.rings place) ≡ Some below → entries_of_batch batch ≡ front ++ e ∷ rest → reply_to p (below ++ front) e ≡ Some reply → RepliesTo c known e.client e.seq p reply
  given_replies valid has subscribes holds known_below there replied = record {
    tuple = past (round_sizes c) at;
    valid = past_tuple (round_sizes c) p.rings at at_is;
    entries = below ++ entries_of_batch batch;
    below = next_below (round_sizes c) known place batch below p.rings some rise subscribes at_is holds known_below;
    counted = subst (λ (es : List Entry). reply_in e.client e.seq (answered_of p es) ≡ Some reply) whole
        (replied_later p e.client e.seq ((below ++ front) ++ e ∷ []) rest reply (replied_there p (below ++ front) e reply replied));
  }
    where
      some : (r : ℕ) → 0 < round_sizes c r
      some r = rounds-some c r valid

      at : List (RingId × ℕ)
      at = tuple_at (round_sizes c) p.rings place

      at_is : is_tuple_of (round_sizes c) p.rings at ≡ true
      at_is = both_true (has_rings p.rings at) (is_valid_tuple (round_sizes c) at) (at_has (round_sizes c) p.rings place) (tuple_at_valid (round_sizes c) p.rings place some)

      rise : IncreasesFrom 0 (numbers_of_rings p.rings)
      rise = (partition-limits (node_ids c.nodes) (ring_ids c.rings) p (all_has (IsPartition (node_ids c.nodes) (ring_ids c.rings)) c.partitions p valid.partitions.each has)).1

      whole : ((below ++ front) ++ e ∷ []) ++ rest ≡ below ++ entries_of_batch batch
      whole = append_assoc (below ++ front) (e ∷ []) rest ∙ append_assoc below front (e ∷ rest) ∙ ap (λ (es : List Entry). below ++ es) (sym there)
