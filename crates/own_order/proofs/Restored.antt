-- The lines between a restore line and the next begin or restore line, or the end.
use Rattle.std.proofs.Common.{◌≡◌, ℕ, List, [], ◌∷◌, ◌++◌, map, Option, Some, None, refl, sym, ◌∙◌, ap, subst}
use Rattle.std.specs.Prelude.{filter}
use Rattle.std.specs.List.{AllByRecursion}
use Rattle.std.proofs.lemmas.List.Elements.{filter-append}
use Rattle.mrp_types.specs.declared.id.NodeId.{NodeId}
use Rattle.mrp_types.specs.declared.id.RingId.{RingId}
use Rattle.mrp_types.specs.declared.value.Entry.{Entry}
use Rattle.mrp_types.specs.declared.value.Value.{Value}
use Rattle.mrp_types.specs.declared.value.Value.TheVariants.{Skip, Batch}
use Rattle.mrp_config.specs.Config.{Config, partition_of}
use Rattle.mrp_config.specs.declared.tables.PartitionTable.{PartitionTable}
use Rattle.checkpoint.specs.Checkpoints.{Checkpoints}
use Rattle.vote_journal.specs.Journal.{Journal}
use Rattle.plain_model.specs.Replicas.{applies, entries_of_batch}
use Rattle.plain_model.specs.Tuples.{instances}
use Rattle.step_valid.proofs.Listed.{back_all}
use Rattle.protocol.specs.Lines.{Line, Begin, Deliver, Reply, Restore}
use Rattle.protocol.specs.Merging.{reply_line}
use Rattle.protocol.specs.Node.{Event}
use Rattle.own_order.specs.Order.{AreOwn, Begins, Deed, FollowsOrder, IsBetween, IsEnd, IsLeftAt, KeepsOrder, Lived, Point, Restores, Takes, after_value, is_of_order, life, lines_by, next_point, place_at, point_by, point_of, taking, value_lines}
use Rattle.own_order.proofs.After.{points_joined}
use Rattle.own_order.proofs.Whole.{keeps_order}

-- ---- lists of lines

-- a deliver or a reply line
abbrev IsGiven : Line → Type 0
IsGiven (Deliver node ring inst) = Unit {0}
IsGiven (Reply node ring inst index client seq reply) = Unit {0}
IsGiven other = ⊥

heads : (a b : Line) (ks ls : List Line) → a ∷ ks ≡ b ∷ ls → a ≡ b
heads a b ks ls e = cc

tails : (a b : Line) (ks ls : List Line) → a ∷ ks ≡ b ∷ ls → ks ≡ ls
tails a b ks ls e = cc

-- lines of the order that were printed between are deliver and reply lines
between_given : (ls : List Line) → AllByRecursion IsBetween ls → AllByRecursion IsGiven (filter is_of_order ls)
between_given [] all = tt
between_given (l ∷ ls) all = by l all.0 (between_given ls all.1)
  where
    by : (l : Line) → IsBetween l → AllByRecursion IsGiven (filter is_of_order ls) → AllByRecursion IsGiven (filter is_of_order (l ∷ ls))
    by (Begin node epoch attempt printed) is later = absurd is
    by (Restore node printed) is later = absurd is
    by (Deliver node ring inst) is later = (tt, later)
    by (Reply node ring inst index client seq reply) is later = (tt, later)
    by other is later = later

-- an end is one of the lines of the order, too
end_of_order : (after : List Line) → IsEnd after → IsEnd (filter is_of_order after)
end_of_order [] is = tt
end_of_order (Begin node epoch attempt printed ∷ after) is = tt
end_of_order (Restore node printed ∷ after) is = tt
end_of_order (other ∷ after) is = absurd is

module _ (c : Config) (id : NodeId) (p : PartitionTable) where
  replies_given : (place : RingId × ℕ) (replies : List (ℕ × Entry × List ℕ)) → AllByRecursion IsGiven (map (reply_line id place) replies)
  replies_given place [] = tt
  replies_given place (r ∷ replies) = (tt, replies_given place replies)

  value_given : (point : Point) (value : Value) → AllByRecursion IsGiven (value_lines c id p point value)
  value_given point Skip = tt
  value_given point (Batch batch) = (tt, replies_given (place_at c point) (applies p point.replica (entries_of_batch batch)).replies)

  -- ---- up to the restore line

  record Found (o : Option Point) (ds : List Deed) (xs : List Line) (printed : List ℕ) (ys : List Line) : Type 0 where
    first : List Deed
    from : Point
    later : List Deed
    split : ds ≡ first ++ Restores from.tuple from.replica ∷ later
    at : printed ≡ instances from.tuple
    lines : ys ≡ lines_by c id p (Some from) later

  one_before : (o : Option Point) (d : Deed) (ds : List Deed) (xs us : List Line) (printed : List ℕ) (ys : List Line) → Found (next_point c p o d) ds us printed ys → Found o (d ∷ ds) xs printed ys
  one_before o d ds xs us printed ys f = record { first = d ∷ f.first; from = f.from; later = f.later; split = ap (λ (es : List Deed). d ∷ es) f.split; at = f.at; lines = f.lines }

  -- lines that are no restore line stand in the front
  passed : (given rest xs : List Line) (printed : List ℕ) (ys : List Line) → AllByRecursion IsGiven given → given ++ rest ≡ xs ++ Restore id printed ∷ ys → (us : List Line) × (rest ≡ us ++ Restore id printed ∷ ys)
  passed [] rest xs printed ys all e = (xs, e)
  passed (l ∷ given) rest [] printed ys all e = absurd (no_restore l all.0 (heads l (Restore id printed) (given ++ rest) ys e))
    where
      no_restore : (l : Line) → IsGiven l → l ≡ Restore id printed → ⊥
      no_restore (Deliver node ring inst) is f = cc
      no_restore (Reply node ring inst index client seq reply) is f = cc
      no_restore other is f = is
  passed (l ∷ given) rest (x ∷ xs) printed ys all e = passed given rest xs printed ys all.1 (tails l x (given ++ rest) (xs ++ Restore id printed ∷ ys) e)

  at_restore : (o : Option Point) (ds : List Deed) (xs : List Line) (printed : List ℕ) (ys : List Line) → lines_by c id p o ds ≡ xs ++ Restore id printed ∷ ys → Found o ds xs printed ys
  at_restore o [] [] printed ys e = absurd (cc)
  at_restore o [] (x ∷ xs) printed ys e = absurd (cc)
  at_restore o (Begins epoch attempt told ∷ ds) [] printed ys e = absurd (no_begin (heads (Begin id epoch attempt told) (Restore id printed) (lines_by c id p None ds) ys e))
    where
      no_begin : Begin id epoch attempt told ≡ Restore id printed → ⊥
      no_begin f = cc
  at_restore o (Begins epoch attempt told ∷ ds) (x ∷ xs) printed ys e =
      one_before o (Begins epoch attempt told) ds (x ∷ xs) xs printed ys
      (at_restore None ds xs printed ys (tails (Begin id epoch attempt told) x (lines_by c id p None ds) (xs ++ Restore id printed ∷ ys) e))
  at_restore o (Restores tuple replica ∷ ds) [] printed ys e = record {
    first = [];
    from = record { tuple = tuple; replica = replica };
    later = ds;
    split = refl;
    at = sym (same (heads (Restore id (instances tuple)) (Restore id printed) (lines_by c id p (Some (record { tuple = tuple; replica = replica })) ds) ys e));
    lines = sym (tails (Restore id (instances tuple)) (Restore id printed) (lines_by c id p (Some (record { tuple = tuple; replica = replica })) ds) ys e);
  }
    where
      same : Restore id (instances tuple) ≡ Restore id printed → instances tuple ≡ printed
      same f = cc
  at_restore o (Restores tuple replica ∷ ds) (x ∷ xs) printed ys e =
      one_before o (Restores tuple replica) ds (x ∷ xs) xs printed ys
      (at_restore (Some (record { tuple = tuple; replica = replica })) ds xs printed ys
      (tails (Restore id (instances tuple)) x (lines_by c id p (Some (record { tuple = tuple; replica = replica })) ds) (xs ++ Restore id printed ∷ ys) e))
  at_restore None (Takes value ∷ ds) xs printed ys e = one_before None (Takes value) ds xs xs printed ys (at_restore None ds xs printed ys e)
  at_restore (Some point) (Takes value ∷ ds) xs printed ys e =
      let rest = passed (value_lines c id p point value) (lines_by c id p (Some (after_value c p point value)) ds) xs printed ys (value_given point value) e in
      one_before (Some point) (Takes value) ds xs rest.0 printed ys (at_restore (Some (after_value c p point value)) ds rest.0 printed ys rest.1)

  -- ---- up to the end

  record Taken (point : Point) (ds : List Deed) (fs gs : List Line) : Type 0 where
    values : List Value
    later : List Deed
    split : ds ≡ taking values ++ later
    lines : fs ≡ lines_by c id p (Some point) (taking values)
    none : gs ≡ [] → later ≡ []

  -- a value's lines stand in the front of what was printed between
  ahead : (given rest fs gs : List Line) → AllByRecursion IsGiven given → IsEnd gs → given ++ rest ≡ fs ++ gs → (us : List Line) × ((fs ≡ given ++ us) × (rest ≡ us ++ gs))
  ahead [] rest fs gs all end e = (fs, (refl, e))
  ahead (l ∷ given) rest [] gs all end e = absurd (no_end l gs all.0 end e)
    where
      no_end : (l : Line) (gs : List Line) → IsGiven l → IsEnd gs → l ∷ (given ++ rest) ≡ gs → ⊥
      no_end l [] is end f = cc
      no_end l (Begin node epoch attempt printed ∷ gs) is end f = no_begin l is (heads l (Begin node epoch attempt printed) (given ++ rest) gs f)
        where
          no_begin : (l : Line) → IsGiven l → l ≡ Begin node epoch attempt printed → ⊥
          no_begin (Deliver n ring inst) is f = cc
          no_begin (Reply n ring inst index client seq reply) is f = cc
          no_begin other is f = is
      no_end l (Restore node printed ∷ gs) is end f = no_restore l is (heads l (Restore node printed) (given ++ rest) gs f)
        where
          no_restore : (l : Line) → IsGiven l → l ≡ Restore node printed → ⊥
          no_restore (Deliver n ring inst) is f = cc
          no_restore (Reply n ring inst index client seq reply) is f = cc
          no_restore other is f = is
      no_end l (other ∷ gs) is end f = end
  ahead (l ∷ given) rest (x ∷ fs) gs all end e =
      let same : l ≡ x = heads l x (given ++ rest) (fs ++ gs) e in
      let more = ahead given rest fs gs all.1 end (tails l x (given ++ rest) (fs ++ gs) e) in
      (more.0, (ap (λ (y : Line). y ∷ fs) (sym same) ∙ ap (λ (ls : List Line). l ∷ ls) more.1.0, more.1.1))

  nothing_taken : (point : Point) (d : Deed) (l : Line) (ds : List Deed) (rest fs gs : List Line) → (IsGiven l → ⊥) → AllByRecursion IsGiven fs → l ∷ rest ≡ fs ++ gs → Taken point (d ∷ ds) fs gs
  nothing_taken point d l ds rest [] gs other all e = record { values = []; later = d ∷ ds; split = refl; lines = refl; none = λ f. absurd (cc) }
  nothing_taken point d l ds rest (x ∷ fs) gs other all e = absurd (other (subst IsGiven (sym (heads l x rest (fs ++ gs) e)) all.0))

  takes_until : (point : Point) (ds : List Deed) (fs gs : List Line) → AllByRecursion IsGiven fs → IsEnd gs → lines_by c id p (Some point) ds ≡ fs ++ gs → Taken point ds fs gs
  takes_until point [] [] gs all end e = record { values = []; later = []; split = refl; lines = refl; none = λ f. refl }
  takes_until point [] (x ∷ fs) gs all end e = absurd (cc)
  takes_until point (Begins epoch attempt told ∷ ds) fs gs all end e =
      nothing_taken point (Begins epoch attempt told) (Begin id epoch attempt told) ds (lines_by c id p None ds) fs gs (λ is. is) all e
  takes_until point (Restores tuple replica ∷ ds) fs gs all end e =
      nothing_taken point (Restores tuple replica) (Restore id (instances tuple)) ds (lines_by c id p (Some (record { tuple = tuple; replica = replica })) ds) fs gs (λ is. is) all e
  takes_until point (Takes value ∷ ds) fs gs all end e =
      let more = ahead (value_lines c id p point value) (lines_by c id p (Some (after_value c p point value)) ds) fs gs (value_given point value) end e in
      let given : AllByRecursion IsGiven more.0 = back_all IsGiven (value_lines c id p point value) more.0 (subst (AllByRecursion IsGiven) more.1.0 all) in
      let rest = takes_until (after_value c p point value) ds more.0 gs given end more.1.1 in
      record {
        values = value ∷ rest.values;
        later = rest.later;
        split = ap (λ (es : List Deed). Takes value ∷ es) rest.split;
        lines = more.1.0 ∙ ap (λ (ls : List Line). value_lines c id p point value ++ ls) rest.lines;
        none = rest.none;
      }

  -- ---- what was done is own

  own_later : (ls : List Line) (o : Option Point) (ds es : List Deed) → AreOwn c id p ls o (ds ++ es) → AreOwn c id p ls (point_by c p o ds) es
  own_later ls o [] es own = own
  own_later ls o (d ∷ ds) es own = own_later ls (next_point c p o d) ds es own.1

  own_first : (ls : List Line) (o : Option Point) (ds es : List Deed) → AreOwn c id p ls o (ds ++ es) → AreOwn c id p ls o ds
  own_first ls o [] es own = tt
  own_first ls o (d ∷ ds) es own = (own.0, own_first ls (next_point c p o d) ds es own.1)

  left_at : (from : Point) (values : List Value) (l : Lived) (after : List Line) → (filter is_of_order after ≡ [] → point_of l.view.service ≡ point_by c p (Some from) (taking values)) → IsLeftAt c p from values l.view.service after
  left_at from values l [] is = is refl
  left_at from values l (x ∷ after) is = tt

  pub follows : (l : Lived) → KeepsOrder c id p l → (before since after : List Line) (printed : List ℕ) → l.lines ≡ before ++ Restore id printed ∷ (since ++ after) → AllByRecursion IsBetween since → IsEnd after
      → FollowsOrder c id p l printed since after
  follows l order before since after printed e between end = record {
    from = f.from;
    at = f.at;
    read = own.0;
    values = t.values;
    lines = t.lines;
    own = own_first l.lines (Some f.from) (taking t.values) t.later (subst (AreOwn c id p l.lines (Some f.from)) t.split own.1);
    left = left_at f.from t.values l after at_end;
  }
    where
      told : lines_by c id p None order.deeds ≡ filter is_of_order before ++ Restore id printed ∷ filter is_of_order (since ++ after)
      told = sym order.lines ∙ ap (λ (ls : List Line). filter is_of_order ls) e ∙ filter-append is_of_order before (Restore id printed ∷ (since ++ after))

      f : Found None order.deeds (filter is_of_order before) printed (filter is_of_order (since ++ after))
      f = at_restore None order.deeds (filter is_of_order before) printed (filter is_of_order (since ++ after)) told

      t : Taken f.from f.later (filter is_of_order since) (filter is_of_order after)
      t = takes_until f.from f.later (filter is_of_order since) (filter is_of_order after) (between_given since between) (end_of_order after end) (sym f.lines ∙ filter-append is_of_order since after)

      own : AreOwn c id p l.lines (point_by c p None f.first) (Restores f.from.tuple f.from.replica ∷ f.later)
      own = own_later l.lines None f.first (Restores f.from.tuple f.from.replica ∷ f.later) (subst (AreOwn c id p l.lines None) f.split order.own)

      at_end : filter is_of_order after ≡ [] → point_of l.view.service ≡ point_by c p (Some f.from) (taking t.values)
      at_end none =
          order.point ∙ ap (point_by c p None) f.split ∙ points_joined c id p None f.first (Restores f.from.tuple f.from.replica ∷ f.later)
          ∙ ap (point_by c p (Some f.from)) (t.split ∙ ap (λ (es : List Deed). taking t.values ++ es) (t.none none)) ∙ points_joined c id p (Some f.from) (taking t.values) []

  pub restored_follows : partition_of c.partitions id ≡ Some p → (journal : Journal) (checkpoints : Checkpoints) (events : List Event) (before since after : List Line) (printed : List ℕ)
      → (life c id journal checkpoints events).lines ≡ before ++ Restore id printed ∷ (since ++ after) → AllByRecursion IsBetween since → IsEnd after
      → FollowsOrder c id p (life c id journal checkpoints events) printed since after
  restored_follows replica journal checkpoints events before since after printed e between end =
      follows (life c id journal checkpoints events) (keeps_order c id p replica journal checkpoints events) before since after printed e between end
