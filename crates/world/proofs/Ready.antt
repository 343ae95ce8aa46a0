-- The lines with which nodes come up that are ready at once: they are faithful, and leave each node ready at its first tuple.
use Rattle.std.proofs.Common.{arith, ◌≡◌, ◌<◌, ℕ, ◌==◌, ◌⊎◌, inl, inr, Bool, true, false, if◌then◌else◌, List, [], ◌∷◌, Some, refl, sym, ◌∙◌, ap, subst, true≢false}
use Rattle.std.specs.List.{AllByRecursion, flat_map}
use Rattle.mrp_types.specs.declared.id.NodeId.{NodeId}
use Rattle.mrp_types.specs.declared.id.RingId.{RingId}
use Rattle.mrp_types.specs.declared.place.Place.{Place}
use Rattle.mrp_types.specs.Book.{Learning}
use Rattle.mrp_types.specs.Seats.{is_among, AreDifferent, numbers_of_nodes}
use Rattle.mrp_config.specs.Config.{Config, has_node, partition_of}
use Rattle.mrp_config.specs.declared.tables.PartitionTable.{PartitionTable}
use Rattle.plain_model.specs.Lines.{learnings}
use Rattle.plain_model.specs.Tuples.{round_sizes, first_tuple, instances, has_rings, are_lasts_before, is_tuple_of, is_valid_tuple, next_place, place_of, IsBelow}
use Rattle.plain_model.proofs.TupleOrder.{both_true}
use Rattle.transcript.specs.declared.line.Line.{Line}
use Rattle.transcript.specs.declared.line.Line.TheVariants.{Up, Begin, Chose, Restore}
use Rattle.line_rules.specs.Names.{Rule}
use Rattle.line_rules.specs.Names as rule
use Rattle.line_rules.specs.Scanners.{Mark, Begun, Restored, life, attempting, before_begin, chosen, told, begun, up_epoch, paired, position, past}
use Rattle.line_rules.specs.Owed.{owed}
use Rattle.line_rules.specs.Rules.{HasNode, IsReached, Fits, Keeps, AreFaithful}
use Rattle.line_rules.proofs.Growing.{same_number}
use Rattle.line_rules.proofs.Words.{no_true}
use Rattle.quorums.specs.Groups.{Has}
use Rattle.world.specs.Order.{ready_node}

-- the lines of one node more, with the latest first
abbrev pub one_ready : List ℕ → NodeId → List Line → List Line
one_ready printed node before = Restore node printed ∷ Chose node 1 1 printed node ∷ Begin node 1 1 printed ∷ Up node 1 ∷ before

-- ---- the first tuple

pub paired_first : (rings : List RingId) → paired rings (instances (first_tuple rings)) ≡ first_tuple rings
paired_first [] = refl
paired_first (ring ∷ rings) = ap (λ (k : List (RingId × ℕ)). (ring, 0) ∷ k) (paired_first rings)

first_has : (rings : List RingId) → has_rings rings (first_tuple rings) ≡ true
first_has [] = refl
first_has (ring ∷ rings) = both_true (ring.0 == ring.0) (has_rings rings (first_tuple rings)) (same_number ring.0) (first_has rings)

no_lasts : (m : ℕ → ℕ) (next : Place) (rings : List RingId) → are_lasts_before m next (first_tuple rings) ≡ true
no_lasts m next [] = refl
no_lasts m next (ring ∷ rings) = no_lasts m next rings

first_valid : (m : ℕ → ℕ) (rings : List RingId) → is_tuple_of m rings (first_tuple rings) ≡ true
first_valid m rings =
    both_true (has_rings rings (first_tuple rings)) (is_valid_tuple m (first_tuple rings)) (first_has rings) (no_lasts m (place_of (next_place m (first_tuple rings))) rings)

no_less : (n : ℕ) → n < 0 → ⊥
no_less n less = grind arith

none_below : (rings : List RingId) (place : Place) → IsBelow place (first_tuple rings) → ⊥
none_below [] place below = below
none_below (ring ∷ rings) place (inl here) = no_less place.inst here.1
none_below (ring ∷ rings) place (inr there) = none_below rings place there

-- ---- who is ready

-- a node is ready, and stands at a tuple
pub record IsReadyAt (m : ℕ → ℕ) (rings : List RingId) (tuple : List (RingId × ℕ)) (x : ℕ) (before : List Line) : Type 0 where
  pub ready : life x before ≡ Some Restored
  pub stands : position m rings x before ≡ tuple

module _ (m : ℕ → ℕ) (rings : List RingId) (x : ℕ) where
  abbrev printed : List ℕ
  printed = instances (first_tuple rings)

  abbrev IsReady : List Line → Type 0
  IsReady before = IsReadyAt m rings (first_tuple rings) x before

  own_ready : (node : NodeId) (before : List Line) → (node.0 == x) ≡ true → IsReady (one_ready printed node before)
  own_ready node before own = record { ready = rw own refl; stands = rw own (paired_first rings) }

  other_ready : (node : NodeId) (before : List Line) → (node.0 == x) ≡ false → IsReady before → IsReady (one_ready printed node before)
  other_ready node before other is = record { ready = rw other is.ready; stands = rw other is.stands }

  -- who was ready, or is one of the nodes that come up, is ready
  pub ready_after : (nodes : List NodeId) (before : List Line) → IsReady before ⊎ (has_node nodes x ≡ true) → IsReady (past before (flat_map (ready_node printed) nodes))
  ready_after [] before (inl is) = is
  ready_after [] before (inr h) = no_true h
  ready_after (node ∷ nodes) before who = go (node.0 == x) refl who (λ next. ready_after nodes (one_ready printed node before) next)
    where
      go : (b : Bool) → (node.0 == x) ≡ b → IsReady before ⊎ ((if b then true else has_node nodes x) ≡ true) →
          (IsReady (one_ready printed node before) ⊎ (has_node nodes x ≡ true) → IsReady (past (one_ready printed node before) (flat_map (ready_node printed) nodes))) →
          IsReady (past (one_ready printed node before) (flat_map (ready_node printed) nodes))
      go true e h later = later (inl (own_ready node before e))
      go false e (inl is) later = later (inl (other_ready node before e is))
      go false e (inr h) later = later (inr h)

-- ---- none learns

pub none_learned : (printed : List ℕ) (nodes : List NodeId) → learnings (flat_map (ready_node printed) nodes) ≡ []
none_learned printed [] = refl
none_learned printed (node ∷ nodes) = none_learned printed nodes

-- ---- the lines are faithful

-- a node told nothing and began nothing
pub record IsNew (x : ℕ) (before : List Line) : Type 0 where
  pub untold : told x before ≡ []
  pub unbegun : begun x before ≡ []

new_stays : (printed : List ℕ) (x : ℕ) (node : NodeId) (before : List Line) → (node.0 == x) ≡ false → IsNew x before → IsNew x (one_ready printed node before)
new_stays printed x node before other is = record { untold = rw other is.untold; unbegun = rw other is.unbegun }

none_has : {T : Type 0} (xs : List T) (x : T) → xs ≡ [] → Has xs x → ⊥
none_has {T} xs x none h = subst (λ (ys : List T). Has ys x) none h

begun_not_restored : {P : Type 0} → Some Begun ≡ Some Restored → P
begun_not_restored e = absurd cc

apart : (a x : ℕ) (ns : List ℕ) → is_among a ns ≡ false → is_among x ns ≡ true → (a == x) ≡ false
apart a x ns not is = go (a == x) refl
  where
    one : (a x : ℕ) → (a == x) ≡ true → a ≡ x
    one a x e = grind arith

    go : (b : Bool) → (a == x) ≡ b → b ≡ false
    go true e = absurd (true≢false (sym is ∙ ap (λ n. is_among n ns) (sym (one a x e)) ∙ not))
    go false e = refl

-- lines that are faithful, after which nothing is owed, and none of which trims what a tuple doesn't reach
pub record AreClean (c : Config) (rings : List RingId) (printed : List ℕ) (before : List Line) : Type 0 where
  pub faithful : AreFaithful c before
  pub paid : owed c before ≡ []
  pub trims : AllByRecursion (IsReached rings printed) before

module _ (c : Config) (p : PartitionTable) where
  abbrev m : ℕ → ℕ
  m = round_sizes c

  abbrev first : List (RingId × ℕ)
  first = first_tuple p.rings

  abbrev told_first : List ℕ
  told_first = instances first

  abbrev IsClean : List Line → Type 0
  IsClean before = AreClean c p.rings told_first before

  fits : Fits m p told_first
  fits = record { tuple = first; valid = first_valid m p.rings; shown = refl }

  module _ (node : NodeId) (before : List Line) (replica : partition_of c.partitions node ≡ Some p) (there : HasNode c node) (own : has_node p.replicas node.0 ≡ true)
      (new : IsNew node.0 before) (clean : IsClean before) where
    abbrev up : List Line
    up = Up node 1 ∷ before

    abbrev began : List Line
    began = Begin node 1 1 told_first ∷ up

    abbrev chose : List Line
    chose = Chose node 1 1 told_first node ∷ began

    itself : (node.0 == node.0) ≡ true
    itself = same_number node.0

    up_keeps : (name : Rule) → Keeps name c before (Up node 1)
    up_keeps rule.F3 = record { turn = clean.paid; names = there }
    up_keeps other = tt

    untold : told node.0 up ≡ []
    untold = rw itself new.untold

    unbegun : begun node.0 up ≡ []
    unbegun = rw itself new.unbegun

    begin_keeps : (name : Rule) → Keeps name c up (Begin node 1 1 told_first)
    begin_keeps rule.F3 = record { turn = clean.paid; names = tt }
    begin_keeps rule.F8 = record {
      partition = p;
      replica = replica;
      tuple = first;
      valid = first_valid m p.rings;
      shown = refl;
      later = λ earlier h. absurd (none_has (told node.0 up) earlier untold h);
      up = rw itself refl;
      fresh = λ other h. absurd (none_has (begun node.0 up) other unbegun h);
      known = λ place below. absurd (none_below p.rings place below);
    }
    begin_keeps other = tt

    told_is : told node.0 began ≡ told_first ∷ told node.0 up
    told_is = rw itself refl

    chose_keeps : (name : Rule) → Keeps name c began (Chose node 1 1 told_first node)
    chose_keeps rule.F3 = record { turn = clean.paid; names = tt }
    chose_keeps rule.F6 = record {
      partition = p;
      replica = replica;
      fits = fits;
      current = rw itself refl;
      earlier = up;
      begins = rw itself refl;
      trims = (tt, clean.trims);
      other = own;
      told = subst (λ (tuples : List (List ℕ)). Has tuples told_first) (sym told_is) (inl refl);
    }
    chose_keeps other = tt

    opened : life node.0 chose ≡ Some Begun
    opened = rw itself refl

    restore_keeps : (name : Rule) → Keeps name c chose (Restore node told_first)
    restore_keeps rule.F3 = record { turn = clean.paid; names = tt }
    restore_keeps rule.F6 = record {
      partition = p;
      replica = replica;
      fits = fits;
      recovering = λ e. begun_not_restored (sym opened ∙ e);
      choice = rw itself refl;
    }
    restore_keeps other = tt

    one_clean : IsClean (one_ready told_first node before)
    one_clean = record {
      faithful = (restore_keeps, (chose_keeps, (begin_keeps, (up_keeps, clean.faithful))));
      paid = clean.paid;
      trims = (tt, (tt, (tt, (tt, clean.trims))));
    }

  -- different replicas that are new
  pub clean_after : (replica : (node : NodeId) → has_node p.replicas node.0 ≡ true → partition_of c.partitions node ≡ Some p) →
      (there : (node : NodeId) → has_node p.replicas node.0 ≡ true → HasNode c node) → (nodes : List NodeId) (before : List Line) →
      ((x : ℕ) → is_among x (numbers_of_nodes nodes) ≡ true → has_node p.replicas x ≡ true) → AreDifferent (numbers_of_nodes nodes) →
      ((x : ℕ) → is_among x (numbers_of_nodes nodes) ≡ true → IsNew x before) → IsClean before → IsClean (past before (flat_map (ready_node told_first) nodes))
  clean_after replica there [] before own different new clean = clean
  clean_after replica there (node ∷ nodes) before own different new clean =
      clean_after replica there nodes (one_ready told_first node before)
      (λ x h. own x (later x h)) different.1
      (λ x h. new_stays told_first x node before (apart node.0 x (numbers_of_nodes nodes) different.0 h) (new x (later x h)))
      (one_clean node before (replica node mine) (there node mine) mine (new node.0 here) clean)
    where
      here : is_among node.0 (numbers_of_nodes (node ∷ nodes)) ≡ true
      here = rw (same_number node.0) refl

      mine : has_node p.replicas node.0 ≡ true
      mine = own node.0 here

      later : (x : ℕ) → is_among x (numbers_of_nodes nodes) ≡ true → is_among x (numbers_of_nodes (node ∷ nodes)) ≡ true
      later x h = go (node.0 == x)
        where
          go : (b : Bool) → (if b then true else is_among x (numbers_of_nodes nodes)) ≡ true
          go true = refl
          go false = h
