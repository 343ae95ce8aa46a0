-- What follows in a step: some deeds and their lines, after which the view stands where they leave the replica.
use Rattle.std.proofs.Common.{◌≡◌, ℕ, Bool, true, false, List, [], ◌∷◌, ◌++◌, Option, Some, None, inl, inr, refl, sym, ◌∙◌, ap, subst, append_assoc, append-nil}
use Rattle.std.specs.Prelude.{filter, if◌then◌else◌}
use Rattle.std.specs.List.{AllByRecursion}
use Rattle.std.proofs.lemmas.List.Elements.{filter-append}
use Rattle.mrp_types.specs.declared.id.NodeId.{NodeId}
use Rattle.mrp_types.specs.declared.id.RingId.{RingId}
use Rattle.mrp_types.specs.declared.value.Value.{Value}
use Rattle.mrp_config.specs.Config.{Config}
use Rattle.mrp_config.specs.declared.tables.PartitionTable.{PartitionTable}
use Rattle.quorums.specs.Groups.{Has}
use Rattle.quorums.proofs.Each.{mapped}
use Rattle.protocol.specs.Lines.{Line, Learn}
use Rattle.protocol.specs.Node.{RingPart, Service, Stage, StepSoFar, prints, with_stage}
use Rattle.own_order.specs.Order.{AreOwn, Begins, Deed, deed_lines, place_at, IsLearned, IsOwn, Point, Restores, Takes, is_of_order, lines_by, next_point, point_by, point_of, point_of_stage}

has_front : {T : Type 0} (xs ys : List T) (t : T) → Has xs t → Has (xs ++ ys) t
has_front [] ys t has = absurd has
has_front (x ∷ xs) ys t (inl same) = inl same
has_front (x ∷ xs) ys t (inr has) = inr (has_front xs ys t has)

-- a list of lines without any of the order
pub none_of_order : (P : Line → Type 0) → ((l : Line) → P l → is_of_order l ≡ false) → (ls : List Line) → AllByRecursion P ls → filter is_of_order ls ≡ []
none_of_order P each [] all = refl
none_of_order P each (l ∷ ls) all = go (is_of_order l) (each l all.0) (none_of_order P each ls all.1)
  where
    go : (b : Bool) → b ≡ false → filter is_of_order ls ≡ [] → (if b then l ∷ filter is_of_order ls else filter is_of_order ls) ≡ []
    go true e later = absurd (cc)
    go false e later = later

module _ (c : Config) (id : NodeId) (p : PartitionTable) where
  -- ---- deeds after deeds

  pub points_joined : (o : Option Point) (ds es : List Deed) → point_by c p o (ds ++ es) ≡ point_by c p (point_by c p o ds) es
  points_joined o [] es = refl
  points_joined o (d ∷ ds) es = points_joined (next_point c p o d) ds es

  pub lines_joined : (o : Option Point) (ds es : List Deed) → lines_by c id p o (ds ++ es) ≡ lines_by c id p o ds ++ lines_by c id p (point_by c p o ds) es
  lines_joined o [] es = refl
  lines_joined o (d ∷ ds) es =
      ap (λ (ls : List Line). deed_lines c id p o d ++ ls) (lines_joined (next_point c p o d) ds es)
      ∙ sym (append_assoc (deed_lines c id p o d) (lines_by c id p (next_point c p o d) ds) (lines_by c id p (point_by c p (next_point c p o d) ds) es))

  pub own_joined : (ls : List Line) (o : Option Point) (ds es : List Deed) → AreOwn c id p ls o ds → AreOwn c id p ls (point_by c p o ds) es → AreOwn c id p ls o (ds ++ es)
  own_joined ls o [] es first second = second
  own_joined ls o (d ∷ ds) es first second = (first.0, own_joined ls (next_point c p o d) ds es first.1 second)

  -- ---- more lines

  pub learned_more : (ls new : List Line) (ring : RingId) (inst : ℕ) (value : Value) → IsLearned ls id ring inst value → IsLearned (ls ++ new) id ring inst value
  learned_more ls new ring inst value is = record { lo = is.lo; hi = is.hi; there = has_front ls new (Learn id ring is.lo is.hi value) is.there; from = is.from; to = is.to }

  one_more : (ls new : List Line) (o : Option Point) (d : Deed) → IsOwn c id p ls o d → IsOwn c id p (ls ++ new) o d
  one_more ls new o (Begins epoch attempt printed) own = tt
  one_more ls new o (Restores tuple replica) own = own
  one_more ls new None (Takes value) own = absurd own
  one_more ls new (Some point) (Takes value) own = learned_more ls new (place_at c point).0 (place_at c point).1 value own

  pub own_more : (ls new : List Line) (o : Option Point) (ds : List Deed) → AreOwn c id p ls o ds → AreOwn c id p (ls ++ new) o ds
  own_more ls new o [] own = tt
  own_more ls new o (d ∷ ds) own = (one_more ls new o d own.0, own_more ls new (next_point c p o d) ds own.1)

  -- ---- what a node holds

  abbrev pub EntryLearned : List Line → RingId → ℕ × Value → Type 0
  EntryLearned ls ring e = IsLearned ls id ring e.0 e.1

  -- what its learner holds it has printed
  abbrev pub PartLearned : List Line → RingPart → Type 0
  PartLearned ls q = AllByRecursion (EntryLearned ls q.ring.id) q.part.learner.held

  pub parts_more : (ls new : List Line) (parts : List RingPart) → AllByRecursion (PartLearned ls) parts → AllByRecursion (PartLearned (ls ++ new)) parts
  parts_more ls new parts all =
      mapped (PartLearned ls) (PartLearned (ls ++ new))
      (λ q held. mapped (EntryLearned ls q.ring.id) (EntryLearned (ls ++ new) q.ring.id) (λ e is. learned_more ls new q.ring.id e.0 e.1 is) q.part.learner.held held) parts all

  abbrev pub Serves : Option Service → Type 0
  Serves None = Unit {0}
  Serves (Some service) = service.partition ≡ p

  module _ (before : List Line) where
    -- the node, its partition, and what its learners hold
    pub record Ground (a : StepSoFar) : Type 0 where
      pub mine : a.view.id ≡ id
      pub serves : Serves a.view.service
      pub learned : AllByRecursion (PartLearned (before ++ a.lines)) a.view.parts

    -- From these lines of the step on, and where the replica stood then, what was printed since is of some deeds.
    pub record After (o : Option Point) (start : List Line) (b : StepSoFar) : Type 0 where
      pub new : List Line
      pub printed : b.lines ≡ start ++ new
      pub deeds : List Deed
      pub told : filter is_of_order new ≡ lines_by c id p o deeds
      pub point : point_of b.view.service ≡ point_by c p o deeds
      pub own : AreOwn c id p (before ++ b.lines) o deeds
      pub ground : Ground b

    -- nothing was done
    pub stays : (a : StepSoFar) → Ground a → After (point_of a.view.service) a.lines a
    stays a g = record { new = []; printed = sym (append-nil a.lines); deeds = []; told = refl; point = refl; own = tt; ground = g }

    pub after_both : (o : Option Point) (start : List Line) (b d : StepSoFar) → After o start b → After (point_of b.view.service) b.lines d → After o start d
    after_both o start b d x y = record {
      new = x.new ++ y.new;
      printed = y.printed ∙ ap (λ (ls : List Line). ls ++ y.new) x.printed ∙ append_assoc start x.new y.new;
      deeds = x.deeds ++ y.deeds;
      told = filter-append is_of_order x.new y.new ∙ ap (λ (ls : List Line). ls ++ filter is_of_order y.new) x.told
          ∙ ap (λ (ls : List Line). lines_by c id p o x.deeds ++ ls) (y.told ∙ ap (λ (q : Option Point). lines_by c id p q y.deeds) x.point) ∙ sym (lines_joined o x.deeds y.deeds);
      point = y.point ∙ ap (λ (q : Option Point). point_by c p q y.deeds) x.point ∙ sym (points_joined o x.deeds y.deeds);
      own = own_joined (before ++ d.lines) o x.deeds y.deeds
          (subst (λ (ls : List Line). AreOwn c id p ls o x.deeds) (append_assoc before b.lines y.new ∙ ap (λ (ls : List Line). before ++ ls) (sym y.printed)) (own_more (before ++ b.lines) y.new o x.deeds x.own))
          (subst (λ (q : Option Point). AreOwn c id p (before ++ d.lines) q y.deeds) x.point y.own);
      ground = y.ground;
    }

    -- some lines, with the deeds that they are of, stand before
    pub after_lines : (o : Option Point) (start ls : List Line) (ds : List Deed) (b : StepSoFar) → filter is_of_order ls ≡ lines_by c id p o ds → AreOwn c id p (before ++ b.lines) o ds
        → After (point_by c p o ds) (start ++ ls) b → After o start b
    after_lines o start ls ds b told own y = record {
      new = ls ++ y.new;
      printed = y.printed ∙ append_assoc start ls y.new;
      deeds = ds ++ y.deeds;
      told = filter-append is_of_order ls y.new ∙ ap (λ (ks : List Line). ks ++ filter is_of_order y.new) told ∙ ap (λ (ks : List Line). lines_by c id p o ds ++ ks) y.told ∙ sym (lines_joined o ds y.deeds);
      point = y.point ∙ sym (points_joined o ds y.deeds);
      own = own_joined (before ++ b.lines) o ds y.deeds own y.own;
      ground = y.ground;
    }

    -- lines that aren't of the order stand before
    pub after_plain : (o : Option Point) (start ls : List Line) (b : StepSoFar) → filter is_of_order ls ≡ [] → After o (start ++ ls) b → After o start b
    after_plain o start ls b none y = after_lines o start ls [] b none tt y

    -- ---- grounds

    pub prints_ground : (ls : List Line) (a : StepSoFar) → Ground a → Ground (prints ls a)
    prints_ground ls a g = record {
      mine = g.mine;
      serves = g.serves;
      learned = subst (λ (ks : List Line). AllByRecursion (PartLearned ks) a.view.parts) (append_assoc before a.lines ls) (parts_more (before ++ a.lines) ls a.view.parts g.learned);
    }

    pub stage_ground : (service : Service) (stage : Stage) (a : StepSoFar) → service.partition ≡ p → Ground a → Ground (with_stage service stage a)
    stage_ground service stage a same g = record { mine = g.mine; serves = same; learned = g.learned }

    -- a stage that stands where the replica stood
    pub stage_after : (o : Option Point) (service : Service) (stage : Stage) (a : StepSoFar) → point_of_stage stage ≡ o → service.partition ≡ p → Ground a → After o a.lines (with_stage service stage a)
    stage_after o service stage a at same g =
        record { new = []; printed = sym (append-nil a.lines); deeds = []; told = refl; point = at; own = tt; ground = stage_ground service stage a same g }
