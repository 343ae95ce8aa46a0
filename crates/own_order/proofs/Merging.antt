-- The merge takes values that the node has learned, one after the other.
use Rattle.std.proofs.Common.{◌≡◌, ℕ, zero, suc, ◌+◌, ◌^◌, Bool, true, false, List, [], ◌∷◌, ◌++◌, map, Option, Some, None, refl, sym, ◌∙◌, ap, subst, arith, append_assoc, append-nil}
use Rattle.std.specs.Prelude.{filter, nat_eq, ◌==◌, nat_lt, if◌then◌else◌}
use Rattle.std.specs.List.{AllByRecursion}
use Rattle.std.proofs.lemmas.Bool.Decides.{nat_tests}
use Rattle.mrp_types.specs.declared.id.NodeId.{NodeId}
use Rattle.mrp_types.specs.declared.id.RingId.{RingId}
use Rattle.mrp_types.specs.declared.id.TheConstants.{END}
use Rattle.mrp_types.specs.declared.value.Entry.{Entry}
use Rattle.mrp_types.specs.declared.value.Value.{Value}
use Rattle.mrp_types.specs.declared.value.Value.TheVariants.{Skip, Batch}
use Rattle.mrp_config.specs.Config.{Config}
use Rattle.mrp_config.specs.declared.tables.PartitionTable.{PartitionTable}
use Rattle.range_map.specs.Entries.{value_at}
use Rattle.plain_model.proofs.TupleAt.{by_number}
use Rattle.plain_model.specs.Replicas.{AppliedAll, applies, entries_of_batch}
use Rattle.protocol.specs.Lines.{Line, Deliver}
use Rattle.protocol.specs.Merging.{delivers_applied, merges, replying, merges_place, merges_service, merges_stage, merges_up_to, place_of, reply_line, skipped, takes_place, value_at_place, value_of_part}
use Rattle.protocol.specs.Node.{Ready, Recovering, RingPart, Service, Stage, Standing, StepSoFar, part_at, part_in, prints}
use Rattle.own_order.specs.Order.{IsLearned, Point, Takes, is_of_order, moved, point_of, point_of_stage}
use Rattle.own_order.proofs.After.{After, EntryLearned, Ground, PartLearned, Serves, after_both, learned_more, prints_ground, stage_ground, stays}

-- ---- what is found

same_num : (i j : ℕ) → (i == j) ≡ true → i ≡ j
same_num i j e = grind (arith, nat_tests)

entry_found : {T : Type 0} (P : ℕ × T → Type 0) (i : ℕ) (es : List (ℕ × T)) (v : T) → AllByRecursion P es → value_at i es ≡ Some v → P (i, v)
entry_found P i [] v all e = absurd (cc)
entry_found {T} P i (x ∷ es) v all e = go (nat_eq i x.0) refl e (λ f. entry_found P i es v all.1 f)
  where
    go : (b : Bool) → nat_eq i x.0 ≡ b → (if b then Some x.1 else value_at i es) ≡ Some v → (value_at i es ≡ Some v → P (i, v)) → P (i, v)
    go true t f later =
        let same : x.1 ≡ v = cc in
        subst (λ (k : ℕ). P (k, v)) (sym (same_num i x.0 t)) (subst (λ (y : T). P (x.0, y)) same all.0)
    go false t f later = later f

module _ (c : Config) (id : NodeId) (p : PartitionTable) where
  -- the part of a ring holds what was learned of this ring
  pub part_learned : (ls : List Line) (ring : RingId) (parts : List RingPart) (q : RingPart) → AllByRecursion (PartLearned c id p ls) parts → part_in parts ring ≡ Some q
      → AllByRecursion (EntryLearned c id p ls ring) q.part.learner.held
  part_learned ls ring [] q all e = absurd (cc)
  part_learned ls ring (x ∷ parts) q all e = go (x.ring.id.0 == ring.0) refl e (λ f. part_learned ls ring parts q all.1 f)
    where
      go : (b : Bool) → (x.ring.id.0 == ring.0) ≡ b → (if b then Some x else part_in parts ring) ≡ Some q → (part_in parts ring ≡ Some q → AllByRecursion (EntryLearned c id p ls ring) q.part.learner.held)
          → AllByRecursion (EntryLearned c id p ls ring) q.part.learner.held
      go true t f later =
          let same : x ≡ q = cc in
          subst (λ (y : RingPart). AllByRecursion (EntryLearned c id p ls ring) y.part.learner.held) same
          (subst (λ (r : RingId). AllByRecursion (EntryLearned c id p ls r) x.part.learner.held) (by_number x.ring.id ring (same_num x.ring.id.0 ring.0 t)) all.0)
      go false t f later = later f

  place_learned : (ls : List Line) (place : RingId × ℕ) (parts : List RingPart) (o : Option RingPart) (value : Value) → AllByRecursion (PartLearned c id p ls) parts → part_in parts place.0 ≡ o
      → value_of_part o place.1 ≡ Some value → IsLearned ls id place.0 place.1 value
  place_learned ls place parts None value all at e = absurd (cc)
  place_learned ls place parts (Some q) value all at e = go (nat_lt place.1 END) e
    where
      go : (b : Bool) → (if b then value_at place.1 q.part.learner.held else None) ≡ Some value → IsLearned ls id place.0 place.1 value
      go true f = entry_found (EntryLearned c id p ls place.0) place.1 q.part.learner.held value (part_learned ls place.0 parts q all at) f
      go false f = absurd (cc)

  -- reply lines are of the order
  replies_told : (x : NodeId) (place : RingId × ℕ) (replies : List (ℕ × Entry × List ℕ)) → x ≡ id → filter is_of_order (map (reply_line x place) replies) ≡ map (reply_line id place) replies
  replies_told x place [] same = refl
  replies_told x place (r ∷ replies) same = ap (λ (y : NodeId). reply_line y place r ∷ filter is_of_order (map (reply_line x place) replies)) same
      ∙ ap (λ (ls : List Line). reply_line id place r ∷ ls) (replies_told x place replies same)

  module _ (before : List Line) where
    -- ---- a place

    module _ (service : Service) (standing : Standing) (a : StepSoFar) (same : service.partition ≡ p) (g : Ground c id p before a) where
      abbrev point : Point
      point = record { tuple = standing.tuple; replica = standing.replica }

      batch_taken : (batch : List ℕ) → IsLearned (before ++ a.lines) id (place_of c standing).0 (place_of c standing).1 (Batch batch) → (applied : AppliedAll)
          → applied ≡ applies p standing.replica (entries_of_batch batch) → After c id p before (Some point) a.lines (delivers_applied c service standing (place_of c standing) applied a)
      batch_taken batch learned applied is = record {
        new = Deliver a.view.id (place_of c standing).0 (place_of c standing).1 ∷ map (reply_line a.view.id (place_of c standing)) applied.replies;
        printed = append_assoc a.lines (Deliver a.view.id (place_of c standing).0 (place_of c standing).1 ∷ []) (map (reply_line a.view.id (place_of c standing)) applied.replies);
        deeds = Takes (Batch batch) ∷ [];
        told =
            ap (λ (ls : List Line). Deliver a.view.id (place_of c standing).0 (place_of c standing).1 ∷ ls) (replies_told a.view.id (place_of c standing) applied.replies g.mine)
            ∙ ap (λ (x : NodeId). Deliver x (place_of c standing).0 (place_of c standing).1 ∷ map (reply_line id (place_of c standing)) applied.replies) g.mine
            ∙ ap (λ (all : AppliedAll). Deliver id (place_of c standing).0 (place_of c standing).1 ∷ map (reply_line id (place_of c standing)) all.replies) is
            ∙ sym (append-nil (Deliver id (place_of c standing).0 (place_of c standing).1 ∷ map (reply_line id (place_of c standing)) (applies p standing.replica (entries_of_batch batch)).replies));
        point = ap (λ (all : AppliedAll). Some (moved c point all.replica)) is;
        own = (subst (λ (ls : List Line). IsLearned ls id (place_of c standing).0 (place_of c standing).1 (Batch batch)) longer (learned_more c id p (before ++ a.lines) new (place_of c standing).0 (place_of c standing).1 (Batch batch) learned), tt);
        ground = stage_ground c id p before service _ _ same ground_now;
      }
        where
          new : List Line
          new = (Deliver a.view.id (place_of c standing).0 (place_of c standing).1 ∷ []) ++ map (reply_line a.view.id (place_of c standing)) applied.replies

          longer : (before ++ a.lines) ++ new ≡ before ++ ((a.lines ++ Deliver a.view.id (place_of c standing).0 (place_of c standing).1 ∷ []) ++ map (reply_line a.view.id (place_of c standing)) applied.replies)
          longer = append_assoc before a.lines new
              ∙ ap (λ (ls : List Line). before ++ ls) (sym (append_assoc a.lines (Deliver a.view.id (place_of c standing).0 (place_of c standing).1 ∷ []) (map (reply_line a.view.id (place_of c standing)) applied.replies)))

          delivered : StepSoFar
          delivered = prints (Deliver a.view.id (place_of c standing).0 (place_of c standing).1 ∷ []) a

          told_ground : Ground c id p before delivered
          told_ground = prints_ground c id p before (Deliver a.view.id (place_of c standing).0 (place_of c standing).1 ∷ []) a g

          lines_ground : Ground c id p before (prints (map (reply_line a.view.id (place_of c standing)) applied.replies) delivered)
          lines_ground = prints_ground c id p before (map (reply_line a.view.id (place_of c standing)) applied.replies) delivered told_ground

          ground_now : Ground c id p before (replying service (place_of c standing) applied.replies delivered)
          ground_now = record { mine = lines_ground.mine; serves = lines_ground.serves; learned = lines_ground.learned }

      place_taken : (value : Value) → value_at_place a.view (place_of c standing) ≡ Some value → After c id p before (Some point) a.lines (takes_place c service standing (place_of c standing) value a)
      place_taken value there = by value learned
        where
          learned : IsLearned (before ++ a.lines) id (place_of c standing).0 (place_of c standing).1 value
          learned = place_learned (before ++ a.lines) (place_of c standing) a.view.parts (part_at a.view (place_of c standing).0) value g.learned refl there

          by : (value : Value) → IsLearned (before ++ a.lines) id (place_of c standing).0 (place_of c standing).1 value → After c id p before (Some point) a.lines (takes_place c service standing (place_of c standing) value a)
          by Skip learned = record {
            new = [];
            printed = sym (append-nil a.lines);
            deeds = Takes Skip ∷ [];
            told = refl;
            point = refl;
            own = (learned, tt);
            ground = stage_ground c id p before service (Ready (skipped c standing)) a same g;
          }
          by (Batch batch) learned = batch_taken batch learned (applies service.partition standing.replica (entries_of_batch batch)) (ap (λ (q : PartitionTable). applies q standing.replica (entries_of_batch batch)) same)

    -- ---- place after place

    merging : (most : ℕ) (a : StepSoFar) → Ground c id p before a → After c id p before (point_of a.view.service) a.lines (merges_up_to most c a)
    merging zero a g = stays c id p before a g
    merging (suc most) a g = by_service a.view.service g.serves refl (λ b h. merging most b h)
      where
        still : (o : Option Point) → point_of a.view.service ≡ o → After c id p before o a.lines a
        still o e = subst (λ (q : Option Point). After c id p before q a.lines a) e (stays c id p before a g)

        by_value : (service : Service) (standing : Standing) (value : Option Value) → value_at_place a.view (place_of c standing) ≡ value → service.partition ≡ p
            → point_of a.view.service ≡ Some (record { tuple = standing.tuple; replica = standing.replica }) → ((b : StepSoFar) → Ground c id p before b → After c id p before (point_of b.view.service) b.lines (merges_up_to most c b))
            → After c id p before (Some (record { tuple = standing.tuple; replica = standing.replica })) a.lines (merges_place (merges_up_to most c) c service standing (place_of c standing) value a)
        by_value service standing None there same at rest = still (Some (record { tuple = standing.tuple; replica = standing.replica })) at
        by_value service standing (Some value) there same at rest =
            let b : StepSoFar = takes_place c service standing (place_of c standing) value a in
            let one = place_taken service standing a same g value there in
            after_both c id p before (Some (record { tuple = standing.tuple; replica = standing.replica })) a.lines b (merges_up_to most c b) one (rest b one.ground)

        by_stage : (service : Service) (stage : Stage) → service.partition ≡ p → point_of a.view.service ≡ point_of_stage stage → ((b : StepSoFar) → Ground c id p before b → After c id p before (point_of b.view.service) b.lines (merges_up_to most c b))
            → After c id p before (point_of_stage stage) a.lines (merges_stage (merges_up_to most c) c service stage a)
        by_stage service (Recovering attempt) same at rest = still None at
        by_stage service (Ready standing) same at rest = by_value service standing (value_at_place a.view (place_of c standing)) refl same at rest

        by_service : (o : Option Service) → Serves c id p o → point_of a.view.service ≡ point_of o → ((b : StepSoFar) → Ground c id p before b → After c id p before (point_of b.view.service) b.lines (merges_up_to most c b)) → After c id p before (point_of o) a.lines (merges_service (merges_up_to most c) c o a)
        by_service None same at rest = still None at
        by_service (Some service) same at rest = by_stage service service.stage same at rest

    pub merged : (a : StepSoFar) → Ground c id p before a → After c id p before (point_of a.view.service) a.lines (merges c a)
    unfolding merges
    merged a g = merging (2 ^ 44 + 1) a g
