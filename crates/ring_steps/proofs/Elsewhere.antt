-- A rule of another ring, at this node, is nothing to this ring: its part and what was recorded of it are the same.
use Rattle.std.proofs.Common.{◌≡◌, ℕ, zero, suc, ◌^◌, Bool, true, false, List, [], ◌∷◌, Option, Some, None, refl, sym, ◌∙◌, ap, arith}
use Rattle.std.specs.Prelude.{◌==◌, if◌then◌else◌}
use Rattle.std.proofs.lemmas.Bool.Decides.{nat_tests}
use Rattle.mrp_types.specs.declared.id.RingId.{RingId}
use Rattle.mrp_types.specs.declared.voted.Decided.{Decided}
use Rattle.mrp_config.specs.Config.{Config}
use Rattle.protocol.specs.Lines.{Learn}
use Rattle.protocol.specs.Parts.{Ring, Part, Effects}
use Rattle.protocol.specs.Effects.{no_effects}
use Rattle.protocol.specs.Learner.{learns}
use Rattle.protocol.specs.Proposing.{proposes}
use Rattle.protocol.specs.Node.{StepSoFar, RingPart, part_in, part_at, with_part_in, with_part, prints}
use Rattle.protocol.specs.Merging.{merges}
use Rattle.protocol.specs.Learning.{with_effects, Queued, queued, proposes_then, by_news, learns_one, then_learns, learns_up_to, applies_effects}
use Rattle.ring_steps.proofs.Along.{Leaves, Leaves-refl, Leaves-trans, untouched_leaves, kept_both}
use Rattle.beside_rings.proofs.Following.{SameBut-refl}
use Rattle.beside_rings.proofs.Merge.{merges_untouched}
use Rattle.ring_kept.specs.Kept.{kept_after}
use Rattle.ring_tables.specs.Ties.{IsSaid, IsTold}
use Rattle.ring_tables.proofs.More.{recorded_apart, told_first}
use Rattle.ring_rules.specs.Own.{IsOf}
use Rattle.ring_rules.proofs.Apart.{changes_apart, frames_apart, records_apart, none_learned, of_none, of_proposes_after}
use Rattle.quorums.proofs.Each.{appended}

pub put_apart : (id other : RingId) → (other.0 ≡ id.0 → ⊥) → (new : Part) (parts : List RingPart) → part_in (with_part_in other new parts) id ≡ part_in parts id
put_apart id other ne new [] = refl
put_apart id other ne new (p ∷ parts) = go (p.ring.id.0 == other.0) refl (put_apart id other ne new parts)
  where
    go : (b : Bool) → (p.ring.id.0 == other.0) ≡ b → part_in (with_part_in other new parts) id ≡ part_in parts id
        → part_in (if b then record p { part = new } ∷ parts else p ∷ with_part_in other new parts) id ≡ (if p.ring.id.0 == id.0 then Some p else part_in parts id)
    go true t later =
        let same : p.ring.id.0 ≡ other.0 = grind (arith, nat_tests) in
        let no : (p.ring.id.0 == id.0) ≡ false = grind (arith, nat_tests) in
        rw no refl
    go false t later = ap (λ o. if p.ring.id.0 == id.0 then Some p else o) later

module _ (ring other : Ring) (ne : other.id.0 ≡ ring.id.0 → ⊥) where
  -- a part of the other ring is put
  put_leaves : (part : Part) (a : StepSoFar) → Leaves ring a (with_part other part a)
  put_leaves part a = record { part = λ p is. record { before = p; there = sym (put_apart ring.id other.id ne part a.view.parts) ∙ is; same = SameBut-refl p }; journal = refl; changes = λ base. refl; recorded = λ z f s. s; sent = λ p t. t; frames = λ now s. s; replies = λ now s. s; lines = λ now s. s }

  effects_leaves : (effects : Effects) (a : StepSoFar) → IsOf other effects → Leaves ring a (with_effects other effects a)
  effects_leaves effects a o = record {
    part = λ p is. record { before = p; there = sym (put_apart ring.id other.id ne effects.part a.view.parts) ∙ is; same = SameBut-refl p };
    journal = refl;
    changes = λ base. kept_both ring.id a.changes effects.changes base ∙ changes_apart other.id ring.id ne effects.changes o.changes (kept_after ring.id a.changes base);
    recorded = λ z f s. recorded_apart ring z f a.changes effects.changes (records_apart other.id ring ne f effects.changes o.changes) s;
    sent = λ p t. told_first ring a.frames effects.frames p t;
    frames = λ now s. appended (IsSaid ring now) a.frames effects.frames s (frames_apart other.id ring ne now effects.frames o.frames);
    replies = λ now s. s;
    lines = λ now s. appended (IsTold ring now) a.lines effects.lines s (none_learned ring now effects.lines o.lines);
  }

  proposes_leaves : (later : List Decided) (o : Option RingPart) (a : StepSoFar) → Leaves ring a (proposes_then other later o a).so_far
  proposes_leaves later None a = Leaves-refl ring a
  proposes_leaves later (Some p) a = effects_leaves (proposes other a.view.link p.part) a (of_proposes_after other (no_effects p.part) a.view.link (of_none other p.part))

  module _ (config : Config) where
    one_leaves : (range : Decided) (later : List Decided) (o : Option RingPart) (a : StepSoFar) → Leaves ring a (learns_one config other range later o a).so_far
    one_leaves range later None a = Leaves-refl ring a
    one_leaves range later (Some p) a = go (learns other p.part range).news
      where
        now : StepSoFar
        now = with_part other (learns other p.part range).part a

        go : (b : Bool) → Leaves ring a (by_news config other range later b (with_part other (learns other p.part range).part a)).so_far
        go false = put_leaves (learns other p.part range).part a
        go true =
            let told : StepSoFar = prints (Learn a.view.id other.id range.lo range.hi range.value ∷ []) (with_part other (learns other p.part range).part a) in
            let first : Leaves ring a told = Leaves-trans ring (put_leaves (learns other p.part range).part a) (record {
              part = λ q is. record { before = q; there = is; same = SameBut-refl q };
              journal = refl;
              changes = λ base. refl;
              recorded = λ z f s. s;
              sent = λ p t. t;
              frames = λ n s. s;
              replies = λ n s. s;
              lines = λ n s. appended (IsTold ring n) a.lines (Learn a.view.id other.id range.lo range.hi range.value ∷ []) s ((λ e. absurd (ne e)), tt);
            }) in
            Leaves-trans ring (Leaves-trans ring first (untouched_leaves ring told (merges config told) (merges_untouched config told))) (proposes_leaves later (part_at (merges config told).view other.id) (merges config told))

    learns_leaves : (most : ℕ) (q : Queued) → Leaves ring q.so_far (learns_up_to most config other q)
    learns_leaves zero q = Leaves-refl ring q.so_far
    learns_leaves (suc most) q = go q.ranges (λ r. learns_leaves most r)
      where
        go : (ranges : List Decided) → ((r : Queued) → Leaves ring r.so_far (learns_up_to most config other r))
            → Leaves ring q.so_far (then_learns (learns_up_to most config other) config other q ranges)
        go [] rest = Leaves-refl ring q.so_far
        go (range ∷ later) rest =
            Leaves-trans ring (one_leaves range later (part_at q.so_far.view other.id) q.so_far) (rest (learns_one config other range later (part_at q.so_far.view other.id) q.so_far))

    pub applies_effects_leaves : (effects : Effects) (a : StepSoFar) → IsOf other effects → Leaves ring a (applies_effects config other effects a)
    unfolding applies_effects
    applies_effects_leaves effects a o = Leaves-trans ring (effects_leaves effects a o) (learns_leaves (2 ^ 44) (queued other [] effects a))
