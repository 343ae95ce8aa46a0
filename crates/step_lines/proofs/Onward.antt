-- A step goes on, whatever is printed: its lines only grow, the node and its rings stay, and what was told is told.
use Rattle.std.proofs.Common.{◌≡◌, ℕ, zero, suc, ◌+◌, Bool, true, false, List, [], ◌∷◌, ◌++◌, Option, Some, None, refl, ◌∙◌, ap}
use Rattle.std.specs.Prelude.{map, ◌==◌, if◌then◌else◌, ◌^◌}
use Rattle.std.specs.List.{AllByRecursion}
use Rattle.mrp_types.specs.declared.id.RingId.{RingId}
use Rattle.mrp_types.specs.declared.value.Value.{Value}
use Rattle.mrp_types.specs.declared.value.Value.TheVariants.{Skip, Batch}
use Rattle.mrp_config.specs.Config.{Config}
use Rattle.frames.specs.declared.sent.Sent.{Sent}
use Rattle.protocol.specs.Lines.{Line}
use Rattle.protocol.specs.Parts.{Ring, Part}
use Rattle.protocol.specs.Node.{StepSoFar, RingPart, Service, Stage, Recovering, Ready, Standing, with_stage, prints, sends_all, with_part_in}
use Rattle.protocol.specs.Recovery.{with_lowered, lowers}
use Rattle.protocol.specs.Merging.{place_of, value_at_place, takes_place, merges_place, merges_stage, merges_service, merges_up_to, merges}
use Rattle.recovery_lines.specs.Ties.{PartTold, rings_in}
use Rattle.step_lines.specs.Effects.{Onward}

pub nothing_more : (ls : List Line) → ls ≡ ls ++ []
nothing_more [] = refl
nothing_more (l ∷ ls) = ap (λ (r : List Line). l ∷ r) (nothing_more ls)

pub lines_joined : (xs ys zs : List Line) → (xs ++ ys) ++ zs ≡ xs ++ (ys ++ zs)
lines_joined [] ys zs = refl
lines_joined (x ∷ xs) ys zs = ap (λ (r : List Line). x ∷ r) (lines_joined xs ys zs)

lowered_rings : (tuple : List (RingId × ℕ)) (parts : List RingPart) → rings_in (map (with_lowered tuple) parts) ≡ rings_in parts
lowered_rings tuple [] = refl
lowered_rings tuple (p ∷ parts) = ap (λ (rs : List Ring). p.ring ∷ rs) (lowered_rings tuple parts)

pub put_rings : (ring : RingId) (part : Part) (parts : List RingPart) → rings_in (with_part_in ring part parts) ≡ rings_in parts
put_rings ring part [] = refl
put_rings ring part (p ∷ parts) = go (p.ring.id.0 == ring.0) (put_rings ring part parts)
  where
    go : (b : Bool) → rings_in (with_part_in ring part parts) ≡ rings_in parts → rings_in (if b then record p { part = part } ∷ parts else p ∷ with_part_in ring part parts) ≡ rings_in (p ∷ parts)
    go true e = refl
    go false e = ap (λ (rs : List Ring). p.ring ∷ rs) e

module _ (c : Config) (lines : List Line) where
  lowered_told : (tuple : List (RingId × ℕ)) (parts : List RingPart) → AllByRecursion (PartTold c lines) parts → AllByRecursion (PartTold c lines) (map (with_lowered tuple) parts)
  lowered_told tuple [] all = tt
  lowered_told tuple (p ∷ parts) all = (record { round = all.0.round; trim = all.0.trim }, lowered_told tuple parts all.1)

  pub Onward-refl : (a : StepSoFar) → Onward c lines a a
  Onward-refl a = record { more = []; printed = nothing_more a.lines; id = refl; rings = refl; journal = refl; checkpoints = refl; told = λ t. t }

  pub Onward-trans : (a b d : StepSoFar) → Onward c lines a b → Onward c lines b d → Onward c lines a d
  Onward-trans a b d p q = record {
    more = p.more ++ q.more;
    printed = q.printed ∙ ap (λ (r : List Line). r ++ q.more) p.printed ∙ lines_joined a.lines p.more q.more;
    id = q.id ∙ p.id;
    rings = q.rings ∙ p.rings;
    journal = q.journal ∙ p.journal;
    checkpoints = q.checkpoints ∙ p.checkpoints;
    told = λ t. q.told (p.told t);
  }

  pub onward_prints : (ls : List Line) (a : StepSoFar) → Onward c lines a (prints ls a)
  onward_prints ls a = record { more = ls; printed = refl; id = refl; rings = refl; journal = refl; checkpoints = refl; told = λ t. record { parts = t.parts; trims = t.trims; epoch = t.epoch } }

  pub onward_sends : (frames : List Sent) (a : StepSoFar) → Onward c lines a (sends_all frames a)
  onward_sends frames a = record { more = []; printed = nothing_more a.lines; id = refl; rings = refl; journal = refl; checkpoints = refl; told = λ t. record { parts = t.parts; trims = t.trims; epoch = t.epoch } }

  pub onward_stage : (service : Service) (stage : Stage) (a : StepSoFar) → Onward c lines a (with_stage service stage a)
  onward_stage service stage a = record { more = []; printed = nothing_more a.lines; id = refl; rings = refl; journal = refl; checkpoints = refl; told = λ t. record { parts = t.parts; trims = t.trims; epoch = t.epoch } }

  pub onward_lowers : (tuple : List (RingId × ℕ)) (a : StepSoFar) → Onward c lines a (lowers tuple a)
  onward_lowers tuple a = record {
    more = [];
    printed = nothing_more a.lines;
    id = refl;
    rings = lowered_rings tuple a.view.parts;
    journal = refl;
    checkpoints = refl;
    told = λ t. record { parts = lowered_told tuple a.view.parts t.parts; trims = t.trims; epoch = t.epoch };
  }

  -- ---- the merge

  place_onward : (service : Service) (standing : Standing) (place : RingId × ℕ) (value : Value) (a : StepSoFar) → Onward c lines a (takes_place c service standing place value a)
  place_onward service standing place Skip a = onward_stage service (Ready (record standing { tuple = _ })) a
  place_onward service standing place (Batch batch) a = record {
    more = _;
    printed = lines_joined a.lines _ _;
    id = refl;
    rings = refl;
    journal = refl;
    checkpoints = refl;
    told = λ t. record { parts = t.parts; trims = t.trims; epoch = t.epoch };
  }

  merges_onward : (most : ℕ) (a : StepSoFar) → Onward c lines a (merges_up_to most c a)
  merges_onward zero a = Onward-refl a
  merges_onward (suc most) a = by_service a.view.service (λ b. merges_onward most b)
    where
      by_value : (service : Service) (standing : Standing) (place : RingId × ℕ) (v : Option Value) → ((b : StepSoFar) → Onward c lines b (merges_up_to most c b)) → Onward c lines a (merges_place (merges_up_to most c) c service standing place v a)
      by_value service standing place None rest = Onward-refl a
      by_value service standing place (Some value) rest =
          let b : StepSoFar = takes_place c service standing place value a in
          Onward-trans a b (merges_up_to most c b) (place_onward service standing place value a) (rest b)

      by_stage : (service : Service) (stage : Stage) → ((b : StepSoFar) → Onward c lines b (merges_up_to most c b)) → Onward c lines a (merges_stage (merges_up_to most c) c service stage a)
      by_stage service (Recovering attempt) rest = Onward-refl a
      by_stage service (Ready standing) rest = by_value service standing (place_of c standing) (value_at_place a.view (place_of c standing)) rest

      by_service : (service : Option Service) → ((b : StepSoFar) → Onward c lines b (merges_up_to most c b)) → Onward c lines a (merges_service (merges_up_to most c) c service a)
      by_service None rest = Onward-refl a
      by_service (Some service) rest = by_stage service service.stage rest

  pub all_onward : (a : StepSoFar) → Onward c lines a (merges c a)
  unfolding merges
  all_onward a = merges_onward (2 ^ 44 + 1) a
