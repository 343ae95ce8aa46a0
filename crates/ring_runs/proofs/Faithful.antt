-- F1 of every run: the shape of each learn line, and one value of all of them at each instance.
use Rattle.std.proofs.Common.{◌≡◌, inl, inr, ℕ, ◌<◌, ◌≤◌, List, [], ◌∷◌, ◌++◌, refl, sym, ◌∙◌, ap, subst}
use Rattle.mrp_types.specs.declared.id.NodeId.{NodeId}
use Rattle.mrp_types.specs.declared.id.RingId.{RingId}
use Rattle.mrp_types.specs.declared.value.Value.{Value}
use Rattle.mrp_config.specs.Config.{Config}
use Rattle.mrp_config.specs.Valid.{IsValid}
use Rattle.mrp_config.specs.declared.tables.RingTable.{RingTable}
use Rattle.quorums.specs.Groups.{Has}
use Rattle.protocol.specs.Lines.{Line, Learn}
use Rattle.protocol.specs.Parts.{Ring}
use Rattle.step_valid.specs.Valid.{LearnValid}
use Rattle.valid_runs.specs.Worlds.{LineFits, WorldValid}
use Rattle.valid_runs.proofs.Running.{runs_valid}
use Rattle.bare_world.specs.Runs.{MayRun}
use Rattle.bare_world.specs.Worlds.{Happening, World, nothing}
use Rattle.ring_runs.specs.Histories.{at_first, history}
use Rattle.ring_runs.specs.Lines.{LearnLinesKeepF1}
use Rattle.ring_runs.specs.Votes.{IsChosen}
use Rattle.ring_runs.proofs.Growing.{has_first, one_of}
use Rattle.ring_runs.proofs.Whole.{learns, one_value, world_of}

has_middle : {X : Type 0} (before after : List X) (x : X) → Has (before ++ x ∷ after) x
has_middle [] after x = inl refl
has_middle (y ∷ before) after x = inr (has_middle before after x)

module _ (config : Config) (valid : IsValid config) (xs : List Happening) (may : MayRun config nothing xs) where
  lines_fit : WorldValid config (history config xs at_first).world
  lines_fit = subst (λ (w : World). WorldValid config w) (sym (world_of config at_first xs)) (runs_valid config valid xs may)

  line_chosen : (table : RingTable) → Has config.rings table → (node : NodeId) (ring : RingId) (lo hi : ℕ) (value : Value) → ring ≡ table.id
      → Has (history config xs at_first).world.lines (Learn node ring lo hi value) → (i : ℕ) → lo ≤ i → i < hi → IsChosen table (history config xs at_first) i value
  line_chosen table listed node ring lo hi value e has i from to =
      (learns config table valid listed xs may).line node lo hi value
      (subst (λ (r : RingId). Has (history config xs at_first).world.lines (Learn node r lo hi value)) e has) i from to

  pub faithful : LearnLinesKeepF1 config (history config xs at_first).world.lines
  faithful before after node ring lo hi value e =
      let now : Has (history config xs at_first).world.lines (Learn node ring lo hi value) =
      subst (λ (l : List Line). Has l (Learn node ring lo hi value)) (sym e) (has_middle before after (Learn node ring lo hi value)) in
      let shape : LearnValid config node ring (record { lo = lo; hi = hi; value = value }) =
      one_of (LineFits config) (history config xs at_first).world.lines (Learn node ring lo hi value) now lines_fit.lines in
      let table : RingTable = shape.of_ring.table in
      let named : ring ≡ shape.of_ring.table.id = shape.named ∙ ap (λ (r : Ring). r.id) shape.of_ring.same in
      record {
        shape = shape;
        agrees = λ other low high earlier has i from to above under.
            let was : Has (history config xs at_first).world.lines (Learn other ring low high earlier) =
            subst (λ (l : List Line). Has l (Learn other ring low high earlier)) (sym e)
            (has_first before (Learn node ring lo hi value ∷ after) (Learn other ring low high earlier) has) in
            one_value config shape.of_ring.table valid shape.of_ring.listed xs [] may tt i earlier value
            (line_chosen shape.of_ring.table shape.of_ring.listed other ring low high earlier named was i above under)
            (line_chosen shape.of_ring.table shape.of_ring.listed node ring lo hi value named now i from to);
      }
