-- What the rules of every run say of this one: the learned value is chosen, and stays the only one.
use Rattle.std.proofs.Common.{◌≡◌, inl, inr, List, refl, sym, ◌∙◌, ap, subst, arith}
use Rattle.mrp_types.specs.declared.value.Value.{Value}
use Rattle.quorums.specs.Groups.{Has}
use Rattle.protocol.specs.Lines.{Line, Learn}
use Rattle.bare_world.specs.Runs.{MayRun}
use Rattle.bare_world.specs.Worlds.{Happening, World}
use Rattle.ring_runs.specs.Histories.{at_first, history}
use Rattle.ring_runs.specs.Votes.{IsChosen}
use Rattle.ring_runs.proofs.Whole.{learns, one_value, world_of}
use Rattle.bare_rows.specs.Row.{batch, config, happenings, node, ring, table}
use Rattle.bare_rows.proofs.Deployment.{valid}
use Rattle.bare_rows.proofs.Happens.{may_run, printed}

learned : Has (history config happenings at_first).world.lines (Learn (node 2) ring 0 1 batch)
learned = subst (λ (l : List Line). Has l (Learn (node 2) ring 0 1 batch)) (sym (ap (λ (w : World). w.lines) (world_of config at_first happenings) ∙ printed)) (inr (inr (inr (inr (inr (inl refl))))))

pub chosen : IsChosen table (history config happenings at_first) 0 batch
chosen = (learns config table valid (inl refl) happenings may_run).line (node 2) 0 1 batch learned 0 (omega arith) (omega arith)

pub stays : (more : List Happening) → MayRun config (history config happenings at_first).world more → (value : Value)
    → IsChosen table (history config more (history config happenings at_first)) 0 value → batch ≡ value
stays more may value late = one_value config table valid (inl refl) happenings more may_run may 0 batch value chosen late
