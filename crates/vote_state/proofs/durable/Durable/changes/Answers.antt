use Rattle.std.proofs.Common.{◌∙◌, ap, arith}
use Rattle.vote_state.specs.State.{State, taken, nothing_kept}
use Rattle.vote_state.proofs.MadeAgain.{all_changes, all_valid, state_made}
use Rattle.vote_state.proofs.durable.Durable.changes.Goals as goal

pub returns-clause-changes : goal.returns-clause-changes
returns-clause-changes c =
    all_changes c.args.self.now c.epoch.result c.new-changes.result c.push.new.self c.add_rings.new.changes c.epoch.ensures.epoch c.new-changes.ensures c.in_ok-push.ensures.ok c.in_ok-add_rings.ensures.made

pub returns-clause-valid : goal.returns-clause-valid
returns-clause-valid c = all_valid c.args.self.now c.epoch.result c.add_rings.new.changes (returns-clause-changes c) c.epoch.ensures.epoch (omega arith) c.in_ok-add_rings.ensures.formed

pub returns-clause-again : goal.returns-clause-again
returns-clause-again c = ap (λ cs. taken cs nothing_kept) (returns-clause-changes c) ∙ state_made c.args.self.now c.in_ok-add_rings.ensures.formed
