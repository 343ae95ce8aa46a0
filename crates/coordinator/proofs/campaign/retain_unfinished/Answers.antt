use Rattle.std.proofs.Common.{rules}
use Rattle.std.specs.Prelude.{not}
use Rattle.std.proofs.lemmas.Fn.{filter_same}
use Rattle.mrp_types.specs.declared.voted.Decided.{Decided}
use Rattle.protocol.specs.Learner.{is_finished}
use Rattle.coordinator.proofs.campaign.retain_unfinished.Goals as goal

pub returns : goal.returns
returns c = filter_same _ (λ (range : Decided). not (is_finished c.args.trim c.args.learner.now.held range)) _ (λ x b f k. search rules) _ _ c.retain.ensures.filtered
