use Rattle.std.proofs.Common.{◌∙◌, ap}
use Rattle.std.specs.Bool.{◌==◌}
use Rattle.std.specs.Int.{bit_at}
use Rattle.client_core.proofs.MissingLaws.{bit_says, found_low}
use Rattle.client_core.proofs.missing.concerns.Goals as goal

pub has_bit-requires : goal.has_bit-requires
has_bit-requires c = found_low c.args.deployment.now.partitions c.args.p.now.id.0 c.args.p.now c.requires.config.partitions.numbers c.requires.there

pub returns : goal.returns
returns c = c.has_bit.ensures ∙ ap (λ bits. bit_at bits c.args.p.now.id.0 == 1) c.concerned.ensures
    ∙ bit_says c.args.command.now c.args.deployment.now.partitions c.args.p.now c.requires.config.partitions.ids c.requires.there
