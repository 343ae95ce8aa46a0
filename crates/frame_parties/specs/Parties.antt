-- Frames between parties of a deployment.
use Rattle.mrp_config.specs.Config.{Config}
use Rattle.frames.specs.declared.sent.Sent.{Sent}
use Rattle.line_rules.specs.Rules.{HasParty}

-- it comes from a party of the deployment, and goes to one
abbrev pub IsOfParties : Config → Sent → Type 0
IsOfParties c sent = HasParty c sent.frame.from × HasParty c sent.to
