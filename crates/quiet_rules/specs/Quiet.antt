-- What a rule of a ring makes is quiet: it neither delivers nor replies, sends no part of a checkpoint, and leaves the learner.
use Rattle.std.specs.Prelude.{◌≡◌, List, [], ◌∷◌}
use Rattle.std.specs.List.{AllByRecursion}
use Rattle.mrp_config.specs.Config.{Config}
use Rattle.frames.specs.declared.body.Body.{Body}
use Rattle.frames.specs.declared.body.Body.TheVariants.{Part, Reply}
use Rattle.frames.specs.declared.sent.Sent.{Sent}
use Rattle.protocol.specs.Lines.{Line, Deliver, Trim, BallotLimit, InstanceLimit, Reply as ReplyLine, Frame}
use Rattle.protocol.specs.Parts.{Ring, Effects}
use Rattle.line_rules.specs.Rules.{IsInTurn, NamesFit}
use Rattle.line_rules.specs.Owed.{owed}

-- ---- frames

-- neither a part of a checkpoint nor a reply
abbrev pub IsPlainBody : Body → Type 0
IsPlainBody (Part epoch attempt tuple offset total bytes) = ⊥
IsPlainBody (Reply client seq partition reply) = ⊥
IsPlainBody other = Unit {0}

abbrev pub IsPlainSent : Sent → Type 0
IsPlainSent sent = IsPlainBody sent.frame.body

-- ---- lines

-- what a rule of a ring may print: a trim, or a limit of this node and this ring
abbrev pub IsRingLine : Ring → Line → Type 0
IsRingLine ring (Trim node r inst) = Unit {0}
IsRingLine ring (BallotLimit node r) = (node ≡ ring.own) × (r ≡ ring.id)
IsRingLine ring (InstanceLimit node r) = (node ≡ ring.own) × (r ≡ ring.id)
IsRingLine ring other = ⊥

-- it owes nothing, and pays nothing
abbrev pub OwesNothing : Line → Type 0
OwesNothing (Deliver node ring inst) = ⊥
OwesNothing (ReplyLine node ring inst index client seq reply) = ⊥
OwesNothing other = Unit {0}

-- each line is in its turn, the latest first
abbrev pub AreInTurn : Config → List Line → Type 0
AreInTurn c [] = Unit {0}
AreInTurn c (line ∷ before) = IsInTurn c before line × AreInTurn c before

-- and nothing is owed any more
pub record AllPaid (c : Config) (lines : List Line) : Type 0 where
  pub turns : AreInTurn c lines
  pub paid : owed c lines ≡ []

-- The names of a line of a node or a client fit the deployment. Those of a reply line are named by what it pays, and a frame is
-- listed by whoever asks for it.
abbrev pub OwnNamesFit : Config → Line → Type 0
OwnNamesFit c (ReplyLine node ring inst index client seq reply) = Unit {0}
OwnNamesFit c (Frame number shown) = Unit {0}
OwnNamesFit c other = NamesFit c other

-- ---- what a rule makes of what was made before it

pub record Quiet (ring : Ring) (old new : Effects) : Type 0 where
  pub learner : new.part.learner ≡ old.part.learner
  pub frames : AllByRecursion IsPlainSent old.frames → AllByRecursion IsPlainSent new.frames
  pub lines : AllByRecursion (IsRingLine ring) old.lines → AllByRecursion (IsRingLine ring) new.lines
