-- What a node's rules that are of no ring leave alone, and what they may add.
use Rattle.std.specs.Prelude.{◌≡◌, ◌<◌, List, [], ◌∷◌, ◌++◌}
use Rattle.std.specs.List.{AllByRecursion}
use Rattle.mrp_types.specs.declared.id.TheConstants.{END}
use Rattle.frames.specs.declared.body.Body.{Body}
use Rattle.frames.specs.declared.body.Body.TheVariants as body
use Rattle.frames.specs.declared.sent.Sent.{Sent}
use Rattle.protocol.specs.Lines.{Line, Learn}
use Rattle.vote_state.specs.declared.change.Change.{Change}
use Rattle.protocol.specs.Node.{StepSoFar, RingPart, Work, Records}

-- ---- frames and lines that say nothing of what a ring has promised, voted or decided

abbrev pub IsQuiet : Body → Type 0
IsQuiet (body.Submit r hops client seq command) = ⊥
IsQuiet (body.Prepare r ballot lo) = ⊥
IsQuiet (body.Promise r ballot lo hi trim votes) = ⊥
IsQuiet (body.Refuse r ballot promise) = ⊥
IsQuiet (body.Accept r ballot lo hi mask value) = ⊥
IsQuiet (body.Decide r lo hi left value) = ⊥
IsQuiet (body.Chosen r ranges) = ⊥
IsQuiet (body.Trimmed r trim) = ⊥
IsQuiet (body.TrimTo r trim) = ⊥
-- what is safe is told as an instance
IsQuiet (body.Safe r round inst) = inst < END
IsQuiet other = Unit {0}

abbrev pub IsQuietSent : Sent → Type 0
IsQuietSent sent = IsQuiet sent.frame.body

abbrev pub IsNoLearn : Line → Type 0
IsNoLearn (Learn node r lo hi value) = ⊥
IsNoLearn other = Unit {0}

-- ---- what is added to a list

pub record Follows {T : Type 0} (P : T → Type 0) (old new : List T) : Type 0 where
  pub more : List T
  pub whole : new ≡ old ++ more
  pub each : AllByRecursion P more

-- ---- what is left alone

-- a part that differs from another in its learner's base at most
pub record SameBut (q p : RingPart) : Type 0 where
  pub ring : p.ring ≡ q.ring
  pub kept : p.part.kept ≡ q.part.kept
  pub coordinator : p.part.coordinator ≡ q.part.coordinator
  pub held : p.part.learner.held ≡ q.part.learner.held
  pub rounds : p.part.rounds ≡ q.part.rounds

abbrev pub AreSame : List RingPart → List RingPart → Type 0
AreSame [] [] = Unit {0}
AreSame [] (p ∷ ps) = ⊥
AreSame (q ∷ qs) [] = ⊥
AreSame (q ∷ qs) (p ∷ ps) = SameBut q p × AreSame qs ps

-- A step has gone on from `old` to `new` without a rule of a ring.
pub record Untouched (old new : StepSoFar) : Type 0 where
  pub id : new.view.id ≡ old.view.id
  pub journal : new.view.journal ≡ old.view.journal
  pub parts : AreSame old.view.parts new.view.parts
  pub changes : new.changes ≡ old.changes
  pub frames : Follows IsQuietSent old.frames new.frames
  pub replies : Follows IsQuietSent old.replies new.replies
  pub lines : Follows IsNoLearn old.lines new.lines

-- ---- what a step records

abbrev pub changes_in : Work → List Change
changes_in (Records changes) = changes
changes_in other = []
