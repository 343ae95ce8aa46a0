-- What a rule makes, put together piece by piece: each word adds to what was made before it.
use Rattle.std.specs.Prelude.{List, [], ◌∷◌, ◌++◌}
use Rattle.mrp_types.specs.declared.voted.Decided.{Decided}
use Rattle.vote_state.specs.declared.ring.RingState.{RingState}
use Rattle.vote_state.specs.declared.change.Change.{Change}
use Rattle.frames.specs.declared.sent.Sent.{Sent}
use Rattle.protocol.specs.Lines.{Line}
use Rattle.protocol.specs.Parts.{Campaign, Role, Active, Coordinator, Learner, Rounds, Part, Effects}

-- ---- parts with one field changed

abbrev pub with_kept : RingState → Part → Part
with_kept kept part = record part { kept = kept }

abbrev pub with_coordinator : Coordinator → Part → Part
with_coordinator coordinator part = record part { coordinator = coordinator }

abbrev pub with_learner : Learner → Part → Part
with_learner learner part = record part { learner = learner }

abbrev pub with_rounds : Rounds → Part → Part
with_rounds rounds part = record part { rounds = rounds }

abbrev pub in_role : Role → Coordinator → Coordinator
in_role role coordinator = record coordinator { role = role }

-- the coordinator plays this role, and its greatest refusal stays
abbrev pub with_role : Role → Part → Part
with_role role part = with_coordinator (in_role role part.coordinator) part

abbrev pub with_campaign : Campaign → Part → Part
with_campaign campaign part = with_role (Active campaign) part

-- ---- what was made

-- a rule makes nothing
abbrev pub no_effects : Part → Effects
no_effects part = record { part = part; changes = []; frames = []; lines = []; learned = [] }

abbrev pub with_part : Part → Effects → Effects
with_part part effects = record effects { part = part }

-- a durable change that leaves the part so
abbrev pub with_change : Change → Part → Effects → Effects
with_change change part effects = record effects { part = part; changes = effects.changes ++ change ∷ [] }

abbrev pub with_frames : List Sent → Effects → Effects
with_frames frames effects = record effects { frames = effects.frames ++ frames }

abbrev pub with_line : Line → Effects → Effects
with_line line effects = record effects { lines = effects.lines ++ line ∷ [] }

-- a range that is decided
abbrev pub with_learned : Decided → Effects → Effects
with_learned range effects = record effects { learned = effects.learned ++ range ∷ [] }
