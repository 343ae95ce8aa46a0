-- What a node does with what an attempt says: the protocol's steps on their way.
use Rattle.std.specs.Prelude.{ℕ, ◌≡◌, ◌+◌, min, [], ◌∷◌, Option, Some, None}
use Rattle.std.specs.List.{flat_map}
use Rattle.mrp_config.specs.Config.{Config}
use Rattle.plain_model.specs.StateBytes.{state_of}
use Rattle.plain_model.specs.Tuples.{instances}
use Rattle.protocol.specs.Lines.{Begin, Refuse}
use Rattle.protocol.specs.Node.{StepSoFar, View, Service, Recovering, Attempt, Choice, with_stage, prints, sends_all}
use Rattle.protocol.specs.Recovery.{epoch_of, asks_part, asks_checkpoint, asks_missing, others_of, own_tuple, chooses, restores_or_begins, begins}
use Rattle.recovery.specs.Attempts.{Trying}
use Rattle.recovery.specs.Turns.{Told, IsChosen, LacksAnswers, IsWhole, LacksPart, AsksAgain, HasTooFew, HasEnded}

-- An attempt as it is kept stands for one of the protocol, in a service of a node: they differ in how ticks past the last are
-- counted alone.
pub record StandsFor (config : Config) (service : Service) (view : View) (r : Trying) (attempt : Attempt) : Type 0 where
  pub own : r.own ≡ view.id
  pub epoch : r.epoch ≡ epoch_of view
  pub replicas : r.replicas ≡ service.partition.replicas
  pub needed : r.needed ≡ service.partition.recovery_quorum
  pub limit : r.limit ≡ config.attempt
  pub number : r.attempt.number ≡ attempt.number
  pub ticks : r.attempt.ticks ≡ min attempt.ticks (config.attempt + 1)
  pub answers : r.attempt.answers ≡ attempt.answers
  pub choice : r.attempt.choice ≡ attempt.choice

-- the protocol's attempt after a call
abbrev pub left_of : Trying → Attempt → Attempt
left_of r attempt = record attempt { answers = r.attempt.answers; choice = r.attempt.choice }

-- A new choice gets its line, and is installed or asked for; of a whole one the state is read; of another the missing part is asked
-- for; without a choice the replica waits.
abbrev pub does : Config → Service → Attempt → Option Choice → Told → StepSoFar → StepSoFar
does config service attempt None told a = with_stage service (Recovering attempt) a
does config service attempt (Some choice) (IsChosen tuple from) a = chooses config service attempt (from, tuple) a
does config service attempt (Some choice) (IsWhole tuple) a = restores_or_begins config service tuple (state_of service.partition choice.bytes) a
does config service attempt (Some choice) (LacksPart offset) a = sends_all (asks_part a.view attempt choice) (with_stage service (Recovering attempt) a)
does config service attempt (Some choice) LacksAnswers a = a
does config service attempt (Some choice) AsksAgain a = a
does config service attempt (Some choice) (HasTooFew answered needed) a = a
does config service attempt (Some choice) HasEnded a = a

abbrev pub goes_on : Config → Service → Attempt → Trying → Told → StepSoFar → StepSoFar
goes_on config service attempt r told a = does config service (left_of r attempt) r.attempt.choice told a

-- what it does on a tick, once the tick is counted: an attempt that has ended is followed by the next one
abbrev pub does_on_tick : Config → Service → Attempt → Told → StepSoFar → StepSoFar
does_on_tick config service attempt (HasTooFew answered needed) a =
    begins config service (prints (Refuse a.view.id (epoch_of a.view) attempt.number answered needed ∷ []) (with_stage service (Recovering attempt) a))
does_on_tick config service attempt HasEnded a = begins config service (with_stage service (Recovering attempt) a)
does_on_tick config service attempt AsksAgain a = sends_all (asks_missing service attempt attempt.choice a.view) (with_stage service (Recovering attempt) a)
does_on_tick config service attempt (IsChosen tuple from) a = sends_all [] (with_stage service (Recovering attempt) a)
does_on_tick config service attempt (IsWhole tuple) a = sends_all [] (with_stage service (Recovering attempt) a)
does_on_tick config service attempt (LacksPart offset) a = sends_all [] (with_stage service (Recovering attempt) a)
does_on_tick config service attempt LacksAnswers a = sends_all [] (with_stage service (Recovering attempt) a)

-- the line of a new attempt, and the asks of the other replicas
abbrev pub asks_all : Service → ℕ → StepSoFar → StepSoFar
asks_all service number a =
    sends_all (flat_map (asks_checkpoint a.view number) (others_of a.view.id service.partition))
    (prints (Begin a.view.id (epoch_of a.view) number (instances (own_tuple a.view service)) ∷ []) a)
