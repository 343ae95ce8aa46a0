-- The work of a step: what it asks for, and what it leaves.
use Rattle.std.specs.Prelude.{◌≡◌, ◌≤◌, ◌<◌, ◌-◌, ◌^◌, ℕ, true, List, [], ◌∷◌, length}
use Rattle.std.specs.List.{AllByRecursion}
use Rattle.mrp_types.specs.declared.id.RingId.{RingId}
use Rattle.mrp_types.specs.Tuples.{IsTuple}
use Rattle.gate_log.specs.Records.{end_of}
use Rattle.vote_state.specs.declared.change.Change.{Change}
use Rattle.vote_state.specs.State.{IsState}
use Rattle.vote_state.specs.Valid.{IsChange}
use Rattle.vote_journal.specs.Epochs.{epochs_rise}
use Rattle.vote_journal.specs.Journal.{Journal, recorded, recorded_end, compact_record, compacted_journal}
use Rattle.checkpoint.specs.Checkpoints.{Checkpoints, saved}
use Rattle.protocol.specs.Node.{View, Work, Nothing, Records, Saves, Compacts}

-- ---- what work asks for

-- changes that may stand as the next record of a journal, with room for that record
pub record MayRecord (j : Journal) (changes : List Change) : Type 0 where
  pub each : AllByRecursion IsChange changes
  pub rise : epochs_rise j.state.epoch changes ≡ true
  pub room : recorded_end j changes ≤ j.log.limit
  pub limit : j.log.limit < 2 ^ 32

-- a checkpoint that has a spelling, and a generation that isn't the last
pub record MaySave (c : Checkpoints) (tuple : List (RingId × ℕ)) (state : List ℕ) : Type 0 where
  pub spelled : IsTuple tuple
  pub size : length state < 2 ^ 64
  pub generation : c.generation < 2 ^ 64 - 1

-- a state that has a spelling, with room for its record, and a generation that isn't the last
pub record MayCompact (j : Journal) : Type 0 where
  pub state : IsState j.state
  pub epoch : j.state.epoch < 2 ^ 32
  pub generation : j.log.generation < 2 ^ 64 - 1
  pub room : end_of (compact_record j ∷ []) ≤ j.log.limit
  pub limit : j.log.limit < 2 ^ 32

abbrev pub MayWork : View → Work → Type 0
MayWork view Nothing = Unit {0}
MayWork view (Records changes) = MayRecord view.journal changes
MayWork view (Saves tuple state) = MaySave view.checkpoints tuple state
MayWork view Compacts = MayCompact view.journal

-- ---- what it leaves

abbrev pub journal_after : View → Work → Journal
journal_after view Nothing = view.journal
journal_after view (Records changes) = recorded view.journal changes
journal_after view (Saves tuple state) = view.journal
journal_after view Compacts = compacted_journal view.journal

abbrev pub checkpoints_after : View → Work → Checkpoints
checkpoints_after view Nothing = view.checkpoints
checkpoints_after view (Records changes) = view.checkpoints
checkpoints_after view (Saves tuple state) = saved view.checkpoints tuple state
checkpoints_after view Compacts = view.checkpoints
