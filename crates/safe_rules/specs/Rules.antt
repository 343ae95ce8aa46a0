-- The ten safe rules of a run. Those of a ring are said in `ring_runs`, of an earlier and a later history or of one; those of
-- clients and of partitions stand here, each of what the run has left.
use Rattle.std.specs.Prelude.{◌≡◌, ℕ, ◌<◌, true, List, ◌++◌, Some}
use Rattle.std.specs.List.{AllByRecursion}
use Rattle.mrp_types.specs.declared.id.NodeId.{NodeId}
use Rattle.mrp_types.specs.declared.id.ClientId.{ClientId}
use Rattle.mrp_types.specs.declared.id.RingId.{RingId}
use Rattle.mrp_types.specs.declared.value.Entry.{Entry}
use Rattle.mrp_types.specs.declared.value.Value.{Value}
use Rattle.command_codec.specs.declared.command.Command.{Command}
use Rattle.mrp_config.specs.Config.{Config, partition_of}
use Rattle.mrp_config.specs.declared.tables.PartitionTable.{PartitionTable}
use Rattle.mrp_config.specs.declared.tables.RingTable.{RingTable}
use Rattle.frames.specs.declared.body.Body.{Body}
use Rattle.frames.specs.declared.body.Body.TheVariants.{HaveCheckpoint, Part}
use Rattle.frames.specs.declared.sent.Sent.{Sent}
use Rattle.quorums.specs.Groups.{Has}
use Rattle.checkpoint.specs.Checkpoints.{Checkpoint}
use Rattle.plain_model.specs.Fold.{entries_of_value}
use Rattle.plain_model.specs.Lines.{learnings}
use Rattle.plain_model.specs.Tuples.{round_sizes, is_tuple_of, instances}
use Rattle.vote_state.specs.State.{trim_at}
use Rattle.protocol.specs.Lines.{Answer}
use Rattle.protocol.specs.Node.{Standing}
use Rattle.bare_world.specs.Worlds.{Happening, Possible, nothing}
use Rattle.bare_world.specs.Runs.{run}
use Rattle.world_model.specs.Worlds.{World}
use Rattle.ask_laws.specs.Asks.{asked_in, IsAsked}
use Rattle.answer_laws.specs.Answering.{AreInPlace}
use Rattle.line_rules.specs.Rules.{AllKnown}
use Rattle.recovery_lines.specs.Ties.{IsAnswer, TellsTuple}
use Rattle.line_runs.specs.Invariant.{latest_first, node}
use Rattle.line_runs.specs.Laws.{IsHeld, IsPossible, IsRun, NodeSent, ReachesTold, checkpoints_of, host_of, lines_of, trim_told}
use Rattle.state_steps.specs.Folded.{IsStateAt}
use Rattle.state_steps.specs.States.{IsCheckpointAt}
use Rattle.state_runs.specs.Laws.{IsReady, SentPart}
use Rattle.ring_runs.specs.Histories.{History, at_first, history}
use Rattle.ring_runs.specs.Rules.{ChooseRule, LearnRule, PromiseRule, ProposeRule, StartRule, VoteRule}
use Rattle.ring_runs.specs.Votes.{IsProposed}
use Rattle.disk_runs.specs.Runs.{WorldTies, world_after}

-- ---- Ask

-- The entry's client, one of the deployment, was told to ask this very command, and took it under this number, on the ring that
-- orders it; and the number isn't above the client's last one.
pub record WasAsked (c : Config) (hs : List Happening) (ring : ℕ) (e : Entry) : Type 0 where
  pub asked : IsAsked c (asked_in c hs) ring e
  pub below : e.seq < ((run c hs nothing).clients e.client.0).next

-- An answered number is of a command that the client took under it, and the first entry of this number stands at a place in the
-- book, before which each concerned partition has all its places in the book.
pub record IsAnswered (c : Config) (hs : List Happening) (client : ClientId) (seq : ℕ) : Type 0 where
  pub command : Command
  pub asked : asked_in c hs client.0 seq ≡ Some command
  pub place : AreInPlace c (learnings (lines_of c hs)) client seq command

-- each entry of a proposed value was asked on its ring; and each number that was answered has its place in the book
pub record AskRule (c : Config) (hs : List Happening) : Type 0 where
  pub proposed : (table : RingTable) → Has c.rings table → (ballot i : ℕ) (value : Value) → IsProposed table (history c hs at_first) ballot i value
      → AllByRecursion (WasAsked c hs table.id.0) (entries_of_value value)
  pub answered : (client : ClientId) (seq : ℕ) (bytes : List ℕ) → Has (lines_of c hs) (Answer client seq bytes) → IsAnswered c hs client seq

-- ---- Save

-- A checkpoint that a frame names or carries was told by its node, its tuple is a valid one of that node's partition, and every place
-- below it is in the book.
pub record IsNamed (c : Config) (hs : List Happening) (x : NodeId) (tuple : List (RingId × ℕ)) : Type 0 where
  pub told : TellsTuple c (latest_first (lines_of c hs)) x tuple
  pub known : AllKnown (latest_first (lines_of c hs)) tuple

-- A checkpoint that some disk may stand for has a valid tuple, every place below it is in the book, and its bytes are the written
-- state there; each that a frame names or carries is such a tuple's, and the bytes that are carried are of that state. What a
-- replica told, in a line or in a frame, is reached by the newest checkpoint of each of its possible states.
pub record SaveRule (c : Config) (hs : List Happening) : Type 0 where
  pub disks : (n : ℕ) (s : Possible) (p : PartitionTable) (newest : Checkpoint) → IsPossible (host_of c hs n) s → partition_of c.partitions (node n) ≡ Some p → s.newest ≡ Some newest
      → IsCheckpointAt c (latest_first (lines_of c hs)) p newest
  pub named : (sent : Sent) (from to : NodeId) (body : Body) (x : NodeId) (tuple : List (RingId × ℕ)) → Has (run c hs nothing).frames sent → NodeSent sent from to body
      → Has (checkpoints_of from to body) (x, tuple) → IsNamed c hs x tuple
  pub carried : (sent : Sent) (epoch attempt : ℕ) (tuple : List (RingId × ℕ)) (offset total : ℕ) (bytes : List ℕ) → Has (run c hs nothing).frames sent
      → sent.frame.body ≡ Part epoch attempt tuple offset total bytes → SentPart c (latest_first (lines_of c hs)) sent tuple offset total bytes
  pub reached : (n : ℕ) (s : Possible) (p : PartitionTable) → IsPossible (host_of c hs n) s → partition_of c.partitions (node n) ≡ Some p → ReachesTold c hs (node n) p s

-- ---- Trim

-- A trim that some disk may stand for, or that a frame tells, is 0, or some partition subscribes to the ring and in each that does a
-- trim quorum of replicas have, in every state that their disks may stand for, a checkpoint that reaches it.
pub record TrimRule (c : Config) (hs : List Happening) : Type 0 where
  pub disks : (n : ℕ) (s : Possible) → IsPossible (host_of c hs n) s → (ring : RingId) → IsHeld c hs ring (trim_at s.state ring)
  pub frames : (sent : Sent) (from to : NodeId) (body : Body) (ring : RingId) (trim : ℕ) → Has (run c hs nothing).frames sent → NodeSent sent from to body
      → trim_told body ≡ Some (ring, trim) → IsHeld c hs ring trim

-- ---- Restore

-- A ready replica stands at a valid tuple, every place below it is in the book, and it keeps the state there.
pub record StandsAt (c : Config) (hs : List Happening) (p : PartitionTable) (standing : Standing) : Type 0 where
  pub valid : is_tuple_of (round_sizes c) p.rings standing.tuple ≡ true
  pub known : AllKnown (latest_first (lines_of c hs)) standing.tuple
  pub state : IsStateAt c (latest_first (lines_of c hs)) p standing.tuple standing.replica

-- An answer that names an attempt was sent after the attempt began, and reaches all that its sender had told by then.
pub record RestoreRule (c : Config) (hs : List Happening) : Type 0 where
  pub answers : (sent : Sent) (from to : NodeId) (epoch attempt : ℕ) (tuple : List (RingId × ℕ)) → Has (run c hs nothing).frames sent
      → NodeSent sent from to (HaveCheckpoint epoch attempt tuple) → IsAnswer (latest_first (lines_of c hs)) to.0 epoch attempt from.0 (instances tuple)
  pub ready : (n : ℕ) (p : PartitionTable) (standing : Standing) → IsReady c hs n p standing → StandsAt c hs p standing

-- ---- all ten

-- of a ring: what was promised, voted, chosen and started by the end of the first happenings stays so through all of them
pub record KeepsRingRules (table : RingTable) (early late : History) : Type 0 where
  pub promise : PromiseRule table early late
  pub start : StartRule table early late
  pub vote : VoteRule table early late
  pub propose : ProposeRule table late
  pub choose : ChooseRule table early late
  pub learn : LearnRule table late

pub record KeepsSafeRules (c : Config) (first more : List Happening) : Type 0 where
  pub rings : (table : RingTable) → Has c.rings table → KeepsRingRules table (history c first at_first) (history c more (history c first at_first))
  pub ask : AskRule c (first ++ more)
  pub save : SaveRule c (first ++ more)
  pub trim : TrimRule c (first ++ more)
  pub restore : RestoreRule c (first ++ more)

-- Two worlds of a run on disks, an earlier and a later one: they are tied to two worlds of a run without bytes, which keeps the
-- rules.
pub record AreSafe (c : Config) (early late : World) : Type 0 where
  pub first : List Happening
  pub more : List Happening
  pub is : IsRun c (first ++ more)
  pub before : WorldTies c early (world_after c first)
  pub after : WorldTies c late (world_after c (first ++ more))
  pub rules : KeepsSafeRules c first more
