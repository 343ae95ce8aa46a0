-- How a ready replica takes what was learned: place after place in the one order of its rings, and entry after entry.
use Rattle.std.specs.Prelude.{ℕ, zero, suc, ◌+◌, ◌^◌, List, [], ◌∷◌, ◌++◌, map, Option, Some, None, if◌then◌else◌, nat_lt}
use Rattle.mrp_types.specs.declared.id.NodeId.{NodeId}
use Rattle.mrp_types.specs.declared.id.RingId.{RingId}
use Rattle.mrp_types.specs.declared.id.Party.TheVariants.{Node, Client}
use Rattle.mrp_types.specs.declared.id.TheConstants.{END}
use Rattle.mrp_types.specs.declared.value.Value.{Value}
use Rattle.mrp_types.specs.declared.value.Value.TheVariants.{Skip, Batch}
use Rattle.mrp_types.specs.declared.value.Entry.{Entry}
use Rattle.mrp_config.specs.Config.{Config}
use Rattle.frames.specs.declared.sent.Sent.{Sent}
use Rattle.frames.specs.declared.body.Body.TheVariants.{Reply as ReplyFrame}
use Rattle.plain_model.specs.Replicas.{AppliedAll, applies, entries_of_batch}
use Rattle.plain_model.specs.Tuples.{round_sizes, next_place, past}
use Rattle.protocol.specs.Lines.{Line, Deliver, Reply}
use Rattle.protocol.specs.Learner.{value_in}
use Rattle.protocol.specs.Node.{StepSoFar, View, RingPart, Service, Stage, Ready, Standing, part_at, with_stage, prints}

-- what was learned at a place, of a ring of which the node is a member; nothing at the end of all instances
abbrev pub value_of_part : Option RingPart → ℕ → Option Value
value_of_part None inst = None
value_of_part (Some p) inst = if nat_lt inst END then value_in p.part.learner inst else None

abbrev pub value_at_place : View → RingId × ℕ → Option Value
value_at_place view place = value_of_part (part_at view place.0) place.1

-- the place for which a replica waits, or which it takes next
abbrev pub place_of : Config → Standing → RingId × ℕ
place_of config standing = next_place (round_sizes config) standing.tuple

-- ---- replies

-- the line of a reply
abbrev pub reply_line : NodeId → RingId × ℕ → ℕ × Entry × List ℕ → Line
reply_line node place r = Reply node place.0 place.1 r.0 r.1.client r.1.seq r.2

-- and its frame, to the client that the entry names
abbrev pub reply_frame : NodeId → Service → ℕ × Entry × List ℕ → Sent
reply_frame node service r = record {
  to = Client r.1.client;
  frame = record { from = Node node; body = ReplyFrame r.1.client r.1.seq service.partition.id r.2 };
}

-- the lines and the frames of a batch's replies, in the order of its entries
abbrev pub replying : Service → RingId × ℕ → List (ℕ × Entry × List ℕ) → StepSoFar → StepSoFar
replying service place replied a = record a {
  lines = a.lines ++ map (reply_line a.view.id place) replied;
  replies = a.replies ++ map (reply_frame a.view.id service) replied;
}

-- ---- places

-- just past the place, in the same state: a skip place prints nothing
abbrev pub skipped : Config → Standing → Standing
skipped config standing = record standing { tuple = past (round_sizes config) standing.tuple }

-- just past the place, with one deliver line more
abbrev pub passed_batch : Config → Standing → Standing
passed_batch config standing = record standing { tuple = past (round_sizes config) standing.tuple; delivered = standing.delivered + 1 }

-- A batch is delivered: its line, then its entries in order, each with the line and the frame of its reply where it has one.
abbrev pub delivers_applied : Config → Service → Standing → RingId × ℕ → AppliedAll → StepSoFar → StepSoFar
delivers_applied config service standing place applied a =
    with_stage service (Ready (record (passed_batch config standing) { replica = applied.replica }))
    (replying service place applied.replies (prints (Deliver a.view.id place.0 place.1 ∷ []) a))

abbrev pub delivers : Config → Service → Standing → RingId × ℕ → List ℕ → StepSoFar → StepSoFar
delivers config service standing place batch a =
    delivers_applied config service standing place (applies service.partition standing.replica (entries_of_batch batch)) a

abbrev pub takes_place : Config → Service → Standing → RingId × ℕ → Value → StepSoFar → StepSoFar
takes_place config service standing place Skip a = with_stage service (Ready (skipped config standing)) a
takes_place config service standing place (Batch batch) a = delivers config service standing place batch a

abbrev pub merges_place : (StepSoFar → StepSoFar) → Config → Service → Standing → RingId × ℕ → Option Value → StepSoFar → StepSoFar
merges_place rest config service standing place None a = a
merges_place rest config service standing place (Some value) a = rest (takes_place config service standing place value a)

abbrev pub merges_stage : (StepSoFar → StepSoFar) → Config → Service → Stage → StepSoFar → StepSoFar
merges_stage rest config service (Ready standing) a = merges_place rest config service standing (place_of config standing) (value_at_place a.view (place_of config standing)) a
merges_stage rest config service other a = a

abbrev pub merges_service : (StepSoFar → StepSoFar) → Config → Option Service → StepSoFar → StepSoFar
merges_service rest config None a = a
merges_service rest config (Some service) a = merges_stage rest config service service.stage a

abbrev pub merges_up_to : ℕ → Config → StepSoFar → StepSoFar
merges_up_to zero config a = a
merges_up_to (suc most) config a = merges_service (merges_up_to most config) config a.view.service a

-- A ready replica takes place after place while the next one is learned. There are fewer places than this below the end.
unfoldable pub merges : Config → StepSoFar → StepSoFar
merges config a = merges_up_to (2 ^ 44 + 1) config a
