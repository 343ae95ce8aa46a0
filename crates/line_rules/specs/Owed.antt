-- What deliver lines owe: a reply line to each entry that its partition replies to.
use Rattle.std.specs.Prelude.{ℕ, suc, List, [], ◌∷◌, ◌++◌, drop, Option, Some, None}
use Rattle.mrp_types.specs.declared.id.NodeId.{NodeId}
use Rattle.mrp_types.specs.declared.place.Place.{Place}
use Rattle.mrp_types.specs.declared.value.Entry.{Entry}
use Rattle.mrp_types.specs.Book.{Learning}
use Rattle.command_codec.specs.declared.reply.Reply.{Reply as Answered}
use Rattle.command_codec.specs.Replies.{reply_bytes}
use Rattle.mrp_config.specs.Config.{Config, partition_of}
use Rattle.mrp_config.specs.declared.tables.PartitionTable.{PartitionTable}
use Rattle.plain_model.specs.Tuples.{round_sizes, tuple_at}
use Rattle.plain_model.specs.Fold.{entries_below, entries_at_place, place_with, reply_to}
use Rattle.transcript.specs.declared.line.Line.{Line}
use Rattle.transcript.specs.declared.line.Line.TheVariants.{Deliver, Reply}
use Rattle.line_rules.specs.Scanners.{learned}

-- the line of a reply to the entry at an index of a place's batch, where it gets one
abbrev pub reply_line : NodeId → Place → ℕ → Entry → Option Answered → List Line
reply_line node place index e None = []
reply_line node place index e (Some reply) = Reply node place.ring place.inst index e.client e.seq (reply_bytes reply) ∷ []

-- those of entries one after another, of which the first is at this index, after those that the partition had before
abbrev pub reply_lines : PartitionTable → NodeId → Place → List Entry → ℕ → List Entry → List Line
reply_lines p node place before index [] = []
reply_lines p node place before index (e ∷ es) =
    reply_line node place index e (reply_to p before e) ++ reply_lines p node place (before ++ e ∷ []) (suc index) es

-- where all places before this one are in the book
abbrev pub replies_after : PartitionTable → NodeId → Place → Option (List Entry) → List Entry → List Line
replies_after p node place None es = []
replies_after p node place (Some below) es = reply_lines p node place below 0 es

abbrev pub replies_of : (ℕ → ℕ) → List Learning → NodeId → Place → Option PartitionTable → List Line
replies_of m known node place None = []
replies_of m known node place (Some p) = replies_after p node place (entries_below m known (tuple_at m p.rings place)) (entries_at_place known place)

-- what a delivery owes, by the lines before it: a reply line for each entry of its batch that the partition replies to, in order
abbrev pub owed_by : Config → List Line → NodeId → Place → List Line
owed_by c before node place = replies_of (round_sizes c) (learned before) node place (partition_of c.partitions node)

-- The reply lines that are owed after these lines. A deliver line owes its own, and each reply line pays the first of those owed.
abbrev pub owed : Config → List Line → List Line
owed c [] = []
owed c (Deliver node ring inst ∷ before) = owed_by c before node (place_with ring inst)
owed c (Reply node ring inst index client seq reply ∷ before) = drop 1 (owed c before)
owed c (other ∷ before) = owed c before
