-- What a delivery tells: a line and a frame for each reply.
use Rattle.std.specs.Prelude.{ℕ, ◌≡◌, List, ◌++◌, map}
use Rattle.mrp_types.specs.declared.id.NodeId.{NodeId}
use Rattle.mrp_types.specs.declared.id.RingId.{RingId}
use Rattle.mrp_types.specs.declared.id.PartitionId.{PartitionId}
use Rattle.mrp_types.specs.declared.id.Party.TheVariants.{Node, Client}
use Rattle.mrp_types.specs.declared.place.Place.{Place}
use Rattle.mrp_types.specs.declared.value.Entry.{Entry}
use Rattle.frames.specs.declared.sent.Sent.{Sent}
use Rattle.frames.specs.declared.body.Body.TheVariants.{Reply as ReplyFrame}
use Rattle.protocol.specs.Lines.{Line}
use Rattle.protocol.specs.Merging.{reply_line}
use Rattle.delivery.specs.declared.batch.Delivery.{Delivery}

-- a place as a pair
abbrev pub pair_of : Place → RingId × ℕ
pair_of place = (place.ring, place.inst)

-- the frame of a reply: an entry of a batch by its index, and the bytes of the reply to it
abbrev pub reply_sent : NodeId → PartitionId → ℕ × Entry × List ℕ → Sent
reply_sent own partition r = record {
  to = Client r.1.client;
  frame = record { from = Node own; body = ReplyFrame r.1.client r.1.seq partition r.2 };
}

-- The line and the frame of each of these replies stand behind the lines and frames that were there.
pub record Told (at : Delivery) (replied : List (ℕ × Entry × List ℕ)) (old_lines new_lines : List Line) (old_sent new_sent : List Sent) : Type 0 where
  pub lines : new_lines ≡ old_lines ++ map (reply_line at.own (pair_of at.place)) replied
  pub sent : new_sent ≡ old_sent ++ map (reply_sent at.own at.partition) replied
