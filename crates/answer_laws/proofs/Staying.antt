-- What is replied by a book is replied by each that goes on from it.
use Rattle.std.proofs.Common.{ℕ, List, ◌++◌}
use Rattle.mrp_types.specs.declared.id.ClientId.{ClientId}
use Rattle.mrp_types.specs.declared.id.PartitionId.{PartitionId}
use Rattle.mrp_types.specs.Book.{Learning}
use Rattle.command_codec.specs.declared.reply.Reply.{Reply}
use Rattle.mrp_config.specs.declared.tables.PartitionTable.{PartitionTable}
use Rattle.mrp_config.specs.Config.{Config}
use Rattle.plain_model.specs.Tuples.{round_sizes}
use Rattle.plain_model.proofs.Known.{below_more}
use Rattle.answer_laws.specs.Answering.{RepliesTo, IsReplyOf}

pub replies_more : (c : Config) (known more : List Learning) (k : ClientId) (n : ℕ) (p : PartitionTable) (reply : Reply) → RepliesTo c known k n p reply → RepliesTo c (known ++ more) k n p reply
replies_more c known more k n p reply r = record {
  tuple = r.tuple;
  valid = r.valid;
  entries = r.entries;
  below = below_more (round_sizes c) known more r.tuple r.entries r.below;
  counted = r.counted;
}

pub bytes_more : (c : Config) (known more : List Learning) (k : ClientId) (n : ℕ) (id : PartitionId) (bytes : List ℕ) → IsReplyOf c known k n id bytes → IsReplyOf c (known ++ more) k n id bytes
bytes_more c known more k n id bytes r = record {
  table = r.table;
  there = r.there;
  reply = r.reply;
  replies = replies_more c known more k n r.table r.reply r.replies;
  spelled = r.spelled;
}
