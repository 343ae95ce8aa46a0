-- What is replied has one spelling, and all that is replied so far is replied later.
use Rattle.std.proofs.Common.{◌≡◌, ℕ, Bool, true, false, List, [], ◌∷◌, ◌++◌, Some, Ok, subst}
use Rattle.std.specs.Prelude.{find, option_map, if◌then◌else◌}
use Rattle.std.specs.List.{AllByRecursion}
use Rattle.mrp_types.specs.declared.id.ClientId.{ClientId}
use Rattle.mrp_types.specs.Book.{Learning}
use Rattle.command_codec.specs.declared.reply.Reply.{Reply}
use Rattle.command_codec.specs.Grammar.{reply_of, reply_at}
use Rattle.command_codec.specs.Replies.{reply_bytes}
use Rattle.command_codec.proofs.ReplyLaws.{IsWhole, reply_law}
use Rattle.command_codec.proofs.Combined.{whole_again}
use Rattle.mrp_config.specs.declared.tables.PartitionTable.{PartitionTable}
use Rattle.mrp_config.specs.Config.{Config}
use Rattle.mrp_config.specs.Valid.{IsValid, IsPartition}
use Rattle.mrp_config.specs.Walk.{node_ids, ring_ids}
use Rattle.quorums.specs.Groups.{Has}
use Rattle.plain_model.specs.Tuples.{round_sizes}
use Rattle.plain_model.specs.Fold.{Answered, answered_of, is_of}
use Rattle.state_laws.specs.Spoken.{IsSpoken}
use Rattle.state_laws.specs.Books.{AreOfBytes}
use Rattle.state_laws.proofs.Given.{below-given}
use Rattle.state_laws.proofs.Batches.{partition-limits}
use Rattle.state_laws.proofs.Spoken.{all_spoken}
use Rattle.faithful.proofs.Quorum.{all_has}
use Rattle.answer_laws.specs.Answering.{RepliesTo, AreReplies}
use Rattle.answer_laws.proofs.Staying.{replies_more}
use Rattle.answer_runs.proofs.Parts.{AreAll}

found_is : (P : Answered → Type 0) (f : Answered → Bool) (xs : List Answered) (reply : Reply) → AllByRecursion P xs → option_map (λ (a : Answered). a.reply) (find f xs) ≡ Some reply
    → (a : Answered) × P a × (a.reply ≡ reply)
found_is P f [] reply all e = absurd (cc)
found_is P f (x ∷ xs) reply all e = go (λ h. found_is P f xs reply all.1 h) (f x) e
  where
    some : (a b : Reply) → Some a ≡ Some b → a ≡ b
    some a b h = cc

    go : (option_map (λ (a : Answered). a.reply) (find f xs) ≡ Some reply → (a : Answered) × P a × (a.reply ≡ reply)) → (t : Bool) → option_map (λ (a : Answered). a.reply) (if t then Some x else find f xs) ≡ Some reply → (a : Answered) × P a × (a.reply ≡ reply)
    go later true h = (x, all.0, some x.reply reply h)
    go later false h = later h

-- what a partition replies is read back
pub spoken : (c : Config) (known : List Learning) (client : ClientId) (seq : ℕ) (p : PartitionTable) (reply : Reply) → IsValid c → AreOfBytes known → Has c.partitions p → RepliesTo c known client seq p reply → IsSpoken reply
spoken c known client seq p reply valid bytes has r =
    let few = partition-limits (node_ids c.nodes) (ring_ids c.rings) p (all_has (IsPartition (node_ids c.nodes) (ring_ids c.rings)) c.partitions p valid.partitions.each has) in
    let given = below-given (round_sizes c) known r.tuple r.entries bytes r.below in
    let f = found_is (λ (a : Answered). IsSpoken a.reply) (is_of client seq) (answered_of p r.entries) reply (all_spoken p few.0 r.entries given) r.counted in
    subst (λ (r : Reply). IsSpoken r) f.2 f.1

pub read_back : (reply : Reply) → IsSpoken reply → reply_of (reply_bytes reply) ≡ Ok reply
read_back reply is = whole_again Reply reply_at reply_bytes IsWhole reply_law reply (is.valid, is.numbers)

pub are_replies : (c : Config) (known : List Learning) (client : ClientId) (seq : ℕ) (ps : List PartitionTable) (replies : List Reply) → AreAll (RepliesTo c known client seq) ps replies → AreReplies c known client seq ps replies
are_replies c known client seq [] [] all = tt
are_replies c known client seq [] (reply ∷ replies) all = absurd all
are_replies c known client seq (p ∷ ps) [] all = absurd all
are_replies c known client seq (p ∷ ps) (reply ∷ replies) all = (all.0, are_replies c known client seq ps replies all.1)

pub all_more : (c : Config) (known more : List Learning) (client : ClientId) (seq : ℕ) (ps : List PartitionTable) (replies : List Reply) → AreReplies c known client seq ps replies → AreReplies c (known ++ more) client seq ps replies
all_more c known more client seq [] [] all = tt
all_more c known more client seq [] (reply ∷ replies) all = absurd all
all_more c known more client seq (p ∷ ps) [] all = absurd all
all_more c known more client seq (p ∷ ps) (reply ∷ replies) all = (replies_more c known more client seq p reply all.0, all_more c known more client seq ps replies all.1)
