-- Batches of entries, and what a deployment keeps to.
use Rattle.std.proofs.Common.{◌≡◌, ◌<◌, ℕ, suc, true, List, [], ◌∷◌, ◌++◌, Option, Some, None, refl, sym, ap, ◌∙◌, append_assoc, append-nil}
use Rattle.std.specs.Prelude.{option_map}
use Rattle.std.proofs.Math.Path.{ap₂}
use Rattle.mrp_types.specs.declared.id.RingId.{RingId}
use Rattle.mrp_types.specs.declared.value.Entry.{Entry}
use Rattle.mrp_types.specs.Book.{Learning}
use Rattle.command_codec.specs.declared.reply.Reply.{Reply}
use Rattle.command_codec.specs.Replies.{reply_bytes}
use Rattle.mrp_config.specs.declared.tables.PartitionTable.{PartitionTable}
use Rattle.mrp_config.specs.Config.{Config}
use Rattle.mrp_config.specs.Valid.{IsValid, IsPartition, IncreasesFrom, numbers_of_rings}
use Rattle.mrp_config.proofs.Rounds.{round_in_range}
use Rattle.plain_model.specs.Replicas.{Replica, Applied, AppliedAll, applies, applies_from, with_applied, noted}
use Rattle.plain_model.specs.StateBytes.{state_bytes}
use Rattle.plain_model.specs.Tuples.{round_sizes, next_place, past, is_tuple_of}
use Rattle.plain_model.specs.Fold.{reply_to, replica_after, both_known, entries_known, entries_below, state_below}
use Rattle.plain_model.proofs.FoldLaw.{reply-follows}
use Rattle.state_laws.specs.Spoken.{replied, replies_listed}
use Rattle.state_laws.specs.States.{HasFewLogs}
use Rattle.tuple_laws.proofs.Below.{below-past}

abbrev made : Replica → List (ℕ × Entry × List ℕ) → AppliedAll
made r replies = record { replica = r; replies = replies }

noted_is : (index : ℕ) (e : Entry) (replies : List (ℕ × Entry × List ℕ)) (o : Option Reply) → noted index e replies (option_map reply_bytes o) ≡ replies ++ replied index e o
noted_is index e replies None = sym (append-nil replies)
noted_is index e replies (Some reply) = refl

from-follows : (p : PartitionTable) (index : ℕ) (before es : List Entry) (replies : List (ℕ × Entry × List ℕ)) →
    applies_from p index (made (replica_after p before) replies) es ≡ made (replica_after p (before ++ es)) (replies ++ replies_listed p index before es)
from-follows p index before [] replies = ap₂ made (ap (λ (l : List Entry). replica_after p l) (sym (append-nil before))) (sym (append-nil replies))
from-follows p index before (e ∷ es) replies =
    ap (λ (a : Applied). applies_from p (suc index) (with_applied index e replies a) es) (reply-follows p before e)
    ∙ ap (λ (l : List (ℕ × Entry × List ℕ)). applies_from p (suc index) (made (replica_after p (before ++ e ∷ [])) l) es) (noted_is index e replies (reply_to p before e))
    ∙ from-follows p (suc index) (before ++ e ∷ []) es (replies ++ replied index e (reply_to p before e))
    ∙ ap₂ made (ap (λ (l : List Entry). replica_after p l) (append_assoc before (e ∷ []) es))
    (append_assoc replies (replied index e (reply_to p before e)) (replies_listed p (suc index) (before ++ e ∷ []) es))

pub batch-follows : (p : PartitionTable) (before es : List Entry) → applies p (replica_after p before) es ≡ record { replica = replica_after p (before ++ es); replies = replies_listed p 0 before es }
batch-follows p before es = from-follows p 0 before es []

pub state-past : (m : ℕ → ℕ) (known : List Learning) (p : PartitionTable) (ring : RingId) (rings : List RingId) (tuple : List (RingId × ℕ)) (es more : List Entry) →
    IncreasesFrom 0 (numbers_of_rings (ring ∷ rings)) → is_tuple_of m (ring ∷ rings) tuple ≡ true → entries_below m known tuple ≡ Some es → entries_known known (next_place m tuple) ≡ Some more →
    (entries_below m known (past m tuple) ≡ Some (es ++ more)) × (state_below m known p (past m tuple) ≡ Some (state_bytes (applies p (replica_after p es) more).replica))
state-past m known p ring rings tuple es more rise is below here = (moved, stated)
  where
    moved : entries_below m known (past m tuple) ≡ Some (es ++ more)
    moved = below-past m known ring rings tuple rise is ∙ ap₂ both_known below here

    stated : state_below m known p (past m tuple) ≡ Some (state_bytes (applies p (replica_after p es) more).replica)
    stated = ap (λ (o : Option (List Entry)). option_map (λ (l : List Entry). state_bytes (replica_after p l)) o)
        (below-past m known ring rings tuple rise is ∙ ap₂ both_known below here)
        ∙ ap (λ (a : AppliedAll). Some (state_bytes a.replica)) (sym (batch-follows p es more))

pub partition-limits : (nodes rings : List ℕ) (p : PartitionTable) → IsPartition nodes rings p → HasFewLogs p × IncreasesFrom 0 (numbers_of_rings p.rings)
partition-limits nodes rings p is = (record { few = is.few_logs; low = is.low_logs }, is.increase)

pub rounds-some : (c : Config) (ring : ℕ) → IsValid c → 0 < round_sizes c ring
rounds-some c ring is = (round_in_range c is (record { 0 = ring })).0
