-- Replies that are written and read back, and what is replied to a batch.
use Rattle.std.specs.Prelude.{suc, ◌++◌, ◌≡◌, ◌≤◌, ℕ, true, Option, Some, None, List, [], ◌∷◌, length}
use Rattle.mrp_types.specs.declared.value.Entry.{Entry}
use Rattle.command_codec.specs.Grammar.{reply_of}
use Rattle.command_codec.specs.Replies.{IsReply, HasNumbers, reply_bytes}
use Rattle.command_codec.specs.declared.reply.Reply.{Reply}
use Rattle.mrp_config.specs.declared.tables.PartitionTable.{PartitionTable}
use Rattle.plain_model.specs.StateBytes.{was_reply}
use Rattle.plain_model.specs.Fold.{reply_to}

-- ---- replies

-- a reply that is written and read back, and is short
pub record IsSpoken (reply : Reply) : Type 0 where
  pub valid : IsReply reply
  pub numbers : HasNumbers reply
  pub short : length (reply_bytes reply) ≤ 16384

-- the bytes of a reply, 1 to 16,384 of them
pub record IsReplyText (bytes : List ℕ) : Type 0 where
  pub some : 1 ≤ length bytes
  pub short : length bytes ≤ 16384
  pub spelled : was_reply (reply_of bytes) ≡ true

-- ---- replies that may be none

abbrev pub IsSpokenOrNone : Option Reply → Type 0
IsSpokenOrNone None = Unit {0}
IsSpokenOrNone (Some reply) = IsSpoken reply

abbrev pub IsTextOrNone : Option (List ℕ) → Type 0
IsTextOrNone None = Unit {0}
IsTextOrNone (Some text) = IsReplyText text

-- ---- batches

-- the bytes of the reply to an entry, if any, with its place
abbrev pub replied : ℕ → Entry → Option Reply → List (ℕ × Entry × List ℕ)
replied index e None = []
replied index e (Some reply) = (index, e, reply_bytes reply) ∷ []

-- what the plain lists reply to entries one after another, the first of them at this place
abbrev pub replies_listed : PartitionTable → ℕ → List Entry → List Entry → List (ℕ × Entry × List ℕ)
replies_listed p index before [] = []
replies_listed p index before (e ∷ es) = replied index e (reply_to p before e) ++ replies_listed p (suc index) (before ++ e ∷ []) es
