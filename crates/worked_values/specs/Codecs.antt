-- Batches, replies and frames as bytes, with the values that they spell.
use Rattle.std.specs.Prelude.{ℕ, ◌≡◌, true, false, List, [], ◌∷◌, ◌++◌, Ok, codes, replicate}
use Rattle.mrp_types.specs.declared.value.Entry.{Entry}
use Rattle.mrp_types.specs.declared.value.Value.TheVariants.{Batch}
use Rattle.mrp_types.specs.declared.id.Party.TheVariants.{Node}
use Rattle.command_codec.specs.declared.reply.Reply.{Reply}
use Rattle.command_codec.specs.declared.reply.Reply.TheVariants.{Positions, Entries, Limit}
use Rattle.command_codec.specs.declared.reply.TableEntry.{TableEntry}
use Rattle.command_codec.specs.Replies.{joined, reply_bytes}
use Rattle.frames.specs.declared.frame.Frame.{Frame}
use Rattle.frames.specs.declared.body.Body.TheVariants.{Decide}
use Rattle.worked_values.specs.Ids.{client, log, node, ring}

-- ---- a batch of two entries

abbrev pub two_entries_bytes : List ℕ
two_entries_bytes = 1 ∷ 0 ∷ 2 ∷ 0 ∷ 0 ∷ 0 ∷ 0 ∷ 0 ∷ 0 ∷ 0 ∷ 0 ∷ 1 ∷ 0 ∷ 1 ∷ 97 ∷ 255 ∷ 127 ∷ replicate 7 255 ++ 0 ∷ 0 ∷ []

abbrev pub two_entries : List Entry
two_entries =
    record { client = client 0; seq = 1; command = codes "a" }
    ∷ record { client = client 255; seq = 9223372036854775807; command = [] }
    ∷ []

-- ---- replies of several partitions, with the bytes of what they are joined to

pub record Joining : Type 0 where
  pub parts : List Reply
  pub bytes : List ℕ

abbrev pub joining : List Reply → List ℕ → Joining
joining parts bytes = record { parts = parts; bytes = bytes }

abbrev pub IsJoined : Joining → Type 0
IsJoined row = reply_bytes (joined row.parts) ≡ row.bytes

abbrev pub at_position : ℕ → ℕ → Reply
at_position number position = Positions (record { log = log number; position = position } ∷ [])

abbrev pub under : List ℕ → TableEntry
under key = record { key = key; value = [] }

abbrev pub joinings : List Joining
joinings =
    joining (at_position 0 2 ∷ at_position 1 0 ∷ []) (1 ∷ 2 ∷ 0 ∷ replicate 7 0 ++ 2 ∷ 1 ∷ replicate 8 0)
    ∷ joining (at_position 0 2 ∷ Limit ∷ []) (9 ∷ [])
    ∷ joining (Entries true (under (codes "a") ∷ []) ∷ Entries false (under (codes "b") ∷ []) ∷ []) (8 ∷ 1 ∷ 0 ∷ 1 ∷ 0 ∷ 1 ∷ 97 ∷ 0 ∷ 0 ∷ [])
    ∷ joining (Entries false (under (codes "b") ∷ []) ∷ Entries true (under (codes "c") ∷ []) ∷ []) (8 ∷ 1 ∷ 0 ∷ 2 ∷ 0 ∷ 1 ∷ 98 ∷ 0 ∷ 0 ∷ 0 ∷ 1 ∷ 99 ∷ 0 ∷ 0 ∷ [])
    ∷ []

-- ---- a frame

-- a batch of one entry, in which client 0 asks an append of `hi` to log 0
abbrev pub decided_batch : List ℕ
decided_batch = 1 ∷ 0 ∷ 1 ∷ 0 ∷ replicate 7 0 ++ 1 ∷ 0 ∷ 6 ∷ 1 ∷ 0 ∷ 0 ∷ 2 ∷ codes "hi"

-- node 1 tells that instance 0 of ring 0 holds it
abbrev pub decide : Frame
decide = record { from = Node (node 1); body = Decide (ring 0) 0 1 1 (Batch decided_batch) }

abbrev pub decide_bytes : List ℕ
decide_bytes = 77 ∷ 82 ∷ 2 ∷ 6 ∷ 0 ∷ 1 ∷ 0 ∷ replicate 8 0 ++ replicate 7 0 ++ 1 ∷ 1 ∷ 0 ∷ 20 ∷ decided_batch
