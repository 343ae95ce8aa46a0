-- What becomes of an entry's command, by what is kept of its client.
use Rattle.std.specs.Prelude.{◌≡◌, Some}
use Rattle.mrp_types.specs.declared.value.Entry.{Entry}
use Rattle.command_codec.specs.declared.command.Command.{Command}
use Rattle.command_codec.specs.Replies.{reply_bytes, IsReply}
use Rattle.plain_model.specs.Replicas.{Replica, numbered, session_at, passed_over, taken}
use Rattle.replica_state.specs.declared.parts.Turn.{Turn}
use Rattle.replica_state.specs.declared.parts.Turn.TheVariants.{Take, Again, Pass}

-- what the fold's step does with a command of the entry
abbrev pub IsTurn : Replica → Entry → Turn → Type 0
IsTurn r e Take = (c : Command) → numbered r e c (session_at e.client r.sessions) ≡ taken r e c
IsTurn r e (Again reply) = (c : Command) → numbered r e c (session_at e.client r.sessions) ≡ record { replica = r; reply = Some (reply_bytes reply) }
IsTurn r e Pass = (c : Command) → numbered r e c (session_at e.client r.sessions) ≡ passed_over r

-- a kept reply that is given again is a reply
abbrev pub GivesReply : Turn → Type 0
GivesReply Take = Unit {0}
GivesReply (Again reply) = IsReply reply
GivesReply Pass = Unit {0}
