use Rattle.std.proofs.Common.{◌∙◌, sym, ap, List, ℕ}
use Rattle.command_codec.specs.Grammar.{reply_of}
use Rattle.plain_model.specs.StateBytes.{was_reply}
use Rattle.replica_state.specs.Held.{session_of, sessions_in}
use Rattle.replica_state.proofs.ApplyLaws.{kept_spelled}
use Rattle.replica_state.proofs.state.ReplicaState.turn.Goals as goal

pub reply_again-requires : goal.reply_again-requires
reply_again-requires c =
    ap (λ (x : List ℕ). was_reply (reply_of x)) c.bytes.ensures
    ∙ kept_spelled c.args.entry.now.client 0 (sessions_in c.self.inside.sessions.entries) (session_of (c.args.entry.now.client.0, c.in-Some.kept.now)) c.self.invariant.state.sessions (sym c.in-Some.ensures)
