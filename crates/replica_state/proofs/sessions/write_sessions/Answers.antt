use Rattle.std.proofs.Common.{◌<◌, ◌^◌, length, ◌++◌, ◌∙◌, ap, subst, sym, arith, List, ℕ, append_assoc}
use Rattle.std.specs.List.{flat_map, AllByRecursion}
use Rattle.command_codec.specs.Fields.{u16_bytes}
use Rattle.plain_model.specs.Replicas.{Session}
use Rattle.plain_model.specs.StateBytes.{session_bytes}
use Rattle.replica_state.specs.declared.sessions.Kept.{Kept}
use Rattle.replica_state.specs.Held.{sessions_in}
use Rattle.replica_state.proofs.SessionLaws.{few_kept, each_short, in_number_of}
use Rattle.replica_state.proofs.sessions.write_sessions.Goals as goal

pub overflow_cast-len : goal.overflow_cast-len
overflow_cast-len c = omega (arith, few_kept c.args.sessions.now.entries c.requires, c.len.ensures.len)

pub loop-client-init : goal.loop-client-init
loop-client-init c =
    let same = c.into_iter-client-iterator.ensures.into_iter_gives.0 in
    record {
      all =
          ap (λ (x : List ℕ). x ++ flat_map session_bytes (sessions_in c.into_iter-client-iterator.result)) c.in_ok-put_u16.ensures
          ∙ (ap (λ (n : ℕ). c.args.to.now ++ u16_bytes n ++ flat_map session_bytes (sessions_in c.into_iter-client-iterator.result)) (in_number_of c.args.sessions.now.entries _ c.len.ensures.len)
          ∙ (ap (λ (es : List (ℕ × Kept)). c.args.to.now ++ u16_bytes (length (sessions_in c.args.sessions.now.entries)) ++ flat_map session_bytes (sessions_in es)) same
          ∙ append_assoc c.args.to.now (u16_bytes (length (sessions_in c.args.sessions.now.entries))) (flat_map session_bytes (sessions_in c.args.sessions.now.entries))));
      each = subst (λ (es : List (ℕ × Kept)). AllByRecursion (λ (s : Session). length s.reply < 2 ^ 32) (sessions_in es)) (sym same) (each_short 0 (sessions_in c.args.sessions.now.entries) c.requires);
    }
