use Rattle.std.proofs.Common.{◌≡◌, Result, Ok, Err, subst, sym, List}
use Rattle.std.specs.Prelude.{IfOk}
use Rattle.mrp_types.specs.declared.memory.Memory.{Memory}
use Rattle.command_codec.specs.declared.reply.Reply.{Reply}
use Rattle.command_codec.specs.Replies.{IsReply, AreParts, joined}
use Rattle.command_codec.proofs.JoinLaws.{joined_is}
use Rattle.command_codec.proofs.joining.join.Goals as goal

is_valid : (parts : List Reply) (r : Result Reply Memory) → AreParts parts → IfOk r (λ reply. reply ≡ joined parts) → IfOk r IsReply
is_valid parts (Ok reply) are is = subst IsReply (sym is) (joined_is parts are)
is_valid parts (Err e) are is = tt

pub returns-clause-valid : goal.returns-clause-valid
returns-clause-valid c = λ are. is_valid c.args.parts.now c.join_all.result are c.join_all.ensures
