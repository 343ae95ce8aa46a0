use Rattle.std.proofs.Common.{refl}
use Rattle.command_codec.specs.Fields.{u16_bytes, u32_bytes, u64_bytes}
use Rattle.plain_model.specs.StateBytes.{state_bytes, kept_reply_at, session_at_least, this_log_at, state_at, whole_state}
use Rattle.plain_model.proofs.rows.a_state_written.Goals as goal

pub returns : goal.returns
unfolding u16_bytes u32_bytes u64_bytes state_bytes kept_reply_at session_at_least this_log_at state_at whole_state
returns c = refl
