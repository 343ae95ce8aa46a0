use Rattle.std.proofs.Common.{refl}
use Rattle.std.specs.Fmt.{digits}
use Rattle.hex.specs.Hex.{encode_with, decode_pairs}
use Rattle.command_codec.specs.Grammar.{batch_at}
use Rattle.transcript.specs.Fields.{number_of, tuple_of, bytes_of}
use Rattle.transcript.specs.Reading.{learn_at, deliver_at, reply_at, answer_at, busy_at, begin_at, chose_at, restore_at, saved_at, trim_at, refuse_at, limit_of, limit_at, cause_at, down_at, up_at, state_of, state_at, frame_of, frame_at, last_at, kinds_of_nodes, kinds_of_recovery, kind_at}
use Rattle.transcript.proofs.rows.first_faults.Goals as goal

pub returns-clause-lines : goal.returns-clause-lines
unfolding digits encode_with decode_pairs batch_at number_of tuple_of bytes_of learn_at deliver_at reply_at answer_at busy_at begin_at chose_at restore_at saved_at trim_at refuse_at limit_of limit_at cause_at down_at up_at state_of state_at frame_of frame_at last_at kinds_of_nodes kinds_of_recovery kind_at
returns-clause-lines c = (refl, (refl, (refl, (refl, (refl, (refl, (refl, (refl, (refl, (refl, (refl, (refl, (refl, (refl, (refl, (refl, (refl, (refl, (refl, (refl, (refl, (refl, (refl, (refl, (refl, (refl, (refl, (refl, (refl, (refl, (refl, (refl, (refl, (refl, (refl, tt)))))))))))))))))))))))))))))))))))

pub returns-clause-whole : goal.returns-clause-whole
unfolding digits encode_with decode_pairs batch_at number_of tuple_of bytes_of learn_at deliver_at reply_at answer_at busy_at begin_at chose_at restore_at saved_at trim_at refuse_at limit_of limit_at cause_at down_at up_at state_of state_at frame_of frame_at last_at kinds_of_nodes kinds_of_recovery kind_at
returns-clause-whole c = refl
