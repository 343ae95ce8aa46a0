use Rattle.std.proofs.Common.{refl}
use Rattle.command_codec.specs.Fields.{u16_bytes, u32_bytes, u64_bytes}
use Rattle.command_codec.specs.Reader.{bytes_at, number_at, within, length_at, string_that, string_at}
use Rattle.command_codec.specs.Grammar.{append_at, multi_at, read_log_at, trim_log_at, get_at, scan_at, update_at, insert_at, delete_at, swap_at, command_of_kind, command_at, entry_at, batch_at, position_at, positions_at, table_entry_at, entries_reply_at, reply_of_kind, reply_at}
use Rattle.command_codec.specs.Parts.{value_at}
use Rattle.mrp_config.specs.Routing.{is_concerned}
use Rattle.plain_model.specs.StateBytes.{state_bytes}
use Rattle.plain_model.specs.Fold.{entries_below, reply_after, reply_to, replica_of, answer_of}
use Rattle.line_rules.proofs.rows.two_partitions_are_faithful.Goals as goal

pub returns : goal.returns
unfolding u16_bytes u32_bytes u64_bytes bytes_at number_at within length_at string_that string_at append_at multi_at read_log_at trim_log_at get_at scan_at update_at insert_at delete_at swap_at command_of_kind command_at entry_at batch_at position_at positions_at table_entry_at entries_reply_at reply_of_kind reply_at value_at is_concerned state_bytes entries_below reply_after reply_to replica_of answer_of
returns c = refl
