use Rattle.std.proofs.Common.{refl}
use Rattle.command_codec.specs.Fields.{u16_bytes, u32_bytes, u64_bytes}
use Rattle.command_codec.specs.Reader.{bytes_at, number_at, within, length_at, string_that, string_at}
use Rattle.command_codec.specs.Grammar.{append_at, multi_at, read_log_at, trim_log_at, get_at, scan_at, update_at, insert_at, delete_at, command_of_kind, command_at, entry_at, batch_at, position_at, positions_at, table_entry_at, entries_reply_at, reply_of_kind, reply_at}
use Rattle.mrp_config.specs.Routing.{is_concerned}
use Rattle.protocol.specs.Client.{asks, client_ticks, replied, client_takes}
use Rattle.protocol.proofs.client_rows.what_is_missing.Goals as goal

pub returns-clause-both : goal.returns-clause-both
unfolding u16_bytes u32_bytes u64_bytes bytes_at number_at within length_at string_that string_at append_at multi_at read_log_at trim_log_at get_at scan_at update_at insert_at delete_at command_of_kind command_at entry_at batch_at position_at positions_at table_entry_at entries_reply_at reply_of_kind reply_at is_concerned asks client_ticks replied client_takes
returns-clause-both c = refl

pub returns-clause-one : goal.returns-clause-one
unfolding u16_bytes u32_bytes u64_bytes bytes_at number_at within length_at string_that string_at append_at multi_at read_log_at trim_log_at get_at scan_at update_at insert_at delete_at command_of_kind command_at entry_at batch_at position_at positions_at table_entry_at entries_reply_at reply_of_kind reply_at is_concerned asks client_ticks replied client_takes
returns-clause-one c = refl

pub returns-clause-none : goal.returns-clause-none
unfolding u16_bytes u32_bytes u64_bytes bytes_at number_at within length_at string_that string_at append_at multi_at read_log_at trim_log_at get_at scan_at update_at insert_at delete_at command_of_kind command_at entry_at batch_at position_at positions_at table_entry_at entries_reply_at reply_of_kind reply_at is_concerned asks client_ticks replied client_takes
returns-clause-none c = refl
