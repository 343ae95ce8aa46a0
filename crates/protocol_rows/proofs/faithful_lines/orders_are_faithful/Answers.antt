use Rattle.std.proofs.Common.{refl}
use Rattle.command_codec.specs.Fields.{u16_bytes, u32_bytes, u64_bytes}
use Rattle.command_codec.specs.Reader.{bytes_at, number_at, within, length_at, string_that, string_at}
use Rattle.command_codec.specs.Grammar.{append_at, multi_at, read_log_at, trim_log_at, get_at, scan_at, update_at, insert_at, delete_at, swap_at, command_of_kind, command_at, entry_at, batch_at, position_at, positions_at, table_entry_at, entries_reply_at, reply_of_kind, reply_at}
use Rattle.command_codec.specs.Parts.{value_at}
use Rattle.mrp_config.specs.Routing.{is_concerned}
use Rattle.plain_model.specs.StateBytes.{state_bytes}
use Rattle.plain_model.specs.Fold.{entries_below, reply_after, reply_to, replica_of, answer_of}
use Rattle.protocol_rows.proofs.faithful_lines.orders_are_faithful.Goals as goal

pub returns-clause-no_event : goal.returns-clause-no_event
unfolding u16_bytes u32_bytes u64_bytes bytes_at number_at within length_at string_that string_at append_at multi_at read_log_at trim_log_at get_at scan_at update_at insert_at delete_at swap_at command_of_kind command_at entry_at batch_at position_at positions_at table_entry_at entries_reply_at reply_of_kind reply_at value_at is_concerned state_bytes entries_below reply_after reply_to replica_of answer_of
returns-clause-no_event c = refl

pub returns-clause-one_command : goal.returns-clause-one_command
unfolding u16_bytes u32_bytes u64_bytes bytes_at number_at within length_at string_that string_at append_at multi_at read_log_at trim_log_at get_at scan_at update_at insert_at delete_at swap_at command_of_kind command_at entry_at batch_at position_at positions_at table_entry_at entries_reply_at reply_of_kind reply_at value_at is_concerned state_bytes entries_below reply_after reply_to replica_of answer_of
returns-clause-one_command c = refl

pub returns-clause-one_state : goal.returns-clause-one_state
unfolding u16_bytes u32_bytes u64_bytes bytes_at number_at within length_at string_that string_at append_at multi_at read_log_at trim_log_at get_at scan_at update_at insert_at delete_at swap_at command_of_kind command_at entry_at batch_at position_at positions_at table_entry_at entries_reply_at reply_of_kind reply_at value_at is_concerned state_bytes entries_below reply_after reply_to replica_of answer_of
returns-clause-one_state c = refl

pub returns-clause-delivered_again : goal.returns-clause-delivered_again
unfolding u16_bytes u32_bytes u64_bytes bytes_at number_at within length_at string_that string_at append_at multi_at read_log_at trim_log_at get_at scan_at update_at insert_at delete_at swap_at command_of_kind command_at entry_at batch_at position_at positions_at table_entry_at entries_reply_at reply_of_kind reply_at value_at is_concerned state_bytes entries_below reply_after reply_to replica_of answer_of
returns-clause-delivered_again c = refl

pub returns-clause-stopped_vote : goal.returns-clause-stopped_vote
unfolding u16_bytes u32_bytes u64_bytes bytes_at number_at within length_at string_that string_at append_at multi_at read_log_at trim_log_at get_at scan_at update_at insert_at delete_at swap_at command_of_kind command_at entry_at batch_at position_at positions_at table_entry_at entries_reply_at reply_of_kind reply_at value_at is_concerned state_bytes entries_below reply_after reply_to replica_of answer_of
returns-clause-stopped_vote c = refl

pub returns-clause-two_leaders : goal.returns-clause-two_leaders
unfolding u16_bytes u32_bytes u64_bytes bytes_at number_at within length_at string_that string_at append_at multi_at read_log_at trim_log_at get_at scan_at update_at insert_at delete_at swap_at command_of_kind command_at entry_at batch_at position_at positions_at table_entry_at entries_reply_at reply_of_kind reply_at value_at is_concerned state_bytes entries_below reply_after reply_to replica_of answer_of
returns-clause-two_leaders c = refl

pub returns-clause-late_answers : goal.returns-clause-late_answers
unfolding u16_bytes u32_bytes u64_bytes bytes_at number_at within length_at string_that string_at append_at multi_at read_log_at trim_log_at get_at scan_at update_at insert_at delete_at swap_at command_of_kind command_at entry_at batch_at position_at positions_at table_entry_at entries_reply_at reply_of_kind reply_at value_at is_concerned state_bytes entries_below reply_after reply_to replica_of answer_of
returns-clause-late_answers c = refl

pub returns-clause-no_quorum : goal.returns-clause-no_quorum
unfolding u16_bytes u32_bytes u64_bytes bytes_at number_at within length_at string_that string_at append_at multi_at read_log_at trim_log_at get_at scan_at update_at insert_at delete_at swap_at command_of_kind command_at entry_at batch_at position_at positions_at table_entry_at entries_reply_at reply_of_kind reply_at value_at is_concerned state_bytes entries_below reply_after reply_to replica_of answer_of
returns-clause-no_quorum c = refl

pub returns-clause-last_answer : goal.returns-clause-last_answer
unfolding u16_bytes u32_bytes u64_bytes bytes_at number_at within length_at string_that string_at append_at multi_at read_log_at trim_log_at get_at scan_at update_at insert_at delete_at swap_at command_of_kind command_at entry_at batch_at position_at positions_at table_entry_at entries_reply_at reply_of_kind reply_at value_at is_concerned state_bytes entries_below reply_after reply_to replica_of answer_of
returns-clause-last_answer c = refl

pub returns-clause-fetched : goal.returns-clause-fetched
unfolding u16_bytes u32_bytes u64_bytes bytes_at number_at within length_at string_that string_at append_at multi_at read_log_at trim_log_at get_at scan_at update_at insert_at delete_at swap_at command_of_kind command_at entry_at batch_at position_at positions_at table_entry_at entries_reply_at reply_of_kind reply_at value_at is_concerned state_bytes entries_below reply_after reply_to replica_of answer_of
returns-clause-fetched c = refl

pub returns-clause-failed_calls : goal.returns-clause-failed_calls
unfolding u16_bytes u32_bytes u64_bytes bytes_at number_at within length_at string_that string_at append_at multi_at read_log_at trim_log_at get_at scan_at update_at insert_at delete_at swap_at command_of_kind command_at entry_at batch_at position_at positions_at table_entry_at entries_reply_at reply_of_kind reply_at value_at is_concerned state_bytes entries_below reply_after reply_to replica_of answer_of
returns-clause-failed_calls c = refl

pub returns-clause-suspected_leader : goal.returns-clause-suspected_leader
unfolding u16_bytes u32_bytes u64_bytes bytes_at number_at within length_at string_that string_at append_at multi_at read_log_at trim_log_at get_at scan_at update_at insert_at delete_at swap_at command_of_kind command_at entry_at batch_at position_at positions_at table_entry_at entries_reply_at reply_of_kind reply_at value_at is_concerned state_bytes entries_below reply_after reply_to replica_of answer_of
returns-clause-suspected_leader c = refl
