use Rattle.std.proofs.Common.{refl}
use Rattle.command_codec.specs.Fields.{u16_bytes, u32_bytes as command_codec_fields_u32_bytes, u64_bytes as command_codec_fields_u64_bytes}
use Rattle.command_codec.specs.Parts.{value_at}
use Rattle.command_codec.specs.Reader.{bytes_at, number_at, within, length_at}
use Rattle.gate_area.specs.Standing.{generation_of}
use Rattle.gate_log.specs.Records.{u32_bytes as gate_log_records_u32_bytes, u32_of, u64_bytes as gate_log_records_u64_bytes}
use Rattle.vote_journal.specs.Grammar.{epoch_at, promise_at as vote_journal_grammar_promise_at, vote_at as vote_journal_grammar_vote_at, trim_at, change_of_kind, change_at, numbered_at, first_at}
use Rattle.disk_model.specs.Running.{ran}
use Rattle.world_model.proofs.rows.fuses_over_openings_and_records.Goals as goal

pub returns-clause-fuse : goal.returns-clause-fuse
unfolding u16_bytes command_codec_fields_u32_bytes command_codec_fields_u64_bytes value_at bytes_at number_at within length_at generation_of gate_log_records_u32_bytes u32_of gate_log_records_u64_bytes epoch_at vote_journal_grammar_promise_at vote_journal_grammar_vote_at trim_at change_of_kind change_at numbered_at first_at ran lib.Count.ones
returns-clause-fuse c = refl

pub returns-clause-fail : goal.returns-clause-fail
unfolding u16_bytes command_codec_fields_u32_bytes command_codec_fields_u64_bytes value_at bytes_at number_at within length_at generation_of gate_log_records_u32_bytes u32_of gate_log_records_u64_bytes epoch_at vote_journal_grammar_promise_at vote_journal_grammar_vote_at trim_at change_of_kind change_at numbered_at first_at ran lib.Count.ones
returns-clause-fail c = refl

pub returns-clause-fail_read : goal.returns-clause-fail_read
unfolding u16_bytes command_codec_fields_u32_bytes command_codec_fields_u64_bytes value_at bytes_at number_at within length_at generation_of gate_log_records_u32_bytes u32_of gate_log_records_u64_bytes epoch_at vote_journal_grammar_promise_at vote_journal_grammar_vote_at trim_at change_of_kind change_at numbered_at first_at ran lib.Count.ones
returns-clause-fail_read c = refl
