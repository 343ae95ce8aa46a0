use Rattle.std.proofs.Common.{refl}
use Rattle.checkpoint.specs.Checkpoints.{checkpoint_at}
use Rattle.command_codec.specs.Fields.{u16_bytes, u32_bytes as command_codec_fields_u32_bytes, u64_bytes as command_codec_fields_u64_bytes}
use Rattle.command_codec.specs.Grammar.{append_at, multi_at, read_log_at, trim_log_at, get_at, scan_at, update_at, insert_at, delete_at, swap_at, command_of_kind, command_at, entry_at, batch_at, position_at, positions_at, table_entry_at, entries_reply_at, reply_of_kind, reply_at as command_codec_grammar_reply_at}
use Rattle.command_codec.specs.Parts.{value_at}
use Rattle.command_codec.specs.Reader.{bytes_at, number_at, within, length_at, string_that, string_at}
use Rattle.frames.specs.Grammar.{vote_at as frames_grammar_vote_at, votes_at, decided_at, ranges_at, tuple_at, part_bytes_at, submit_at, prepare_at, promise_at as frames_grammar_promise_at, refuse_at, accept_at, decide_at, fetch_at, chosen_at, trimmed_at, ask_safe_at, safe_at, trim_to_at, ask_checkpoint_at, have_checkpoint_at, ask_part_at, part_at, gone_at, reply_at as frames_grammar_reply_at, body_of_kind, party_at, frame_of_kind, kind_at}
use Rattle.gate_area.specs.Standing.{generation_of}
use Rattle.gate_log.specs.Journal.{IsReady}
use Rattle.gate_log.specs.Records.{u32_bytes as gate_log_records_u32_bytes, u32_of, u64_bytes as gate_log_records_u64_bytes}
use Rattle.mrp_config.specs.Routing.{is_concerned}
use Rattle.plain_model.specs.Fold.{entries_below, reply_after, reply_to, replica_of, answer_of}
use Rattle.plain_model.specs.Replicas.{effect_of, apply}
use Rattle.plain_model.specs.StateBytes.{state_bytes, kept_reply_at, session_at_least, this_log_at, state_at, whole_state}
use Rattle.protocol.specs.Acceptor.{prepares, accepts, fetches}
use Rattle.protocol.specs.Ballots.{covered_to}
use Rattle.protocol.specs.Client.{asks, client_ticks, replied, client_takes}
use Rattle.protocol.specs.Coordinator.{leads, promised, refused, submits}
use Rattle.protocol.specs.Leading.{starts_on_tick, resends, levels}
use Rattle.protocol.specs.Learner.{are_all_held, met_over, gap_after, learns, decided, chosen}
use Rattle.protocol.specs.Learning.{applies_effects}
use Rattle.protocol.specs.Merging.{merges}
use Rattle.protocol.specs.Opening.{opened}
use Rattle.protocol.specs.Proposing.{first_where, offers, proposing, proposes_after}
use Rattle.protocol.specs.Recovery.{restores, chooses, begins, answered_by, takes_part, takes_gone}
use Rattle.protocol.specs.Rings.{members_of}
use Rattle.protocol.specs.Step.{step}
use Rattle.protocol.specs.Tick.{ticks}
use Rattle.protocol.specs.Trimming.{trimmed, least, asks_round, answers}
use Rattle.range_map.specs.Entries.{spread_over}
use Rattle.ring_link.specs.Silence.{quiet_after}
use Rattle.vote_journal.specs.Grammar.{epoch_at, promise_at as vote_journal_grammar_promise_at, vote_at as vote_journal_grammar_vote_at, trim_at, change_of_kind, change_at, numbered_at, first_at}
use Rattle.vote_state.specs.Ranges.{ranges_of, are_held}
use Rattle.disk_model.specs.Running.{ran}
use Rattle.world_model.specs.Opening.{opening}
use Rattle.world_model.specs.Trace.{trace}
use Rattle.world_model.specs.Worlds.{happens, started}
use Rattle.protocol_rows.proofs.told_trim.prints.Goals as goal

pub returns : goal.returns
unfolding checkpoint_at u16_bytes command_codec_fields_u32_bytes command_codec_fields_u64_bytes append_at multi_at read_log_at trim_log_at get_at scan_at update_at insert_at delete_at swap_at command_of_kind command_at entry_at batch_at position_at positions_at table_entry_at entries_reply_at reply_of_kind command_codec_grammar_reply_at value_at bytes_at number_at within length_at string_that string_at frames_grammar_vote_at votes_at decided_at ranges_at tuple_at part_bytes_at submit_at prepare_at frames_grammar_promise_at refuse_at accept_at decide_at fetch_at chosen_at trimmed_at ask_safe_at safe_at trim_to_at ask_checkpoint_at have_checkpoint_at ask_part_at part_at gone_at frames_grammar_reply_at body_of_kind party_at frame_of_kind kind_at generation_of IsReady gate_log_records_u32_bytes u32_of gate_log_records_u64_bytes is_concerned entries_below reply_after reply_to replica_of answer_of effect_of apply state_bytes kept_reply_at session_at_least this_log_at state_at whole_state prepares accepts fetches covered_to asks client_ticks replied client_takes leads promised refused submits starts_on_tick resends levels are_all_held met_over gap_after learns decided chosen applies_effects merges opened first_where offers proposing proposes_after restores chooses begins answered_by takes_part takes_gone members_of step ticks trimmed least asks_round answers spread_over quiet_after epoch_at vote_journal_grammar_promise_at vote_journal_grammar_vote_at trim_at change_of_kind change_at numbered_at first_at ranges_of are_held ran opening trace happens started lib.Count.ones
returns c = refl
