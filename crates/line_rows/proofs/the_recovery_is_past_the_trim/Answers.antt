use Rattle.std.proofs.Common.{refl, Some, ◌≡◌, ◌++◌, ◌∷◌, []}
use Rattle.command_codec.specs.Fields.{u16_bytes, u32_bytes as command_codec_fields_u32_bytes, u64_bytes as command_codec_fields_u64_bytes}
use Rattle.command_codec.specs.Grammar.{append_at, multi_at, read_log_at, trim_log_at, get_at, scan_at, update_at, insert_at, delete_at, command_of_kind, command_at, entry_at, batch_at, position_at, positions_at, table_entry_at, entries_reply_at, reply_of_kind, reply_at as command_codec_grammar_reply_at}
use Rattle.command_codec.specs.Parts.{value_at}
use Rattle.command_codec.specs.Reader.{bytes_at, number_at, within, length_at, string_that, string_at}
use Rattle.mrp_config.specs.Routing.{is_concerned}
use Rattle.plain_model.specs.Fold.{entries_below, reply_after, reply_to, replica_of, answer_of}
use Rattle.plain_model.specs.Replicas.{effect_of, apply}
use Rattle.plain_model.specs.StateBytes.{state_bytes, kept_reply_at, session_at_least, this_log_at, state_at, whole_state}
use Rattle.protocol.specs.Acceptor.{prepares, accepts, fetches}
use Rattle.protocol.specs.Ballots.{covered_to}
use Rattle.protocol.specs.Client.{asks, client_ticks, replied, client_takes}
use Rattle.protocol.specs.Coordinator.{leads, promised, refused, submits}
use Rattle.protocol.specs.Leading.{starts_on_tick, resends, levels}
use Rattle.protocol.specs.Learner.{are_all_held, met_over, gap_after, learns, decided, chosen}
use Rattle.protocol.specs.Learning.{applies_effects}
use Rattle.protocol.specs.Merging.{merges}
use Rattle.protocol.specs.Opening.{opened}
use Rattle.protocol.specs.Proposing.{first_where, offers, proposing, proposes_after}
use Rattle.protocol.specs.Recovery.{restores, chooses, begins, answered_by, takes_part, takes_gone}
use Rattle.protocol.specs.Rings.{members_of}
use Rattle.protocol.specs.Step.{step}
use Rattle.protocol.specs.Tick.{ticks}
use Rattle.protocol.specs.Trimming.{trimmed, least, asks_round, answers}
use Rattle.range_map.specs.Entries.{spread_over}
use Rattle.ring_link.specs.Silence.{quiet_after}
use Rattle.vote_state.specs.Ranges.{ranges_of, are_held}
use Rattle.protocol.specs.Lines.{Restore}
use Rattle.line_runs.proofs.Laws.{recovery_past}
use Rattle.line_rows.specs.Row.{config, happened, lines, restore_at, before_restore, after_restore, node}
use Rattle.line_rows.proofs.Splitting.{split_at}
use Rattle.line_rows.proofs.Deployment.{valid}
use Rattle.line_rows.proofs.May.{may_happen}
use Rattle.line_rows.proofs.the_recovery_is_past_the_trim.Goals as goal

restored : restore_at 3 lines ≡ Some (node 2, 2 ∷ [])
unfolding u16_bytes command_codec_fields_u32_bytes command_codec_fields_u64_bytes append_at multi_at read_log_at trim_log_at get_at scan_at update_at insert_at delete_at command_of_kind command_at entry_at batch_at position_at positions_at table_entry_at entries_reply_at reply_of_kind command_codec_grammar_reply_at value_at bytes_at number_at within length_at string_that string_at is_concerned entries_below reply_after reply_to replica_of answer_of effect_of apply state_bytes kept_reply_at session_at_least this_log_at state_at whole_state prepares accepts fetches covered_to asks client_ticks replied client_takes leads promised refused submits starts_on_tick resends levels are_all_held met_over gap_after learns decided chosen applies_effects merges opened first_where offers proposing proposes_after restores chooses begins answered_by takes_part takes_gone members_of step ticks trimmed least asks_round answers spread_over quiet_after ranges_of are_held lib.Count.ones
restored = refl

there : lines ≡ before_restore 3 lines ++ Restore (node 2) (2 ∷ []) ∷ after_restore 3 lines
there = split_at 3 lines (node 2) (2 ∷ []) restored

pub returns-clause-there : goal.returns-clause-there
returns-clause-there c = there

pub returns-clause-past : goal.returns-clause-past
returns-clause-past c = recovery_past config happened (record { valid = valid; may = may_happen }) (before_restore 3 lines) (after_restore 3 lines) (node 2) (2 ∷ []) there
