-- Each happening of the run may happen when its turn comes, and what it prints, by computation.
use Rattle.std.proofs.Common.{◌≡◌, inl, inr, refl, arith}
use Rattle.std.specs.Prelude.{[], ◌∷◌, None, Some}
use Rattle.mrp_types.specs.declared.id.Party.TheVariants.{Node, Client}
use Rattle.mrp_types.specs.declared.id.TheConstants.{END}
use Rattle.command_codec.specs.declared.command.Command.TheVariants as command
use Rattle.state_laws.proofs.Examples.{bytes_by}
use Rattle.frames.specs.declared.body.Body.TheVariants as body
use Rattle.checkpoint.specs.Checkpoints.{Checkpoint}
use Rattle.checkpoint.specs.Checkpoints.{checkpoint_at}
use Rattle.command_codec.specs.Fields.{u16_bytes, u32_bytes as command_codec_fields_u32_bytes, u64_bytes as command_codec_fields_u64_bytes}
use Rattle.command_codec.specs.Grammar.{append_at, multi_at, read_log_at, trim_log_at, get_at, scan_at, update_at, insert_at, delete_at, command_of_kind, command_at, entry_at, batch_at, position_at, positions_at, table_entry_at, entries_reply_at, reply_of_kind, reply_at as command_codec_grammar_reply_at}
use Rattle.command_codec.specs.Parts.{value_at}
use Rattle.command_codec.specs.Reader.{bytes_at, number_at, within, length_at, string_that, string_at}
use Rattle.frames.specs.Grammar.{vote_at as frames_grammar_vote_at, votes_at, decided_at, ranges_at, tuple_at, part_bytes_at, submit_at, prepare_at, promise_at as frames_grammar_promise_at, refuse_at, accept_at, decide_at, fetch_at, chosen_at, trimmed_at, ask_safe_at, safe_at, trim_to_at, ask_checkpoint_at, have_checkpoint_at, ask_part_at, part_at, gone_at, reply_at as frames_grammar_reply_at, body_of_kind, party_at, frame_of_kind, kind_at}
use Rattle.mrp_config.specs.Routing.{is_concerned}
use Rattle.plain_model.specs.Fold.{entries_below, reply_after, reply_to, replica_of, answer_of}
use Rattle.plain_model.specs.Replicas.{effect_of, apply}
use Rattle.plain_model.specs.StateBytes.{state_bytes, kept_reply_at, session_at_least, this_log_at, state_at, whole_state}
use Rattle.protocol.specs.Acceptor.{prepares, accepts, fetches}
use Rattle.protocol.specs.Ballots.{covered_to}
use Rattle.protocol.specs.Client.{MayBeAsked, asks, client_ticks, replied, client_takes}
use Rattle.protocol.specs.Coordinator.{leads, promised, refused, submits}
use Rattle.protocol.specs.Leading.{starts_on_tick, resends, levels}
use Rattle.protocol.specs.Learner.{are_all_held, met_over, gap_after, learns, decided, chosen}
use Rattle.protocol.specs.Learning.{applies_effects}
use Rattle.protocol.specs.Merging.{merges}
use Rattle.protocol.specs.Opening.{opened}
use Rattle.protocol.specs.Proposing.{first_where, offers, proposing, proposes_after}
use Rattle.protocol.specs.Recovery.{restores, chooses, begins, answered_by, takes_part, takes_gone}
use Rattle.protocol.specs.Rings.{members_of}
use Rattle.protocol.specs.Step.{step}
use Rattle.protocol.specs.Tick.{ticks}
use Rattle.protocol.specs.Trimming.{trimmed, least, asks_round, answers}
use Rattle.range_map.specs.Entries.{spread_over}
use Rattle.ring_link.specs.Silence.{quiet_after}
use Rattle.vote_journal.specs.Grammar.{epoch_at, promise_at as vote_journal_grammar_promise_at, vote_at as vote_journal_grammar_vote_at, trim_at, change_of_kind, change_at, first_at}
use Rattle.vote_state.specs.Ranges.{ranges_of, are_held}
use Rattle.bare_world.specs.Runs.{MayRun, run}
use Rattle.bare_world.specs.Worlds.{nothing}
use Rattle.bare_rows.specs.Row.{node, ring, client, log, address, batch, config, from_node, happenings, all_lines}

no_checkpoint : {C : Type 0} {newest : Checkpoint} → None ≡ Some newest → C
no_checkpoint e = cc

asked : MayBeAsked (command.Append log (104 ∷ 105 ∷ []))
unfolding u16_bytes
asked = record {
  valid = omega arith;
  numbers = tt;
  bytes = bytes_by (1 ∷ 0 ∷ 0 ∷ 2 ∷ 104 ∷ 105 ∷ []) (omega arith, (omega arith, (omega arith, (omega arith, (omega arith, (omega arith, tt))))));
}

pub may_run : MayRun config nothing happenings
unfolding checkpoint_at u16_bytes command_codec_fields_u32_bytes command_codec_fields_u64_bytes append_at multi_at read_log_at trim_log_at get_at scan_at update_at insert_at delete_at command_of_kind command_at entry_at batch_at position_at positions_at table_entry_at entries_reply_at reply_of_kind command_codec_grammar_reply_at value_at bytes_at number_at within length_at string_that string_at frames_grammar_vote_at votes_at decided_at ranges_at tuple_at part_bytes_at submit_at prepare_at frames_grammar_promise_at refuse_at accept_at decide_at fetch_at chosen_at trimmed_at ask_safe_at safe_at trim_to_at ask_checkpoint_at have_checkpoint_at ask_part_at part_at gone_at frames_grammar_reply_at body_of_kind party_at frame_of_kind kind_at is_concerned entries_below reply_after reply_to replica_of answer_of effect_of apply state_bytes kept_reply_at session_at_least this_log_at state_at whole_state prepares accepts fetches covered_to asks client_ticks replied client_takes leads promised refused submits starts_on_tick resends levels are_all_held met_over gap_after learns decided chosen applies_effects merges opened first_where offers proposing proposes_after restores chooses begins answered_by takes_part takes_gone members_of step ticks trimmed least asks_round answers spread_over quiet_after epoch_at vote_journal_grammar_promise_at vote_journal_grammar_vote_at trim_at change_of_kind change_at first_at ranges_of are_held lib.Count.ones
may_run = (record { node = (record { id = node 0; address = address 49 48 }, refl); epoch = refl; rings = refl; newest = refl; readable = λ p newest is e. no_checkpoint e }, (record { node = (record { id = node 1; address = address 49 49 }, refl); epoch = refl; rings = refl; newest = refl; readable = λ p newest is e. no_checkpoint e }, (record { node = (record { id = node 2; address = address 49 50 }, refl); epoch = refl; rings = refl; newest = refl; readable = λ p newest is e. no_checkpoint e }, (tt, (record { sent = record { to = Node (node 1); frame = from_node 0 (body.Prepare ring 3 0) }; there = inl refl; by = refl; same = refl }, (record { sent = record { to = Node (node 0); frame = from_node 1 (body.Promise ring 3 0 END 0 []) }; there = inr (inr (inl refl)); by = refl; same = refl }, (((record { id = client; address = address 50 48 }, refl), asked), (record { sent = record { to = Node (node 0); frame = record { from = Client client; body = body.Submit ring 0 client 1 (1 ∷ 0 ∷ 0 ∷ 2 ∷ 104 ∷ 105 ∷ []) } }; there = inr (inr (inr (inl refl))); by = refl; same = refl }, (record { sent = record { to = Node (node 1); frame = from_node 0 (body.Accept ring 3 0 1 1 batch) }; there = inr (inr (inr (inr (inl refl)))); by = refl; same = refl }, (record { node = (record { id = node 1; address = address 49 49 }, refl); epoch = refl; rings = refl; newest = refl; readable = λ p newest is e. no_checkpoint e }, (tt, (record { sent = record { to = Node (node 2); frame = from_node 1 (body.Prepare ring 4 0) }; there = inr (inr (inr (inr (inr (inr (inl refl)))))); by = refl; same = refl }, (record { sent = record { to = Node (node 1); frame = from_node 2 (body.Promise ring 4 0 END 0 []) }; there = inr (inr (inr (inr (inr (inr (inr (inl refl))))))); by = refl; same = refl }, (record { sent = record { to = Node (node 2); frame = from_node 1 (body.Accept ring 4 0 1 2 batch) }; there = inr (inr (inr (inr (inr (inr (inr (inr (inl refl)))))))); by = refl; same = refl }, tt))))))))))))))

pub printed : (run config happenings nothing).lines ≡ all_lines
unfolding checkpoint_at u16_bytes command_codec_fields_u32_bytes command_codec_fields_u64_bytes append_at multi_at read_log_at trim_log_at get_at scan_at update_at insert_at delete_at command_of_kind command_at entry_at batch_at position_at positions_at table_entry_at entries_reply_at reply_of_kind command_codec_grammar_reply_at value_at bytes_at number_at within length_at string_that string_at frames_grammar_vote_at votes_at decided_at ranges_at tuple_at part_bytes_at submit_at prepare_at frames_grammar_promise_at refuse_at accept_at decide_at fetch_at chosen_at trimmed_at ask_safe_at safe_at trim_to_at ask_checkpoint_at have_checkpoint_at ask_part_at part_at gone_at frames_grammar_reply_at body_of_kind party_at frame_of_kind kind_at is_concerned entries_below reply_after reply_to replica_of answer_of effect_of apply state_bytes kept_reply_at session_at_least this_log_at state_at whole_state prepares accepts fetches covered_to asks client_ticks replied client_takes leads promised refused submits starts_on_tick resends levels are_all_held met_over gap_after learns decided chosen applies_effects merges opened first_where offers proposing proposes_after restores chooses begins answered_by takes_part takes_gone members_of step ticks trimmed least asks_round answers spread_over quiet_after epoch_at vote_journal_grammar_promise_at vote_journal_grammar_vote_at trim_at change_of_kind change_at first_at ranges_of are_held lib.Count.ones
printed = refl
