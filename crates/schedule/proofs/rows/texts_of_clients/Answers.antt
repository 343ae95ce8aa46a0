use Rattle.std.proofs.Common.{refl}
use Rattle.std.specs.Fmt.{digits}
use Rattle.hex.specs.Hex.{encode_with, decode_pairs}
use Rattle.mrp_config.specs.Routing.{is_concerned}
use Rattle.schedule.specs.Fields.{number_in, known, bytes_in, byte_of, logs_of}
use Rattle.schedule.specs.Reading.{append_at, multi_at, read_at, trimlog_at, get_at, scan_at, update_at, insert_at, delete_at, swap_at, commands_on_keys, command_at, ask_at, flow_at, lose_at, deliver_at, list_at, tick_at, lead_at, crash_at, image_at, restart_at, calls_at, fuse_at, fail_at, failread_at, show_at, events_of_disks, events_of_nodes, event_at}
use Rattle.schedule.specs.Asking.{command_of}
use Rattle.schedule.proofs.rows.texts_of_clients.Goals as goal

pub returns : goal.returns
unfolding digits encode_with decode_pairs number_in known bytes_in byte_of logs_of is_concerned append_at multi_at read_at trimlog_at get_at scan_at update_at insert_at delete_at swap_at commands_on_keys command_at ask_at flow_at lose_at deliver_at list_at tick_at lead_at crash_at image_at restart_at calls_at fuse_at fail_at failread_at show_at events_of_disks events_of_nodes event_at command_of
returns c = (refl, (refl, (refl, (refl, (refl, (refl, (refl, (refl, (refl, (refl, (refl, (refl, (refl, (refl, (refl, (refl, tt))))))))))))))))
