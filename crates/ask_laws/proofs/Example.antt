-- A run that may be, in which a command is asked and learned.
use Rattle.std.proofs.Common.{◌≡◌, [], ◌∷◌, inl, refl, arith}
use Rattle.std.specs.Fmt.{digits}
use Rattle.config_walk.specs.Address.{IsAddress}
use Rattle.mrp_config.specs.Routing.{is_concerned}
use Rattle.mrp_config.specs.Valid.{IsValid, AreSeats}
use Rattle.command_codec.specs.Fields.{u16_bytes, u64_bytes}
use Rattle.command_codec.specs.Grammar.{append_at, command_of_kind, command_at, entry_at, batch_at}
use Rattle.command_codec.specs.Reader.{bytes_at, number_at, within, length_at, string_at}
use Rattle.hex.specs.Hex.{IsBytes}
use Rattle.plain_model.specs.Replicas.{effect_of, apply}
use Rattle.plain_model.specs.StateBytes.{state_bytes}
use Rattle.command_codec.specs.Spelling.{command_bytes}
use Rattle.protocol.specs.Ballots.{covered_to}
use Rattle.protocol.specs.Client.{asks}
use Rattle.protocol.specs.Coordinator.{leads, submits}
use Rattle.protocol.specs.Learner.{are_all_held, met_over, gap_after, learns}
use Rattle.protocol.specs.Learning.{applies_effects}
use Rattle.protocol.specs.Merging.{merges}
use Rattle.protocol.specs.Opening.{opened}
use Rattle.protocol.specs.Proposing.{first_where, offers, proposing, proposes_after}
use Rattle.protocol.specs.Recovery.{restores, chooses, begins}
use Rattle.protocol.specs.Rings.{members_of}
use Rattle.protocol.specs.Step.{step}
use Rattle.range_map.specs.Entries.{spread_over}
use Rattle.ring_link.specs.Silence.{quiet_after}
use Rattle.vote_state.specs.Ranges.{ranges_of, are_held}
use Rattle.bare_world.specs.Worlds.{nothing}
use Rattle.bare_world.specs.Runs.{run, MayRun}
use Rattle.state_laws.proofs.Examples.{bytes_by}
use Rattle.ask_laws.specs.Asks.{asked_in, IsAsked}
use Rattle.plain_model.specs.Lines.{learnings}
use Rattle.ask_laws.specs.Example.{config, command, entry, a_run, learned}

pub run-learns : learnings (run config a_run nothing).lines ≡ learned ∷ []
unfolding u16_bytes u64_bytes append_at command_of_kind command_at entry_at batch_at bytes_at number_at within length_at string_at is_concerned effect_of apply state_bytes covered_to asks leads submits are_all_held met_over gap_after learns applies_effects merges opened first_where offers proposing proposes_after restores chooses begins members_of step spread_over quiet_after ranges_of are_held lib.Count.ones
run-learns = refl

asked_bytes : IsBytes (command_bytes command)
unfolding u16_bytes
asked_bytes = bytes_by (1 ∷ 0 ∷ 0 ∷ 1 ∷ 120 ∷ []) (omega arith, (omega arith, (omega arith, (omega arith, (omega arith, tt)))))

pub run-may : MayRun config nothing a_run
unfolding asks opened begins chooses restores merges members_of is_concerned
run-may = (
  ((_, refl), record { valid = (omega arith, omega arith); numbers = tt; bytes = asked_bytes }),
  (
    record { node = (_, refl); epoch = refl; rings = refl; newest = refl; readable = λ p newest is none. absurd (cc) },
    (tt, (record { sent = _; there = inl refl; by = refl; same = refl }, tt)),
  ),
)

node_address : IsAddress (49 ∷ 50 ∷ 55 ∷ 46 ∷ 48 ∷ 46 ∷ 48 ∷ 46 ∷ 49 ∷ 58 ∷ 55 ∷ 49 ∷ 48 ∷ 48 ∷ [])
unfolding digits
node_address = record { a = 127; b = 0; c = 0; d = 1; port = 7100; bytes = (omega arith, omega arith, omega arith, omega arith); above = omega arith; short = omega arith; spelled = refl }

client_address : IsAddress (49 ∷ 50 ∷ 55 ∷ 46 ∷ 48 ∷ 46 ∷ 48 ∷ 46 ∷ 49 ∷ 58 ∷ 55 ∷ 50 ∷ 48 ∷ 48 ∷ [])
unfolding digits
client_address = record { a = 127; b = 0; c = 0; d = 1; port = 7200; bytes = (omega arith, omega arith, omega arith, omega arith); above = omega arith; short = omega arith; spelled = refl }

no_bytes : IsBytes []
no_bytes = bytes_by [] tt

seats : AreSeats (0 ∷ []) (0 ∷ [])
seats = record { few = (omega arith, omega arith); numbers = (omega arith, tt); different = (refl, tt); known = (refl, tt) }

pub run-valid : IsValid config
run-valid = record {
  m = (omega arith, omega arith);
  lambda = omega arith;
  delta = (omega arith, omega arith);
  resend = (omega arith, omega arith);
  suspect = (omega arith, omega arith);
  attempt = (omega arith, omega arith);
  checkpoint = (omega arith, omega arith);
  trim = (omega arith, omega arith);
  window = (omega arith, omega arith);
  journal = (omega arith, omega arith);
  nodes = record { few = (omega arith, omega arith); ids = (omega arith, tt); numbers = (omega arith, tt); addresses = (node_address, tt) };
  clients = record { few = omega arith; ids = (omega arith, tt); numbers = (omega arith, tt); addresses = (client_address, tt) };
  rings = record { few = (omega arith, omega arith); ids = (omega arith, tt); numbers = (omega arith, tt); acceptors = (seats, tt); rounds = ((omega arith, omega arith), tt) };
  partitions = record {
    few = (omega arith, omega arith);
    ids = (omega arith, tt);
    numbers = (omega arith, tt);
    each = (
      record {
        replicas = seats;
        some = (omega arith, omega arith);
        increase = (omega arith, tt);
        numbers = (omega arith, tt);
        known = (refl, tt);
        home = refl;
        from = record { few = omega arith; bytes = no_bytes };
        to = record { few = omega arith; bytes = no_bytes };
        few_logs = omega arith;
        logs = (omega arith, tt);
        low_logs = (omega arith, tt);
      },
      tt,
    );
    quorums = (record { trims = (omega arith, omega arith); recovers = (omega arith, omega arith); meet = omega arith }, tt);
    replicas = (tt, tt);
    logs = (tt, tt);
    ranges = (refl, refl);
  };
}

pub entry-asked : IsAsked config (asked_in config a_run) 0 entry
unfolding u16_bytes is_concerned
entry-asked = record {
  command = command;
  told = refl;
  spelled = refl;
  route = refl;
  valid = record { valid = (omega arith, omega arith); numbers = tt; bytes = asked_bytes };
  client = (_, refl);
  entry = record { asked = omega arith; numbered = omega arith; short = omega arith };
}
