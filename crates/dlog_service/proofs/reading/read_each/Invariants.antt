use Rattle.std.proofs.Common.{◌≡◌, ◌-◌, length}
use Rattle.std.specs.List.{AllByRecursion}
use Rattle.mrp_types.specs.Reading.{each}
use Rattle.command_codec.specs.Reader.{string_at}
use Rattle.command_codec.proofs.Loops.{before}
use Rattle.state_laws.specs.States.{IsShort}
use Rattle.dlog_service.proofs.reading.read_each.Given as goal

-- what was read so far and what is still read are all of it
abbrev pub invariant-loop-turn : goal.invariant-loop-turn
invariant-loop-turn l = record {
  all : before l.values.items (each (string_at 0 2048) (l.count - l._turn) l.fields) ≡ each (string_at 0 2048) l.count l.fn.fields;
  count : length l.values.items ≡ l._turn;
  short : AllByRecursion IsShort l.values.items;
}
