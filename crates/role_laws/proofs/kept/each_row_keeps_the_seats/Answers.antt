use Rattle.protocol.specs.Effects.{no_effects}
use Rattle.role_laws.proofs.Seating.{start_seats, promise_seats, refuse_seats, own_seats, learned_seats, finished_seats, after_seats, level_seats}
use Rattle.role_laws.proofs.kept.each_row_keeps_the_seats.Goals as goal

pub returns : goal.returns
returns c = record {
  start = start_seats;
  promise = promise_seats;
  refuse = refuse_seats;
  own_promise = own_seats;
  learned = learned_seats;
  finished = finished_seats;
  proposing = λ ring link part seats. after_seats ring link (no_effects part) seats;
  levelling = level_seats;
}
