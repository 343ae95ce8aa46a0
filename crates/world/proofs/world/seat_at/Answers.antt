use Rattle.std.proofs.Common.{sym}
use Rattle.world.proofs.Seats.{is_seat}
use Rattle.world.proofs.world.seat_at.Goals as goal

pub returns-clause-sits : goal.returns-clause-sits
returns-clause-sits c = is_seat c.args.ring.now (record { node = c.in-Node.node; position = c.in_ok-position.position }) c.requires (sym c.in_ok-position.ensures)
