use Rattle.std.proofs.Common.{arith, ◌≡◌, ◌≤◌, length, drop}
use Rattle.outside.proofs.Pieces.{front_moved, none_left}
use Rattle.outside.proofs.memory.MemSourceSource.read.Goals as goal
use Rattle.mrp_types.proofs.TestLemmas.{all_of_rest}

pub returns-clause-bytes : goal.returns-clause-bytes
returns-clause-bytes c =
    let r = c.move_front-taken.result in
    let at = c.self.inside.at in
    let bytes = c.self.inside.bytes in
    let into = c.args.into.now in
    let moved = rw (c.bytes.ensures, all_of_rest at bytes) at c.move_front-taken.ensures in
    let fits : r ≤ length (drop at bytes) = grind (arith, moved.count) in
    let same : length c.move_front-taken.new.into ≡ length into = c.move_front-taken.auto.into in (
      rw (← c.self.view_is, moved.moved) (front_moved r at bytes into fits),
      λ zero room. none_left r at (length into) bytes moved.count zero (rw same at room),
    )
