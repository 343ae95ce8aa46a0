-- The coordinator of the ring of nodes 0, 1 and 2 at node 2, whose acceptor promised ballot 3 and keeps no votes.
use Rattle.std.specs.Prelude.{◌^◌, []}
use Rattle.protocol.specs.Parts.{Part, Effects}
use Rattle.protocol.specs.Learner.{new_part}
use Rattle.protocol.specs.Coordinator.{leads, promised, submits}
use Rattle.protocol.specs.Example.{three, node, fresh_link, client, told}

abbrev pub promised_three : Part
promised_three = new_part (three 2) (record { promise = 3; trim = 0; votes = [] })

abbrev pub started : Effects
started = leads (three 2) fresh_link promised_three

-- node 1 tells all its votes, which are none, and the trim 7
abbrev pub told_trim : Effects
told_trim = promised (three 2) fresh_link started.part (node 1) 5 0 (2 ^ 40) 7 []

abbrev pub submitted : Effects
submitted = submits (three 2) fresh_link told_trim.part 0 client 1 (told 1)
