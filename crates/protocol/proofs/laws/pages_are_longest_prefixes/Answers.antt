use Rattle.std.proofs.Common.{◌-◌}
use Rattle.frames.specs.Spelling.{vote_size, decided_size}
use Rattle.protocol.specs.Acceptor.{page_room}
use Rattle.protocol.specs.Proposing.{unproposed, entry_size}
use Rattle.plain_model.proofs.Pages.{front-longest}
use Rattle.protocol.proofs.laws.pages_are_longest_prefixes.Goals as goal

pub returns-clause-votes : goal.returns-clause-votes
returns-clause-votes c = λ votes. front-longest vote_size page_room votes

pub returns-clause-ranges : goal.returns-clause-ranges
returns-clause-ranges c = λ ranges. front-longest decided_size page_room ranges

pub returns-clause-batch : goal.returns-clause-batch
returns-clause-batch c = λ pending. front-longest entry_size (8192 - 3) (unproposed pending)
