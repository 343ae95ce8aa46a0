-- By induction on the front.
use Rattle.ring_kept.proofs.Pages.{front_tells}
use Rattle.ring_kept.proofs.a_page_tells_what_is_held.Goals as goal

pub returns : goal.returns
returns c = front_tells
