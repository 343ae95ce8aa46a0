use Rattle.disk_states.proofs.Working.{held_images, held_anew}
use Rattle.disk_states.proofs.a_held_disk_stands_for_its_state.Goals as goal

pub returns-clause-images : goal.returns-clause-images
returns-clause-images c = held_images

pub returns-clause-anew : goal.returns-clause-anew
returns-clause-anew c = held_anew
