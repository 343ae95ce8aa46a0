use Rattle.checkpoint_disk.proofs.Found.{newer_read, older_read, found_all, found_either}
use Rattle.checkpoint_disk.proofs.laws.what_was_saved_is_found.Goals as goal

pub returns-clause-newer : goal.returns-clause-newer
returns-clause-newer c = newer_read

pub returns-clause-older : goal.returns-clause-older
returns-clause-older c = older_read

pub returns-clause-done : goal.returns-clause-done
returns-clause-done c = found_all

pub returns-clause-stopped : goal.returns-clause-stopped
returns-clause-stopped c = found_either
