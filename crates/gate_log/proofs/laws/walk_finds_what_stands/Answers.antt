use Rattle.gate_log.proofs.Spelling.{walk_finds, found_stands}
use Rattle.gate_log.proofs.laws.walk_finds_what_stands.Goals as goal

pub returns-clause-found : goal.returns-clause-found
returns-clause-found c records file stands = walk_finds records file stands

pub returns-clause-stands : goal.returns-clause-stands
returns-clause-stands c records file are found = found_stands records file are found
