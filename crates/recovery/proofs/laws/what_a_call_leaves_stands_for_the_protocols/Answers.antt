use Rattle.recovery.proofs.Standing.{begun_stands, heard_stands, parted_stands, gone_stands}
use Rattle.recovery.proofs.laws.what_a_call_leaves_stands_for_the_protocols.Goals as goal

pub returns-clause-begun : goal.returns-clause-begun
returns-clause-begun c = begun_stands

pub returns-clause-heard : goal.returns-clause-heard
returns-clause-heard c = heard_stands

pub returns-clause-parted : goal.returns-clause-parted
returns-clause-parted c = parted_stands

pub returns-clause-gone : goal.returns-clause-gone
returns-clause-gone c = gone_stands
