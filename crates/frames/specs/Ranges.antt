-- Lists of ranges: in order, without overlap, and maximal.
use Rattle.std.specs.Prelude.{ℕ, ◌==◌, ◌&&◌, not, Bool, false}
use Rattle.mrp_types.specs.Values.{is_skip}
use Rattle.mrp_types.specs.declared.voted.Voted.{Voted}
use Rattle.mrp_types.specs.declared.voted.Decided.{Decided}
use Rattle.frames.specs.declared.lists.Before.{Before}

abbrev pub nothing_before : Before
nothing_before = record { end = 0; ballot = 0; skip = false }

abbrev pub after_vote : Voted → Before
after_vote v = record { end = v.hi; ballot = v.ballot; skip = is_skip v.value }

-- decided ranges have no ballot: any two are of one
abbrev pub after_decided : Decided → Before
after_decided d = record { end = d.hi; ballot = 0; skip = is_skip d.value }

-- whether a range that begins here may be Skip: it wouldn't be one range with the one before it
abbrev pub may_skip : Before → ℕ → ℕ → Bool
may_skip before lo ballot = not (before.skip && ((lo == before.end) && (ballot == before.ballot)))
