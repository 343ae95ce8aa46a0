-- What an entry of a batch is.
use Rattle.std.specs.Prelude.{◌≤◌, ◌<◌, ◌^◌, length}
use Rattle.mrp_types.specs.declared.value.Entry.{Entry}

-- a number from 1 to 2 ^ 63 - 1, and at most 4,608 bytes
pub record IsEntry (entry : Entry) : Type 0 where
  pub asked : 1 ≤ entry.seq
  pub numbered : entry.seq < 2 ^ 63
  pub short : length entry.command ≤ 4608
