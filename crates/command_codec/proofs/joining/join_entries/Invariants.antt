use Rattle.std.proofs.Common.{◌≡◌, ◌++◌, drop}
use Rattle.std.specs.List.{flat_map}
use Rattle.command_codec.specs.Replies.{entries_of, until_more, some_more}
use Rattle.command_codec.proofs.joining.join_entries.Given as goal

-- the entries so far, and those still to add
abbrev pub invariant-loop-part : goal.invariant-loop-part
invariant-loop-part l = record {
  all : l.all ++ flat_map entries_of (until_more (drop l.part-index l.parts)) ≡ flat_map entries_of (until_more l.parts);
  more : some_more (drop l.part-index l.parts) ≡ some_more l.parts;
}
