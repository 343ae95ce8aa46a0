use Rattle.std.proofs.Common.{◌≡◌, ◌≤◌, length, drop}
use Rattle.disk_model.specs.Areas.{bytes_of}
use Rattle.disk_model.specs.declared.areas.Areas.{Areas}
use Rattle.disk_model.specs.Undoing.{all_undone}
use Rattle.disk_model.proofs.undo.taken_back.Given as goal

-- the calls from this one on are taken back
abbrev pub invariant-loop-left : goal.invariant-loop-left
invariant-loop-left l = record {
  within : l.left ≤ length l.undos;
  back : (areas : Areas) → l.fn.file ≡ bytes_of l.area areas → l.file ≡ bytes_of l.area (all_undone (drop l.left l.undos) areas);
}

abbrev pub decreases-loop-left : goal.decreases-loop-left
decreases-loop-left l = l.left
