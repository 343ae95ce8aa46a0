use Rattle.std.proofs.Common.{◌≡◌, ◌*◌, length, take, replicate}
use Rattle.disk_model.specs.Calls.{Told, Tells, area_bytes}
use Rattle.disk_model.specs.Running.{Reads, Passed}
use Rattle.disk_model.specs.Went.{WentBy}
use Rattle.gate_area.proofs.reading.read_all.Given as goal

abbrev pub invariant-loop-turn : goal.invariant-loop-turn
invariant-loop-turn g l = record {
  told : g.D.Disk.told l.disk ≡ g.D.Disk.told l.initial.disk;
  went : WentBy g.D.Disk (λ t. replicate l._turn Reads) l.initial.disk l.disk Passed;
  page : length l.page.items ≡ 65536;
  size : 65536 * l._turn ≡ length l.bytes.items;
  bytes : (t : Told) → Tells (g.D.Disk.told l.initial.disk) (g.D.Disk.honest l.initial.disk) t → l.bytes.items ≡ take (length l.bytes.items) (area_bytes l.area t);
}
