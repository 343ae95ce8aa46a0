use Rattle.std.proofs.Common.{◌≡◌, ◌==◌, if◌then◌else◌, Some, ◌-◌, ◌+◌, ◌++◌, ◌∷◌, [], List, ℕ, length, refl, sym, ap, ◌∙◌, subst, arith, inl}
use Rattle.disk_model.specs.declared.disk.Disk.{Ghosts}
use Rattle.disk_model.specs.Calls.{Told, Tells, LeavesOnly, IsSettled, area_bytes, reads}
use Rattle.disk_model.specs.Running.{Ending, Passed}
use Rattle.disk_model.specs.Went.{WentBy}
use Rattle.disk_model.proofs.Reading.{reads-bytes}
use Rattle.disk_model.proofs.Went.{went_after, went_before, went_leaves, went_told}
use Rattle.gate_area.specs.Operations.{gate_ops}
use Rattle.gate_area.proofs.Pairs.{gate_settles}
use Rattle.gate_area.proofs.Phases.{stays_leaves}
use Rattle.gate_log.specs.Journal.{Log, Holds, appended}
use Rattle.gate_log.specs.Moments.{OldOrNew}
use Rattle.gate_log.specs.Records.{IsShort, behind_gate}
use Rattle.gate_log.proofs.Moves.{gate-log, append_leaves, append_holds, records_are}
use Rattle.gate_log.proofs.Going.{append_idle, append_went, gate_went, refused_went}
use Rattle.gate_log.proofs.log.GateLog.append.Goals as goal

pub returns-then-end-self-clause-moments : goal.returns-then-end-self-clause-moments
returns-then-end-self-clause-moments g c t records tells holds =
    stays_leaves t (g.D.Disk.told c.args.disk.now) (OldOrNew records (records ++ c.args.body.now ∷ []) (reads t)) tells.told (c.requires.settled t tells) (record {
      checks = record { check2 = refl; check3 = refl };
      records = inl (records_are (reads t) c.args.self.area c.args.self.generation records holds.standing holds.content);
    })

pub open_gate-requires-clause-place : goal.open_gate-requires-clause-place
open_gate-requires-clause-place g c t tells =
    let log = c.requires.log t tells in
    omega (arith, ap (λ (l : Log). l.end) c.self.view_is, gate-log c.args.self log.0 (reads t) log.1, log.1.content.within, ap length (reads-bytes t c.args.self.area), ap (λ (l : Log). length (area_bytes l.area t)) c.self.view_is)

-- what the calls of an append leave at each moment
leaves : {D : Type 0} {disk : Ghosts D} {old now : D} {e : Ending} (log inside : Log) (written r : List ℕ) (records : List (List ℕ)) (t : Told)
    → inside ≡ log → written ≡ behind_gate r → IsShort r → IsSettled t → Tells (disk.told old) (disk.honest old) t → Holds log records (reads t)
    → WentBy disk (λ t. gate_ops inside.area (inside.end - 1) written) old now e
    → LeavesOnly t (disk.told now) (OldOrNew records (records ++ r ∷ []) (reads t))
leaves log inside written r records t view body short settled tells holds went =
    went_leaves t (OldOrNew records (records ++ r ∷ []) (reads t)) tells (gate_went log inside written r view body went) (append_leaves t log records r short settled holds)

pub returns-in_err-open_gate-clause-moments : goal.returns-in_err-open_gate-clause-moments
returns-in_err-open_gate-clause-moments g c t records tells holds =
    leaves c.args.self _ c.written.result.now c.args.body.now records t
    c.self.view_is c.written.ensures (omega (arith, c.if-end-self.false, c.room.ensures.room, c.self.invariant.2)) (c.requires.settled t tells) tells holds c.open_gate.ensures.went

pub returns-clause-moments : goal.returns-clause-moments
returns-clause-moments g c t records tells holds =
    leaves c.args.self _ c.written.result.now c.args.body.now records t
    c.self.view_is c.written.ensures (omega (arith, c.if-end-self.false, c.room.ensures.room, c.self.invariant.2)) (c.requires.settled t tells) tells holds c.open_gate.ensures.went

-- what the disk then holds
after : {D : Type 0} {disk : Ghosts D} {old now : D} (log inside longer : Log) (written r : List ℕ) (records : List (List ℕ)) (t u : Told)
    → inside ≡ log → written ≡ behind_gate r → longer ≡ appended log r → IsShort r → IsSettled t → Tells (disk.told old) (disk.honest old) t → disk.told now ≡ Some u → Holds log records (reads t)
    → WentBy disk (λ t. gate_ops inside.area (inside.end - 1) written) old now Passed
    → Holds longer (records ++ r ∷ []) (reads u)
after log inside longer written r records t u view body is short settled tells told holds went =
    let u_is = went_told t u (gate_went log inside written r view body went) tells told in
    subst (λ (l : Log). Holds l (records ++ r ∷ []) (reads u)) (sym is)
    (subst (λ (x : Told). Holds (appended log r) (records ++ r ∷ []) (reads x)) (sym u_is) (append_holds t log records r short settled holds))

longer_is : (log inside longer : Log) (r : List ℕ) (room : ℕ) → inside ≡ log → room ≡ 5 + length r
    → longer ≡ record log { end = inside.end + room; base_end = if log.base_end == 17 then inside.end + room else log.base_end } → longer ≡ appended log r
longer_is log inside longer r room view size is =
    let end : inside.end + room ≡ log.end + (5 + length r) = omega (arith, ap (λ (l : Log). l.end) view, size) in
    is ∙ ap (λ n. (let l : Log = record log { end = n; base_end = if log.base_end == 17 then n else log.base_end } in l)) end

pub returns-clause-holds : goal.returns-clause-holds
returns-clause-holds g c t u records tells now_tells holds =
    after c.args.self _ c.longer.result c.written.result.now c.args.body.now records t u
    c.self.view_is c.written.ensures (longer_is c.args.self _ c.longer.result c.args.body.now c.room.result c.self.view_is c.room.ensures.room c.longer.ensures)
    (omega (arith, c.if-end-self.false, c.room.ensures.room, c.self.invariant.2)) (c.requires.settled t tells) tells now_tells.told holds c.in_ok-open_gate.ensures.went

pub returns-clause-stands : goal.returns-clause-stands
returns-clause-stands g c u now_tells =
    let before = went_before u c.open_gate.ensures.went now_tells in
    let log = c.requires.log before.0 before.1 in (
      log.0 ++ c.args.body.now ∷ [],
      after c.args.self _ c.longer.result c.written.result.now c.args.body.now log.0 before.0 u
          c.self.view_is c.written.ensures (longer_is c.args.self _ c.longer.result c.args.body.now c.room.result c.self.view_is c.room.ensures.room c.longer.ensures)
          (omega (arith, c.if-end-self.false, c.room.ensures.room, c.self.invariant.2)) (c.requires.settled before.0 before.1) before.1 now_tells.told log.1 c.in_ok-open_gate.ensures.went,
    )

pub returns-clause-done : goal.returns-clause-done
returns-clause-done g c = went_after IsSettled c.in_ok-open_gate.ensures.went (gate_settles c.self.inside.area (c.self.inside.end - 1) c.written.result.now)

pub returns-then-end-self-clause-went : goal.returns-then-end-self-clause-went
returns-then-end-self-clause-went g c =
    append_idle g.D.Disk c.args.disk.now c.args.self c.args.body.now
    (omega (arith, c.if-end-self.true, c.room.ensures.room, ap (λ (l : Log). l.end) c.self.view_is, ap (λ (l : Log). l.limit) c.self.view_is))

pub returns-in_err-open_gate-clause-went : goal.returns-in_err-open_gate-clause-went
returns-in_err-open_gate-clause-went g c =
    refused_went c.in_err-open_gate.field-0.0 c.from_residual.result c.from_residual.ensures.1
    (append_went c.args.self _ c.written.result.now c.args.body.now c.self.view_is c.written.ensures
    (omega (arith, c.if-end-self.false, c.room.ensures.room, ap (λ (l : Log). l.end) c.self.view_is, ap (λ (l : Log). l.limit) c.self.view_is)) c.in_err-open_gate.ensures.went)

pub returns-clause-went : goal.returns-clause-went
returns-clause-went g c =
    append_went c.args.self _ c.written.result.now c.args.body.now c.self.view_is c.written.ensures
    (omega (arith, c.if-end-self.false, c.room.ensures.room, ap (λ (l : Log). l.end) c.self.view_is, ap (λ (l : Log). l.limit) c.self.view_is)) c.in_ok-open_gate.ensures.went
