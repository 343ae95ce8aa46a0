use Rattle.std.proofs.Common.{◌≡◌, ◌<◌, ◌+◌, ◌-◌, ◌^◌, [], ◌∷◌, List, ℕ, length, Bool, Option, Some, inl, refl, sym, ap, ◌∙◌, subst, arith}
use Rattle.disk_model.specs.declared.area.Area.{Area}
use Rattle.disk_model.specs.Calls.{Told, Tells, LeavesOnly, IsSettled, and_then, reads}
use Rattle.gate_log.specs.Journal.{Log, Holds, compacted}
use Rattle.gate_area.specs.Standing.{other_of}
use Rattle.gate_area.specs.Gate.{renew_calls, RenewLeaves}
use Rattle.gate_log.specs.Moments.{OldOrNew}
use Rattle.gate_log.specs.Records.{IsShort, area_body}
use Rattle.gate_log.proofs.Moves.{records_are}
use Rattle.gate_area.proofs.Phases.{leaves_as, stays_leaves}
use Rattle.gate_log.proofs.Renewals.{length-body, compact_leaves, next_holds, renewed}
use Rattle.disk_model.specs.declared.disk.Disk.{Ghosts}
use Rattle.disk_model.specs.Running.{Passed}
use Rattle.disk_model.specs.Went.{WentBy}
use Rattle.disk_model.proofs.Went.{went_before, went_none, went_told, went_wanting}
use Rattle.gate_area.specs.Operations.{renew_ops}
use Rattle.gate_log.proofs.Going.{compact_idle, compact_went, renew_went, refused_went, wanted_went}
use Rattle.gate_log.specs.Operations.{compact_ops}
use Rattle.gate_log.proofs.log.GateLog.compact.Goals as goal

-- no call was made
old_leaves : (t : Told) (now : Option Told) (log : Log) (records : List (List ℕ)) (r : List ℕ) (honest : Bool) → Tells now honest t → IsSettled t → Holds log records (reads t)
    → LeavesOnly t now (OldOrNew records (r ∷ []) (reads t))
old_leaves t now log records r honest tells settled holds =
    stays_leaves t now (OldOrNew records (r ∷ []) (reads t)) tells.told settled (record {
      checks = record { check2 = refl; check3 = refl };
      records = inl (records_are (reads t) log.area log.generation records holds.standing holds.content);
    })

pub returns-then-self-end-clause-moments : goal.returns-then-self-end-clause-moments
returns-then-self-end-clause-moments g c t records tells holds =
    old_leaves t (g.D.Disk.told c.args.disk.now) c.args.self records c.args.body.now (g.D.Disk.honest c.args.disk.now) tells (c.requires.settled t tells) holds

pub returns-in_err-bytes-clause-moments : goal.returns-in_err-bytes-clause-moments
returns-in_err-bytes-clause-moments g c t records tells holds =
    old_leaves t (g.D.Disk.told c.args.disk.now) c.args.self records c.args.body.now (g.D.Disk.honest c.args.disk.now) tells (c.requires.settled t tells) holds

pub renew-requires-clause-body : goal.renew-requires-clause-body
renew-requires-clause-body g c = omega (arith, ap length (c.deref.ensures.value ∙ c.in_ok-bytes.ensures), length-body (c.self.inside.generation + 1) (c.args.body.now ∷ []))

-- the other area is renewed
new_leaves : (t : Told) (now : Option Told) (log : Log) (records : List (List ℕ)) (r bytes : List ℕ) (area : Area) → IsShort r → log.generation < 2 ^ 64 - 1 → Holds log records (reads t)
    → area ≡ other_of log.area → bytes ≡ area_body (log.generation + 1) (r ∷ []) → LeavesOnly t now (RenewLeaves area bytes (reads t))
    → LeavesOnly t now (OldOrNew records (r ∷ []) (reads t))
new_leaves t now log records r bytes area short low holds where_is what_is leaves =
    leaves_as t now (RenewLeaves area bytes (reads t)) (OldOrNew records (r ∷ []) (reads t)) leaves
    (λ image here. compact_leaves log records r (reads t) image short low holds
    (subst (λ (b : List ℕ). RenewLeaves (other_of log.area) b (reads t) image) what_is (subst (λ (a : Area). RenewLeaves a bytes (reads t) image) where_is here)))

pub returns-in_err-renew-clause-moments : goal.returns-in_err-renew-clause-moments
returns-in_err-renew-clause-moments g c t records tells holds =
    new_leaves t (g.D.Disk.told c.renew.new.disk) c.args.self records c.args.body.now c.deref.result.now c.other-area.result
    (omega (arith, c.if-self-end.false, c.room-end.ensures.room, c.self.invariant.2)) c.requires.generation holds
    (c.other-area.ensures ∙ ap (λ (l : Log). other_of l.area) c.self.view_is)
    (c.deref.ensures.value ∙ c.in_ok-bytes.ensures ∙ ap (λ (l : Log). area_body (l.generation + 1) (c.args.body.now ∷ [])) c.self.view_is)
    (c.renew.ensures.moments t tells)

pub returns-clause-moments : goal.returns-clause-moments
returns-clause-moments g c t records tells holds =
    new_leaves t (g.D.Disk.told c.renew.new.disk) c.args.self records c.args.body.now c.deref.result.now c.other-area.result
    (omega (arith, c.if-self-end.false, c.room-end.ensures.room, c.self.invariant.2)) c.requires.generation holds
    (c.other-area.ensures ∙ ap (λ (l : Log). other_of l.area) c.self.view_is)
    (c.deref.ensures.value ∙ c.in_ok-bytes.ensures ∙ ap (λ (l : Log). area_body (l.generation + 1) (c.args.body.now ∷ [])) c.self.view_is)
    (c.renew.ensures.moments t tells)

-- the log that is handed back
log_is : (area : Area) (generation end limit : ℕ) (inside log : Log) (r : List ℕ) → inside ≡ log → area ≡ other_of inside.area → generation ≡ inside.generation + 1 → end ≡ 22 + length r → limit ≡ inside.limit
    → (let l : Log = record { area = area; generation = generation; end = end; base_end = end; limit = limit } in l) ≡ compacted log r
log_is area generation end limit inside log r view a b d e =
    ap (λ x. (let l : Log = record { area = x; generation = generation; end = end; base_end = end; limit = limit } in l)) a
    ∙ ap (λ x. (let l : Log = record { area = other_of inside.area; generation = x; end = end; base_end = end; limit = limit } in l)) b
    ∙ ap (λ x. (let l : Log = record { area = other_of inside.area; generation = inside.generation + 1; end = x; base_end = x; limit = limit } in l)) d
    ∙ ap (λ x. (let l : Log = record { area = other_of inside.area; generation = inside.generation + 1; end = 22 + length r; base_end = 22 + length r; limit = x } in l)) e
    ∙ same_end inside r
    ∙ ap (λ l. compacted l r) view
  where
    same_end : (inside : Log) (r : List ℕ) → (let l : Log = record { area = other_of inside.area; generation = inside.generation + 1; end = 22 + length r; base_end = 22 + length r; limit = inside.limit } in l) ≡ compacted inside r
    same_end inside r = ap (λ x. (let l : Log = record { area = other_of inside.area; generation = inside.generation + 1; end = x; base_end = 22 + length r; limit = inside.limit } in l)) (let n : 22 + length r ≡ 17 + (5 + (length r + 0)) = omega arith in n)

-- what the disk holds then
holds_next : {D : Type 0} {disk : Ghosts D} {old now : D} (t u : Told) (log : Log) (records : List (List ℕ)) (r bytes : List ℕ) (area : Area) → IsShort r → log.generation < 2 ^ 64 - 1 → IsSettled t → Holds log records (reads t)
    → area ≡ other_of log.area → bytes ≡ area_body (log.generation + 1) (r ∷ []) → WentBy disk (renew_ops area bytes) old now Passed → Tells (disk.told old) (disk.honest old) t → disk.told now ≡ Some u
    → Holds (compacted log r) (r ∷ []) (reads u)
holds_next t u log records r bytes area short low settled holds where_is what_is went tells is =
    let body = area_body (log.generation + 1) (r ∷ []) in
    let u_is = went_told t u (renew_went log r bytes area where_is what_is went) tells is in
    let done = renewed t (other_of log.area) body (omega (arith, length-body (log.generation + 1) (r ∷ []))) settled in
    subst (λ (x : Told). Holds (compacted log r) (r ∷ []) (reads x)) (sym u_is)
    (next_holds log records r (reads t) (reads (and_then t (renew_calls (other_of log.area) body t))) short low holds done.others done.whole)

pub returns-clause-holds : goal.returns-clause-holds
returns-clause-holds g c t u records tells now_tells holds =
    subst (λ (l : Log). Holds l (c.args.body.now ∷ []) (reads u))
    (sym (log_is c.other-area.result (c.self.inside.generation + 1) (17 + c.room-end.result) c.self.inside.limit _ c.args.self c.args.body.now c.self.view_is c.other-area.ensures refl (omega (arith, c.room-end.ensures.room)) refl))
    (holds_next t u c.args.self records c.args.body.now c.deref.result.now c.other-area.result
    (omega (arith, c.if-self-end.false, c.room-end.ensures.room, c.self.invariant.2)) c.requires.generation (c.requires.settled t tells) holds
    (c.other-area.ensures ∙ ap (λ (l : Log). other_of l.area) c.self.view_is)
    (c.deref.ensures.value ∙ c.in_ok-bytes.ensures ∙ ap (λ (l : Log). area_body (l.generation + 1) (c.args.body.now ∷ [])) c.self.view_is)
    c.in_ok-renew.ensures.went tells now_tells.told)

pub returns-clause-stands : goal.returns-clause-stands
returns-clause-stands g c u now_tells =
    let before = went_before u c.renew.ensures.went now_tells in
    let log = c.requires.log before.0 before.1 in (
      c.args.body.now ∷ [],
      subst (λ (l : Log). Holds l (c.args.body.now ∷ []) (reads u))
          (sym (log_is c.other-area.result (c.self.inside.generation + 1) (17 + c.room-end.result) c.self.inside.limit _ c.args.self c.args.body.now c.self.view_is c.other-area.ensures refl (omega (arith, c.room-end.ensures.room)) refl))
          (holds_next before.0 u c.args.self log.0 c.args.body.now c.deref.result.now c.other-area.result
          (omega (arith, c.if-self-end.false, c.room-end.ensures.room, c.self.invariant.2)) c.requires.generation (c.requires.settled before.0 before.1) log.1
          (c.other-area.ensures ∙ ap (λ (l : Log). other_of l.area) c.self.view_is)
          (c.deref.ensures.value ∙ c.in_ok-bytes.ensures ∙ ap (λ (l : Log). area_body (l.generation + 1) (c.args.body.now ∷ [])) c.self.view_is)
          c.in_ok-renew.ensures.went before.1 now_tells.told),
    )

pub returns-then-self-end-clause-went : goal.returns-then-self-end-clause-went
returns-then-self-end-clause-went g c =
    compact_idle g.D.Disk c.args.disk.now c.args.self c.args.body.now g.met.D.Disk.tells
    (omega (arith, c.if-self-end.true, c.room-end.ensures.room, ap (λ (l : Log). l.limit) c.self.view_is))

pub returns-in_err-bytes-clause-went : goal.returns-in_err-bytes-clause-went
returns-in_err-bytes-clause-went g c =
    wanted_went c.from_residual.result c.from_residual.ensures.1 (went_wanting (compact_ops c.args.self c.args.body.now) (went_none g.D.Disk c.args.disk.now))

pub returns-in_err-renew-clause-went : goal.returns-in_err-renew-clause-went
returns-in_err-renew-clause-went g c =
    refused_went c.in_err-renew.field-0.0 c.from_residual-in_err-renew.result c.from_residual-in_err-renew.ensures.1
    (compact_went c.args.self c.args.body.now c.deref.result.now c.other-area.result g.met.D.Disk.tells
    (c.other-area.ensures ∙ ap (λ (l : Log). other_of l.area) c.self.view_is)
    (c.deref.ensures.value ∙ c.in_ok-bytes.ensures ∙ ap (λ (l : Log). area_body (l.generation + 1) (c.args.body.now ∷ [])) c.self.view_is)
    (omega (arith, c.if-self-end.false, c.room-end.ensures.room, ap (λ (l : Log). l.limit) c.self.view_is)) c.in_err-renew.ensures.went)

pub returns-clause-went : goal.returns-clause-went
returns-clause-went g c =
    compact_went c.args.self c.args.body.now c.deref.result.now c.other-area.result g.met.D.Disk.tells
    (c.other-area.ensures ∙ ap (λ (l : Log). other_of l.area) c.self.view_is)
    (c.deref.ensures.value ∙ c.in_ok-bytes.ensures ∙ ap (λ (l : Log). area_body (l.generation + 1) (c.args.body.now ∷ [])) c.self.view_is)
    (omega (arith, c.if-self-end.false, c.room-end.ensures.room, ap (λ (l : Log). l.limit) c.self.view_is)) c.in_ok-renew.ensures.went
