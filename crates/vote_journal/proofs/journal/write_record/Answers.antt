use Rattle.std.proofs.Common.{◌≡◌, inl, ℕ, ◌+◌, ◌<◌, List, [], ◌∷◌, ◌++◌, length, IfOk, refl, sym, subst}
use Rattle.disk_model.specs.Calls.{reads}
use Rattle.gate_log.specs.Moments.{OldOrNew}
use Rattle.gate_log.specs.Journal.{Holds}
use Rattle.gate_log.specs.declared.fault.LogFault.TheVariants.{Full}
use Rattle.gate_log.proofs.Moves.{records_are}
use Rattle.gate_area.proofs.Phases.{stays_leaves}
use Rattle.vote_journal.proofs.Writing.{body_is, only_error}
use Rattle.disk_model.specs.Went.{WentBy}
use Rattle.disk_model.proofs.Went.{went_none, went_wanting}
use Rattle.gate_log.proofs.Going.{wanted_went}
use Rattle.gate_log.specs.Operations.{append_ops, log_ending}
use Rattle.vote_journal.proofs.journal.write_record.Goals as goal

pub returns-in_err-push-clause-moments : goal.returns-in_err-push-clause-moments
returns-in_err-push-clause-moments g c t records tells holds =
    stays_leaves t (g.D.Disk.told c.args.disk.now) (OldOrNew records (records ++ c.args.bytes.now ∷ []) (reads t)) tells.told (c.requires.settled t tells) (record {
      checks = record { check2 = refl; check3 = refl };
      records = inl (records_are (reads t) c.args.log.area c.args.log.generation records holds.standing holds.content);
    })

pub returns-clause-full : goal.returns-clause-full
returns-clause-full g c len is =
    let same = body_is c.push.new.self c.new-body.result c.args.bytes.now c.in_ok-push.ensures.ok c.new-body.ensures in
    subst (λ (b : List ℕ). (len ≡ c.args.log.end + (5 + length b)) × (c.args.log.limit < len)) same ((c.append.ensures.full len).0 is)

pub returns-clause-longer : goal.returns-clause-longer
returns-clause-longer g c longer =
    let same = body_is c.push.new.self c.new-body.result c.args.bytes.now c.in_ok-push.ensures.ok c.new-body.ensures in
    let over = subst (λ (b : List ℕ). c.args.log.limit < c.args.log.end + (5 + length b)) (sym same) longer in
    let is = (c.append.ensures.full (c.args.log.end + (5 + length c.args.bytes.now))).1 (subst (λ (b : List ℕ). (c.args.log.end + (5 + length c.args.bytes.now) ≡ c.args.log.end + (5 + length b)) × (c.args.log.limit < c.args.log.end + (5 + length c.args.bytes.now))) (sym same) (refl, longer)) in
    (c.append.ensures.idle over, only_error c.append.result (Full (c.args.log.end + (5 + length c.args.bytes.now))) is)

pub returns-clause-holds : goal.returns-clause-holds
returns-clause-holds g c t u records tells now_tells holds =
    let same = body_is c.push.new.self c.new-body.result c.args.bytes.now c.in_ok-push.ensures.ok c.new-body.ensures in
    subst (λ (b : List ℕ). IfOk c.append.result (λ next. Holds next (records ++ b ∷ []) (reads u))) same (c.append.ensures.holds t u records tells now_tells holds)

pub returns-in_err-push-clause-went : goal.returns-in_err-push-clause-went
returns-in_err-push-clause-went g c =
    wanted_went c.from_residual.result c.from_residual.ensures.1 (went_wanting (λ t. append_ops c.args.log c.args.bytes.now) (went_none g.D.Disk c.args.disk.now))

pub returns-clause-went : goal.returns-clause-went
returns-clause-went g c =
    let same = body_is c.push.new.self c.new-body.result c.args.bytes.now c.in_ok-push.ensures.ok c.new-body.ensures in
    subst (λ (b : List ℕ). WentBy g.D.Disk (λ t. append_ops c.args.log b) c.args.disk.now c.append.new.disk (log_ending c.append.result)) same c.append.ensures.went
