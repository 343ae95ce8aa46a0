use Rattle.std.proofs.Common.{◌≤◌, ◌≡◌, arith, sym, ◌∙◌, ap, Some}
use Rattle.std.specs.Prelude.{slice_get}
use Rattle.plain_model.specs.Replicas.{LogState, log_at, log_length}
use Rattle.dlog_service.proofs.CallLaws.{found_here, here_is, trim_kept, trim_state, trim_reply}
use Rattle.dlog_service.proofs.dlog.DLog.trim.Goals as goal

at_place : (c : goal.After-self-2-1) → slice_get c.self.inside.logs.items c.place_of-place.result ≡ Some (log_at c.args.id c.self.inside.logs.items)
at_place c = found_here c.self.inside.logs.items c.deref.result.now c.place_of-place.result c.args.id c.deref.ensures.value c.place_of-place.ensures.place

log_is : (c : goal.After-self-2-1) → c.index_mut.result.now ≡ log_at c.args.id c.self.inside.logs.items
log_is c = here_is c.self.inside.logs.items c.place_of-place.result c.args.id c.index_mut.result.now (at_place c) c.index_mut.ensures.value

within : (c : goal.After-self-2-1) → c.args.position ≤ log_length c.index_mut.result.now
within c =
    let same = ap (λ (l : LogState). log_length l) (here_is c.self.inside.logs.items c.place_of-place.result c.args.id c.index.result.now (at_place c) c.index.ensures ∙ sym (log_is c)) in
    omega (arith, same, c.length-length.ensures, c.if-length-position.false)

pub invariant_of-self : goal.invariant_of-self
invariant_of-self c =
    trim_kept c.self.inside.logs.items c.place_of-place.result c.args.position c.self.inside.size c.trim_to.result c.index_mut.result.now c.trim_to.new.self c.self.invariant.0 c.self.invariant.1
    (at_place c ∙ ap (λ (l : LogState). Some l) (sym (log_is c))) (within c) c.trim_to.ensures.state c.trim_to.ensures.freed

pub returns-clause-state : goal.returns-clause-state
returns-clause-state c =
    trim_state c.self.inside.logs.items c.args.self.now c.place_of-place.result c.args.position c.args.id c.index_mut.result.now c.trim_to.new.self c.self.view_is c.self.invariant.0 (at_place c) (log_is c) (within c)
    c.trim_to.ensures.state

pub returns-clause-reply : goal.returns-clause-reply
returns-clause-reply c = trim_reply c.self.inside.logs.items c.args.self.now c.args.position c.args.id c.index_mut.result.now c.self.view_is (log_is c) (within c)
