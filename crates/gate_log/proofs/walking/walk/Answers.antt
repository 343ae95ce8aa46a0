use Rattle.std.proofs.Common.{◌≡◌, ◌+◌, ◌-◌, ◌∷◌, [], ◌++◌, ◌∙◌, suc, ap, sym, take, drop, length, arith, length-take, length-drop}
use Rattle.std.proofs.lemmas.List.{drop-drop}
use Rattle.gate_log.specs.Records.{mark_of, room, record_at, records_from, walk_of}
use Rattle.gate_log.specs.Walking.{after_some}
use Rattle.gate_log.proofs.Appends.{room-more}
use Rattle.gate_log.proofs.Pages.{opens_is, shut_is, broken_is, step_opens, shut_found, step_shut, step_broken, step_out}
use Rattle.gate_log.proofs.Spelling.{found_stands}
use Rattle.gate_log.proofs.walking.walk.Goals as goal

pub loop-turn-preserved : goal.loop-turn-preserved
loop-turn-preserved c =
    let bytes = c.args.bytes.now in
    let at = c.loop-turn.at in
    let size = c.in-Opens.size in
    let rest = drop at bytes in
    let next = length bytes - (c.loop-turn._turn + 1) in
    let mark = opens_is (length bytes) at (mark_of rest) c.gate_at.result size c.gate_at.ensures c.in-Opens.is in
    let e : length bytes - c.loop-turn._turn ≡ suc next = omega arith in
    let item : c.in_ok-from_slice-in-Opens.field-0 ≡ record_at size rest =
    c.in_ok-from_slice-in-Opens.ensures
    ∙ ap (λ n. take n (drop (at + 5) bytes)) (let n : at + 5 + size - (at + 5) ≡ size = omega arith in n)
    ∙ ap (take size) (sym (drop-drop 5 at bytes)) in
    record {
      gate =
          omega (
            arith,
            c.loop-turn.invariant.gate,
            room-more c.loop-turn.records.items (record_at size rest),
            ap (λ rs. room rs) (c.in_ok-push-in-Opens.ensures.items ∙ ap (λ r. c.loop-turn.records.items ++ r ∷ []) item),
            length-take size (drop 5 rest),
            length-drop 5 rest,
            length-drop at bytes,
            mark.1,
          );
      bound = omega (arith, mark.1);
      walk =
          ap (λ found. after_some found (records_from next (at + (5 + size)) (drop (at + (5 + size)) bytes))) (c.in_ok-push-in-Opens.ensures.items ∙ ap (λ r. c.loop-turn.records.items ++ r ∷ []) item)
          ∙ ap (λ more. after_some (c.loop-turn.records.items ++ record_at size rest ∷ []) (records_from next (at + (5 + size)) more)) (sym (drop-drop (5 + size) at bytes))
          ∙ step_opens c.loop-turn.records.items (length bytes - c.loop-turn._turn) next at size rest (walk_of bytes) e mark.0 c.loop-turn.invariant.walk;
    }

pub returns-in-Shut : goal.returns-in-Shut
returns-in-Shut c =
    let bytes = c.args.bytes.now in
    let at = c.loop-turn.at in
    let next = length bytes - (c.loop-turn._turn + 1) in
    let e : length bytes - c.loop-turn._turn ≡ suc next = omega arith in
    let mark = shut_is (length bytes) at (mark_of (drop at bytes)) c.gate_at.result c.gate_at.ensures c.in-Shut.is in
    let found = shut_found c.loop-turn.records.items (length bytes - c.loop-turn._turn) next at (drop at bytes) (walk_of bytes) e mark.0 c.loop-turn.invariant.walk in
    record {
      walks = step_shut c.args.area c.loop-turn.records at (walk_of bytes) found;
      stands = found_stands c.loop-turn.records.items bytes (λ i. omega (arith, c.type_inv.bytes i)) found;
      gate = (c.loop-turn.invariant.gate, mark.1);
    }

pub returns-in-Broken : goal.returns-in-Broken
returns-in-Broken c =
    let bytes = c.args.bytes.now in
    let at = c.loop-turn.at in
    let next = length bytes - (c.loop-turn._turn + 1) in
    let e : length bytes - c.loop-turn._turn ≡ suc next = omega arith in
    record { walks = step_broken c.args.area c.loop-turn.records.items (length bytes - c.loop-turn._turn) next at (drop at bytes) (walk_of bytes) e (broken_is (length bytes) at (mark_of (drop at bytes)) c.gate_at.result c.gate_at.ensures c.in-Broken.is) c.loop-turn.invariant.walk; stands = tt; gate = tt }

pub returns : goal.returns
returns c =
    let bytes = c.args.bytes.now in
    let at = c.loop-turn.at in
    let e : length bytes - c.loop-turn._turn ≡ 0 = omega arith in
    record { walks = step_out c.args.area c.loop-turn.records.items (length bytes - c.loop-turn._turn) at (drop at bytes) (walk_of bytes) e c.loop-turn.invariant.walk; stands = tt; gate = tt }
