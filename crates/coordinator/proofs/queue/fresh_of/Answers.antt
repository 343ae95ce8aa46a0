use Rattle.std.proofs.Common.{ℕ, ◌+◌, ◌-◌, ◌∙◌, ◌++◌, List, [], ◌∷◌, map, drop, sym, ap, arith, append_assoc}
use Rattle.std.proofs.lemmas.List.{append-nil}
use Rattle.mrp_types.specs.declared.value.Entry.{Entry}
use Rattle.plain_model.specs.Pages.{front_within}
use Rattle.protocol.specs.Proposing.{entry_size}
use Rattle.coordinator.specs.declared.queue.Name.{Name}
use Rattle.coordinator.proofs.Waiting.{room_for, no_room, waiting_valid, append_valid}
use Rattle.coordinator.proofs.queue.fresh_of.Goals as goal

pub returns-then-room-size-clause-entries : goal.returns-then-room-size-clause-entries
returns-then-room-size-clause-entries c =
    let size = c.entry_size-size.ensures in
    let full = c.if-room-size.true in
    c.from_vec-then-room-size.ensures
    ∙ sym (append-nil c.loop-at.fresh.items)
    ∙ ap (λ (es : List Entry). c.loop-at.fresh.items ++ es) (sym (no_room c.loop-at.at c.loop-at.room c.args.waiting.now.entries (c.in-Some.field-0-0.now, c.in-Some.entry.now) (sym c.in-Some.ensures.entry) (omega arith)))
    ∙ c.loop-at.invariant.front

pub loop-at-preserved : goal.loop-at-preserved
loop-at-preserved c =
    let size = c.entry_size-size.ensures in
    let fits = c.if-room-size.false in
    record {
      front =
          ap (λ (es : List Entry). es ++ front_within entry_size (c.loop-at.room - c.entry_size-size.result) (map (λ (e : Name × Entry). e.1) (drop (c.loop-at.at + 1) c.args.waiting.now.entries))) (c.in_ok-push.ensures.items ∙ ap (λ (e : Entry). c.loop-at.fresh.items ++ e ∷ []) c.in_ok-copy.ensures)
          ∙ append_assoc c.loop-at.fresh.items (c.in-Some.entry.now ∷ []) (front_within entry_size (c.loop-at.room - c.entry_size-size.result) (map (λ (e : Name × Entry). e.1) (drop (c.loop-at.at + 1) c.args.waiting.now.entries)))
          ∙ ap (λ (n : ℕ). c.loop-at.fresh.items ++ (c.in-Some.entry.now ∷ front_within entry_size (c.loop-at.room - n) (map (λ (e : Name × Entry). e.1) (drop (c.loop-at.at + 1) c.args.waiting.now.entries)))) size
          ∙ ap (λ (es : List Entry). c.loop-at.fresh.items ++ es) (sym (room_for c.loop-at.at c.loop-at.room c.args.waiting.now.entries (c.in-Some.field-0-0.now, c.in-Some.entry.now) (sym c.in-Some.ensures.entry) (omega arith)))
          ∙ c.loop-at.invariant.front;
      valid = append_valid c.loop-at.fresh.items c.in_ok-copy.field-0 c.in-Some.entry.now c.push.new.self.items c.in_ok-push.ensures.items c.in_ok-copy.ensures c.loop-at.invariant.valid
          (waiting_valid c.loop-at.at c.args.waiting.now.entries (c.in-Some.field-0-0.now, c.in-Some.entry.now) c.requires (sym c.in-Some.ensures.entry));
    }
