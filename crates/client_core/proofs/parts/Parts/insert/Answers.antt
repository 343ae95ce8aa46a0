use Rattle.mrp_types.specs.declared.id.PartitionId.{PartitionId}
use Rattle.command_codec.specs.declared.reply.Reply.{Reply}
use Rattle.std.proofs.Common.{arith, List, ◌∙◌, sym, ap, ◌≡◌, ◌≤◌, length}
use Rattle.std.specs.List.{zip, insert, remove}
use Rattle.client_core.specs.Places.{place_in}
use Rattle.client_core.proofs.Zips.{zip_length, inserted_zip, removed_zip, removed_inserted, inserted_length, inside}
use Rattle.client_core.proofs.parts.Parts.insert.Goals as goal

pub insert-requires : goal.insert-requires
insert-requires c =
    let low = inside c.args.partition.0 c.deref.result.now in
    omega (arith, low, c.place_of-at.ensures, c.deref.ensures.len)

pub insert-requires-2 : goal.insert-requires-2
insert-requires-2 c =
    let low = inside c.args.partition.0 c.deref.result.now in
    omega (arith, low, c.place_of-at.ensures, c.deref.ensures.len, c.self.invariant, c.self.inside.from.ok.0, c.self.inside.replies.ok.0)

pub remove-requires : goal.remove-requires
remove-requires c =
    let low = inside c.args.partition.0 c.deref.result.now in
    omega (arith, low, c.place_of-at.ensures, c.deref.ensures.len, c.in_ok-insert.ensures.len)

pub returns-clause-put : goal.returns-clause-put
returns-clause-put c =
    let at : c.place_of-at.result ≡ place_in c.args.partition.0 c.self.inside.from.items = c.place_of-at.ensures ∙ ap (place_in c.args.partition.0) c.deref.ensures.value in
    rw (← c.self.view_is) (rw (c.in_ok-insert.ensures.items, c.insert-2.ensures.items, at, c.if-is_err.ensures.negation)
    (inserted_zip c.self.inside.from.items c.self.inside.replies.items c.args.partition c.args.reply c.self.invariant))

pub returns-clause-undone : goal.returns-clause-undone
returns-clause-undone c =
    let low = inside c.args.partition.0 c.deref.result.now in
    let first : c.place_of-at.result ≤ length c.self.inside.from.items = omega (arith, low, c.place_of-at.ensures, c.deref.ensures.len, c.self.inside.from.ok.0) in
    let second : c.place_of-at.result ≤ length c.self.inside.replies.items = omega (arith, first, c.self.invariant) in
    let a = c.in_ok-insert.ensures.items in
    let b : c.insert-2.new.self.items ≡ insert c.self.inside.replies.items c.place_of-at.result c.args.reply = rw c.if-is_err.ensures.negation at c.insert-2.ensures.items in
    let long = inserted_length c.self.inside.from.items c.place_of-at.result c.args.partition first in
    let longer = inserted_length c.self.inside.replies.items c.place_of-at.result c.args.reply second in
    let zipped = removed_zip (insert c.self.inside.from.items c.place_of-at.result c.args.partition) (insert c.self.inside.replies.items c.place_of-at.result c.args.reply)
    c.place_of-at.result (omega (arith, long, longer, c.self.invariant)) in
    rw (← c.self.view_is) (rw (a, b) (sym zipped
    ∙ ap (λ (l : List PartitionId). zip l (remove (insert c.self.inside.replies.items c.place_of-at.result c.args.reply) c.place_of-at.result)) (removed_inserted c.self.inside.from.items c.place_of-at.result c.args.partition first)
    ∙ ap (λ (l : List Reply). zip c.self.inside.from.items l) (removed_inserted c.self.inside.replies.items c.place_of-at.result c.args.reply second)))

pub returns-clause-inside : goal.returns-clause-inside
returns-clause-inside c =
    let low = inside c.args.partition.0 c.deref.result.now in
    let first : c.place_of-at.result ≤ length c.self.inside.from.items = omega (arith, low, c.place_of-at.ensures, c.deref.ensures.len, c.self.inside.from.ok.0) in
    let second : c.place_of-at.result ≤ length c.self.inside.replies.items = omega (arith, first, c.self.invariant) in
    let a = c.in_ok-insert.ensures.items in
    let b : c.insert-2.new.self.items ≡ insert c.self.inside.replies.items c.place_of-at.result c.args.reply = rw c.if-is_err.ensures.negation at c.insert-2.ensures.items in
    let long = inserted_length c.self.inside.from.items c.place_of-at.result c.args.partition first in
    let longer = inserted_length c.self.inside.replies.items c.place_of-at.result c.args.reply second in
    let zipped = zip_length (insert c.self.inside.from.items c.place_of-at.result c.args.partition) (insert c.self.inside.replies.items c.place_of-at.result c.args.reply)
    (omega (arith, long, longer, c.self.invariant)) in
    rw (a, b) (omega (arith, zipped, long, first))
