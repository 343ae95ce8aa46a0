-- What a stopped step leaves: its work, what it recorded, and the node of its faces.
use Rattle.std.proofs.Common.{◌≡◌, ℕ, true, false, List, refl, sym, ◌∙◌, ap, arith}
use Rattle.std.specs.Prelude.{◌==◌, if◌then◌else◌}
use Rattle.std.proofs.lemmas.Bool.Decides.{nat_tests}
use Rattle.mrp_types.specs.declared.id.NodeId.{NodeId}
use Rattle.mrp_types.specs.declared.id.RingId.{RingId}
use Rattle.mrp_types.specs.declared.value.Value.{Value}
use Rattle.vote_state.specs.declared.change.Change.{Change}
use Rattle.vote_state.specs.declared.change.Change.TheVariants as change
use Rattle.ring_safety.specs.Faces.{Face, Promise}
use Rattle.ring_safety.specs.Worlds as machine
use Rattle.ring_reach.specs.Silent.{with_promises}
use Rattle.ring_tables.specs.Ties.{IsRecorded}
use Rattle.protocol.specs.Node.{Work}

pub stopped_there : (id : NodeId) (work : Work) (f : ℕ → Work) → (if id.0 == id.0 then work else f id.0) ≡ work
stopped_there id work f = let e : (id.0 == id.0) ≡ true = grind (arith, nat_tests) in rw e refl

pub stopped_elsewhere : (id other : NodeId) (work : Work) (f : ℕ → Work) → (other.0 ≡ id.0 → ⊥) → (if other.0 == id.0 then work else f other.0) ≡ f other.0
stopped_elsewhere id other work f ne = let e : (other.0 == id.0) ≡ false = grind (arith, nat_tests) in rw e refl

-- what was recorded stands whatever promises a face has told
pub still_recorded : (id : RingId) (f : Face Value) (promises : List (Promise Value)) (c : Change) → IsRecorded id f c → IsRecorded id (with_promises promises f) c
still_recorded id f promises (change.Promise r ballot) s = s
still_recorded id f promises (change.Vote r vote) s = s
still_recorded id f promises (change.Trim r inst) s = s
still_recorded id f promises other s = tt

pub same_node : (node : machine.Node Value) (durable pending : Face Value) → node.durable ≡ durable → node.pending ≡ pending
    → (let made : machine.Node Value = record { durable = durable; pending = pending } in made) ≡ node
same_node node durable pending e p =
    sym (ap (λ (f : Face Value). let made : machine.Node Value = record { durable = f; pending = node.pending } in made) e
    ∙ ap (λ (f : Face Value). let made : machine.Node Value = record { durable = durable; pending = f } in made) p)
