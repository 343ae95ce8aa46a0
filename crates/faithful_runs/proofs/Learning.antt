-- Learn lines keep rule F1: their names fit the deployment, and each agrees with the book before it.
use Rattle.std.proofs.Common.{arith, ◌≡◌, ℕ, suc, ◌==◌, Bool, true, false, List, [], ◌∷◌, ◌++◌, Some, refl, sym, ◌∙◌, ap, subst, true≢false}
use Rattle.std.specs.Prelude.{if◌then◌else◌}
use Rattle.mrp_types.specs.declared.id.NodeId.{NodeId}
use Rattle.mrp_types.specs.declared.id.RingId.{RingId}
use Rattle.mrp_types.specs.declared.value.Value.{Value}
use Rattle.mrp_types.specs.declared.value.Value.TheVariants.{Skip, Batch}
use Rattle.mrp_types.specs.Values.{is_skip}
use Rattle.mrp_config.specs.Config.{Config, has_node, node_at}
use Rattle.mrp_config.specs.Valid.{IsValid}
use Rattle.mrp_config.specs.declared.tables.NodeTable.{NodeTable}
use Rattle.mrp_config.specs.declared.tables.RingTable.{RingTable}
use Rattle.plain_model.specs.Lines.{IsWide}
use Rattle.plain_model.proofs.TupleOrder.{same_number}
use Rattle.protocol.specs.Lines.{Line, Learn}
use Rattle.protocol.specs.Parts.{Ring}
use Rattle.protocol.specs.Rings.{is_member, ring_of}
use Rattle.bare_world.specs.Worlds.{Happening, World}
use Rattle.step_valid.specs.Valid.{IsMemberOf}
use Rattle.line_rules.specs.Rules.{HasNode, HasRing, Learns}
use Rattle.line_rules.specs.Scanners.{past}
use Rattle.ring_runs.specs.Histories.{at_first}
use Rattle.ring_runs.specs.Lines.{KeepsF1, LearnLinesKeepF1}
use Rattle.ring_runs.proofs.Faithful.{faithful}
use Rattle.ring_runs.proofs.Whole.{world_of}
use Rattle.step_lines.proofs.Opening.{ring_there}
use Rattle.faithful.proofs.Quorum.{all_has}
use Rattle.line_runs.specs.Invariant.{latest_first}
use Rattle.line_runs.specs.Laws.{IsRun, lines_of}
use Rattle.line_runs.proofs.Laws.{book_line, in_order}
use Rattle.frame_parties.proofs.Invariant.{AreThere}
use Rattle.frame_parties.proofs.Deployed.{ring_members_there, valid_closed}

-- ---- names

-- a node that a list of nodes of the deployment has by its number
found_there : (c : Config) (nodes : List NodeId) (n : ℕ) → AreThere c nodes → has_node nodes n ≡ true → (table : NodeTable) × (node_at c.nodes n ≡ Some table)
found_there c [] n all h = absurd (true≢false (sym h))
found_there c (node ∷ nodes) n all h = go (node.0 == n) refl h (λ is. found_there c nodes n all.1 is)
  where
    go : (b : Bool) → (node.0 == n) ≡ b → (if b then true else has_node nodes n) ≡ true → (has_node nodes n ≡ true → (table : NodeTable) × (node_at c.nodes n ≡ Some table)) → (table : NodeTable) × (node_at c.nodes n ≡ Some table)
    go true e is later = subst (λ (k : ℕ). (table : NodeTable) × (node_at c.nodes k ≡ Some table)) (same_number node.0 n e) all.0
    go false e is later = later is

module _ (c : Config) (valid : IsValid c) (node : NodeId) (ring : Ring) (of_ring : IsMemberOf c node ring) where
  member_there : HasNode c node
  member_there =
      found_there c (ring_of c node of_ring.table).members node.0
      (ring_members_there c (valid_closed c valid) of_ring.table (all_has (λ (t : RingTable). AreThere c t.acceptors) c.rings of_ring.table (valid_closed c valid).acceptors of_ring.listed))
      (sym (ap (λ (r : Ring). is_member r) of_ring.same) ∙ of_ring.member)

  ring_found : HasRing c ring.id
  ring_found = subst (λ (r : RingId). HasRing c r) (sym (ap (λ (r : Ring). r.id) of_ring.same)) (ring_there c.rings of_ring.table of_ring.listed)

-- ---- the rule

wide : (value : Value) (lo hi : ℕ) → (is_skip value ≡ false → hi ≡ suc lo) → IsWide value lo hi
wide Skip lo hi alone = tt
wide (Batch batch) lo hi alone = let one = alone refl in omega arith

pub learn_line : (c : Config) (hs : List Happening) → IsRun c hs → (before after : List Line) (node : NodeId) (ring : RingId) (lo hi : ℕ) (value : Value) → lines_of c hs ≡ before ++ Learn node ring lo hi value ∷ after
    → Learns c (latest_first before) node ring lo hi value
learn_line c hs r before after node ring lo hi value at = record {
  fits_node = member_there c r.valid node kept.shape.ring kept.shape.of_ring;
  fits_ring = subst (λ (q : RingId). HasRing c q) (sym kept.shape.named) (ring_found c r.valid node kept.shape.ring kept.shape.of_ring);
  some = kept.shape.some;
  low = kept.shape.decided.end;
  wide = wide value lo hi kept.shape.decided.alone;
  agrees = λ inst known from to there.
      let line = book_line (past [] before) ring inst known there in
      kept.agrees line.by_node line.lo line.hi known (in_order before (Learn line.by_node ring line.lo line.hi known) line.there) inst from to line.from line.to;
}
  where
    kept : KeepsF1 c before node ring lo hi value
    kept = subst (λ (w : World). LearnLinesKeepF1 c w.lines) (world_of c at_first hs) (faithful c r.valid hs r.may) before after node ring lo hi value at
