-- Who is asked.
use Rattle.std.proofs.Common.{◌≡◌, ℕ, ◌≤◌, length, drop, subst, true, false, Bool, ◌||◌, List, [], ◌∷◌, ◌++◌, refl, sym, ◌∙◌, ap}
use Rattle.std.specs.Prelude.{◌==◌, not, filter, flat_map, if◌then◌else◌, Some}
use Rattle.std.proofs.lemmas.List.{append-nil, at_drop_all}
use Rattle.mrp_types.specs.declared.id.NodeId.{NodeId}
use Rattle.frames.specs.declared.body.Body.{Body}
use Rattle.frames.specs.declared.sent.Sent.{Sent}
use Rattle.protocol.specs.Parts.{Ring}
use Rattle.protocol.specs.Rings.{is_own, is_beyond, sent_by, sends, sends_each, other_acceptors}
use Rattle.protocol.specs.Leading.{prepares_again}

-- what goes to a node, where it isn't the own one
abbrev one : Bool → Ring → Body → NodeId → List Sent
one own ring body node = if own || is_beyond body then [] else sent_by ring.own node body ∷ []

-- a frame to all acceptors goes to the others
pub others_asked : (ring : Ring) (body : Body) (nodes : List NodeId)
    → flat_map (λ (node : NodeId). sends ring (Some node) body) nodes ≡ flat_map (λ (node : NodeId). sends ring (Some node) body) (filter (λ (node : NodeId). not (is_own ring node)) nodes)
others_asked ring body [] = refl
others_asked ring body (node ∷ nodes) = by (node.0 == ring.own.0) refl (others_asked ring body nodes)
  where
    by : (b : Bool) → (node.0 == ring.own.0) ≡ b
        → flat_map (λ (n : NodeId). sends ring (Some n) body) nodes ≡ flat_map (λ (n : NodeId). sends ring (Some n) body) (filter (λ (n : NodeId). not (is_own ring n)) nodes)
        → one b ring body node ++ flat_map (λ (n : NodeId). sends ring (Some n) body) nodes
        ≡ flat_map (λ (n : NodeId). sends ring (Some n) body) (if not b then node ∷ filter (λ (n : NodeId). not (is_own ring n)) nodes else filter (λ (n : NodeId). not (is_own ring n)) nodes)
    by true e rest = rest
    by false e rest =
        ap (λ (l : List Sent). one false ring body node ++ l) rest
        ∙ ap (λ (b : Bool). one b ring body node ++ flat_map (λ (n : NodeId). sends ring (Some n) body) (filter (λ (n : NodeId). not (is_own ring n)) nodes)) (sym e)

-- ---- one after another, to the end

pub none_covered : (ring : Ring) (ballot : ℕ) (nodes : List NodeId) → prepares_again ring ballot nodes [] ≡ []
none_covered ring ballot [] = refl
none_covered ring ballot (node ∷ nodes) = refl

none_there : (covered : List ℕ) (i : ℕ) → length covered ≤ i → drop i covered ≡ []
none_there covered i end = at_drop_all (λ (cs : List ℕ). cs) covered i end

-- behind the last that is covered nobody is asked
pub all_asked_again : (ring : Ring) (ballot i : ℕ) (nodes : List NodeId) (covered : List ℕ) (out start : List Sent) → nodes ≡ ring.acceptors → length covered ≤ i
    → out ++ prepares_again ring ballot (drop i nodes) (drop i covered) ≡ start ++ prepares_again ring ballot nodes covered → out ≡ start ++ prepares_again ring ballot ring.acceptors covered
all_asked_again ring ballot i nodes covered out start same missing is =
    sym (append-nil out)
    ∙ ap (λ (l : List Sent). out ++ l) (sym (ap (λ (cs : List ℕ). prepares_again ring ballot (drop i nodes) cs) (none_there covered i missing) ∙ none_covered ring ballot (drop i nodes)))
    ∙ is ∙ ap (λ (ns : List NodeId). start ++ prepares_again ring ballot ns covered) same

pub all_asked : (ring : Ring) (body : Body) (i : ℕ) (items nodes : List NodeId) (out start : List Sent) → items ≡ nodes → nodes ≡ ring.acceptors → length items ≤ i
    → out ++ flat_map (λ (node : NodeId). sends ring (Some node) body) (drop i nodes) ≡ start ++ flat_map (λ (node : NodeId). sends ring (Some node) body) nodes
    → out ≡ start ++ sends_each ring (other_acceptors ring) body
all_asked ring body i items nodes out start seen same end is =
    let over : length nodes ≤ i = subst (λ (l : List NodeId). length l ≤ i) seen end in
    sym (append-nil out)
    ∙ sym (at_drop_all (λ (ns : List NodeId). out ++ flat_map (λ (node : NodeId). sends ring (Some node) body) ns) nodes i over)
    ∙ is ∙ ap (λ (ns : List NodeId). start ++ flat_map (λ (node : NodeId). sends ring (Some node) body) ns) same
    ∙ ap (λ (l : List Sent). start ++ l) (others_asked ring body ring.acceptors)
