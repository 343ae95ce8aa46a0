-- What prints, sends and changes a stage, as far as lines go.
use Rattle.std.proofs.Common.{◌≡◌, ℕ, inl, inr, Bool, true, false, List, [], ◌∷◌, map, Some, refl, sym, ◌∙◌, ap, subst, arith, true≢false}
use Rattle.std.specs.Prelude.{◌==◌, ◌||◌, if◌then◌else◌}
use Rattle.std.specs.List.{AllByRecursion, flat_map}
use Rattle.std.proofs.lemmas.Bool.Decides.{nat_tests}
use Rattle.mrp_types.specs.declared.id.NodeId.{NodeId}
use Rattle.mrp_types.specs.declared.id.RingId.{RingId}
use Rattle.mrp_config.specs.Config.{Config, has_node, partition_of}
use Rattle.mrp_config.specs.declared.tables.PartitionTable.{PartitionTable}
use Rattle.quorums.specs.Groups.{Has}
use Rattle.plain_model.specs.Tuples.{round_sizes, is_tuple_of, instances}
use Rattle.frames.specs.declared.body.Body.{Body}
use Rattle.frames.specs.declared.sent.Sent.{Sent}
use Rattle.protocol.specs.Lines.{Line}
use Rattle.protocol.specs.Rings.{sends_to, sent_by, is_beyond}
use Rattle.protocol.specs.Node.{StepSoFar, RingPart, Service, Stage, with_stage, prints, sends_all}
use Rattle.protocol.specs.Recovery.{with_lowered, lowers}
use Rattle.faithful.specs.Scanners.{paired, told}
use Rattle.faithful.specs.Rules.{AllKnown, IsFaithfulLine}
use Rattle.recovery_lines.specs.Ties.{IsRightLine, TellsKnown, BodySaid, IsSaid, PartLines, DoneLines, IsOf, IsFit, TellsTuple}
use Rattle.faithful.proofs.Growing.{past_more, same_number}
use Rattle.faithful.proofs.Ordering.{rings_fit, paired_same}
use Rattle.faithful.proofs.Quorum.{partition_there}
use Rattle.recovery_lines.proofs.More.{IsSaid-more, PartLines-more, KnownLines-more}
use Rattle.quorums.proofs.Each.{mapped, appended}

pub same_num : (i j : ℕ) → (i == j) ≡ true → i ≡ j
same_num i j t = grind (arith, nat_tests)

pub differ : (a b : ℕ) → (a ≡ b → ⊥) → (a == b) ≡ false
differ a b ne = grind (arith, nat_tests)

-- frames to a node
-- no node sends itself a frame
pub said_others : (c : Config) (lines : List Line) (own to : NodeId) (b : Body) → ((own.0 ≡ to.0 → ⊥) → BodySaid c lines own to b) → AllByRecursion (IsSaid c lines) (sends_to own to b)
said_others c lines own to b s = go (to.0 == own.0 || is_beyond b) refl
  where
    other : (i j : ℕ) (t : Bool) → ((i == j) || t) ≡ false → j ≡ i → ⊥
    other i j t e same = absurd (true≢false (sym (subst (λ (n : ℕ). ((i == n) || t) ≡ true) (sym same) (rw (same_number i) refl)) ∙ e))

    go : (t : Bool) → (to.0 == own.0 || is_beyond b) ≡ t → AllByRecursion (IsSaid c lines) (if t then [] else sent_by own to b ∷ [])
    go true e = tt
    go false e = (s (other to.0 own.0 (is_beyond b) e), tt)

pub said_sends : (c : Config) (lines : List Line) (own to : NodeId) (b : Body) → BodySaid c lines own to b → AllByRecursion (IsSaid c lines) (sends_to own to b)
said_sends c lines own to b s = said_others c lines own to b (λ ne. s)

-- a replica of the same partition told it
pub other_tells : (c : Config) → IsFit c → (lines : List Line) (x from : NodeId) (p : PartitionTable) (tuple : List (RingId × ℕ)) → partition_of c.partitions x ≡ Some p → has_node p.replicas from.0 ≡ true
    → is_tuple_of (round_sizes c) p.rings tuple ≡ true → Has (told from.0 lines) (instances tuple) → TellsTuple c lines from tuple
other_tells c fit lines x from p tuple there replica valid tells =
    record { partition = p; replica = fit.alone p from (partition_there c.partitions x p there).there replica; valid = valid; told = tells }

pub all_flat : {S T : Type 0} (P : T → Type 0) (f : S → List T) → ((x : S) → AllByRecursion P (f x)) → (xs : List S) → AllByRecursion P (flat_map f xs)
all_flat P f each [] = tt
all_flat P f each (x ∷ xs) = appended P (f x) (flat_map f xs) (each x) (all_flat P f each xs)

-- a node tells a tuple that is known
pub tells_own : (c : Config) (lines : List Line) (x r : NodeId) (p q : PartitionTable) (own k : List (RingId × ℕ)) → (x.0 == r.0) ≡ true → partition_of c.partitions x ≡ Some p
    → partition_of c.partitions r ≡ Some q → is_tuple_of (round_sizes c) p.rings own ≡ true → is_tuple_of (round_sizes c) q.rings k ≡ true
    → Has (instances own ∷ []) (instances k) → AllKnown lines own → AllKnown lines k
tells_own c lines x r p q own k e rx rr vo vk (inr h) known = absurd h
tells_own c lines x r p q own k e rx rr vo vk (inl same) known =
    let number : x.0 ≡ r.0 = same_num x.0 r.0 e in
    let node : x ≡ r = ap (λ (n : ℕ). let made : NodeId = record { 0 = n } in made) number in
    let one : p ≡ q = some_same p q (sym rx ∙ ap (λ (n : NodeId). partition_of c.partitions n) node ∙ rr) in
    let back : k ≡ own = sym (paired_same q.rings k (rings_fit (round_sizes c) q.rings k vk)) ∙ ap (λ (t : List ℕ). paired q.rings t) same
    ∙ ap (λ (s : PartitionTable). paired s.rings (instances own)) (sym one) ∙ paired_same p.rings own (rings_fit (round_sizes c) p.rings own vo) in
    subst (λ (t : List (RingId × ℕ)). AllKnown lines t) (sym back) known
  where
    some_same : (u v : PartitionTable) → Some u ≡ Some v → u ≡ v
    some_same u v t = cc

module _ (c : Config) (before lines : List Line) (a : StepSoFar) (d : DoneLines c before lines a) where
  pub prints_done : (l : Line) → IsOf a.view.id l → IsRightLine c lines l → TellsKnown c lines l → DoneLines c before (l ∷ lines) (prints (l ∷ []) a)
  prints_done l own f tells = record {
    printed = past_more before a.lines (l ∷ []) ∙ ap (λ (ls : List Line). l ∷ ls) d.printed;
    own = appended (IsOf a.view.id) a.lines (l ∷ []) d.own (own, tt);
    right = (f, d.right);
    known = KnownLines-more c l lines tells d.known;
    frames = mapped (IsSaid c lines) (IsSaid c (l ∷ lines)) (IsSaid-more c l lines) a.frames d.frames;
    replies = mapped (IsSaid c lines) (IsSaid c (l ∷ lines)) (IsSaid-more c l lines) a.replies d.replies;
    parts = mapped (PartLines lines) (PartLines (l ∷ lines)) (PartLines-more c l lines) a.view.parts d.parts;
  }

  pub sends_done : (frames : List Sent) → AllByRecursion (IsSaid c lines) frames → DoneLines c before lines (sends_all frames a)
  sends_done frames said = record {
    printed = d.printed;
    own = d.own;
    right = d.right;
    known = d.known;
    frames = appended (IsSaid c lines) a.frames frames d.frames said;
    replies = d.replies;
    parts = d.parts;
  }

  pub stage_done : (service : Service) (stage : Stage) → DoneLines c before lines (with_stage service stage a)
  stage_done service stage = record { printed = d.printed; own = d.own; right = d.right; known = d.known; frames = d.frames; replies = d.replies; parts = d.parts }

  -- what learners hold stays
  pub lowers_done : (tuple : List (RingId × ℕ)) → DoneLines c before lines (lowers tuple a)
  lowers_done tuple = record { printed = d.printed; own = d.own; right = d.right; known = d.known; frames = d.frames; replies = d.replies; parts = each a.view.parts d.parts }
    where
      each : (parts : List RingPart) → AllByRecursion (PartLines lines) parts → AllByRecursion (PartLines lines) (map (with_lowered tuple) parts)
      each [] all = tt
      each (p ∷ parts) all = (record { ordered = all.0.ordered; booked = all.0.booked }, each parts all.1)
