-- A choice reaches each trim whose line stands before the begin line, and all that is covered by then: a trim quorum told it, and
-- one of these replicas answered.
use Rattle.std.proofs.Common.{◌≡◌, ℕ, ◌+◌, ◌<◌, ◌≤◌, Bool, true, List, [], ◌∷◌, Option, Some, inl, inr, sym, ◌∙◌, subst, arith, le_trans}
use Rattle.std.specs.Prelude.{length, count_by}
use Rattle.std.specs.List.{AllByRecursion}
use Rattle.mrp_types.specs.declared.id.NodeId.{NodeId}
use Rattle.mrp_types.specs.declared.id.RingId.{RingId}
use Rattle.mrp_config.specs.Config.{Config, has_node, has_ring, subscribers_of}
use Rattle.mrp_config.specs.declared.tables.PartitionTable.{PartitionTable}
use Rattle.quorums.specs.Groups.{Has}
use Rattle.checkpoint.specs.Checkpoints.{Checkpoint}
use Rattle.plain_model.specs.Tuples.{instances}
use Rattle.protocol.specs.Lines.{Line, Trim}
use Rattle.protocol.specs.Trimming.{has_answered}
use Rattle.faithful.specs.Scanners.{told, entry_of, Reaches, some_reaches, tuples_told}
use Rattle.faithful.specs.Rules.{IsReached, HaveTold, AllHaveTold, IsFaithfulLine, AreFaithful}
use Rattle.faithful.specs.Answers.{Both}
use Rattle.recovery_lines.specs.Ties.{IsFit, ReachesCovered, IsAnswer, AnswerLines, AttemptLines}
use Rattle.faithful.proofs.Growing.{all_more}
use Rattle.faithful.proofs.Quorum.{all_has, share, all_count, different_count, AnswerOf, answer_of, all_answered, entry_reaches, some_reaches_is, subscribed}
use Rattle.quorums.proofs.Each.{mapped}

have_told : (before : List Line) (ring : RingId) (inst : ℕ) (ps : List PartitionTable) (p : PartitionTable) → AllHaveTold before ring inst ps → Has ps p → HaveTold before ring inst p
have_told before ring inst [] p all h = absurd h
have_told before ring inst (q ∷ ps) p all h = all_has (HaveTold before ring inst) (q ∷ ps) p all h

module _ (c : Config) (fit : IsFit c) (lines : List Line) (x : NodeId) (epoch : ℕ) (newest : Option Checkpoint) (p : PartitionTable) (there : Has c.partitions p)
    (number : ℕ) (answers : List (NodeId × List (RingId × ℕ))) (ties : AttemptLines c lines x epoch newest p number answers)
    (enough : p.recovery_quorum ≤ length answers) (best : List ℕ)
    (reaches : AllByRecursion (λ (answer : NodeId × List (RingId × ℕ)). Reaches best (instances answer.1)) answers) where
  abbrev Sure : NodeId × List (RingId × ℕ) → Type 0
  Sure answer = AnswerLines c lines x epoch newest p number answer × Reaches best (instances answer.1)

  both_sure : (ys : List (NodeId × List (RingId × ℕ))) → AllByRecursion (AnswerLines c lines x epoch newest p number) ys
      → AllByRecursion (λ (answer : NodeId × List (RingId × ℕ)). Reaches best (instances answer.1)) ys → AllByRecursion Sure ys
  both_sure [] a r = tt
  both_sure (answer ∷ ys) a r = ((a.0, r.0), both_sure ys a.1 r.1)

  abbrev answered_by_number : ℕ → Bool
  answered_by_number n = let node : NodeId = record { 0 = n } in has_answered node answers

  -- a recovery quorum of the replicas answered
  quorum : p.recovery_quorum ≤ count_by (λ (n : NodeId). has_answered n answers) p.replicas
  quorum =
      let all : count_by (λ (answer : NodeId × List (RingId × ℕ)). has_node p.replicas answer.0.0) answers ≡ length answers =
      all_count (λ (answer : NodeId × List (RingId × ℕ)). has_node p.replicas answer.0.0) answers
      (mapped (AnswerLines c lines x epoch newest p number) (λ (answer : NodeId × List (RingId × ℕ)). has_node p.replicas answer.0.0 ≡ true) (λ answer a. a.replica) answers ties.answered) in
      let less : count_by (λ (answer : NodeId × List (RingId × ℕ)). has_node p.replicas answer.0.0) answers ≤ count_by (λ (n : NodeId). has_answered n answers) p.replicas =
      different_count p.replicas answered_by_number answers ties.different
      (mapped (λ (answer : NodeId × List (RingId × ℕ)). has_answered answer.0 answers ≡ true)
      (λ (answer : NodeId × List (RingId × ℕ)). has_node p.replicas answer.0.0 ≡ true → answered_by_number answer.0.0 ≡ true) (λ answer h e. h) answers (all_answered answers)) in
      let most : p.recovery_quorum ≤ length answers = enough in
      omega arith

  -- one of those that told a trim answered since
  trim_reached : (now : List Line) → ((r : ℕ) (t : List ℕ) → Has (told r now) t → Has (told r ties.earlier) t) → (ring : RingId) (inst : ℕ)
      → AllHaveTold now ring inst (subscribers_of c.partitions ring) → has_ring p.rings ring.0 ≡ true → inst ≤ entry_of p.rings ring best
  trim_reached now sub ring inst all has =
      let tells : p.trim_quorum ≤ count_by (λ (n : NodeId). some_reaches p.rings ring inst (told n.0 now)) p.replicas =
      have_told now ring inst (subscribers_of c.partitions ring) p all (subscribed c.partitions ring p there has) in
      let hear : p.recovery_quorum ≤ count_by (λ (n : NodeId). has_answered n answers) p.replicas = quorum in
      let meet : length p.replicas < p.trim_quorum + p.recovery_quorum = fit.meet p there in
      let many : length p.replicas < count_by (λ (n : NodeId). some_reaches p.rings ring inst (told n.0 now)) p.replicas + count_by (λ (n : NodeId). has_answered n answers) p.replicas = omega arith in
      by (share (λ (n : NodeId). some_reaches p.rings ring inst (told n.0 now)) (λ (n : NodeId). has_answered n answers) p.replicas many)
    where
      by : Both (λ (n : NodeId). some_reaches p.rings ring inst (told n.0 now)) (λ (n : NodeId). has_answered n answers) p.replicas → inst ≤ entry_of p.rings ring best
      by b =
          let s = some_reaches_is p.rings ring inst (told b.node.0 now) b.in_first in
          let a : AnswerOf Sure b.node = answer_of Sure b.node answers (both_sure answers ties.answered reaches) b.in_second in
          let said : IsAnswer lines x.0 epoch number a.answer.0.0 (instances a.answer.1) = a.holds.0.said in
          let same : said.before ≡ ties.earlier = some_same said.before ties.earlier (sym said.begins ∙ ties.first) in
          let by_then : Has (told a.answer.0.0 said.before) s.tuple =
          subst (λ (r : ℕ). Has (told r said.before) s.tuple) (sym a.same) (subst (λ (ls : List Line). Has (told b.node.0 ls) s.tuple) (sym same) (sub b.node.0 s.tuple s.there)) in
          le_trans s.reaches (le_trans (entry_reaches p.rings ring (instances a.answer.1) s.tuple (said.reaches s.tuple by_then)) (entry_reaches p.rings ring best (instances a.answer.1) a.holds.1))
        where
          some_same : (u v : List Line) → Some u ≡ Some v → u ≡ v
          some_same u v e = cc

  line_reached : (now : List Line) → ((r : ℕ) (t : List ℕ) → Has (told r now) t → Has (told r ties.earlier) t) → (l : Line) → IsFaithfulLine c now l → IsReached p.rings best l
  line_reached now sub (Trim node ring inst) f = λ has. trim_reached now sub ring inst f.told has
  line_reached now sub other f = tt

  trims_from : (now : List Line) → ((r : ℕ) (t : List ℕ) → Has (told r now) t → Has (told r ties.earlier) t) → AreFaithful c now → AllByRecursion (IsReached p.rings best) now
  trims_from [] sub f = tt
  trims_from (l ∷ now) sub f =
      let more : (r : ℕ) (t : List ℕ) → Has (told r now) t → Has (told r ties.earlier) t = λ r t h. sub r t (all_more tuples_told r l now t h) in
      (line_reached now more l f.0, trims_from now more f.1)

  pub trims_reached : AllByRecursion (IsReached p.rings best) ties.earlier
  trims_reached = trims_from ties.earlier (λ r t h. h) ties.faithful

  pub covered_reached : ReachesCovered c ties.earlier p.rings best
  covered_reached ring inst has (inl none) = omega (arith, none)
  covered_reached ring inst has (inr all) = trim_reached ties.earlier (λ r t h. h) ring inst all has
