-- What replicas told in frames is reached by all that they keep.
use Rattle.std.proofs.Common.{◌≡◌, ℕ, ◌≤◌, inl, inr, true, List, Some, sym, ◌∙◌, subst, arith}
use Rattle.mrp_types.specs.declared.id.NodeId.{NodeId}
use Rattle.mrp_types.specs.declared.id.RingId.{RingId}
use Rattle.mrp_config.specs.Config.{Config, partition_of}
use Rattle.mrp_config.specs.declared.tables.PartitionTable.{PartitionTable}
use Rattle.frames.specs.declared.body.Body.{Body}
use Rattle.frames.specs.declared.body.Body.TheVariants.{HaveCheckpoint, AskPart, Part as PartFrame, Gone, Safe}
use Rattle.frames.specs.declared.sent.Sent.{Sent}
use Rattle.quorums.specs.Groups.{Has}
use Rattle.plain_model.specs.Tuples.{instances}
use Rattle.bare_world.specs.Worlds.{Possible, Happening, nothing}
use Rattle.bare_world.specs.Runs.{run}
use Rattle.faithful.specs.Scanners.{entry_of, some_reaches, told}
use Rattle.faithful.specs.Rules.{AllKnown}
use Rattle.recovery_lines.specs.Ties.{BodySaid, TellsSafe, TellsTuple, newest_of}
use Rattle.recovery_lines.proofs.Hearing.{in_partitions}
use Rattle.line_runs.specs.Invariant.{node, latest_first}
use Rattle.line_runs.specs.Laws.{IsRun, lines_of, host_of, IsPossible, NodeSent, checkpoints_of, ReachesTold}
use Rattle.line_runs.proofs.Fitting.{valid_fits}
use Rattle.line_runs.proofs.Laws.{run_lines, told_kept, safe_stays, body_said}

module _ (c : Config) (hs : List Happening) (r : IsRun c hs) where
  pub named_told : (sent : Sent) (from to : NodeId) (body : Body) (x : NodeId) (tuple : List (RingId × ℕ)) → Has (run c hs nothing).frames sent → NodeSent sent from to body
      → Has (checkpoints_of from to body) (x, tuple) → TellsTuple c (latest_first (lines_of c hs)) x tuple
  named_told sent from to body x tuple has is named = go body (body_said c hs r sent from to body has is) named
    where
      at : (a b : NodeId × List (RingId × ℕ)) → TellsTuple c (latest_first (lines_of c hs)) b.0 b.1 → a ≡ b → TellsTuple c (latest_first (lines_of c hs)) a.0 a.1
      at a b t e = subst (λ (q : NodeId × List (RingId × ℕ)). TellsTuple c (latest_first (lines_of c hs)) q.0 q.1) (sym e) t

      go : (b : Body) → BodySaid c (latest_first (lines_of c hs)) from to b → Has (checkpoints_of from to b) (x, tuple) → TellsTuple c (latest_first (lines_of c hs)) x tuple
      go (HaveCheckpoint epoch attempt k) s (inl e) = at (x, tuple) (from, k) s.1 e
      go (HaveCheckpoint epoch attempt k) s (inr none) = absurd none
      go (AskPart epoch attempt k offset) s (inl e) = at (x, tuple) (to, k) s e
      go (AskPart epoch attempt k offset) s (inr none) = absurd none
      go (PartFrame epoch attempt k offset total bytes) s (inl e) = at (x, tuple) (from, k) s e
      go (PartFrame epoch attempt k offset total bytes) s (inr none) = absurd none
      go (Gone epoch attempt asked newer) s (inl e) = at (x, tuple) (from, asked) s.1.0 e
      go (Gone epoch attempt asked newer) s (inr (inl e)) = at (x, tuple) (from, newer) s.1.1 e
      go (Gone epoch attempt asked newer) s (inr (inr none)) = absurd none
      go other s none = absurd none

  pub named_known : (sent : Sent) (from to : NodeId) (body : Body) (x : NodeId) (tuple : List (RingId × ℕ)) → Has (run c hs nothing).frames sent → NodeSent sent from to body
      → Has (checkpoints_of from to body) (x, tuple) → TellsTuple c (latest_first (lines_of c hs)) x tuple × AllKnown (latest_first (lines_of c hs)) tuple
  named_known sent from to body x tuple has is named =
      let t = named_told sent from to body x tuple has is named in
      (t, (run_lines c hs r).known x t.partition tuple t.replica t.valid t.told)

  -- ---- what is kept reaches it

  module _ (n : ℕ) (s : Possible) (p : PartitionTable) (possible : IsPossible (host_of c hs n) s) (there : partition_of c.partitions (node n) ≡ Some p) where
    some_same : (u v : PartitionTable) → Some u ≡ Some v → u ≡ v
    some_same u v e = cc

    safe_reached : (ring : RingId) (inst : ℕ) → TellsSafe c (latest_first (lines_of c hs)) ring (node n, inst) → inst ≤ entry_of p.rings ring (newest_of p s.newest)
    safe_reached ring inst t = elim t.told [
      | inl none ↦ omega (arith, none)
      | inr reaches ↦
          safe_stays c hs r n s p ring inst possible there (subst (λ (q : PartitionTable). some_reaches q.rings ring inst (told n (latest_first (lines_of c hs))) ≡ true)
          (some_same t.partition p (sym ((valid_fits c r.valid).alone t.partition (node n) (in_partitions ring c.partitions t.partition t.subscribes) t.replica) ∙ there)) reaches)
    ]

    pub all_reached : ReachesTold c hs (node n) p s
    all_reached = record {
      by_lines = λ earlier tells. (told_kept c hs r n s p possible there).reaches earlier tells;
      by_frames = λ sent from to body tuple has is named. (told_kept c hs r n s p possible there).reaches (instances tuple) (named_told sent from to body (node n) tuple has is named).told;
      by_answers = λ sent to ring round inst has is. safe_reached ring inst (body_said c hs r sent (node n) to (Safe ring round inst) has is);
    }
