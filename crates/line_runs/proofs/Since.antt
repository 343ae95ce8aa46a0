-- A recovery that began in the second part of a run starts past each trim of the world that the first part leaves.
use Rattle.std.proofs.Common.{◌≡◌, ℕ, ◌≤◌, Bool, true, false, List, [], ◌∷◌, ◌++◌, Some, refl, sym, ◌∙◌, ap, subst}
use Rattle.std.specs.Prelude.{if◌then◌else◌}
use Rattle.mrp_types.specs.declared.id.NodeId.{NodeId}
use Rattle.mrp_types.specs.declared.id.RingId.{RingId}
use Rattle.mrp_config.specs.Config.{Config, has_ring}
use Rattle.mrp_config.specs.declared.tables.PartitionTable.{PartitionTable}
use Rattle.frames.specs.declared.body.Body.{Body}
use Rattle.frames.specs.declared.sent.Sent.{Sent}
use Rattle.quorums.specs.Groups.{Has}
use Rattle.vote_state.specs.State.{trim_at}
use Rattle.protocol.specs.Lines.{Line, Begin, Restore}
use Rattle.bare_world.specs.Worlds.{Possible, Happening, World, nothing, happens}
use Rattle.bare_world.specs.Runs.{run, MayRun}
use Rattle.faithful.specs.Scanners.{past, touches, or_else, before_begin, lines_before, entry_of}
use Rattle.faithful.proofs.Growing.{past_more, same_number}
use Rattle.recovery_lines.specs.Ties.{IsCovered}
use Rattle.recovery_lines.proofs.More.{IsCovered-more}
use Rattle.step_lines.proofs.Composing.{all_many}
use Rattle.step_lines.proofs.Onward.{lines_joined}
use Rattle.line_runs.specs.Invariant.{latest_first}
use Rattle.line_runs.specs.Laws.{IsRun, lines_of, host_of, IsPossible, NodeSent, trim_told, RestoresSince, StartsPast}
use Rattle.line_runs.proofs.Laws.{recovery_past, possible_lines, frame_covered}

some_same : {T : Type 0} (u v : T) → Some u ≡ Some v → u ≡ v
some_same u v q = cc

-- ---- what is so of some lines, and of any lines more, is so of those before a later begin line

module _ (P : List Line → Type 0) (more : (l : Line) (lines : List Line) → P lines → P (l ∷ lines)) (x : ℕ) where
  -- it is so of the lines before the last begin line
  abbrev IsSoBefore : List Line → Type 0
  IsSoBefore lines = (earlier : List Line) → before_begin x lines ≡ Some earlier → P earlier

  so_before : (l : Line) (lines : List Line) → P lines → IsSoBefore lines → IsSoBefore (l ∷ lines)
  so_before l lines so before earlier e = by_touch (touches x l) e
    where
      by_line : (k : Line) → or_else (lines_before lines k) (before_begin x lines) ≡ Some earlier → P earlier
      by_line (Begin node epoch attempt tuple) q = subst P (some_same lines earlier q) so
      by_line other q = before earlier q

      by_touch : (b : Bool) → (if b then or_else (lines_before lines l) (before_begin x lines) else before_begin x lines) ≡ Some earlier → P earlier
      by_touch true q = by_line l q
      by_touch false q = before earlier q

  so_since : (since lines : List Line) → P lines → IsSoBefore lines → IsSoBefore (past lines since)
  so_since [] lines so before = before
  so_since (l ∷ since) lines so before = so_since since (l ∷ lines) (more l lines so) (so_before l lines so before)

-- ---- a run's first part

first_may : (c : Config) (first second : List Happening) (w : World) → MayRun c w (first ++ second) → MayRun c w first
first_may c [] second w may = tt
first_may c (h ∷ first) second w may = (may.0, first_may c first second (happens c h w) may.1)

first_run : (c : Config) (first second : List Happening) → IsRun c (first ++ second) → IsRun c first
first_run c first second r = record { valid = r.valid; may = first_may c first second nothing r.may }

-- ---- a recovery since

module _ (c : Config) (first second : List Happening) (r : IsRun c (first ++ second)) (x : NodeId) (p : PartitionTable) (printed : List ℕ) (s : RestoresSince c first second x p printed) where
  abbrev begin : Line
  begin = Begin x s.epoch s.attempt s.tuple

  abbrev before : List Line
  before = lines_of c first ++ (s.between ++ begin ∷ s.since)

  stands : lines_of c (first ++ second) ≡ before ++ Restore x printed ∷ s.after
  stands = s.at ∙ ap (λ (ls : List Line). lines_of c first ++ ls) (sym (lines_joined s.between (begin ∷ s.since) (Restore x printed ∷ s.after)))
      ∙ sym (lines_joined (lines_of c first) (s.between ++ begin ∷ s.since) (Restore x printed ∷ s.after))

  turned : latest_first before ≡ past (begin ∷ past (latest_first (lines_of c first)) s.between) s.since
  turned = past_more [] (lines_of c first) (s.between ++ begin ∷ s.since) ∙ past_more (past [] (lines_of c first)) s.between (begin ∷ s.since)

  reaches : (ring : RingId) (inst : ℕ) → has_ring p.rings ring.0 ≡ true → IsCovered c (latest_first (lines_of c first)) ring inst → inst ≤ entry_of p.rings ring printed
  reaches ring inst has is =
      let start : StartsPast c (latest_first before) x printed = recovery_past c (first ++ second) r before s.after x printed stands in
      let same : start.partition ≡ p = some_same start.partition p (sym start.replica ∙ s.replica) in
      subst (λ (q : PartitionTable). inst ≤ entry_of q.rings ring printed) same
      (start.covered ring inst (subst (λ (q : PartitionTable). has_ring q.rings ring.0 ≡ true) (sym same) has)
      (so_since So more x.0 s.since (begin ∷ old) (more begin old kept) so_then start.earlier (sym (ap (λ (ls : List Line). before_begin x.0 ls) turned) ∙ start.begins)))
    where
      So : List Line → Type 0
      So ls = IsCovered c ls ring inst

      more : (l : Line) (ls : List Line) → So ls → So (l ∷ ls)
      more l ls so = IsCovered-more c l ls ring inst so

      old : List Line
      old = past (latest_first (lines_of c first)) s.between

      kept : So old
      kept = all_many So more s.between (latest_first (lines_of c first)) is

      begun_now : before_begin x.0 (begin ∷ old) ≡ Some old
      begun_now = rw (same_number x.0) refl

      so_then : (earlier : List Line) → before_begin x.0 (begin ∷ old) ≡ Some earlier → So earlier
      so_then earlier e = subst So (some_same old earlier (sym begun_now ∙ e)) kept

  pub since_disks : (n : ℕ) (q : Possible) → IsPossible (host_of c first n) q → (ring : RingId) → has_ring p.rings ring.0 ≡ true → trim_at q.state ring ≤ entry_of p.rings ring printed
  since_disks n q is ring has = reaches ring (trim_at q.state ring) has ((possible_lines c first (first_run c first second r) n q is).covered ring)

  pub since_frames : (sent : Sent) (from to : NodeId) (body : Body) (ring : RingId) (trim : ℕ) → Has (run c first nothing).frames sent → NodeSent sent from to body → trim_told body ≡ Some (ring, trim)
      → has_ring p.rings ring.0 ≡ true → trim ≤ entry_of p.rings ring printed
  since_frames sent from to body ring trim there is told has = reaches ring trim has (frame_covered c first (first_run c first second r) sent from to body ring trim there is told)
