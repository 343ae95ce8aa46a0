-- Each line of a run that lists frames as they were sent keeps all rules, and so do the lines of every run on disks.
use Rattle.std.proofs.Common.{◌≡◌, ℕ, List, [], ◌∷◌, ◌++◌, length, inl, inr, refl, sym, ◌∙◌, ap, subst, append_assoc}
use Rattle.std.specs.List.{AllByRecursion}
use Rattle.std.specs.Prelude.{map}
use Rattle.mrp_config.specs.Config.{Config}
use Rattle.mrp_config.specs.Valid.{IsValid}
use Rattle.protocol.specs.Lines.{Line, Learn, Deliver, Saved, State, Answer, Chose, Restore, Trim, Begin, Refuse, Frame, End}
use Rattle.bare_world.specs.Worlds.{Happening, nothing}
use Rattle.line_rules.specs.Names as rule
use Rattle.line_rules.specs.Rules.{F1, F2, F4, F5, F6, F7, F8, F9, NamesFit, IsFaithfulLine, AreFaithful, IsFaithful}
use Rattle.line_rules.specs.Scanners.{past}
use Rattle.quorums.specs.Groups.{Has}
use Rattle.faithful.proofs.Growing.{past_more}
use Rattle.faithful.proofs.Quorum.{all_has}
use Rattle.line_runs.specs.Invariant.{latest_first}
use Rattle.line_runs.specs.Laws.{IsRun, lines_of}
use Rattle.line_runs.proofs.Laws.{line_holds}
use Rattle.state_runs.proofs.Laws.{all_paid, line_in_turn}
use Rattle.state_runs.proofs.Named.{line_rule}
use Rattle.state_runs.proofs.Showing.{state_line}
use Rattle.answer_runs.proofs.Laws.{answer_line}
use Rattle.world_model.specs.Events.{ScheduleEvent}
use Rattle.world_model.specs.Runs as disks
use Rattle.world_model.specs.Runs.{Scheduled, MayBeScheduled, run_of}
use Rattle.world_model.specs.Trace.{trace}
use Rattle.world_model.specs.Worlds.{started}
use Rattle.world_model.proofs.Scheduled.{may_run, trace_is}
use Rattle.disk_runs.specs.Runs.{AreListed, Fits, IsShown}
use Rattle.disk_runs.proofs.Whole.{run_goes, scheduled_fit}
use Rattle.disk_runs.proofs.Works.{all_work}
use Rattle.faithful_runs.proofs.Learning.{learn_line}
use Rattle.faithful_runs.proofs.Listing.{FrameNamed, frames_named}

-- what stands in the middle of a list is in it
has_there : (before : List Line) (l : Line) (after : List Line) → Has (before ++ l ∷ after) l
has_there [] l after = inl refl
has_there (k ∷ before) l after = inr (has_there before l after)

-- ---- a line of a run

module _ (c : Config) (hs : List Happening) (r : IsRun c hs) (listed : AreListed c hs nothing) where
  module _ (before after : List Line) where
    names : (l : Line) → lines_of c hs ≡ before ++ l ∷ after → NamesFit c l
    names (Frame number shown) at = all_has (FrameNamed c) (lines_of c hs) (Frame number shown) (frames_named c hs r listed) (subst (λ (ls : List Line). Has ls (Frame number shown)) (sym at) (has_there before (Frame number shown) after))
    names other at = (line_rule c hs r before after other tt at).names

    first : (l : Line) → lines_of c hs ≡ before ++ l ∷ after → F1 c (latest_first before) l
    first (Learn node ring lo hi value) at = learn_line c hs r before after node ring lo hi value at
    first other at = tt

    second : (l : Line) → lines_of c hs ≡ before ++ l ∷ after → F2 c (latest_first before) l
    second (Deliver node ring inst) at = line_holds c hs r before after (Deliver node ring inst) at
    second (Saved node printed) at = (line_holds c hs r before after (Saved node printed) at).stands
    second other at = tt

    fourth : (l : Line) → lines_of c hs ≡ before ++ l ∷ after → F4 c (latest_first before) l
    fourth (State node shown) at = state_line c hs r before after node shown at
    fourth other at = tt

    fifth : (l : Line) → lines_of c hs ≡ before ++ l ∷ after → F5 c (latest_first before) l
    fifth (Answer client seq reply) at = answer_line c hs r before after client seq reply at
    fifth other at = tt

    sixth : (l : Line) → lines_of c hs ≡ before ++ l ∷ after → F6 c (latest_first before) l
    sixth (Chose node epoch attempt printed from) at = line_holds c hs r before after (Chose node epoch attempt printed from) at
    sixth (Restore node printed) at = line_holds c hs r before after (Restore node printed) at
    sixth other at = tt

    seventh : (l : Line) → lines_of c hs ≡ before ++ l ∷ after → F7 c (latest_first before) l
    seventh (Trim node ring inst) at = line_holds c hs r before after (Trim node ring inst) at
    seventh other at = tt

    eighth : (l : Line) → lines_of c hs ≡ before ++ l ∷ after → F8 c (latest_first before) l
    eighth (Begin node epoch attempt printed) at = line_holds c hs r before after (Begin node epoch attempt printed) at
    eighth (Saved node printed) at = (line_holds c hs r before after (Saved node printed) at).later
    eighth other at = tt

    ninth : (l : Line) → lines_of c hs ≡ before ++ l ∷ after → F9 c (latest_first before) l
    ninth (Refuse node epoch attempt answered needed) at = line_holds c hs r before after (Refuse node epoch attempt answered needed) at
    ninth other at = tt

    line_faithful : (l : Line) → lines_of c hs ≡ before ++ l ∷ after → IsFaithfulLine c (latest_first before) l
    line_faithful l at rule.F1 = first l at
    line_faithful l at rule.F2 = second l at
    line_faithful l at rule.F3 = record { turn = line_in_turn c hs r before after l at; names = names l at }
    line_faithful l at rule.F4 = fourth l at
    line_faithful l at rule.F5 = fifth l at
    line_faithful l at rule.F6 = sixth l at
    line_faithful l at rule.F7 = seventh l at
    line_faithful l at rule.F8 = eighth l at
    line_faithful l at rule.F9 = ninth l at

  -- ---- all of them

  from_front : (before rest : List Line) → lines_of c hs ≡ before ++ rest → AreFaithful c (past [] before) → AreFaithful c (past (past [] before) rest)
  from_front before [] at all = all
  from_front before (l ∷ rest) at all =
      subst (λ (ls : List Line). AreFaithful c (past ls rest)) (past_more [] before (l ∷ []))
      (from_front (before ++ l ∷ []) rest (at ∙ sym (append_assoc before (l ∷ []) rest))
      (subst (λ (ls : List Line). AreFaithful c ls) (sym (past_more [] before (l ∷ []))) (line_faithful before rest l at, all)))

  pub run_faithful : IsFaithful c (lines_of c hs)
  run_faithful = from_front [] (lines_of c hs) refl tt

  -- the end of a transcript
  end_line : (events : ℕ) → IsFaithfulLine c (latest_first (lines_of c hs)) (End events)
  end_line events rule.F3 = record { turn = all_paid c hs r; names = tt }
  end_line events other = tt

  pub ended_faithful : (events : ℕ) → IsFaithful c (lines_of c hs ++ End events ∷ [])
  ended_faithful events = subst (λ (ls : List Line). AreFaithful c ls) (sym (past_more [] (lines_of c hs) (End events ∷ []))) (end_line events, run_faithful)

-- ---- on disks

module _ (config : Config) (valid : IsValid config) where
  pub disks_faithful : (xs : List disks.Happening) → disks.IsRun config xs → AllByRecursion (Fits config) xs → IsFaithful config (run_of config xs).lines
  disks_faithful xs is fits =
      let goes = run_goes config valid (all_work config valid) xs is fits in
      subst (λ (ls : List Line). IsFaithful config ls) goes.lines (run_faithful config goes.more (record { valid = valid; may = goes.may }) goes.listed)

  pub trace_faithful : (events : List ScheduleEvent) → AllByRecursion MayBeScheduled events → AllByRecursion (IsShown config) events → IsFaithful config (trace config events)
  trace_faithful events may shown =
      let goes = run_goes config valid (all_work config valid) (map Scheduled events) (may_run config events (started config).world may) (scheduled_fit config valid (all_work config valid) events shown) in
      subst (λ (ls : List Line). IsFaithful config ls) (sym (trace_is config events ∙ ap (λ (ls : List Line). ls ++ End (length events) ∷ []) (sym goes.lines)))
      (ended_faithful config goes.more (record { valid = valid; may = goes.may }) goes.listed (length events))
