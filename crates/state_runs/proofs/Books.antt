-- What was learned, with the latest line first and in the order of the lines; and each learn line agrees with the book before it.
use Rattle.std.proofs.Common.{◌≡◌, ℕ, List, [], ◌∷◌, ◌++◌, refl, sym, ◌∙◌, ap, subst, append-nil}
use Rattle.std.proofs.lemmas.List.{append_assoc}
use Rattle.mrp_types.specs.declared.value.Value.{Value}
use Rattle.mrp_types.specs.Book.{Learning}
use Rattle.mrp_config.specs.Config.{Config}
use Rattle.plain_model.specs.Lines.{learnings}
use Rattle.protocol.specs.Lines.{Line, Learn}
use Rattle.bare_world.specs.Worlds.{Happening, World}
use Rattle.line_rules.specs.Scanners.{learned, past}
use Rattle.faithful.proofs.Growing.{past_more}
use Rattle.step_lines.specs.Effects.{Agrees, AllAgree}
use Rattle.ring_runs.specs.Histories.{at_first}
use Rattle.ring_runs.specs.Lines.{LearnLinesKeepF1}
use Rattle.ring_runs.proofs.Whole.{world_of}
use Rattle.ring_runs.proofs.Faithful.{faithful}
use Rattle.line_runs.specs.Invariant.{latest_first}
use Rattle.line_runs.specs.Laws.{IsRun, lines_of}
use Rattle.line_runs.proofs.Laws.{book_line, in_order}

learned_past : (before lines : List Line) → learned (past before lines) ≡ learned before ++ learnings lines
learned_past before [] = sym (append-nil (learned before))
learned_past before (l ∷ lines) = learned_past (l ∷ before) lines ∙ by l
  where
    by : (k : Line) → learned (k ∷ before) ++ learnings lines ≡ learned before ++ learnings (k ∷ lines)
    by (Learn node ring lo hi value) = append_assoc (learned before) (record { ring = ring; lo = lo; hi = hi; value = value } ∷ []) (learnings lines)
    by other = refl

pub learned_latest : (lines : List Line) → learned (past [] lines) ≡ learnings lines
learned_latest lines = learned_past [] lines

module _ (c : Config) (hs : List Happening) (r : IsRun c hs) where
  keep_f1 : LearnLinesKeepF1 c (lines_of c hs)
  keep_f1 = subst (λ (w : World). LearnLinesKeepF1 c w.lines) (world_of c at_first hs) (faithful c r.valid hs r.may)

  agree_on : (before rest : List Line) → lines_of c hs ≡ before ++ rest → AllAgree (past [] before) → AllAgree (past (past [] before) rest)
  agree_on before [] e all = all
  agree_on before (l ∷ rest) e all =
      subst (λ (ls : List Line). AllAgree (past ls rest)) (past_more [] before (l ∷ []))
      (agree_on (before ++ l ∷ []) rest (e ∙ sym (append_assoc before (l ∷ []) rest)) (subst (λ (ls : List Line). AllAgree ls) (sym (past_more [] before (l ∷ []))) (agrees l e, all)))
    where
      agrees : (k : Line) → lines_of c hs ≡ before ++ k ∷ rest → Agrees (past [] before) k
      agrees (Learn n ring lo hi value) f = λ inst known from to held.
          let b = book_line (past [] before) ring inst known held in
          (keep_f1 before rest n ring lo hi value f).agrees b.by_node b.lo b.hi known (in_order before (Learn b.by_node ring b.lo b.hi known) b.there) inst from to b.from b.to
      agrees other f = tt

  pub all_agree : AllAgree (latest_first (lines_of c hs))
  all_agree = agree_on [] (lines_of c hs) refl tt
