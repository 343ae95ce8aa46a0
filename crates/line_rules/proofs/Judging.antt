-- What a verdict says of lines, and what stays as lines are printed.
use Rattle.std.proofs.Common.{◌≡◌, ℕ, suc, ◌+◌, Bool, true, false, List, [], ◌∷◌, ◌++◌, length, Option, Some, None, refl, sym, ◌∙◌, ap, subst, arith, append_assoc, length-append}
use Rattle.std.specs.Prelude.{if◌then◌else◌}
use Rattle.std.specs.Bool.{Decides}
use Rattle.mrp_config.specs.Config.{Config}
use Rattle.mrp_config.specs.Valid.{IsValid}
use Rattle.transcript.specs.declared.line.Line.{Line}
use Rattle.line_rules.specs.Names.{Rule, rules}
use Rattle.line_rules.specs.Names as rule
use Rattle.line_rules.specs.Scanners.{past}
use Rattle.line_rules.specs.Rules.{Keeps, IsFaithfulLine, AreFaithful, IsFaithful}
use Rattle.line_rules.specs.Verdict.{keeps, first_broken, broken_by, Faithful, Broken, or_broken, verdict_after, verdict, FirstFault}
use Rattle.line_rules.proofs.Words.{no_true, some_same}
use Rattle.line_rules.proofs.Growing.{past_more}
use Rattle.line_rules.proofs.Decided.{f1_decides, f2_decides, f3_decides, f4_decides, f5_decides, f6_decides, f7_decides, f8_decides, f9_decides}

-- ---- fronts

-- what stands before faithful lines is faithful
earlier_faithful : (c : Config) (before lines : List Line) → AreFaithful c (past before lines) → AreFaithful c before
earlier_faithful c before [] h = h
earlier_faithful c before (line ∷ lines) h = (earlier_faithful c (line ∷ before) lines h).1

pub front_faithful : (c : Config) (front rest : List Line) → IsFaithful c (front ++ rest) → IsFaithful c front
front_faithful c front rest h =
    let whole : AreFaithful c (past (past [] front) rest) = subst (λ (lines : List Line). AreFaithful c lines) (past_more [] front rest) h in
    earlier_faithful c (past [] front) rest whole

-- ---- one line

module _ (c : Config) (valid : IsValid c) where
  pub rule_decides : (name : Rule) (before : List Line) (line : Line) → Decides (keeps name c before line) (Keeps name c before line)
  rule_decides rule.F1 before line = f1_decides c before line
  rule_decides rule.F2 before line = f2_decides c before valid line
  rule_decides rule.F3 before line = f3_decides c before line
  rule_decides rule.F4 before line = f4_decides c before valid line
  rule_decides rule.F5 before line = f5_decides c before line
  rule_decides rule.F6 before line = f6_decides c before line
  rule_decides rule.F7 before line = f7_decides c before line
  rule_decides rule.F8 before line = f8_decides c before line
  rule_decides rule.F9 before line = f9_decides c before line

  module _ (before : List Line) (line : Line) where
    step_none : (r : Rule) (rs : List Rule) → first_broken c before line (r ∷ rs) ≡ None → (keeps r c before line ≡ true) × (first_broken c before line rs ≡ None)
    step_none r rs e = go (keeps r c before line) e
      where
        go : (b : Bool) → (if b then first_broken c before line rs else Some r) ≡ None → (b ≡ true) × (first_broken c before line rs ≡ None)
        go true e = (refl, e)
        go false e = absurd (cc)

    step_keeps : (r : Rule) (rs : List Rule) → keeps r c before line ≡ true → first_broken c before line rs ≡ None → first_broken c before line (r ∷ rs) ≡ None
    step_keeps r rs h e = ap (λ (b : Bool). if b then first_broken c before line rs else Some r) h ∙ e

    none_faithful : broken_by c before line ≡ None → IsFaithfulLine c before line
    none_faithful e =
        let a = step_none rule.F1 (rule.F2 ∷ rule.F3 ∷ rule.F4 ∷ rule.F5 ∷ rule.F6 ∷ rule.F7 ∷ rule.F8 ∷ rule.F9 ∷ []) e in
        let b = step_none rule.F2 (rule.F3 ∷ rule.F4 ∷ rule.F5 ∷ rule.F6 ∷ rule.F7 ∷ rule.F8 ∷ rule.F9 ∷ []) a.1 in
        let d = step_none rule.F3 (rule.F4 ∷ rule.F5 ∷ rule.F6 ∷ rule.F7 ∷ rule.F8 ∷ rule.F9 ∷ []) b.1 in
        let f = step_none rule.F4 (rule.F5 ∷ rule.F6 ∷ rule.F7 ∷ rule.F8 ∷ rule.F9 ∷ []) d.1 in
        let g = step_none rule.F5 (rule.F6 ∷ rule.F7 ∷ rule.F8 ∷ rule.F9 ∷ []) f.1 in
        let i = step_none rule.F6 (rule.F7 ∷ rule.F8 ∷ rule.F9 ∷ []) g.1 in
        let j = step_none rule.F7 (rule.F8 ∷ rule.F9 ∷ []) i.1 in
        let k = step_none rule.F8 (rule.F9 ∷ []) j.1 in
        let n = step_none rule.F9 [] k.1 in
        by_rules a.0 b.0 d.0 f.0 g.0 i.0 j.0 k.0 n.0
      where
        by_rules : keeps rule.F1 c before line ≡ true → keeps rule.F2 c before line ≡ true → keeps rule.F3 c before line ≡ true → keeps rule.F4 c before line ≡ true → keeps rule.F5 c before line ≡ true →
            keeps rule.F6 c before line ≡ true → keeps rule.F7 c before line ≡ true → keeps rule.F8 c before line ≡ true → keeps rule.F9 c before line ≡ true → IsFaithfulLine c before line
        by_rules h1 h2 h3 h4 h5 h6 h7 h8 h9 rule.F1 = (rule_decides rule.F1 before line).0 h1
        by_rules h1 h2 h3 h4 h5 h6 h7 h8 h9 rule.F2 = (rule_decides rule.F2 before line).0 h2
        by_rules h1 h2 h3 h4 h5 h6 h7 h8 h9 rule.F3 = (rule_decides rule.F3 before line).0 h3
        by_rules h1 h2 h3 h4 h5 h6 h7 h8 h9 rule.F4 = (rule_decides rule.F4 before line).0 h4
        by_rules h1 h2 h3 h4 h5 h6 h7 h8 h9 rule.F5 = (rule_decides rule.F5 before line).0 h5
        by_rules h1 h2 h3 h4 h5 h6 h7 h8 h9 rule.F6 = (rule_decides rule.F6 before line).0 h6
        by_rules h1 h2 h3 h4 h5 h6 h7 h8 h9 rule.F7 = (rule_decides rule.F7 before line).0 h7
        by_rules h1 h2 h3 h4 h5 h6 h7 h8 h9 rule.F8 = (rule_decides rule.F8 before line).0 h8
        by_rules h1 h2 h3 h4 h5 h6 h7 h8 h9 rule.F9 = (rule_decides rule.F9 before line).0 h9

    rules_none : (rs : List Rule) → IsFaithfulLine c before line → first_broken c before line rs ≡ None
    rules_none [] h = refl
    rules_none (r ∷ rs) h = step_keeps r rs ((rule_decides r before line).1 (h r)) (rules_none rs h)

    -- a rule that is told is broken
    told_broken : (rs : List Rule) (r : Rule) → first_broken c before line rs ≡ Some r → Keeps r c before line → ⊥
    told_broken [] r e k = absurd (cc)
    told_broken (first ∷ rs) r e k = go (keeps first c before line) refl e (λ later. told_broken rs r later k)
      where
        go : (b : Bool) → keeps first c before line ≡ b → (if b then first_broken c before line rs else Some first) ≡ Some r → (first_broken c before line rs ≡ Some r → ⊥) → ⊥
        go true h e later = later e
        go false h e later =
            let same : first ≡ r = some_same first r e in
            no_true (sym h ∙ (rule_decides first before line).1 (subst (λ (name : Rule). Keeps name c before line) (sym same) k))

  -- ---- all lines

  told_faithful : (before lines : List Line) (number k : ℕ) → verdict_after c before number lines ≡ Faithful k → AreFaithful c before → AreFaithful c (past before lines)
  told_faithful before [] number k e h = h
  told_faithful before (line ∷ lines) number k e h = go (broken_by c before line) refl e (λ later own. told_faithful (line ∷ before) lines (suc number) k later own)
    where
      go : (o : Option Rule) → broken_by c before line ≡ o → or_broken (suc number) o (verdict_after c (line ∷ before) (suc number) lines) ≡ Faithful k →
          (verdict_after c (line ∷ before) (suc number) lines ≡ Faithful k → AreFaithful c (line ∷ before) → AreFaithful c (past (line ∷ before) lines)) → AreFaithful c (past (line ∷ before) lines)
      go None b e later = later e (none_faithful before line b, h)
      go (Some r) b e later = absurd (cc)

  faithful_told : (before lines : List Line) (number : ℕ) → AreFaithful c (past before lines) → verdict_after c before number lines ≡ Faithful (number + length lines)
  faithful_told before [] number h = let same : number ≡ number + 0 = omega arith in ap (λ (n : ℕ). Faithful n) same
  faithful_told before (line ∷ lines) number h =
      let own : AreFaithful c (line ∷ before) = earlier_faithful c (line ∷ before) lines h in
      let kept : broken_by c before line ≡ None = rules_none before line rules own.0 in
      let more : suc number + length lines ≡ number + length (line ∷ lines) = omega arith in
      ap (λ (o : Option Rule). or_broken (suc number) o (verdict_after c (line ∷ before) (suc number) lines)) kept
      ∙ faithful_told (line ∷ before) lines (suc number) h ∙ ap (λ (n : ℕ). Faithful n) more

  pub verdict_faithful : (lines : List Line) → (verdict c lines ≡ Faithful (length lines) → IsFaithful c lines) × (IsFaithful c lines → verdict c lines ≡ Faithful (length lines))
  verdict_faithful lines =
      let same : 0 + length lines ≡ length lines = omega arith in
      (λ e. told_faithful [] lines 0 (length lines) e tt, λ h. faithful_told [] lines 0 h ∙ ap (λ (n : ℕ). Faithful n) same)

  -- the first fault, of lines after others that are faithful
  first_fault : (front lines : List Line) (number : ℕ) (r : Rule) → verdict_after c (past [] front) (length front) lines ≡ Broken number r → IsFaithful c front → FirstFault c (front ++ lines) number r
  first_fault front [] number r e h = absurd (cc)
  first_fault front (line ∷ lines) number r e h = go (broken_by c (past [] front) line) refl e (λ told own. first_fault (front ++ line ∷ []) lines number r told own)
    where
      go : (o : Option Rule) → broken_by c (past [] front) line ≡ o → or_broken (suc (length front)) o (verdict_after c (line ∷ past [] front) (suc (length front)) lines) ≡ Broken number r →
          (verdict_after c (past [] (front ++ line ∷ [])) (length (front ++ line ∷ [])) lines ≡ Broken number r → IsFaithful c (front ++ line ∷ []) → FirstFault c ((front ++ line ∷ []) ++ lines) number r) →
          FirstFault c (front ++ line ∷ lines) number r
      go None b e later =
          let turned : past [] (front ++ line ∷ []) ≡ line ∷ past [] front = past_more [] front (line ∷ []) in
          let more : length (front ++ line ∷ []) ≡ suc (length front) = omega (arith, length-append front (line ∷ [])) in
          let same : verdict_after c (past [] (front ++ line ∷ [])) (length (front ++ line ∷ [])) lines ≡ verdict_after c (line ∷ past [] front) (suc (length front)) lines =
          ap (λ (ls : List Line). verdict_after c ls (length (front ++ line ∷ [])) lines) turned ∙ ap (λ (n : ℕ). verdict_after c (line ∷ past [] front) n lines) more in
          subst (λ (ls : List Line). FirstFault c ls number r) (append_assoc front (line ∷ []) lines)
          (later (same ∙ e) (subst (λ (ls : List Line). AreFaithful c ls) (sym turned) (none_faithful (past [] front) line b, h)))
      go (Some first) b e later =
          let rule_same : first ≡ r = cc in
          let told : broken_by c (past [] front) line ≡ Some r = b ∙ ap (λ (name : Rule). Some name) rule_same in
          record {
            front = front;
            line = line;
            rest = lines;
            whole = refl;
            counted = cc;
            faithful = h;
            least = told;
            breaks = told_broken (past [] front) line rules r told;
          }

  pub verdict_broken : (lines : List Line) (number : ℕ) (r : Rule) → verdict c lines ≡ Broken number r → FirstFault c lines number r
  verdict_broken lines number r e = first_fault [] lines number r e tt
