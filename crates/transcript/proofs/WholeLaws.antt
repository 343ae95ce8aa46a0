-- A transcript is read as it is written, and what is read was written so.
use Rattle.std.proofs.Common.{arith, lit<, inl, inr, ◌⊎◌, ◌≡◌, ◌≤◌, ◌+◌, ℕ, ◌^◌, List, [], ◌∷◌, ◌++◌, length, refl, sym, ap, ◌∙◌, subst, nat_lt, if◌then◌else◌, Bool, true, false, Ok, Err}
use Rattle.std.proofs.lemmas.Grind.{common_steps}
use Rattle.std.proofs.Math.Path.{ap₂}
use Rattle.std.specs.Prelude.{Result}
use Rattle.std.specs.List.{AllByRecursion}
use Rattle.text_lines.specs.Split.{lines_of, all_ended, unlined, line_bytes as text_bytes}
use Rattle.text_lines.specs.Split.{Line as TextLine}
use Rattle.text_lines.specs.Text.{joined}
use Rattle.mrp_types.specs.Reading.{◌>>=◌}
use Rattle.text_lines.proofs.Inverse.{bound}
use Rattle.text_lines.proofs.Laws.{Lacks, lines_of_unlined, unlined_lines_of}
use Rattle.transcript.specs.declared.fault.LineFault.{LineFault}
use Rattle.transcript.specs.declared.fault.LineKind.{LineKind}
use Rattle.transcript.specs.declared.fault.LineKind.TheVariants as kind
use Rattle.transcript.specs.declared.line.Line.{Line}
use Rattle.transcript.specs.Spelling.{line_words, line_bytes, lines_text, IsLine}
use Rattle.transcript.specs.Reading.{line_at}
use Rattle.transcript.specs.Whole.{Progress, start, judged, after, placed, lines_from, transcript_of, EndsLast, IsTranscript}
use Rattle.text_lines.proofs.WordLaws.{lacks_joined}
use Rattle.transcript.proofs.LineLaws.{lacks, line_at_bytes, line_at_was}

texts : List Line → List (List ℕ)
texts [] = []
texts (line ∷ lines) = joined (line_words line) ∷ texts lines

-- lines as text are these texts, each with a line feed
unlined_texts : (lines : List Line) → unlined (all_ended (texts lines)) ≡ lines_text lines
unfolding texts
unlined_texts [] = refl
unlined_texts (line ∷ lines) = ap (λ (l : List ℕ). line_bytes line ++ l) (unlined_texts lines)

no_feed : (lines : List Line) → AllByRecursion IsLine lines → AllByRecursion (Lacks 10) (texts lines)
unfolding texts
no_feed [] are = tt
no_feed (line ∷ lines) are = (lacks_joined 10 32 (λ same. omega (arith, same)) (line_words line) (lacks 10 (lit< tt) line are.0), no_feed lines are.1)

abbrev pub read_as : List Line → Result (List Line) LineFault
read_as lines = Ok lines

-- ---- what is written is read

module _ (p : Progress) (bytes : List ℕ) (line : Line) where
  judged_line : p.ended ≡ false → p.bytes + length bytes ≤ 2 ^ 32 → line_at bytes ≡ Ok line → judged p bytes ≡ Ok line
  judged_line going short read =
      let fits : nat_lt (2 ^ 32) (p.bytes + length bytes) ≡ false = grind (arith, short) in
      rw (fits, going, read) refl

lines_read : (p : Progress) (lines : List Line) → AllByRecursion IsLine lines → EndsLast lines → (p.ended ≡ true → lines ≡ []) → p.bytes + length (lines_text lines) ≤ 2 ^ 32
    → lines_from p (all_ended (texts lines)) ≡ read_as lines
unfolding texts
lines_read p [] are last going short = refl
lines_read p (line ∷ lines) are last going short =
    let bytes = line_bytes line in
    let all : length (bytes ++ lines_text lines) ≡ length bytes + length (lines_text lines) = grind (arith, common_steps) in
    let here : p.bytes + length bytes ≤ 2 ^ 32 = omega (arith, short, all) in
    let rest : (p.bytes + length bytes) + length (lines_text lines) ≤ 2 ^ 32 = omega (arith, short, all) in
    rw (judged_line p bytes line (still p.ended refl) here (line_at_bytes line are.0), lines_read (after p bytes line) lines are.1 last.1 last.0 rest) refl
  where
    still : (t : Bool) → p.ended ≡ t → p.ended ≡ false
    still false is = is
    still true is = absurd (none (going is))
      where
        none : line ∷ lines ≡ [] → ⊥
        none e = absurd (grind (arith, e))

pub transcript_read : (lines : List Line) → IsTranscript lines → transcript_of (lines_text lines) ≡ read_as lines
transcript_read lines is =
    let all : length (lines_text lines) ≤ 2 ^ 32 = is.short in
    let short : 0 + length (lines_text lines) ≤ 2 ^ 32 = omega (arith, all) in
    ap (λ (l : List ℕ). lines_from start (lines_of l)) (sym (unlined_texts lines)) ∙ ap (lines_from start) (lines_of_unlined (texts lines) (no_feed lines is.each))
    ∙ lines_read start lines is.each is.ended (λ never. absurd (grind (arith, never))) short

-- ---- what is read was written

record Were (p : Progress) (found : List TextLine) (lines : List Line) : Type 0 where
  pub spelled : unlined found ≡ lines_text lines
  pub each : AllByRecursion IsLine lines
  pub ended : EndsLast lines
  pub going : p.ended ≡ true → lines ≡ []
  pub short : (lines ≡ []) ⊎ (p.bytes + length (lines_text lines) ≤ 2 ^ 32)

judged_was : (p : Progress) (bytes : List ℕ) (line : Line) → judged p bytes ≡ Ok line → (p.ended ≡ false) × (p.bytes + length bytes ≤ 2 ^ 32) × (line_at bytes ≡ Ok line)
judged_was p bytes line h = by (nat_lt (2 ^ 32) (p.bytes + length bytes)) p.ended refl refl h
  where
    by : (long ended : Bool) → nat_lt (2 ^ 32) (p.bytes + length bytes) ≡ long → p.ended ≡ ended → (if long then Err kind.TooMany else if ended then Err kind.Left else line_at bytes) ≡ Ok line
        → (p.ended ≡ false) × (p.bytes + length bytes ≤ 2 ^ 32) × (line_at bytes ≡ Ok line)
    by true ended is going read = absurd cc
    by false true is going read = absurd cc
    by false false is going read =
        let short : p.bytes + length bytes ≤ 2 ^ 32 = grind (arith, is) in
        (going, short, read)

placed_was : (number : ℕ) (read : Result Line LineKind) (line : Line) → placed number read ≡ Ok line → read ≡ Ok line
placed_was number (Ok found) line h = cc
placed_was number (Err found) line h = absurd cc

read_is : (a b : List Line) → read_as a ≡ read_as b → a ≡ b
read_is a b h = cc

lines_were : (p : Progress) (found : List TextLine) (lines : List Line) → lines_from p found ≡ read_as lines → Were p found lines
lines_were p [] lines h = subst (λ (l : List Line). Were p [] l) (read_is [] lines h) (record { spelled = refl; each = tt; ended = tt; going = λ e. refl; short = inl refl })
lines_were p (text ∷ found) lines h =
    let bytes = text_bytes text in
    let one = bound (placed p.number (judged p bytes)) (λ line. lines_from (after p bytes line) found >>= λ more. read_as (line ∷ more)) lines h in
    let line = one.0 in
    let next = bound (lines_from (after p bytes line) found) (λ more. read_as (line ∷ more)) lines one.2 in
    let more = next.0 in
    let judged_so = judged_was p bytes line (placed_was p.number (judged p bytes) line one.1) in
    let line_was = line_at_was bytes line judged_so.2 in
    let were = lines_were (after p bytes line) found more next.1 in
    subst (λ (l : List Line). Were p (text ∷ found) l) (read_is (line ∷ more) lines next.2) (record {
      spelled = ap₂ (λ (a : List ℕ) (b : List ℕ). a ++ b) line_was.spelled were.spelled;
      each = (line_was.is, were.each);
      ended = (were.going, were.ended);
      going = λ e. absurd (both_ways e judged_so.0);
      short = inr (all_short bytes line more line_was.spelled judged_so.1 were.short);
    })
  where
    both_ways : p.ended ≡ true → p.ended ≡ false → ⊥
    both_ways a b = absurd (grind (arith, a, b))

    all_short : (bytes : List ℕ) (line : Line) (more : List Line) → bytes ≡ line_bytes line → p.bytes + length bytes ≤ 2 ^ 32
        → (more ≡ []) ⊎ ((p.bytes + length bytes) + length (lines_text more) ≤ 2 ^ 32) → p.bytes + length (line_bytes line ++ lines_text more) ≤ 2 ^ 32
    all_short bytes line more same here (inl none) =
        let len : length bytes ≡ length (line_bytes line) = ap length same in
        let all : length (line_bytes line ++ lines_text more) ≡ length (line_bytes line) + length (lines_text more) = grind (arith, common_steps) in
        let no : length (lines_text more) ≡ 0 = rw none refl in
        omega (arith, here, len, all, no)
    all_short bytes line more same here (inr rest) =
        let len : length bytes ≡ length (line_bytes line) = ap length same in
        let all : length (line_bytes line ++ lines_text more) ≡ length (line_bytes line) + length (lines_text more) = grind (arith, common_steps) in
        omega (arith, rest, len, all)

pub transcript_was : (bytes : List ℕ) (lines : List Line) → transcript_of bytes ≡ read_as lines → (bytes ≡ lines_text lines) × IsTranscript lines
transcript_was bytes lines h =
    let were = lines_were start (lines_of bytes) lines h in
    (sym (unlined_lines_of bytes) ∙ were.spelled, record { each = were.each; ended = were.ended; short = by were.short })
  where
    by : (lines ≡ []) ⊎ (0 + length (lines_text lines) ≤ 2 ^ 32) → length (lines_text lines) ≤ 2 ^ 32
    by (inl none) =
        let no : length (lines_text lines) ≡ 0 = rw none refl in
        omega (arith, no)
    by (inr short) = omega (arith, short)
