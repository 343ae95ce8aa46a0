-- Words and lines are read as they are spelled.
use Rattle.std.proofs.Common.{arith, ◌≡◌, ◌≢◌, ℕ, List, [], ◌∷◌, ◌++◌, Option, Some, None, refl, sym, ap, ◌∙◌, ◌==◌, if◌then◌else◌, Bool, true, false, append_assoc, append-nil}
use Rattle.std.specs.List.{flat_map, AllByRecursion}
use Rattle.text_lines.specs.Split.{Line, ended_line, all_ended, line_bytes, unlined, pieces_of, words_of, place_of, onto_first, first_line, onto_line, lines_of, onto_lines}
use Rattle.text_lines.proofs.Places.{pieces_of_at, pieces_at, lines_of_at, lines_at}
use Rattle.text_lines.specs.Text.{set_off, joined_by, joined}

-- no byte of it is this one
abbrev pub Lacks : ℕ → List ℕ → Type 0
Lacks byte bytes = AllByRecursion (λ b. b ≢ byte) bytes

test_false : (a b : ℕ) → a ≢ b → (a == b) ≡ false
test_false a b apart = grind arith

-- ---- lines

pub first_line_of : (line rest : List ℕ) → Lacks 10 line → first_line (line ++ 10 ∷ rest) ≡ Some (line, true, rest)
first_line_of [] rest lacks = refl
first_line_of (b ∷ line) rest lacks =
    rw (test_false b 10 lacks.0) (ap (λ (first : Option (List ℕ × Bool × List ℕ)). Some (onto_line b first)) (first_line_of line rest lacks.1))

-- ---- pieces and words

pub one_piece : (byte : ℕ) (piece : List ℕ) → Lacks byte piece → pieces_of byte piece ≡ piece ∷ []
one_piece byte [] lacks = refl
one_piece byte (b ∷ piece) lacks = rw (test_false b byte lacks.0) (ap (onto_first b) (one_piece byte piece lacks.1))

pub piece_first : (byte : ℕ) (piece rest : List ℕ) → Lacks byte piece → pieces_of byte (piece ++ byte ∷ rest) ≡ piece ∷ pieces_of byte rest
piece_first byte [] rest lacks = here (byte == byte) refl
  where
    here : (t : Bool) → (byte == byte) ≡ t → (if t then [] ∷ pieces_of byte rest else onto_first byte (pieces_of byte rest)) ≡ [] ∷ pieces_of byte rest
    here true is = refl
    here false is = absurd (grind arith)
piece_first byte (b ∷ piece) rest lacks = rw (test_false b byte lacks.0) (ap (onto_first b) (piece_first byte piece rest lacks.1))

pub pieces_of_joined : (byte : ℕ) (piece : List ℕ) (pieces : List (List ℕ)) → AllByRecursion (Lacks byte) (piece ∷ pieces) →
    pieces_of byte (joined_by byte (piece ∷ pieces)) ≡ piece ∷ pieces
pieces_of_joined byte piece [] lacks = rw append-nil (one_piece byte piece lacks.0)
pieces_of_joined byte piece (next ∷ pieces) lacks =
    piece_first byte piece (next ++ flat_map (set_off byte) pieces) lacks.0 ∙ ap (λ (l : List (List ℕ)). piece ∷ l) (pieces_of_joined byte next pieces lacks.1)

pub words_of_joined : (word : List ℕ) (words : List (List ℕ)) → AllByRecursion (Lacks 32) (word ∷ words) → words_of (joined (word ∷ words)) ≡ word ∷ words
words_of_joined word words lacks = pieces_of_joined 32 word words lacks

-- pieces in front of which a byte more stands
joined_onto : (byte b : ℕ) (pieces : List (List ℕ)) → joined_by byte (onto_first b pieces) ≡ b ∷ joined_by byte pieces
joined_onto byte b [] = refl
joined_onto byte b (piece ∷ pieces) = refl

set_off_pieces : (byte : ℕ) (rest : List ℕ) (place : Option ℕ) → flat_map (set_off byte) (pieces_at byte rest place) ≡ byte ∷ joined_by byte (pieces_at byte rest place)
set_off_pieces byte rest None = refl
set_off_pieces byte rest (Some k) = refl

joined_test : (byte b : ℕ) (rest : List ℕ) (t : Bool) → (b == byte) ≡ t → joined_by byte (pieces_of byte rest) ≡ rest →
    joined_by byte (if t then [] ∷ pieces_of byte rest else onto_first b (pieces_of byte rest)) ≡ b ∷ rest
joined_test byte b rest true is before =
    let same : b ≡ byte = grind arith in
    ap (λ (ps : List (List ℕ)). flat_map (set_off byte) ps) (pieces_of_at byte rest) ∙ set_off_pieces byte rest (place_of byte rest)
    ∙ ap (λ (ps : List (List ℕ)). byte ∷ joined_by byte ps) (sym (pieces_of_at byte rest)) ∙ ap (λ (l : List ℕ). byte ∷ l) before ∙ ap (λ (c : ℕ). c ∷ rest) (sym same)
joined_test byte b rest false is before = joined_onto byte b (pieces_of byte rest) ∙ ap (λ (l : List ℕ). b ∷ l) before

pub joined_pieces_of : (byte : ℕ) (line : List ℕ) → joined_by byte (pieces_of byte line) ≡ line
joined_pieces_of byte [] = refl
joined_pieces_of byte (b ∷ rest) = joined_test byte b rest (b == byte) refl (joined_pieces_of byte rest)

pub joined_words_of : (line : List ℕ) → joined (words_of line) ≡ line
joined_words_of line = joined_pieces_of 32 line

-- ---- all lines

pub lines_of_unlined : (texts : List (List ℕ)) → AllByRecursion (Lacks 10) texts → lines_of (unlined (all_ended texts)) ≡ all_ended texts
lines_of_unlined [] lacks = refl
lines_of_unlined (text ∷ texts) lacks =
    let rest = unlined (all_ended texts) in
    ap lines_of (append_assoc text (10 ∷ []) rest) ∙ lines_of_at (text ++ 10 ∷ rest) ∙ ap lines_at (first_line_of text rest lacks.0)
    ∙ ap (λ (lines : List Line). ended_line text ∷ lines) (lines_of_unlined texts lacks.1)

onto_unlined : (b : ℕ) (lines : List Line) → unlined (onto_lines b lines) ≡ b ∷ unlined lines
onto_unlined b [] = refl
onto_unlined b (line ∷ lines) = refl

unlined_test : (b : ℕ) (rest : List ℕ) (t : Bool) → (b == 10) ≡ t → unlined (lines_of rest) ≡ rest →
    unlined (if t then ended_line [] ∷ lines_of rest else onto_lines b (lines_of rest)) ≡ b ∷ rest
unlined_test b rest true is before =
    let feed : b ≡ 10 = grind arith in
    rw feed (ap (λ (l : List ℕ). 10 ∷ l) before)
unlined_test b rest false is before = onto_unlined b (lines_of rest) ∙ ap (λ (l : List ℕ). b ∷ l) before

-- the lines of bytes are these bytes
pub unlined_lines_of : (bytes : List ℕ) → unlined (lines_of bytes) ≡ bytes
unlined_lines_of [] = refl
unlined_lines_of (b ∷ rest) = unlined_test b rest (b == 10) refl (unlined_lines_of rest)

-- bytes are their first line and what is behind it
pub first_and_rest : (bytes text after : List ℕ) (ended : Bool) → first_line bytes ≡ Some (text, ended, after) →
    bytes ≡ line_bytes (record { text = text; ended = ended }) ++ after
first_and_rest bytes text after ended first =
    sym (unlined_lines_of bytes) ∙ ap unlined (lines_of_at bytes ∙ ap lines_at first)
    ∙ ap (λ (l : List ℕ). line_bytes (record { text = text; ended = ended }) ++ l) (unlined_lines_of after)
