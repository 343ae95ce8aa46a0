-- What the place of a byte says of lines and words.
use Rattle.std.proofs.Common.{arith, ◌≡◌, ◌≢◌, ◌<◌, ◌≤◌, ℕ, ◌+◌, suc, List, [], ◌∷◌, length, take, drop, get_or, Option, Some, None, refl, sym, ap, ◌∙◌, ◌==◌, if◌then◌else◌, Bool, true, false, add-one, drop-cons}
use Rattle.std.proofs.lemmas.Grind.{common_steps}
use Rattle.std.specs.Option.{option_map}
use Rattle.text_lines.specs.Split.{Line, ended_line, place_of, pieces_of, onto_first, first_line, onto_line, lines_of, onto_lines}

-- the first line where the first line feed stands at a place
abbrev pub line_at : List ℕ → Option ℕ → Option (List ℕ × Bool × List ℕ)
line_at [] place = None
line_at (b ∷ rest) None = Some (b ∷ rest, false, [])
line_at (b ∷ rest) (Some end) = Some (take end (b ∷ rest), true, drop (end + 1) (b ∷ rest))

pub line_whole : (bytes : List ℕ) → 0 < length bytes → Some (bytes, false, []) ≡ line_at bytes None
line_whole [] some = absurd (grind arith)
line_whole (b ∷ rest) some = refl

pub line_cut : (bytes : List ℕ) (end : ℕ) → 0 < length bytes → Some (take end bytes, true, drop (end + 1) bytes) ≡ line_at bytes (Some end)
line_cut [] end some = absurd (grind arith)
line_cut (b ∷ rest) end some = refl

-- one place further
abbrev pub further : Option ℕ → Option ℕ
further place = option_map (λ n. n + 1) place

-- a place in a rest, counted from the front
abbrev pub onwards : ℕ → Option ℕ → Option ℕ
onwards n place = option_map (λ k. k + n) place

-- ---- the search

pub at_front : (place : Option ℕ) → place ≡ onwards 0 place
at_front None = refl
at_front (Some k) = ap Some (grind arith)

step_on : (n : ℕ) (place : Option ℕ) → onwards n (further place) ≡ onwards (n + 1) place
step_on n None = refl
step_on n (Some k) = ap Some (grind arith)

apart : (byte x : ℕ) (rest : List ℕ) → x ≢ byte → place_of byte (x ∷ rest) ≡ further (place_of byte rest)
apart byte x rest other = grind (arith, common_steps)

here : (byte x : ℕ) (rest : List ℕ) → x ≡ byte → place_of byte (x ∷ rest) ≡ Some 0
here byte x rest same = grind (arith, common_steps)

pub passed : (byte n : ℕ) (bytes : List ℕ) → n < length bytes → get_or bytes n 0 ≢ byte →
    place_of byte bytes ≡ onwards n (place_of byte (drop n bytes)) → place_of byte bytes ≡ onwards (n + 1) (place_of byte (drop (n + 1) bytes))
passed byte n bytes inside other so_far =
    so_far ∙ ap (λ l. onwards n (place_of byte l)) (drop-cons bytes n 0 inside)
    ∙ ap (onwards n) (apart byte (get_or bytes n 0) (drop (suc n) bytes) other)
    ∙ step_on n (place_of byte (drop (suc n) bytes)) ∙ ap (λ k. onwards (n + 1) (place_of byte (drop k bytes))) (sym (add-one n))

pub found : (byte n : ℕ) (bytes : List ℕ) → n < length bytes → get_or bytes n 0 ≡ byte →
    place_of byte bytes ≡ onwards n (place_of byte (drop n bytes)) → Some n ≡ place_of byte bytes
found byte n bytes inside same so_far =
    sym (so_far ∙ ap (λ l. onwards n (place_of byte l)) (drop-cons bytes n 0 inside)
    ∙ ap (onwards n) (here byte (get_or bytes n 0) (drop (suc n) bytes) same) ∙ ap Some (grind arith))

pub not_found : (byte n : ℕ) (bytes : List ℕ) → length bytes ≤ n →
    place_of byte bytes ≡ onwards n (place_of byte (drop n bytes)) → None ≡ place_of byte bytes
not_found byte n bytes all so_far =
    let empty : drop n bytes ≡ [] = grind (arith, common_steps) in
    sym (so_far ∙ ap (λ l. onwards n (place_of byte l)) empty)

-- ---- lines and words

line_step : (b c : ℕ) (rest : List ℕ) (place : Option ℕ) → Some (onto_line b (line_at (c ∷ rest) place)) ≡ line_at (b ∷ c ∷ rest) (further place)
line_step b c rest None = refl
line_step b c rest (Some k) = rw (add-one, add-one) refl

line_test : (b : ℕ) (rest : List ℕ) (t : Bool) → first_line rest ≡ line_at rest (place_of 10 rest) →
    Some (if t then ([], true, rest) else onto_line b (first_line rest)) ≡ line_at (b ∷ rest) (if t then Some 0 else further (place_of 10 rest))
line_test b rest true before = refl
line_test b [] false before = refl
line_test b (c ∷ rest) false before =
    ap (λ (first : Option (List ℕ × Bool × List ℕ)). Some (onto_line b first)) before ∙ line_step b c rest (place_of 10 (c ∷ rest))

pub first_line_at : (bytes : List ℕ) → first_line bytes ≡ line_at bytes (place_of 10 bytes)
first_line_at [] = refl
first_line_at (b ∷ rest) = line_test b rest (b == 10) (first_line_at rest)

-- the pieces where the first byte between them stands at a place
abbrev pub pieces_at : ℕ → List ℕ → Option ℕ → List (List ℕ)
pieces_at byte bytes None = bytes ∷ []
pieces_at byte bytes (Some end) = take end bytes ∷ pieces_of byte (drop (end + 1) bytes)

piece_step : (byte b : ℕ) (rest : List ℕ) (place : Option ℕ) → onto_first b (pieces_at byte rest place) ≡ pieces_at byte (b ∷ rest) (further place)
piece_step byte b rest None = refl
piece_step byte b rest (Some k) = rw (add-one, add-one) refl

piece_test : (byte b : ℕ) (rest : List ℕ) (t : Bool) → pieces_of byte rest ≡ pieces_at byte rest (place_of byte rest) →
    (if t then [] ∷ pieces_of byte rest else onto_first b (pieces_of byte rest)) ≡ pieces_at byte (b ∷ rest) (if t then Some 0 else further (place_of byte rest))
piece_test byte b rest true before = refl
piece_test byte b rest false before = ap (onto_first b) before ∙ piece_step byte b rest (place_of byte rest)

pub pieces_of_at : (byte : ℕ) (bytes : List ℕ) → pieces_of byte bytes ≡ pieces_at byte bytes (place_of byte bytes)
pieces_of_at byte [] = refl
pieces_of_at byte (b ∷ rest) = piece_test byte b rest (b == byte) (pieces_of_at byte rest)

-- the lines where the first line is known
abbrev pub lines_at : Option (List ℕ × Bool × List ℕ) → List Line
lines_at None = []
lines_at (Some line) = record { text = line.0; ended = line.1 } ∷ lines_of line.2

lines_step : (b : ℕ) (first : Option (List ℕ × Bool × List ℕ)) → onto_lines b (lines_at first) ≡ lines_at (Some (onto_line b first))
lines_step b None = refl
lines_step b (Some line) = refl

lines_test : (b : ℕ) (rest : List ℕ) (t : Bool) → lines_of rest ≡ lines_at (first_line rest) →
    (if t then ended_line [] ∷ lines_of rest else onto_lines b (lines_of rest)) ≡ lines_at (Some (if t then ([], true, rest) else onto_line b (first_line rest)))
lines_test b rest true before = refl
lines_test b rest false before = ap (onto_lines b) before ∙ lines_step b (first_line rest)

pub lines_of_at : (bytes : List ℕ) → lines_of bytes ≡ lines_at (first_line bytes)
lines_of_at [] = refl
lines_of_at (b ∷ rest) = lines_test b rest (b == 10) (lines_of_at rest)
