-- What a write leaves at each position of a file.
use Rattle.std.proofs.Common.{◌≡◌, ℕ, ◌+◌, ◌-◌, ◌<◌, ◌≤◌, min, List, [], ◌++◌, length, take, drop, get_or, refl, ap, ◌∙◌, inl, inr, arith, length-take}
use Rattle.std.proofs.Math.Seq.{drop-append_seam}
use Rattle.std.proofs.lemmas.Bool.{cases_lt}
use Rattle.std.proofs.lemmas.List.{take_all, drop_all, take-append-drop, take-append-le, append-nil, get_or-take, get_or-drop, get_or_append_left, get_or-append_right}
use Rattle.std.proofs.lemmas.Grind.{common_steps}
use Rattle.disk_model.specs.Steps.{written}

pub length-written : (at : ℕ) (bytes file : List ℕ) → length (written at bytes file) ≡ min at (length file) + (length bytes + (length file - (at + length bytes)))
length-written at bytes file = grind (arith, common_steps)

-- before the write
pub written-before : (at : ℕ) (bytes file : List ℕ) (i : ℕ) → i < at → i < length file → get_or (written at bytes file) i 0 ≡ get_or file i 0
written-before at bytes file i low inside =
    get_or_append_left (take at file) _ 0 i (grind (arith, common_steps)) ∙ get_or-take at file i 0 low

-- in its range
pub written-inside : (at : ℕ) (bytes file : List ℕ) (i : ℕ) → at ≤ length file → at ≤ i → i < at + length bytes → get_or (written at bytes file) i 0 ≡ get_or bytes (i - at) 0
written-inside at bytes file i place low inside =
    get_or-append_right (take at file) _ at i 0 (grind (arith, common_steps)) low ∙ get_or_append_left bytes _ 0 (i - at) (omega arith)

-- behind it
pub written-behind : (at : ℕ) (bytes file : List ℕ) (i : ℕ) → at ≤ length file → at + length bytes ≤ i → get_or (written at bytes file) i 0 ≡ get_or file i 0
written-behind at bytes file i place behind =
    get_or-append_right (take at file) _ at i 0 (grind (arith, common_steps)) (omega arith)
    ∙ get_or-append_right bytes _ (length bytes) (i - at) 0 refl (omega arith)
    ∙ get_or-drop (at + length bytes) file (i - at - length bytes) 0
    ∙ ap (λ n. get_or file n 0) (let e : at + length bytes + (i - at - length bytes) ≡ i = omega arith in e)

-- all of it stands inside
in_full : (at k : ℕ) (bytes file : List ℕ) → k ≡ length bytes → written at (take k bytes) (file ++ drop k bytes) ≡ written at bytes file
in_full at k bytes file e =
    let front : take k bytes ≡ bytes = take_all k bytes (omega arith) in
    let none : drop k bytes ≡ [] = drop_all k bytes (omega arith) in
    rw (front, none, append-nil) refl

-- none of it does, and the place is past the end
wholly_behind : (at k : ℕ) (bytes file : List ℕ) → drop (at + length bytes) file ≡ [] → k ≡ 0 → length file ≤ at → written at (take k bytes) (file ++ drop k bytes) ≡ written at bytes file
wholly_behind at k bytes file none e past =
    let front : take at file ≡ file = take_all at file past in
    let same : at + 0 ≡ at = omega arith in
    rw (none, front, append-nil, e, same) (take-append-drop at (file ++ bytes))

-- a part stands inside, or none of it
in_part_behind : (at k : ℕ) (bytes file : List ℕ) → k ≡ length file - at → length file - at < length bytes → written at (take k bytes) (file ++ drop k bytes) ≡ written at bytes file
in_part_behind at k bytes file e short =
    let size : length (take k bytes) ≡ k = omega (arith, length-take k bytes) in
    let none : drop (at + length bytes) file ≡ [] = drop_all (at + length bytes) file (omega arith) in
    elim (cases_lt (length file) at) [
      | inl past ↦ wholly_behind at k bytes file none (omega arith) (omega arith)
      | inr inside ↦
          let place : at + length (take k bytes) ≡ length file = omega arith in
          rw (none, place, drop-append_seam file (drop k bytes), take-append-drop k bytes, take-append-le at file (drop k bytes) inside, append-nil) refl
    ]

-- what stands inside the file and what is put behind it, together
pub written_in_parts : (at k : ℕ) (bytes file : List ℕ) → k ≡ min (length bytes) (length file - at) → written at (take k bytes) (file ++ drop k bytes) ≡ written at bytes file
written_in_parts at k bytes file e =
    elim (cases_lt (length file - at) (length bytes)) [
      | inl short ↦ in_part_behind at k bytes file (omega arith) short
      | inr long ↦ in_full at k bytes file (omega arith)
    ]
