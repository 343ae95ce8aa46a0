-- The images that a disk in memory leaves are images.
use Rattle.std.proofs.Common.{◌≡◌, ℕ, ◌+◌, ◌-◌, ◌<◌, ◌≤◌, Bool, true, false, ◌||◌, ◌&&◌, nat_le, nat_lt, cond, List, [], ◌∷◌, ◌++◌, length, take, drop, get_or, zero, suc, refl, ap, sym, ◌∙◌, inl, inr, arith, append_assoc, length-take, length-append}
use Rattle.std.proofs.lemmas.Grind.{get_or_default_zero}
use Rattle.std.proofs.lemmas.Bool.{cases_lt, lt-leb}
use Rattle.std.proofs.lemmas.List.{append-nil, take-append-drop, get_or-take, get_or_append_left, get_or-append_right}
use Rattle.std.specs.List.{list_any}
use Rattle.disk_model.specs.declared.area.Area.{Area}
use Rattle.disk_model.specs.declared.area.Area.TheVariants.{Journal0, Journal1, Check2, Check3}
use Rattle.disk_model.specs.declared.area.Image.{Image}
use Rattle.disk_model.specs.declared.area.Image.TheVariants.{Old, New, Fill}
use Rattle.disk_model.specs.declared.areas.Areas.{Areas}
use Rattle.disk_model.specs.declared.call.Call.{Call}
use Rattle.disk_model.specs.declared.call.Call.TheVariants.{Write, Cut, Sync}
use Rattle.disk_model.specs.Areas.{bytes_of, same}
use Rattle.disk_model.specs.Calls.{Told, own, kept, IsImage}
use Rattle.disk_model.specs.Crash.{covers, is_dirty, dirty_before, filled_byte, filled_below, left_of, left_by, NoSync, IsLastSync}
use Rattle.disk_model.specs.Steps.{Step, Put, Shrink, Flush, Kept, Spares, AllSpare, CanLeave, after, changed, least, most, steps_on, reading}
use Rattle.disk_model.proofs.Bytes.{written-before, written-behind}
use Rattle.disk_model.proofs.OwnSteps.{own-append, after-append, steps_on-append, least-bound, most-bound}
use Rattle.disk_model.proofs.Reading.{reading-steps}

-- a byte that a step spares stays, while it stands below the lengths before and after
spared : (file : List ℕ) (step : Step) (i : ℕ) → i < length file → i < length (changed file step) → Spares i step → get_or (changed file step) i 0 ≡ get_or file i 0
spared file (Put at bytes) i before now (inl low) = written-before at bytes file i low before
spared file (Put at bytes) i before now (inr high) = written-behind at bytes file i (omega arith) high
spared file (Shrink len) i before now spare = get_or-take len file i 0 (omega (arith, length-take len file))
spared file Flush i before now spare = refl

-- and so over several steps
pub all_spared : (file : List ℕ) (steps : List Step) (i : ℕ) → i < least file steps → AllSpare i steps → get_or (after file steps) i 0 ≡ get_or file i 0
all_spared file [] i low spare = refl
all_spared file (step ∷ steps) i low spare =
    all_spared (changed file step) steps i (omega arith) spare.1
    ∙ spared file step i (omega arith) (omega (arith, least-bound (changed file step) steps)) spare.0

pub least-after : (file : List ℕ) (steps : List Step) → least file steps ≤ length (after file steps)
least-after file [] = omega arith
least-after file (step ∷ steps) = omega (arith, least-after (changed file step) steps)

pub most-after : (file : List ℕ) (steps : List Step) → length (after file steps) ≤ most file steps
most-after file [] = omega arith
most-after file (step ∷ steps) = omega (arith, most-after (changed file step) steps)

-- what was kept is an image
pub old_can : (k : Kept) → CanLeave k k.bytes
old_can k = record {
  no_shorter = least-bound k.bytes k.pending;
  no_longer = most-bound k.bytes k.pending;
  stays = λ i low spare. refl;
}

-- what a read gives is one
pub new_can : (k : Kept) → CanLeave k (reading k)
new_can k = record {
  no_shorter = least-after k.bytes k.pending;
  no_longer = most-after k.bytes k.pending;
  stays = λ i low spare. all_spared k.bytes k.pending i low spare;
}

length-filled : (keep byte : ℕ) (k : Kept) (n : ℕ) → length (filled_below keep byte k n) ≡ n
length-filled keep byte k zero = refl
length-filled keep byte k (suc n) = length-append (filled_below keep byte k n) _ ∙ omega (arith, length-filled keep byte k n)

filled-at : (keep byte : ℕ) (k : Kept) (n i : ℕ) → i < n → get_or (filled_below keep byte k n) i 0 ≡ filled_byte keep byte k i
filled-at keep byte k zero i low = absurd (omega arith)
filled-at keep byte k (suc n) i low =
    let size = length-filled keep byte k n in
    elim (cases_lt i n) [
      | inl below ↦ get_or_append_left (filled_below keep byte k n) _ 0 i (omega arith) ∙ filled-at keep byte k n i below
      | inr last ↦
          let same : i ≡ n = omega arith in
          get_or-append_right (filled_below keep byte k n) (filled_byte keep byte k n ∷ []) n i 0 size last
          ∙ ap (λ j. get_or (filled_byte keep byte k n ∷ []) j 0) (let e : i - n ≡ 0 = omega arith in e)
          ∙ ap (filled_byte keep byte k) (sym same)
    ]

spared_not_covered : (i : ℕ) (step : Step) → Spares i step → covers i step ≡ false
spared_not_covered i (Put at bytes) (inl low) = ap (λ b. b && nat_lt i (at + length bytes)) (lt-leb at i low)
spared_not_covered i (Put at bytes) (inr high) = ap (λ b. nat_le at i && b) (lt-leb (suc i) (at + length bytes) (omega arith)) ∙ and_false (nat_le at i)
  where
    and_false : (b : Bool) → b && false ≡ false
    and_false true = refl
    and_false false = refl
spared_not_covered i (Shrink len) spare = refl
spared_not_covered i Flush spare = refl

none_covers : (i : ℕ) (steps : List Step) → AllSpare i steps → list_any (covers i) steps ≡ false
none_covers i [] spare = refl
none_covers i (step ∷ steps) spare = ap (λ b. b || list_any (covers i) steps) (spared_not_covered i step spare.0) ∙ none_covers i steps spare.1

-- a byte that stays isn't dirty
clean : (k : Kept) (i : ℕ) → i < least k.bytes k.pending → AllSpare i k.pending → is_dirty k i ≡ false
clean k i low spare = ap (λ b. b || list_any (covers i) k.pending) (lt-leb (least k.bytes k.pending) i low) ∙ none_covers i k.pending spare

filled-clean : (keep byte : ℕ) (k : Kept) (i : ℕ) → is_dirty k i ≡ false → i < length (reading k) → filled_byte keep byte k i ≡ get_or (reading k) i 0
filled-clean keep byte k i e low = ap (λ b. cond (b && nat_le keep (dirty_before k i)) byte (get_or (reading k) i byte)) e ∙ get_or_default_zero (reading k) i byte low

-- what a crash fills is an image
pub fill_can : (keep byte : ℕ) (k : Kept) → CanLeave k (left_of (Fill keep byte) k)
fill_can keep byte k =
    let size = length-filled keep byte k (most k.bytes k.pending) in
    let low = least-after k.bytes k.pending in
    let high = most-after k.bytes k.pending in
    record {
      no_shorter = omega arith;
      no_longer = omega arith;
      stays = λ i below spare.
          filled-at keep byte k (most k.bytes k.pending) i (omega arith)
          ∙ filled-clean keep byte k i (clean k i below spare) (omega arith)
          ∙ all_spared k.bytes k.pending i below spare;
    }

pub left_can : (image : Image) (k : Kept) → CanLeave k (left_of image k)
left_can Old k = old_can k
left_can New k = new_can k
left_can (Fill keep byte) k = fill_can keep byte k

-- each of the images of a disk in memory is an image of what it tells
pub left_is_image : (image : Image) (t : Told) → IsImage t (left_by image t)
left_is_image image t Journal0 = left_can image (kept Journal0 t)
left_is_image image t Journal1 = left_can image (kept Journal1 t)
left_is_image image t Check2 = left_can image (kept Check2 t)
left_is_image image t Check3 = left_can image (kept Check3 t)

more : List ℕ → List Step → Kept
more bytes pending = record { bytes = bytes; pending = pending }

added : (area : Area) (k : Kept) (step : Step) (calls : List Call) → NoSync calls
    → steps_on (more k.bytes (k.pending ++ step ∷ [])) (own area calls) ≡ more k.bytes ((k.pending ++ step ∷ []) ++ own area calls)
    → steps_on (more k.bytes (k.pending ++ step ∷ [])) (own area calls) ≡ more k.bytes (k.pending ++ step ∷ own area calls)
added area k step calls none e = e ∙ ap (more k.bytes) (append_assoc k.pending (step ∷ []) (own area calls))

one_more : (area : Area) (k : Kept) (step : Step) (calls : List Call) (b : Bool)
    → NoSync calls
    → ((k : Kept) → steps_on k (own area calls) ≡ more k.bytes (k.pending ++ own area calls))
    → steps_on k (step ∷ []) ≡ more k.bytes (k.pending ++ step ∷ [])
    → steps_on k (cond b (step ∷ own area calls) (own area calls)) ≡ more k.bytes (k.pending ++ cond b (step ∷ own area calls) (own area calls))
unfolding more
one_more area k step calls true none rest this =
    ap (λ j. steps_on j (own area calls)) this
    ∙ added area k step calls none (rest (more k.bytes (k.pending ++ step ∷ [])))
one_more area k step calls false none rest this = rest k

-- with no sync among them, calls only add to what is pending
pending_more : (area : Area) (calls : List Call) → NoSync calls → (k : Kept) → steps_on k (own area calls) ≡ more k.bytes (k.pending ++ own area calls)
unfolding more
pending_more area [] none k = ap (more k.bytes) (sym (append-nil k.pending))
pending_more area (Write b at bytes ∷ calls) none k = one_more area k (Put at bytes) calls (same area b) none (pending_more area calls none) refl
pending_more area (Cut b len ∷ calls) none k = one_more area k (Shrink len) calls (same area b) none (pending_more area calls none) refl
pending_more area (Sync ∷ calls) none k = absurd none

-- up to the last sync all is kept
settled : (area : Area) (file : List ℕ) (calls : List Call) (n : ℕ) → IsLastSync calls n → steps_on (more file []) (own area (take n calls)) ≡ more (after file (own area (take n calls))) []
unfolding more
settled area file calls n last = elim last.sync [
  | inl none ↦ ap (λ m. steps_on (more file []) (own area (take m calls))) none ∙ ap (λ m. more (after file (own area (take m calls))) []) (sym none)
  | inr (front, ends) ↦
      let whole = ap (own area) ends ∙ own-append area front (Sync ∷ []) in
      ap (steps_on (more file [])) whole
      ∙ steps_on-append (more file []) (own area front) (Flush ∷ [])
      ∙ ap (λ f. more f []) (reading-steps (more file []) (own area front) ∙ sym (after-append file (own area front) (Flush ∷ [])) ∙ ap (after file) (sym whole))
]

-- what is known of an area: what the calls up to the last sync made of it, and the steps after it
pub kept-split : (area : Area) (t : Told) (n : ℕ) → IsLastSync t.calls n → kept area t ≡ record { bytes = after (bytes_of area t.start) (own area (take n t.calls)); pending = own area (drop n t.calls) }
unfolding more
kept-split area t n last =
    let file = bytes_of area t.start in
    ap (λ cs. steps_on (more file []) (own area cs)) (sym (take-append-drop n t.calls))
    ∙ ap (steps_on (more file [])) (own-append area (take n t.calls) (drop n t.calls))
    ∙ steps_on-append (more file []) (own area (take n t.calls)) (own area (drop n t.calls))
    ∙ ap (λ k. steps_on k (own area (drop n t.calls))) (settled area file t.calls n last)
    ∙ pending_more area (drop n t.calls) last.none_since (more (after file (own area (take n t.calls))) [])

-- What the calls up to the last sync made of an area is what is known of it, and the calls since are pending.
pub kept_is : (told : Told) (area : Area) (start : Areas) (calls : List Call) (n : ℕ) (file bytes : List ℕ)
    → record { start = start; calls = calls } ≡ told
    → IsLastSync calls n → bytes ≡ bytes_of area start → file ≡ after bytes (own area (take n calls))
    → record { bytes = file; pending = own area (drop n calls) } ≡ kept area told
unfolding more
kept_is told area start calls n file bytes view last from done =
    ap (λ f. more f (own area (drop n calls))) (done ∙ ap (λ b. after b (own area (take n calls))) from)
    ∙ sym (kept-split area (record { start = start; calls = calls }) n last)
    ∙ ap (kept area) view
