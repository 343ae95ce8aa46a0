-- Calls on one area of a disk on which nothing is pending: what is then known of each area, and what a crash
-- may leave of it, at each moment.
use Rattle.std.proofs.Common.{◌≡◌, ℕ, true, false, cond, List, [], ◌∷◌, ◌++◌, take, zero, suc, refl, ap, sym, ◌∙◌, arith, subst}
use Rattle.std.proofs.lemmas.List.{ext_get_or}
use Rattle.disk_model.specs.declared.area.Area.{Area}
use Rattle.disk_model.specs.declared.area.Area.TheVariants.{Journal0, Journal1, Check2, Check3}
use Rattle.disk_model.specs.declared.areas.Areas.{Areas}
use Rattle.disk_model.specs.declared.call.Call.{Call}
use Rattle.disk_model.specs.declared.call.Call.TheVariants.{Write, Cut, Sync}
use Rattle.disk_model.specs.Areas.{bytes_of, same}
use Rattle.disk_model.specs.Calls.{Told, and_then, own, on, area_bytes, kept, IsImage, IsSettled}
use Rattle.disk_model.specs.Steps.{Step, Put, Shrink, Flush, Kept, CanLeave, after, steps_on}
use Rattle.disk_model.proofs.OwnSteps.{own-append, steps_on-append}
use Rattle.disk_model.proofs.Reading.{kept-and_then, reading-kept}

pub same-self : (area : Area) → same area area ≡ true
same-self Journal0 = refl
same-self Journal1 = refl
same-self Check2 = refl
same-self Check3 = refl

-- the steps come back from the calls
pub own-on : (area : Area) (steps : List Step) → own area (on area steps) ≡ steps
own-on area [] = refl
own-on area (Put at bytes ∷ steps) = ap (λ b. cond b (Put at bytes ∷ own area (on area steps)) (own area (on area steps))) (same-self area) ∙ ap (λ rest. Put at bytes ∷ rest) (own-on area steps)
own-on area (Shrink len ∷ steps) = ap (λ b. cond b (Shrink len ∷ own area (on area steps)) (own area (on area steps))) (same-self area) ∙ ap (λ rest. Shrink len ∷ rest) (own-on area steps)
own-on area (Flush ∷ steps) = ap (λ rest. Flush ∷ rest) (own-on area steps)

pub take-on : (i : ℕ) (area : Area) (steps : List Step) → take i (on area steps) ≡ on area (take i steps)
take-on zero area steps = refl
take-on (suc i) area [] = refl
take-on (suc i) area (Put at bytes ∷ steps) = ap (λ rest. Write area at bytes ∷ rest) (take-on i area steps)
take-on (suc i) area (Shrink len ∷ steps) = ap (λ rest. Cut area len ∷ rest) (take-on i area steps)
take-on (suc i) area (Flush ∷ steps) = ap (λ rest. Sync ∷ rest) (take-on i area steps)

still : List ℕ → Kept
still file = record { bytes = file; pending = [] }

-- calls on another area leave what is known of this one
idle : (b area : Area) (file : List ℕ) (steps : List Step) → same b area ≡ false → steps_on (still file) (own b (on area steps)) ≡ still file
unfolding still
idle b area file [] other = refl
idle b area file (Put at bytes ∷ steps) other = ap (λ c. steps_on (still file) (cond c (Put at bytes ∷ own b (on area steps)) (own b (on area steps)))) other ∙ idle b area file steps other
idle b area file (Shrink len ∷ steps) other = ap (λ c. steps_on (still file) (cond c (Shrink len ∷ own b (on area steps)) (own b (on area steps)))) other ∙ idle b area file steps other
idle b area file (Flush ∷ steps) other = idle b area file steps other

-- where nothing is pending, what is known of an area is what a read gives
pub settled-kept : (t : Told) (area : Area) → IsSettled t → kept area t ≡ record { bytes = area_bytes area t; pending = [] }
unfolding still
settled-kept t area settled =
    let k = kept area t in
    let bytes : k.bytes ≡ area_bytes area t = ap (after k.bytes) (sym (settled area)) ∙ reading-kept area t in
    ap (λ p. (let j : Kept = record { bytes = k.bytes; pending = p } in j)) (settled area) ∙ ap still bytes

-- what is known of the area at each moment
pub kept-on : (t : Told) (area : Area) (steps : List Step) (i : ℕ) → IsSettled t
    → kept area (and_then t (take i (on area steps))) ≡ steps_on (record { bytes = area_bytes area t; pending = [] }) (take i steps)
kept-on t area steps i settled =
    kept-and_then area t (take i (on area steps))
    ∙ ap (λ calls. steps_on (kept area t) (own area calls)) (take-on i area steps)
    ∙ ap (steps_on (kept area t)) (own-on area (take i steps))
    ∙ ap (λ k. steps_on k (take i steps)) (settled-kept t area settled)

-- and of another area
pub kept-other : (t : Told) (b area : Area) (steps : List Step) (i : ℕ) → same b area ≡ false → IsSettled t
    → kept b (and_then t (take i (on area steps))) ≡ record { bytes = area_bytes b t; pending = [] }
unfolding still
kept-other t b area steps i other settled =
    kept-and_then b t (take i (on area steps))
    ∙ ap (λ calls. steps_on (kept b t) (own b calls)) (take-on i area steps)
    ∙ ap (λ k. steps_on k (own b (on area (take i steps)))) (settled-kept t b settled)
    ∙ idle b area (area_bytes b t) (take i steps) other

-- with nothing pending a crash leaves what is there
pub only_image : (file image : List ℕ) → CanLeave (record { bytes = file; pending = [] }) image → image ≡ file
only_image file image can = ext_get_or 0 image file (omega arith) (λ i low. can.stays i (omega arith) tt)

-- the image of the area is one of a file to which the first of these steps were done
pub image-on : (t : Told) (area : Area) (steps : List Step) (i : ℕ) (image : Areas) → IsSettled t
    → IsImage (and_then t (take i (on area steps))) image
    → CanLeave (steps_on (record { bytes = area_bytes area t; pending = [] }) (take i steps)) (bytes_of area image)
image-on t area steps i image settled is =
    let P : Kept → Type 0 = λ k. CanLeave k (bytes_of area image) in
    subst P (kept-on t area steps i settled) (is area)

-- the other areas are as they were
pub image-other : (t : Told) (b area : Area) (steps : List Step) (i : ℕ) (image : Areas) → same b area ≡ false → IsSettled t
    → IsImage (and_then t (take i (on area steps))) image
    → bytes_of b image ≡ area_bytes b t
image-other t b area steps i image other settled is =
    let P : Kept → Type 0 = λ k. CanLeave k (bytes_of b image) in
    only_image (area_bytes b t) (bytes_of b image) (subst P (kept-other t b area steps i other settled) (is b))

-- with nothing pending a crash leaves what reads give
pub settled-image : (t : Told) (image : Areas) → IsSettled t → IsImage t image → (area : Area) → bytes_of area image ≡ area_bytes area t
settled-image t image settled is area =
    let P : Kept → Type 0 = λ k. CanLeave k (bytes_of area image) in
    only_image (area_bytes area t) (bytes_of area image) (subst P (settled-kept t area settled) (is area))

-- a sync at the end leaves nothing pending
pub settled-sync : (t : Told) (calls : List Call) → IsSettled (and_then t (calls ++ Sync ∷ []))
settled-sync t calls area =
    let k = steps_on (kept area t) (own area calls) in
    ap (λ (x : Kept). x.pending)
    (kept-and_then area t (calls ++ Sync ∷ [])
    ∙ ap (steps_on (kept area t)) (own-append area calls (Sync ∷ []))
    ∙ steps_on-append (kept area t) (own area calls) (Flush ∷ []))
