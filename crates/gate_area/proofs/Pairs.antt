-- What a crash leaves of a disk at each moment while an area is retired or founded.
use Rattle.std.proofs.Common.{◌≡◌, ◌≢◌, ℕ, ◌+◌, ◌<◌, ◌≤◌, min, ◌⊎◌, inl, inr, List, [], ◌∷◌, length, take, get_or, refl, ap, sym, ◌∙◌, subst, arith, length-take}
use Rattle.disk_model.specs.declared.area.Area.{Area}
use Rattle.disk_model.specs.declared.area.Area.TheVariants.{Journal0, Journal1, Check2, Check3}
use Rattle.disk_model.specs.declared.areas.Areas.{Areas}
use Rattle.disk_model.specs.declared.call.Call.TheVariants.{Write, Cut, Sync}
use Rattle.disk_model.specs.Areas.{bytes_of}
use Rattle.disk_model.specs.Calls.{Told, and_then, area_bytes, reads, IsImage, IsSettled}
use Rattle.disk_model.specs.Steps.{written, after}
use Rattle.disk_model.proofs.Bytes.{length-written}
use Rattle.disk_model.proofs.OnArea.{own-on, image-on, image-other, settled-sync}
use Rattle.disk_model.proofs.Reading.{area_bytes-and_then, reads-bytes}
use Rattle.gate_area.specs.declared.pair.Pair.TheVariants.{Journal, Check}
use Rattle.gate_area.specs.declared.pair.Head.TheVariants.{Closed}
use Rattle.gate_area.specs.Gate.{IsRetired, retire_steps, retire_calls, gate_steps, gate_calls, opened, OpenOrShut, FrontOrShort, OthersStay, StandsAsEither, RetireLeaves, FoundLeaves, IsFoundable}
use Rattle.gate_area.specs.Standing.{pair_of, head_of}
use Rattle.gate_area.proofs.Heads.{retire_first, retire_second, found_first, found_second, beside_first, beside_second}
use Rattle.gate_area.proofs.Moments.{retire_file, found_file}

-- what is left of a file that was retired
retired_size : (f h : List ℕ) → h ≡ written 0 (0 ∷ []) (take (min 16 (length f)) f) → (length h ≤ 16) × (0 < length h)
retired_size f h e =
    let x = take (min 16 (length f)) f in
    let size = length-take (min 16 (length f)) f in
    let long = length-written 0 (0 ∷ []) x in
    (omega (arith, ap length e), omega (arith, ap length e))

retire_pair : (t : Told) (area : Area) (image : Areas) → OthersStay area (reads t) image → FrontOrShort (area_bytes area t) (bytes_of area image)
    → StandsAsEither (pair_of area) (reads t) (reads (and_then t (retire_calls area t))) image
retire_pair t Journal0 image others file =
    let calls = retire_calls Journal0 t in
    let f = area_bytes Journal0 t in
    let h = area_bytes Journal0 (and_then t calls) in
    let s = area_bytes Journal1 t in
    let size = retired_size f h (area_bytes-and_then Journal0 t calls) in
    beside_first Journal f image.journal0 h s image.journal1 (area_bytes Journal1 (and_then t calls)) (others Journal1 refl) (area_bytes-and_then Journal1 t calls) (retire_first Journal f image.journal0 h s file size.0)
retire_pair t Journal1 image others file =
    let calls = retire_calls Journal1 t in
    let f = area_bytes Journal1 t in
    let h = area_bytes Journal1 (and_then t calls) in
    let s = area_bytes Journal0 t in
    let size = retired_size f h (area_bytes-and_then Journal1 t calls) in
    beside_second Journal f image.journal1 h s image.journal0 (area_bytes Journal0 (and_then t calls)) (others Journal0 refl) (area_bytes-and_then Journal0 t calls) (retire_second Journal f image.journal1 h s file size.0 size.1)
retire_pair t Check2 image others file =
    let calls = retire_calls Check2 t in
    let f = area_bytes Check2 t in
    let h = area_bytes Check2 (and_then t calls) in
    let s = area_bytes Check3 t in
    let size = retired_size f h (area_bytes-and_then Check2 t calls) in
    beside_first Check f image.check2 h s image.check3 (area_bytes Check3 (and_then t calls)) (others Check3 refl) (area_bytes-and_then Check3 t calls) (retire_first Check f image.check2 h s file size.0)
retire_pair t Check3 image others file =
    let calls = retire_calls Check3 t in
    let f = area_bytes Check3 t in
    let h = area_bytes Check3 (and_then t calls) in
    let s = area_bytes Check2 t in
    let size = retired_size f h (area_bytes-and_then Check3 t calls) in
    beside_second Check f image.check3 h s image.check2 (area_bytes Check2 (and_then t calls)) (others Check2 refl) (area_bytes-and_then Check2 t calls) (retire_second Check f image.check3 h s file size.0 size.1)

-- at each moment of retiring
pub retire_leaves : (t : Told) (area : Area) → IsSettled t → (i : ℕ) (image : Areas) → IsImage (and_then t (take i (retire_calls area t))) image
    → RetireLeaves area (reads t) (reads (and_then t (retire_calls area t))) image
retire_leaves t area settled i image is =
    let steps = retire_steps (length (area_bytes area t)) in
    let others : OthersStay area (reads t) image = λ b other. image-other t b area steps i image other settled is ∙ sym (reads-bytes t b) in
    let file = retire_file (area_bytes area t) (bytes_of area image) i (image-on t area steps i image settled is) in
    record {
      others = others;
      file = subst (λ (f : List ℕ). FrontOrShort f (bytes_of area image)) (sym (reads-bytes t area)) file;
      pair = retire_pair t area image others file;
    }

-- and when it is done nothing is pending
pub retire_settles : (area : Area) (t : Told) → IsSettled (and_then t (retire_calls area t))
retire_settles area t = settled-sync t (Cut area (min 16 (length (area_bytes area t))) ∷ Sync ∷ Write area 0 (0 ∷ []) ∷ [])

-- and the area is what founding asks
pub retire_retires : (area : Area) (t : Told) → IsRetired (area_bytes area (and_then t (retire_calls area t)))
retire_retires area t =
    let f = area_bytes area t in
    let x = take (min 16 (length f)) f in
    let e = area_bytes-and_then area t (retire_calls area t) ∙ ap (after f) (own-on area (retire_steps (length f))) in
    let size = retired_size f (area_bytes area (and_then t (retire_calls area t))) e in
    record {
      some = size.1;
      short = size.0;
      shut = λ one. let never : 0 ≡ 1 = sym (ap (λ (g : List ℕ). get_or g 0 0) e) ∙ one in absurd (omega arith);
    }

found_pair : (t : Told) (area : Area) (body : List ℕ) (image : Areas) → length (area_bytes area t) ≤ 16 → 0 < length (area_bytes area t)
    → OthersStay area (reads t) image → OpenOrShut 0 body (area_bytes area t) (bytes_of area image) → IsFoundable area (length body) (reads t)
    → StandsAsEither (pair_of area) (reads t) (reads (and_then t (gate_calls area 0 body))) image
found_pair t Journal0 body image short some others file why =
    let calls = gate_calls Journal0 0 body in
    let f = area_bytes Journal0 t in
    let h = area_bytes Journal0 (and_then t calls) in
    let s = area_bytes Journal1 t in
    let whole : h ≡ opened 0 body f = area_bytes-and_then Journal0 t calls in
    let reason : (length body ≤ 16) ⊎ ((Journal ≡ Check) ⊎ (head_of Journal s ≢ Closed)) = elim why [ inl small ↦ inl small | inr (inl second) ↦ absurd (let never : Journal0 ≡ Journal1 = second in cc) | inr (inr rest) ↦ inr rest ] in
    beside_first Journal f image.journal0 h s image.journal1 (area_bytes Journal1 (and_then t calls)) (others Journal1 refl) (area_bytes-and_then Journal1 t calls) (found_first Journal body f image.journal0 h s short whole reason file)
found_pair t Journal1 body image short some others file why =
    let calls = gate_calls Journal1 0 body in
    let f = area_bytes Journal1 t in
    let h = area_bytes Journal1 (and_then t calls) in
    let s = area_bytes Journal0 t in
    let whole : h ≡ opened 0 body f = area_bytes-and_then Journal1 t calls in
    beside_second Journal f image.journal1 h s image.journal0 (area_bytes Journal0 (and_then t calls)) (others Journal0 refl) (area_bytes-and_then Journal0 t calls) (found_second Journal body f image.journal1 h s short some whole file)
found_pair t Check2 body image short some others file why =
    let calls = gate_calls Check2 0 body in
    let f = area_bytes Check2 t in
    let h = area_bytes Check2 (and_then t calls) in
    let s = area_bytes Check3 t in
    let whole : h ≡ opened 0 body f = area_bytes-and_then Check2 t calls in
    let reason : (length body ≤ 16) ⊎ ((Check ≡ Check) ⊎ (head_of Check s ≢ Closed)) = elim why [ inl small ↦ inl small | inr (inl second) ↦ absurd (let never : Check2 ≡ Check3 = second in cc) | inr (inr rest) ↦ inr rest ] in
    beside_first Check f image.check2 h s image.check3 (area_bytes Check3 (and_then t calls)) (others Check3 refl) (area_bytes-and_then Check3 t calls) (found_first Check body f image.check2 h s short whole reason file)
found_pair t Check3 body image short some others file why =
    let calls = gate_calls Check3 0 body in
    let f = area_bytes Check3 t in
    let h = area_bytes Check3 (and_then t calls) in
    let s = area_bytes Check2 t in
    let whole : h ≡ opened 0 body f = area_bytes-and_then Check3 t calls in
    beside_second Check f image.check3 h s image.check2 (area_bytes Check2 (and_then t calls)) (others Check2 refl) (area_bytes-and_then Check2 t calls) (found_second Check body f image.check3 h s short some whole file)

-- at each moment of founding
pub found_leaves : (t : Told) (area : Area) (body : List ℕ) → IsSettled t → IsRetired (area_bytes area t)
    → (i : ℕ) (image : Areas) → IsImage (and_then t (take i (gate_calls area 0 body))) image
    → FoundLeaves area body (reads t) (reads (and_then t (gate_calls area 0 body))) image
found_leaves t area body settled retired i image is =
    let steps = gate_steps 0 body in
    let others : OthersStay area (reads t) image = λ b other. image-other t b area steps i image other settled is ∙ sym (reads-bytes t b) in
    let file = found_file 0 body (area_bytes area t) (bytes_of area image) i retired.some retired.shut (image-on t area steps i image settled is) in
    record {
      others = others;
      file = subst (λ (f : List ℕ). OpenOrShut 0 body f (bytes_of area image)) (sym (reads-bytes t area)) file;
      pair = found_pair t area body image retired.short retired.some others file;
    }

pub gate_settles : (area : Area) (gate : ℕ) (body : List ℕ) (t : Told) → IsSettled (and_then t (gate_calls area gate body))
gate_settles area gate body t = settled-sync t (Write area (gate + 1) body ∷ Sync ∷ Write area gate (1 ∷ []) ∷ [])
