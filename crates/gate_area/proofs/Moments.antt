-- What a crash leaves at each moment while an area is retired or founded.
use Rattle.std.proofs.Common.{◌≡◌, ◌≢◌, ℕ, ◌+◌, ◌-◌, ◌<◌, ◌≤◌, min, inl, inr, List, [], ◌∷◌, length, take, get_or, zero, suc, refl, ap, sym, ◌∙◌, subst, arith, length-take}
use Rattle.std.proofs.lemmas.Bool.{cases_lt}
use Rattle.std.proofs.lemmas.Bool.Decides.{eqb_tells}
use Rattle.std.proofs.lemmas.List.{ext_get_or, get_or-take}
use Rattle.disk_model.specs.Steps.{Step, Put, Shrink, Flush, CanLeave, steps_on, written}
use Rattle.disk_model.proofs.Bytes.{length-written, written-before, written-inside, written-behind}
use Rattle.disk_model.proofs.OnArea.{only_image}
use Rattle.gate_area.specs.Gate.{retire_steps, gate_steps, opened, OpenOrShut, FrontOrShort}
use Rattle.disk_model.proofs.Went.{take_none}

-- two lists with equal bytes below n, both at least so long
fronts : (n : ℕ) (a b : List ℕ) → n ≤ length a → n ≤ length b → ((i : ℕ) → i < n → get_or a i 0 ≡ get_or b i 0) → take n a ≡ take n b
fronts n a b la lb each = ext_get_or 0 (take n a) (take n b) (omega (arith, length-take n a, length-take n b))
    (λ i low. let under : i < n = omega (arith, length-take n a, low) in get_or-take n a i 0 under ∙ each i under ∙ sym (get_or-take n b i 0 under))

kept_front : (f : List ℕ) → FrontOrShort f f
kept_front f = elim (cases_lt 16 (length f)) [
  | inl long ↦ inl (record { longer = omega arith; no_longer = omega arith; front = refl })
  | inr short ↦ inr (record { short = short; none = λ e. e })
]

pub retire_file : (f g : List ℕ) (i : ℕ) → CanLeave (steps_on (record { bytes = f; pending = [] }) (take i (retire_steps (length f)))) g → FrontOrShort f g
retire_file f g zero can = subst (FrontOrShort f) (sym (only_image f g can)) (kept_front f)
retire_file f g (suc zero) can =
    let size = length-take (min 16 (length f)) f in
    elim (cases_lt 16 (length g)) [
      | inl long ↦ inl (record {
        longer = omega arith;
        no_longer = omega (arith, can.no_longer, size);
        front = fronts 16 g f (omega arith) (omega (arith, can.no_longer, size)) (λ i low. can.stays i (omega (arith, can.no_longer, size)) (tt, tt));
      })
      | inr short ↦ inr (record { short = short; none = λ e. omega (arith, can.no_shorter, size) })
    ]
retire_file f g (suc (suc zero)) can =
    let size = length-take (min 16 (length f)) f in
    let e = ap length (only_image (take (min 16 (length f)) f) g can) in
    inr (record { short = omega arith; none = λ gone. omega arith })
retire_file f g (suc (suc (suc zero))) can =
    let x = take (min 16 (length f)) f in
    let size = length-take (min 16 (length f)) f in
    let then = length-written 0 (0 ∷ []) x in
    inr (record { short = omega (arith, can.no_longer); none = λ gone. omega (arith, can.no_shorter) })
retire_file f g (suc (suc (suc (suc i)))) can =
    let x = take (min 16 (length f)) f in
    let size = length-take (min 16 (length f)) f in
    let P : List Step → Type 0 = λ rest. CanLeave (steps_on (record { bytes = f; pending = [] }) (Shrink (min 16 (length f)) ∷ Flush ∷ Put 0 (0 ∷ []) ∷ Flush ∷ rest)) g in
    let e = ap length (only_image (written 0 (0 ∷ []) x) g (subst P (take_none i) can)) in
    let then = length-written 0 (0 ∷ []) x in
    inr (record { short = omega arith; none = λ gone. omega arith })

pub found_file : (gate : ℕ) (body f g : List ℕ) (i : ℕ) → gate < length f → get_or f gate 0 ≢ 1
    → CanLeave (steps_on (record { bytes = f; pending = [] }) (take i (gate_steps gate body))) g → OpenOrShut gate body f g
found_file gate body f g zero place shut can =
    let e = only_image f g can in
    inl (record { no_longer = omega (arith, ap length e); within = omega (arith, ap length e); front = ap (take gate) e; shut = λ one. shut (sym (ap (λ x. get_or x gate 0) e) ∙ one) })
found_file gate body f g (suc zero) place shut can =
    let size = length-written (gate + 1) body f in
    inl (record {
      no_longer = omega (arith, can.no_longer);
      within = omega (arith, can.no_shorter);
      front = fronts gate g f (omega (arith, can.no_shorter)) (omega arith) (λ i low. can.stays i (omega arith) (inl (omega arith), tt));
      shut = λ one. shut (sym (can.stays gate (omega arith) (inl (omega arith), tt)) ∙ one);
    })
found_file gate body f g (suc (suc zero)) place shut can =
    let w = written (gate + 1) body f in
    let size = length-written (gate + 1) body f in
    let e = only_image w g can in
    inl (record {
      no_longer = omega (arith, ap length e);
      within = omega (arith, ap length e);
      front = ap (take gate) e ∙ fronts gate w f (omega arith) (omega arith) (λ i low. written-before (gate + 1) body f i (omega arith) (omega arith));
      shut = λ one. shut (sym (written-before (gate + 1) body f gate (omega arith) place) ∙ sym (ap (λ x. get_or x gate 0) e) ∙ one);
    })
found_file gate body f g (suc (suc (suc zero))) place shut can =
    let w = written (gate + 1) body f in
    let size = length-written (gate + 1) body f in
    let then = length-written gate (1 ∷ []) w in
    let long : length g ≡ length w = omega (arith, can.no_shorter, can.no_longer) in
    let low_stays : (i : ℕ) → i < gate → get_or g i 0 ≡ get_or w i 0 = λ i low. can.stays i (omega arith) (inl low, tt) in
    elim (eqb_tells (get_or g gate 0) 1) [
      | inl opens ↦ inr (ext_get_or 0 g (opened gate body f) (omega arith) (λ i low. each gate w g (omega arith) opens.1 low_stays (λ j high inside. can.stays j (omega arith) (inr (omega arith), tt)) i (omega arith)))
      | inr not_open ↦ inl (record {
        no_longer = omega arith;
        within = omega arith;
        front = fronts gate g w (omega arith) (omega arith) low_stays ∙ fronts gate w f (omega arith) (omega arith) (λ i low. written-before (gate + 1) body f i (omega arith) (omega arith));
        shut = not_open.1;
      })
    ]
  where
    each : (gate : ℕ) (w g : List ℕ) → gate < length w → get_or g gate 0 ≡ 1 → ((i : ℕ) → i < gate → get_or g i 0 ≡ get_or w i 0)
        → ((i : ℕ) → gate < i → i < length w → get_or g i 0 ≡ get_or w i 0)
        → (i : ℕ) → i < length w → get_or g i 0 ≡ get_or (written gate (1 ∷ []) w) i 0
    each gate w g place one below above i inside = elim (cases_lt i gate) [
      | inl low ↦ below i low ∙ sym (written-before gate (1 ∷ []) w i low inside)
      | inr high ↦ elim (cases_lt gate i) [
        | inl past ↦ above i past inside ∙ sym (written-behind gate (1 ∷ []) w i (omega arith) (omega arith))
        | inr here ↦
            let e : i ≡ gate = omega arith in
            let z : i - gate ≡ 0 = omega arith in
            ap (λ j. get_or g j 0) e ∙ one ∙ sym (written-inside gate (1 ∷ []) w i (omega arith) high (omega arith) ∙ ap (λ j. get_or (1 ∷ []) j 0) z)
      ]
    ]
found_file gate body f g (suc (suc (suc (suc i)))) place shut can =
    let P : List Step → Type 0 = λ rest. CanLeave (steps_on (record { bytes = f; pending = [] }) (Put (gate + 1) body ∷ Flush ∷ Put gate (1 ∷ []) ∷ Flush ∷ rest)) g in
    inr (only_image (opened gate body f) g (subst P (take_none i) can))
