-- What a record's body holds, and how it grows.
use Rattle.std.proofs.Common.{◌≡◌, ◌⊎◌, ℕ, ◌+◌, ◌-◌, ◌<◌, ◌^◌, min, inl, inr, List, [], ◌∷◌, ◌++◌, length, take, drop, get_or, suc, refl, ap, sym, ◌∙◌, append_assoc, arith, length-take, length-append, length-drop}
use borrow.Rule.Slice.PartMut.{put_mid}
use Rattle.std.proofs.Math.Seq.{drop-cons, get_or-append_seam}
use Rattle.std.proofs.lemmas.List.{append-nil, take_at, drop_at, take_all, drop_all, take-append-le, drop-append-le}
use Rattle.gate_log.specs.Records.{u32_bytes, behind_gate, inner, sealed}
use Rattle.gate_log.proofs.Spelling.{length-u32}

pub length-sealed : (r : List ℕ) → length (sealed r) ≡ 5 + length r
length-sealed r =
    omega (arith, length-append (u32_bytes (min (length r) (2 ^ 32 - 1))) (r ++ 0 ∷ []), length-u32 (min (length r) (2 ^ 32 - 1)), length-append r (0 ∷ []))

-- the parts of it
front_of : (r : List ℕ) → sealed r ≡ (u32_bytes (min (length r) (2 ^ 32 - 1)) ++ r) ++ 0 ∷ []
front_of r = sym (append_assoc (u32_bytes (min (length r) (2 ^ 32 - 1))) r (0 ∷ []))

length-front : (r : List ℕ) → length (u32_bytes (min (length r) (2 ^ 32 - 1)) ++ r) ≡ 4 + length r
length-front r = omega (arith, length-append (u32_bytes (min (length r) (2 ^ 32 - 1))) r, length-u32 (min (length r) (2 ^ 32 - 1)))

pub inner-sealed : (r : List ℕ) → inner (sealed r) ≡ r
inner-sealed r =
    let four = u32_bytes (min (length r) (2 ^ 32 - 1)) in
    let size : length (four ++ r) ≡ length (sealed r) - 1 = omega (arith, length-front r, length-sealed r) in
    ap (λ bytes. drop 4 (take (length (sealed r) - 1) bytes)) (front_of r)
    ∙ ap (drop 4) (take_at (four ++ r) (0 ∷ []) (length (sealed r) - 1) size)
    ∙ drop_at four r 4 (length-u32 (min (length r) (2 ^ 32 - 1)))

-- how much a body holds
pub sized : (items v : List ℕ) → (items ≡ []) ⊎ (items ≡ sealed (inner items)) → inner items ≡ v → length items ≡ 0 → v ≡ []
sized items v (inl none) view size = sym view ∙ ap inner none
sized items v (inr is) view size = absurd (omega (arith, ap length is, length-sealed (inner items), size))

pub room_is : (items v : List ℕ) → (items ≡ []) ⊎ (items ≡ sealed (inner items)) → inner items ≡ v → 0 < length items → length items ≡ 5 + length v
room_is items v (inl none) view some = absurd (omega (arith, ap length none, some))
room_is items v (inr is) view some = omega (arith, ap length is, length-sealed (inner items), ap length view)

pub behind_is : (items v : List ℕ) → (items ≡ []) ⊎ (items ≡ sealed (inner items)) → inner items ≡ v → 0 < length items → length v < 2 ^ 32 → items ≡ behind_gate v
behind_is items v (inl none) view some short = absurd (omega (arith, ap length none, some))
behind_is items v (inr is) view some short =
    let size : min (length v) (2 ^ 32 - 1) ≡ length v = omega arith in
    is ∙ ap sealed view ∙ ap (λ n. u32_bytes n ++ (v ++ 0 ∷ [])) size

-- what a rotation leaves behind the front of a record: the gate behind its new end
pub rotated_is : (was bytes items xs turned : List ℕ) (gate len k : ℕ) → items ≡ was ++ bytes → xs ≡ items → len ≡ length items → gate + 1 ≡ length was → get_or was gate 0 ≡ 0
    → k ≡ length xs - gate → turned ≡ drop 1 (take k (drop gate xs)) ++ take 1 (take k (drop gate xs))
    → take len (put_mid gate k xs turned ++ drop (length (put_mid gate k xs turned)) items) ≡ take gate was ++ (bytes ++ 0 ∷ [])
rotated_is was bytes items xs turned gate len k all same size place zero count turn =
    let xs_is : xs ≡ was ++ bytes = same ∙ all in
    let long : length xs ≡ length was + length bytes = ap length xs_is ∙ length-append was bytes in
    let tail : drop gate was ≡ 0 ∷ [] = drop-cons was gate 0 (omega arith) ∙ ap (λ n. n ∷ drop (suc gate) was) zero ∙ ap (λ l. 0 ∷ l) (drop_all (suc gate) was (omega arith)) in
    let mid : drop gate xs ≡ 0 ∷ bytes = ap (drop gate) xs_is ∙ drop-append-le gate was bytes (omega arith) ∙ ap (λ l. l ++ bytes) tail in
    let part : take k (drop gate xs) ≡ 0 ∷ bytes = take_all k (drop gate xs) (omega (arith, length-drop gate xs)) ∙ mid in
    let turned_is : turned ≡ bytes ++ 0 ∷ [] = turn ∙ ap (λ l. drop 1 l ++ take 1 l) part in
    let rest : drop k (drop gate xs) ≡ [] = drop_all k (drop gate xs) (omega (arith, length-drop gate xs)) in
    let front : take gate xs ≡ take gate was = ap (take gate) xs_is ∙ take-append-le gate was bytes (omega arith) in
    let whole : put_mid gate k xs turned ≡ take gate was ++ (bytes ++ 0 ∷ []) =
    ap (λ l. l ++ (turned ++ drop k (drop gate xs))) front
    ∙ ap (λ l. take gate was ++ (turned ++ l)) rest
    ∙ ap (λ l. take gate was ++ l) (append-nil turned ∙ turned_is) in
    take_at (put_mid gate k xs turned) (drop (length (put_mid gate k xs turned)) items) len
    (omega (arith, ap length whole, length-append (take gate was) (bytes ++ 0 ∷ []), length-append bytes (0 ∷ []), length-take gate was, ap length same, long))
    ∙ whole

-- the last byte of a body is the closed gate
pub gate-sealed : (r : List ℕ) (gate : ℕ) → gate + 1 ≡ length (sealed r) → get_or (sealed r) gate 0 ≡ 0
gate-sealed r gate place =
    let front = u32_bytes (min (length r) (2 ^ 32 - 1)) ++ r in
    let at : gate ≡ length front = omega (arith, length-front r, length-sealed r) in
    ap (λ l. get_or l gate 0) (front_of r) ∙ ap (λ n. get_or (front ++ 0 ∷ []) n 0) at ∙ get_or-append_seam front 0 [] 0

-- a body with more bytes before its gate, and its new length before them
pub grown_is : (r bytes was now new : List ℕ) (gate size : ℕ) → was ≡ sealed r → gate + 1 ≡ length was → now ≡ take gate was ++ (bytes ++ 0 ∷ [])
    → size ≡ min (length now - 5) (2 ^ 32 - 1) → new ≡ u32_bytes size ++ drop 4 now → new ≡ sealed (r ++ bytes)
grown_is r bytes was now new gate size from place is count put =
    let four = u32_bytes (min (length r) (2 ^ 32 - 1)) in
    let at : length (four ++ r) ≡ gate = omega (arith, length-front r, length-sealed r, ap length from) in
    let front : take gate was ≡ four ++ r = ap (take gate) (from ∙ front_of r) ∙ take_at (four ++ r) (0 ∷ []) gate at in
    let all : now ≡ four ++ ((r ++ bytes) ++ 0 ∷ []) =
    is ∙ ap (λ l. l ++ (bytes ++ 0 ∷ [])) front ∙ append_assoc four r (bytes ++ 0 ∷ []) ∙ ap (λ l. four ++ l) (sym (append_assoc r bytes (0 ∷ []))) in
    let long : length now ≡ 5 + length (r ++ bytes) =
    omega (arith, ap length all, length-append four ((r ++ bytes) ++ 0 ∷ []), length-u32 (min (length r) (2 ^ 32 - 1)), length-append (r ++ bytes) (0 ∷ [])) in
    let size_is : size ≡ min (length (r ++ bytes)) (2 ^ 32 - 1) = omega arith in
    put
    ∙ ap (λ n. u32_bytes n ++ drop 4 now) size_is
    ∙ ap (λ l. u32_bytes (min (length (r ++ bytes)) (2 ^ 32 - 1)) ++ l) (ap (drop 4) all ∙ drop_at four ((r ++ bytes) ++ 0 ∷ []) 4 (length-u32 (min (length r) (2 ^ 32 - 1))))

-- a record without bytes
pub sealed-none : sealed [] ≡ 0 ∷ 0 ∷ 0 ∷ 0 ∷ 0 ∷ []
unfolding u32_bytes
sealed-none = refl

pub behind-none : behind_gate [] ≡ 0 ∷ 0 ∷ 0 ∷ 0 ∷ 0 ∷ []
unfolding u32_bytes
behind-none = refl

-- a body that was begun holds the same
pub begun_is : (old new : List ℕ) → length old ≡ 0 → new ≡ old ++ 0 ∷ 0 ∷ 0 ∷ 0 ∷ 0 ∷ [] → new ≡ sealed (inner old)
begun_is [] new none is = is ∙ sym sealed-none
begun_is (b ∷ old) new none is = absurd (omega (arith, none))

pub full_is : (items : List ℕ) → (items ≡ []) ⊎ (items ≡ sealed (inner items)) → 0 < length items → items ≡ sealed (inner items)
full_is items (inl none) some = absurd (omega (arith, ap length none, some))
full_is items (inr is) some = is

pub sealed_again : (r items : List ℕ) → items ≡ sealed r → items ≡ sealed (inner items)
sealed_again r items is = is ∙ ap sealed (sym (ap inner is ∙ inner-sealed r))
