-- The laws of readers that are made of readers.
use Rattle.std.proofs.Common.{◌≡◌, ℕ, zero, suc, Bool, true, false, List, [], ◌∷◌, ◌++◌, length, Result, Ok, refl, sym, ap, subst, ◌∙◌, append_assoc, append-nil, ◌==◌, if◌then◌else◌}
use Rattle.std.specs.List.{flat_map, AllByRecursion}
use Rattle.std.proofs.lemmas.List.{nil_from_length}
use Rattle.std.proofs.lemmas.List.Concat.{flat_map-cons}
use Rattle.std.proofs.lemmas.Bool.{eqb-true}
use Rattle.command_codec.specs.declared.fault.CodecFault.{CodecFault}
use Rattle.command_codec.specs.declared.fault.CodecFault.TheVariants.{Left}
use Rattle.mrp_types.specs.Reading.{◌>>=◌, follow, both, nothing, shown, chain, counted}
use Rattle.command_codec.specs.Reader.{Spot, Reader, ended, whole, start}
use Rattle.command_codec.proofs.ReaderLaws.{AreBytes, bound, ok_is, then_was, Took, took_both, Again, Field}

-- ---- one after the other

pub follow_was : (A B : Type 0) (first : Reader A) (second : A → Reader B) (a : A → List ℕ) (b : B → List ℕ) (IsA : A → Type 0) (IsB : A → B → Type 0) →
    Field A first a IsA → ((x : A) → Field B (second x) b (IsB x)) → (spot : Spot) (x : (A × B) × Spot) → AreBytes spot.rest → follow first second spot ≡ Ok x →
    Took spot (a x.0.0 ++ b x.0.1) x.1 × (IsA x.0.0 × IsB x.0.0 x.0.1)
follow_was A B first second a b IsA IsB law next spot x are h =
    let p = bound (first spot) (λ r. second r.0 r.1 >>= λ q. Ok ((r.0, q.0), q.1)) x h in
    let q = bound (second p.0.0 p.0.1) (λ r. Ok ((p.0.0, r.0), r.1)) x p.2 in
    let t = law.was spot p.0 are p.1 in
    let u = (next p.0.0).was p.0.1 q.0 t.0.bytes q.1 in
    subst (λ (y : (A × B) × Spot). Took spot (a y.0.0 ++ b y.0.1) y.1 × (IsA y.0.0 × IsB y.0.0 y.0.1)) (ok_is ((p.0.0, q.0.0), q.0.1) x q.2)
    (took_both spot (a p.0.0) p.0.1 (b q.0.0) q.0.1 t.0 u.0, (t.1, u.1))

pub follow_again : (A B : Type 0) (first : Reader A) (second : A → Reader B) (a : A → List ℕ) (b : B → List ℕ) (IsA : A → Type 0) (IsB : A → B → Type 0) →
    Field A first a IsA → ((x : A) → Field B (second x) b (IsB x)) → (value : A × B) (at : ℕ) (tail : List ℕ) → (IsA value.0 × IsB value.0 value.1) →
    Again (A × B) (follow first second) (λ v. a v.0 ++ b v.1) value at tail
follow_again A B first second a b IsA IsB law next value at tail is =
    let p = law.again value.0 at (b value.1 ++ tail) is.0 in
    let q = (next value.0).again value.1 p.0 tail is.1 in
    let text : (a value.0 ++ b value.1) ++ tail ≡ a value.0 ++ (b value.1 ++ tail) = append_assoc (a value.0) (b value.1) tail in
    (q.0, rw (text, p.1, q.1) refl)

pub follow_law : (A B : Type 0) (first : Reader A) (second : A → Reader B) (a : A → List ℕ) (b : B → List ℕ) (IsA : A → Type 0) (IsB : A → B → Type 0) →
    Field A first a IsA → ((x : A) → Field B (second x) b (IsB x)) →
    Field (A × B) (follow first second) (λ v. a v.0 ++ b v.1) (λ v. IsA v.0 × IsB v.0 v.1)
follow_law A B first second a b IsA IsB law next = record {
  was = follow_was A B first second a b IsA IsB law next;
  again = follow_again A B first second a b IsA IsB law next;
}

pub both_law : (A B : Type 0) (first : Reader A) (second : Reader B) (a : A → List ℕ) (b : B → List ℕ) (IsA : A → Type 0) (IsB : B → Type 0) →
    Field A first a IsA → Field B second b IsB → Field (A × B) (both first second) (λ v. a v.0 ++ b v.1) (λ v. IsA v.0 × IsB v.1)
both_law A B first second a b IsA IsB law next = follow_law A B first (λ _. second) a b IsA (λ _. IsB) law (λ _. next)

-- ---- what stands for what was read

pub shown_was : (A B : Type 0) (made : A → B) (read : Reader A) (spot : Spot) (x : B × Spot) → shown made read spot ≡ Ok x →
    (y : A × Spot) × (read spot ≡ Ok y) × ((made y.0, y.1) ≡ x)
shown_was A B made read spot x h =
    let p = bound (read spot) (λ r. Ok (made r.0, r.1)) x h in
    (p.0, p.1, ok_is (made p.0.0, p.0.1) x p.2)

-- The value made of what was read has its spelling and its validity by those of what was read.
pub shown_law : (A B : Type 0) (made : A → B) (back : B → A) (read : Reader A) (a : A → List ℕ) (b : B → List ℕ) (IsA : A → Type 0) (IsB : B → Type 0) →
    Field A read a IsA → ((x : A) → b (made x) ≡ a x) → ((x : A) → IsA x → IsB (made x)) → ((y : B) → made (back y) ≡ y) → ((y : B) → IsB y → IsA (back y)) →
    Field B (shown made read) b IsB
shown_law A B made back read a b IsA IsB law text is again is_back = record {
  was = λ spot x are h.
      let p = shown_was A B made read spot x h in
      let t = law.was spot p.0 are p.1 in
      subst (λ (y : B × Spot). Took spot (b y.0) y.1 × IsB y.0) p.2
      (subst (λ (s : List ℕ). Took spot s p.0.1) (sym (text p.0.0)) t.0, is p.0.0 t.1);
  again = λ value at tail valid.
      let r = law.again (back value) at tail (is_back value valid) in
      let same : b value ≡ a (back value) = ap b (sym (again value)) ∙ text (back value) in
      (r.0, rw (same, r.1, again value) refl);
}

-- ---- a kind before the fields

-- the fields after a kind give a value whose spelling begins with the kind
pub kind_was : (A B : Type 0) (made : A → B) (read : Reader A) (a : A → List ℕ) (b : B → List ℕ) (IsA : A → Type 0) (IsB : B → Type 0) →
    Field A read a IsA → (kind : ℕ) → ((x : A) → IsA x → b (made x) ≡ kind ∷ a x) → ((x : A) → IsA x → IsB (made x)) →
    (first : ℕ) → first ≡ kind → (at behind : ℕ) (rest : List ℕ) (x : B × Spot) → AreBytes rest → shown made read (record { at = behind; rest = rest }) ≡ Ok x →
    Took (record { at = at; rest = first ∷ rest }) (b x.0) x.1 × IsB x.0
kind_was A B made read a b IsA IsB law kind text is first same at behind rest x are h =
    let p = shown_was A B made read (record { at = behind; rest = rest }) x h in
    let t = law.was (record { at = behind; rest = rest }) p.0 are p.1 in
    let parts : first ∷ rest ≡ b (made p.0.0) ++ p.0.1.rest = rw (same, text p.0.0 t.1) (ap (λ (r : List ℕ). kind ∷ r) t.0.parts) in
    subst (λ (y : B × Spot). Took (record { at = at; rest = first ∷ rest }) (b y.0) y.1 × IsB y.0) p.2
    (record { parts = parts; bytes = t.0.bytes }, is p.0.0 t.1)

pub kind_again : (A B : Type 0) (made : A → B) (read : Reader A) (a : A → List ℕ) (IsA : A → Type 0) → Field A read a IsA → (x : A) (at : ℕ) (tail : List ℕ) → IsA x →
    (behind : ℕ) × (shown made read (record { at = at; rest = a x ++ tail }) ≡ Ok (made x, record { at = behind; rest = tail }))
kind_again A B made read a IsA law x at tail is =
    let r = law.again x at tail is in
    (r.0, rw r.1 refl)

-- a kind without fields
pub alone_was : (B : Type 0) (value : B) (b : B → List ℕ) (IsB : B → Type 0) (kind : ℕ) → b value ≡ kind ∷ [] → IsB value →
    (first : ℕ) → first ≡ kind → (at behind : ℕ) (rest : List ℕ) (x : B × Spot) → AreBytes rest → nothing {E = CodecFault} value (record { at = behind; rest = rest }) ≡ Ok x →
    Took (record { at = at; rest = first ∷ rest }) (b x.0) x.1 × IsB x.0
alone_was B value b IsB kind text is first same at behind rest x are h =
    let parts : first ∷ rest ≡ b value ++ rest = rw (same, text) refl in
    subst (λ (y : B × Spot). Took (record { at = at; rest = first ∷ rest }) (b y.0) y.1 × IsB y.0) (ok_is (value, record { at = behind; rest = rest }) x h)
    (record { parts = parts; bytes = are }, is)

-- one of two readers, by a test
pub chosen : (V : Type 0) (t : Bool) (p q : Result (V × Spot) CodecFault) (x : V × Spot) (P : Type 0) → (if t then p else q) ≡ Ok x → (t ≡ true → p ≡ Ok x → P) → (q ≡ Ok x → P) → P
chosen V true p q x P h then_is else_is = then_is refl h
chosen V false p q x P h then_is else_is = else_is h

-- ---- lists

-- each is valid by what the one before it left to ask
abbrev pub AllInChain : {S V : Type 0} → (S → V → Type 0) → (V → S) → S → List V → Type 0
AllInChain Is next asked [] = Unit {0}
AllInChain Is next asked (v ∷ vs) = Is asked v × AllInChain Is next (next v) vs

-- where nothing is left to ask, each is valid by itself
pub in_chain : {V : Type 0} (Is : V → Type 0) (vs : List V) → AllByRecursion Is vs → AllInChain {S = ℕ} (λ _. Is) (λ _. 0) 0 vs
in_chain Is [] each = tt
in_chain Is (v ∷ vs) each = (each.0, in_chain Is vs each.1)

pub of_chain : {V : Type 0} (Is : V → Type 0) (vs : List V) → AllInChain {S = ℕ} (λ _. Is) (λ _. 0) 0 vs → AllByRecursion Is vs
of_chain Is [] each = tt
of_chain Is (v ∷ vs) each = (each.0, of_chain Is vs each.1)

pub chain_was : (S V : Type 0) (read : S → Reader V) (next : V → S) (text : V → List ℕ) (Is : S → V → Type 0) → ((s : S) → Field V (read s) text (Is s)) →
    (count : ℕ) (asked : S) (spot : Spot) (x : List V × Spot) → AreBytes spot.rest → chain read next count asked spot ≡ Ok x →
    Took spot (flat_map text x.0) x.1 × ((length x.0 ≡ count) × AllInChain Is next asked x.0)
chain_was S V read next text Is law zero asked spot x are h =
    subst (λ (y : List V × Spot). Took spot (flat_map text y.0) y.1 × ((length y.0 ≡ 0) × AllInChain Is next asked y.0)) (ok_is ([], spot) x h)
    (record { parts = refl; bytes = are }, (refl, tt))
chain_was S V read next text Is law (suc count) asked spot x are h =
    let p = bound (read asked spot) (λ first. chain read next count (next first.0) first.1 >>= λ others. Ok (first.0 ∷ others.0, others.1)) x h in
    let q = bound (chain read next count (next p.0.0) p.0.1) (λ others. Ok (p.0.0 ∷ others.0, others.1)) x p.2 in
    let t = (law asked).was spot p.0 are p.1 in
    let u = chain_was S V read next text Is law count (next p.0.0) p.0.1 q.0 t.0.bytes q.1 in
    let all = took_both spot (text p.0.0) p.0.1 (flat_map text q.0.0) q.0.1 t.0 u.0 in
    subst (λ (y : List V × Spot). Took spot (flat_map text y.0) y.1 × ((length y.0 ≡ suc count) × AllInChain Is next asked y.0)) (ok_is (p.0.0 ∷ q.0.0, q.0.1) x q.2)
    (rw flat_map-cons all, (ap suc u.1.0, (t.1, u.1.1)))

pub chain_again : (S V : Type 0) (read : S → Reader V) (next : V → S) (text : V → List ℕ) (Is : S → V → Type 0) → ((s : S) → Field V (read s) text (Is s)) →
    (values : List V) (asked : S) (at : ℕ) (tail : List ℕ) → AllInChain Is next asked values → Again (List V) (chain read next (length values) asked) (flat_map text) values at tail
chain_again S V read next text Is law [] asked at tail each = (at, refl)
chain_again S V read next text Is law (v ∷ vs) asked at tail each =
    let p = (law asked).again v at (flat_map text vs ++ tail) each.0 in
    let q = chain_again S V read next text Is law vs (next v) p.0 tail each.1 in
    let parts : flat_map text (v ∷ vs) ++ tail ≡ text v ++ (flat_map text vs ++ tail) = ap (λ (x : List ℕ). x ++ tail) (flat_map-cons text v vs) ∙ append_assoc (text v) (flat_map text vs) tail in
    (q.0, ap (λ (r : List ℕ). chain read next (suc (length vs)) asked (record { at = at; rest = r })) parts ∙ rw (p.1, q.1) refl)

-- a count in its spelling, and as many texts
abbrev pub counted_text : {V : Type 0} → (ℕ → List ℕ) → (V → List ℕ) → List V → List ℕ
counted_text count text values = count (length values) ++ flat_map text values

pub counted_law : (S V : Type 0) (count : Reader ℕ) (number : ℕ → List ℕ) (IsCount : ℕ → Type 0) → Field ℕ count number IsCount →
    (read : S → Reader V) (next : V → S) (text : V → List ℕ) (Is : S → V → Type 0) → ((s : S) → Field V (read s) text (Is s)) → (asked : S) →
    Field (List V) (counted count read next asked) (counted_text number text) (λ vs. IsCount (length vs) × AllInChain Is next asked vs)
counted_law S V count number IsCount counts read next text Is law asked = record {
  was = λ spot x are h.
      let p = bound (count spot) (λ n. chain read next n.0 asked n.1) x h in
      let t = counts.was spot p.0 are p.1 in
      let u = chain_was S V read next text Is law p.0.0 asked p.0.1 x t.0.bytes p.2 in
      let both = took_both spot (number p.0.0) p.0.1 (flat_map text x.0) x.1 t.0 u.0 in
      (subst (λ (n : ℕ). Took spot (number n ++ flat_map text x.0) x.1) (sym u.1.0) both, (subst (λ (n : ℕ). IsCount n) (sym u.1.0) t.1, u.1.1));
  again = λ values at tail is.
      let p = counts.again (length values) at (flat_map text values ++ tail) is.0 in
      let q = chain_again S V read next text Is law values asked p.0 tail is.1 in
      let parts : counted_text number text values ++ tail ≡ number (length values) ++ (flat_map text values ++ tail) = append_assoc (number (length values)) (flat_map text values) tail in
      (q.0, rw (parts, p.1, q.1) refl);
}

-- ---- all of the bytes

pub whole_was : (V : Type 0) (read : Reader V) (text : V → List ℕ) (Is : V → Type 0) → Field V read text Is → (bytes : List ℕ) (value : V) → AreBytes bytes → whole read bytes ≡ Ok value →
    (bytes ≡ text value) × Is value
whole_was V read text Is law bytes value are h =
    let p = bound (read (start bytes)) (λ x. ended x.0 x.1) value h in
    let g = then_was (length p.0.1.rest == 0) (Left p.0.1.at) p.0.0 value p.2 in
    let t = law.was (start bytes) p.0 are p.1 in
    let none : p.0.1.rest ≡ [] = nil_from_length p.0.1.rest (eqb-true _ _ g.0) in
    let parts : bytes ≡ text p.0.0 = t.0.parts ∙ ap (λ (r : List ℕ). text p.0.0 ++ r) none ∙ append-nil (text p.0.0) in
    subst (λ (v : V). (bytes ≡ text v) × Is v) g.1 (parts, t.1)

pub whole_again : (V : Type 0) (read : Reader V) (text : V → List ℕ) (Is : V → Type 0) → Field V read text Is → (value : V) → Is value → whole read (text value) ≡ Ok value
whole_again V read text Is law value is =
    let r = law.again value 0 [] is in
    ap (whole read) (sym (append-nil (text value))) ∙ rw r.1 refl
