-- Which words ask for a schedule from numbers.
use Rattle.std.proofs.Common.{arith, Bool, true, false, nat_lt, ◌≡◌, ◌≤◌, ◌<◌, ℕ, List, [], ◌∷◌, length, get_or, map, Option, Some, None, refl, sym, ap, ◌∙◌, subst, codes, Ok, Err}
use Rattle.std.proofs.lemmas.Grind.{common_steps}
use Rattle.std.proofs.lemmas.Bool.{le-ltb}
use Rattle.std.proofs.lemmas.Slice.Eq.{bytes_eq-Decides}
use Rattle.std.specs.Prelude.{IfSome, IfNone, ◌^◌, Result, if◌then◌else◌}
use Rattle.std.specs.Fmt.{decimal}
use Rattle.std.specs.Str.{bytes_eq}
use Rattle.text_lines.specs.declared.fault.TextFault.{TextFault}
use Rattle.text_lines.specs.Reading.{number_of}
use Rattle.text_lines.proofs.Inverse.{number_of_decimal, decimal_of_number}
use Rattle.mrpaxos.specs.declared.draw.Draw.{Draw}
use Rattle.mrpaxos.specs.Drawing.{IsDraw, numbers_in, draw_in}
use Rattle.mrpaxos.specs.Top.{IsReplay}

-- ---- three words

pub three_items : {X Y : Type 0} (f : X → Y) (xs : List X) (x y z : X) → length xs ≡ 3 → x ≡ get_or xs 0 x → y ≡ get_or xs 1 y → z ≡ get_or xs 2 z → map f xs ≡ f x ∷ f y ∷ f z ∷ []
three_items f [] x y z three is second third = absurd (grind arith)
three_items f (a ∷ []) x y z three is second third = absurd (grind arith)
three_items f (a ∷ b ∷ []) x y z three is second third = absurd (grind arith)
three_items f (a ∷ b ∷ c ∷ []) x y z three is second third = let h : a ≡ x = sym is in let k : b ≡ y = sym second in let l : c ≡ z = sym third in cc
three_items f (a ∷ b ∷ c ∷ d ∷ rest) x y z three is second third = absurd (grind (arith, common_steps))

not_three : {X Y : Type 0} (f : X → Y) (xs : List X) (a b c : Y) → (length xs ≡ 3 → ⊥) → map f xs ≡ a ∷ b ∷ c ∷ [] → ⊥
not_three f [] a b c other h = absurd cc
not_three f (x ∷ []) a b c other h = absurd cc
not_three f (x ∷ y ∷ []) a b c other h = absurd cc
not_three f (x ∷ y ∷ z ∷ []) a b c other h = other refl
not_three f (x ∷ y ∷ z ∷ w ∷ rest) a b c other h = absurd cc

pub not_drawn : {X : Type 0} (f : X → List ℕ) (xs : List X) → (length xs ≡ 3 → ⊥) → (draw : Draw) → IsDraw draw (map f xs) → ⊥
not_drawn f xs other draw is = not_three f xs (codes "gen") (decimal draw.seed) (decimal draw.events) other is.spelled

pub not_both : (words : List (List ℕ)) (draw : Draw) → IsReplay words → IsDraw draw words → ⊥
not_both words draw is draws =
    let h : codes "replay" ∷ [] ≡ codes "gen" ∷ decimal draw.seed ∷ decimal draw.events ∷ [] = sym is ∙ draws.spelled in
    absurd cc

-- ---- their numbers

abbrev some_draw : ℕ → ℕ → Option Draw
some_draw seed events = Some (record { seed = seed; events = events })

-- what two numbers say of a draw
abbrev Says : List ℕ → List ℕ → ℕ → ℕ → Type 0
Says seed events n m = (seed ≡ decimal n) × (events ≡ decimal m) × (n < 2 ^ 64) × (m ≤ 1048576)

no_more : (m : ℕ) → nat_lt 1048576 m ≡ false → m ≤ 1048576
no_more m h = grind arith

abbrev seed_in : Option Draw → ℕ
seed_in None = 0
seed_in (Some draw) = draw.seed

abbrev events_in : Option Draw → ℕ
events_in None = 0
events_in (Some draw) = draw.events

seeds : (n m a b : ℕ) → some_draw n m ≡ some_draw a b → n ≡ a
seeds n m a b h = ap seed_in h

events_of : (n m a b : ℕ) → some_draw n m ≡ some_draw a b → m ≡ b
events_of n m a b h = ap events_in h

numbers_was : (seed events : List ℕ) (r s : Result ℕ TextFault) (a b : ℕ) → number_of seed ≡ r → number_of events ≡ s → numbers_in r s ≡ some_draw a b → Says seed events a b
numbers_was seed events (Ok n) (Ok m) a b first second h = by_limit (nat_lt 1048576 m) refl h
  where
    by_limit : (t : Bool) → nat_lt 1048576 m ≡ t → (if t then None else some_draw n m) ≡ some_draw a b → Says seed events a b
    by_limit true is k = absurd cc
    by_limit false is k =
        let p = decimal_of_number seed n first in
        let q = decimal_of_number events m second in
        subst (λ (x : ℕ). Says seed events x b) (seeds n m a b k) (subst (λ (y : ℕ). Says seed events n y) (events_of n m a b k) (p.0, q.0, p.1, no_more m is))
numbers_was seed events (Ok n) (Err e) a b first second h = absurd cc
numbers_was seed events (Err e) s a b first second h = absurd cc

numbers_as : (n m : ℕ) → m ≤ 1048576 → numbers_in (Ok n) (Ok m) ≡ some_draw n m
numbers_as n m few = ap (λ (t : Bool). if t then None else some_draw n m) (le-ltb 1048576 m few)

-- ---- what they ask for

draw_was : (word seed events : List ℕ) (a b : ℕ) → draw_in word seed events ≡ some_draw a b → (word ≡ codes "gen") × Says seed events a b
draw_was word seed events a b h = by_word (bytes_eq word (codes "gen")) refl h
  where
    by_word : (t : Bool) → bytes_eq word (codes "gen") ≡ t → (if t then numbers_in (number_of seed) (number_of events) else None) ≡ some_draw a b → (word ≡ codes "gen") × Says seed events a b
    by_word true is k = ((bytes_eq-Decides word (codes "gen")).0 is, numbers_was seed events (number_of seed) (number_of events) a b refl refl k)
    by_word false is k = absurd cc

draw_as : (word seed events : List ℕ) (n m : ℕ) → word ≡ codes "gen" → seed ≡ decimal n → events ≡ decimal m → n < 2 ^ 64 → m ≤ 1048576 → draw_in word seed events ≡ some_draw n m
draw_as word seed events n m is first second fits few =
    let small : m < 2 ^ 64 = omega arith in
    subst (λ (t : Bool). (if t then numbers_in (number_of seed) (number_of events) else None) ≡ some_draw n m) (sym ((bytes_eq-Decides word (codes "gen")).1 is))
    (subst (λ (r : Result ℕ TextFault). numbers_in r (number_of events) ≡ some_draw n m) (sym (ap number_of first ∙ number_of_decimal n fits))
    (subst (λ (s : Result ℕ TextFault). numbers_in (Ok n) s ≡ some_draw n m) (sym (ap number_of second ∙ number_of_decimal m small))
    (numbers_as n m few)))

heads : (word seed events : List ℕ) (a b c : List ℕ) → word ∷ seed ∷ events ∷ [] ≡ a ∷ b ∷ c ∷ [] → (word ≡ a) × (seed ≡ b) × (events ≡ c)
heads word seed events a b c h = ((cc), (cc), (cc))

no_draw : (word seed events : List ℕ) (draw : Draw) → draw_in word seed events ≡ None → IsDraw draw (word ∷ seed ∷ events ∷ []) → ⊥
no_draw word seed events draw none is =
    let h = heads word seed events (codes "gen") (decimal draw.seed) (decimal draw.events) is.spelled in
    let clash : None ≡ some_draw draw.seed draw.events = sym none ∙ draw_as word seed events draw.seed draw.events h.0 h.1 h.2 is.seed is.events in
    absurd cc

same_draw : (word seed events x y z : List ℕ) → x ≡ word → y ≡ seed → z ≡ events → draw_in x y z ≡ draw_in word seed events
same_draw word seed events x y z p q r = ap (λ (t : List ℕ). draw_in t y z) p ∙ ap (λ (t : List ℕ). draw_in word t z) q ∙ ap (λ (t : List ℕ). draw_in word seed t) r

is_found : (r : Option Draw) (word seed events : List ℕ) → r ≡ draw_in word seed events → IfSome r (λ draw. IsDraw draw (word ∷ seed ∷ events ∷ []))
is_found None word seed events reads = tt
is_found (Some draw) word seed events reads =
    let h = draw_was word seed events draw.seed draw.events (sym reads) in
    let said = h.1 in
    record { spelled = cc (h.0, said.0, said.1); seed = said.2; events = said.3 }

none_found : (r : Option Draw) (word seed events : List ℕ) → r ≡ draw_in word seed events → IfNone r ((draw : Draw) → IsDraw draw (word ∷ seed ∷ events ∷ []) → ⊥)
none_found None word seed events reads = λ draw says. no_draw word seed events draw (sym reads) says
none_found (Some draw) word seed events reads = tt

-- what is found of three words, each seen as its bytes
pub asked : (r : Option Draw) (words : List (List ℕ)) (word seed events x y z : List ℕ) → words ≡ word ∷ seed ∷ events ∷ [] →
    x ≡ word → y ≡ seed → z ≡ events → r ≡ draw_in x y z → IfSome r (λ draw. IsDraw draw words)
asked r words word seed events x y z is p q s reads =
    subst (λ (said : List (List ℕ)). IfSome r (λ draw. IsDraw draw said)) (sym is) (is_found r word seed events (reads ∙ same_draw word seed events x y z p q s))

pub not_asked : (r : Option Draw) (words : List (List ℕ)) (word seed events x y z : List ℕ) → words ≡ word ∷ seed ∷ events ∷ [] →
    x ≡ word → y ≡ seed → z ≡ events → r ≡ draw_in x y z → IfNone r ((draw : Draw) → IsDraw draw words → ⊥)
not_asked r words word seed events x y z is p q s reads =
    subst (λ (said : List (List ℕ)). IfNone r ((draw : Draw) → IsDraw draw said → ⊥)) (sym is) (none_found r word seed events (reads ∙ same_draw word seed events x y z p q s))
