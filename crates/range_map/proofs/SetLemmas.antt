-- A range that is set, and what lies below a floor dropped.
use Rattle.std.proofs.Common.{◌≡◌, ℕ, ◌^◌, ◌<◌, ◌≤◌, true, false, ◌&&◌, List, [], ◌∷◌, refl, sym, ◌∙◌, ap, subst, arith, inl, inr}
use Rattle.std.specs.Prelude.{◌⊎◌, Option, Some, None, is_some, IfSome, IfNone, nat_le, nat_lt, if◌then◌else◌}
use Rattle.std.specs.Ordering.{nat_cmp}
use Rattle.std.specs.List.{slice_get}
use Rattle.std.specs.BTreeMap.{BTreeMap, IsOrdered, IsLowerBound, Updates}
use Rattle.std.proofs.lemmas.Bool.{cases_lt, cases_eq}
use Rattle.std.proofs.lemmas.Bool.Decides.{nat_tests}
use Rattle.std.proofs.lemmas.Map.Keys.{le_from_not_gt}
use Rattle.range_map.specs.declared.run.Run.{Run}
use Rattle.range_map.specs.Runs.{held, run_from, IsPlacedFrom, IsApart, IsJoinedBut, IsCutAt, IsCover, IsBare, IsMaximal, seen_at, Cuts, Joins, Clears, Sets, Settles, Drops, Replaces}
use Rattle.range_map.proofs.RunsLemmas.{within-true, within-below, within-above, apart_from_placed, from_there, run_from-later, Covered, Bare, holder, held_cover, held_bare}
use Rattle.range_map.proofs.EditLemmas.{key_here, key_beside, placed_again}

pub le-true : (a b : ℕ) → a ≤ b → nat_le a b ≡ true
le-true a b h = grind (arith, nat_tests)

pub le-false : (a b : ℕ) → b < a → nat_le a b ≡ false
le-false a b h = grind (arith, nat_tests)

module _ {T : Type 0} where
  pub joined_swap : (x y : ℕ) (g : ℕ → Option (Run T)) → IsJoinedBut x y g → IsJoinedBut y x g
  joined_swap x y g joined a r s fa fe not_y not_x = joined a r s fa fe not_x not_y

  -- fewer runs are still apart
  apart_fewer : (g h : ℕ → Option (Run T)) → ((a : ℕ) (r : Run T) → h a ≡ Some r → g a ≡ Some r) → IsApart g → IsApart h
  apart_fewer g h among apart = record {
    filled = λ a r f. apart.filled a r (among a r f);
    ended = λ a r f. apart.ended a r (among a r f);
    apart = λ a b r s f i. apart.apart a b r s (among a r f) (among b s i);
  }

  pub placed_removed : (m n : BTreeMap ℕ (Run T)) (k : ℕ) → Updates nat_cmp m n k None → IsOrdered nat_cmp n → IsPlacedFrom 0 m.entries → IsPlacedFrom 0 n.entries
  placed_removed m n k u ordered placed =
      placed_again n ordered (apart_fewer (run_from m.entries) (run_from n.entries) among (apart_from_placed 0 m.entries placed))
    where
      among : (a : ℕ) (r : Run T) → run_from n.entries a ≡ Some r → run_from m.entries a ≡ Some r
      among a r f =
          elim (cases_eq a k) [
            | inl same ↦
                let none = key_here m n k None u in
                let there : run_from n.entries k ≡ Some r = subst (λ x. run_from n.entries x ≡ Some r) same f in
                absurd (cc)
            | inr ne ↦ sym (key_beside m n k None u a ne) ∙ f
          ]

  -- ---- a range that is filled

  pub record IsFilled (g h : ℕ → Option (Run T)) (lo hi : ℕ) (run : Run T) : Type 0 where
    pub new : h lo ≡ Some run
    pub end : run.end ≡ hi
    pub before : (a : ℕ) → a < lo → h a ≡ g a
    pub within : (a : ℕ) → lo < a → a < hi → h a ≡ None
    pub after : (a : ℕ) → hi ≤ a → h a ≡ g a

  data FilledAt (g : ℕ → Option (Run T)) (lo hi : ℕ) (run : Run T) (q : ℕ) (s : Run T) : Type 0 where
    New : q ≡ lo → s ≡ run → FilledAt g lo hi run q s
    Below : q < lo → g q ≡ Some s → FilledAt g lo hi run q s
    Above : hi ≤ q → g q ≡ Some s → FilledAt g lo hi run q s

  filled_at : (g h : ℕ → Option (Run T)) (lo hi : ℕ) (run : Run T) → IsFilled g h lo hi run → (q : ℕ) (s : Run T) → h q ≡ Some s → FilledAt g lo hi run q s
  filled_at g h lo hi run c q s found =
      elim (cases_eq q lo) [
        | inl same ↦
            let new = c.new in
            let there : h lo ≡ Some s = subst (λ x. h x ≡ Some s) same found in
            New same (cc)
        | inr ne ↦ elim (cases_lt q lo) [
          | inl below ↦ Below below (sym (c.before q below) ∙ found)
          | inr above ↦ elim (cases_lt q hi) [
            | inl inside ↦ let none = c.within q (omega arith) inside in absurd (cc)
            | inr past ↦ Above past (sym (c.after q past) ∙ found)
          ]
        ]
      ]

  pub apart_filled : (g h : ℕ → Option (Run T)) (lo hi : ℕ) (run : Run T) → IsFilled g h lo hi run → lo < hi → hi ≤ 2 ^ 40 → IsCutAt lo g → IsApart g → IsApart h
  apart_filled g h lo hi run c lt top cut p = record { filled = filled; ended = ended; apart = apart }
    where
      end_of : (s : Run T) → s ≡ run → s.end ≡ hi
      end_of s is = ap (λ (x : Run T). x.end) is ∙ c.end

      filled : (a : ℕ) (r : Run T) → h a ≡ Some r → a < r.end
      filled a r f = elim (filled_at g h lo hi run c a r f) [ New s is ↦ let e = end_of r is in omega arith | Below b i ↦ p.filled a r i | Above b i ↦ p.filled a r i ]

      ended : (a : ℕ) (r : Run T) → h a ≡ Some r → r.end ≤ 2 ^ 40
      ended a r f = elim (filled_at g h lo hi run c a r f) [ New s is ↦ let e = end_of r is in omega arith | Below b i ↦ p.ended a r i | Above b i ↦ p.ended a r i ]

      apart : (a b : ℕ) (r s : Run T) → h a ≡ Some r → h b ≡ Some s → a < b → r.end ≤ b
      apart a b r s fa fb less =
          elim (filled_at g h lo hi run c a r fa) [
            | New sa is ↦ let e = end_of r is in elim (filled_at g h lo hi run c b s fb) [
              | New sb ib ↦ absurd (omega arith)
              | Below bb gb ↦ absurd (omega arith)
              | Above bb gb ↦ omega arith
            ]
            | Below ba ga ↦ elim (filled_at g h lo hi run c b s fb) [
              | New sb ib ↦ let before = cut a r ga ba in omega arith
              | Below bb gb ↦ p.apart a b r s ga gb less
              | Above bb gb ↦ p.apart a b r s ga gb less
            ]
            | Above ba ga ↦ elim (filled_at g h lo hi run c b s fb) [
              | New sb ib ↦ absurd (omega arith)
              | Below bb gb ↦ absurd (omega arith)
              | Above bb gb ↦ p.apart a b r s ga gb less
            ]
          ]

  joined_filled : (g h : ℕ → Option (Run T)) (lo hi : ℕ) (run : Run T) → IsFilled g h lo hi run → IsJoinedBut lo hi g → IsJoinedBut lo hi h
  joined_filled g h lo hi run c joined a r s fa fe not_lo not_hi same =
      elim (filled_at g h lo hi run c a r fa) [
        | New sa is ↦ not_hi (ap (λ (x : Run T). x.end) is ∙ c.end)
        | Below ba ga ↦ elim (filled_at g h lo hi run c r.end s fe) [
          | New sb ib ↦ not_lo sb
          | Below bb gb ↦ joined a r s ga gb not_lo not_hi same
          | Above bb gb ↦ joined a r s ga gb not_lo not_hi same
        ]
        | Above ba ga ↦ elim (filled_at g h lo hi run c r.end s fe) [
          | New sb ib ↦ not_lo sb
          | Below bb gb ↦ joined a r s ga gb not_lo not_hi same
          | Above bb gb ↦ joined a r s ga gb not_lo not_hi same
        ]
      ]

  held_outside : (es fs : List (ℕ × Run T)) (lo hi : ℕ) (run : Run T) (i : ℕ) → IsPlacedFrom 0 es → IsPlacedFrom 0 fs → IsFilled (run_from es) (run_from fs) lo hi run → IsCutAt hi (run_from es) → lo < hi → (i < lo) ⊎ (hi ≤ i) → held i fs ≡ held i es
  held_outside es fs lo hi run i p q c cut lt out =
      elim (holder 0 es i p) [
        | Covered a r cover ↦
            held_cover 0 fs a r i q (stays a r cover out) cover.begins cover.ends ∙ sym (held_cover 0 es a r i p cover.found cover.begins cover.ends)
        | Bare bare ↦ held_bare 0 fs i q (bare_still bare out) ∙ sym (held_bare 0 es i p bare)
      ]
    where
      stays : (a : ℕ) (r : Run T) → IsCover (run_from es) i a r → (i < lo) ⊎ (hi ≤ i) → run_from fs a ≡ Some r
      stays a r cover (inl below) = let begins = cover.begins in c.before a (omega arith) ∙ cover.found
      stays a r cover (inr above) =
          let ends = cover.ends in
          elim (cases_lt a hi) [
            | inl inside ↦ let end = cut a r cover.found inside in absurd (omega arith)
            | inr past ↦ c.after a past ∙ cover.found
          ]

      bare_still : IsBare (run_from es) i → (i < lo) ⊎ (hi ≤ i) → IsBare (run_from fs) i
      bare_still bare side a r f from =
          elim (filled_at (run_from es) (run_from fs) lo hi run c a r f) [
            | New s is ↦ let end = ap (λ (x : Run T). x.end) is ∙ c.end in elim side [ inl below ↦ absurd (omega arith) | inr above ↦ omega arith ]
            | Below b g ↦ bare a r g from
            | Above b g ↦ bare a r g from
          ]

  pub held_filled : (es fs : List (ℕ × Run T)) (lo hi : ℕ) (run : Run T) (i : ℕ) → IsPlacedFrom 0 es → IsPlacedFrom 0 fs → IsFilled (run_from es) (run_from fs) lo hi run → IsCutAt hi (run_from es) → lo < hi
      → held i fs ≡ (if nat_le lo i && nat_lt i hi then Some run.value else held i es)
  held_filled es fs lo hi run i p q c cut lt =
      elim (cases_lt i lo) [
        | inl below ↦ rw (within-below lo hi i below) (held_outside es fs lo hi run i p q c cut lt (inl below))
        | inr from ↦ elim (cases_lt i hi) [
          | inl inside ↦ let end = c.end in rw (within-true lo hi i from inside) (held_cover 0 fs lo run i q c.new from (omega arith))
          | inr above ↦ rw (within-above lo hi i above) (held_outside es fs lo hi run i p q c cut lt (inr above))
        ]
      ]

  pub filled_from : (es : List (ℕ × Run T)) (m n : BTreeMap ℕ (Run T)) (lo hi : ℕ) (run : Run T) → lo < hi → Clears lo hi es m.entries → Updates nat_cmp m n lo (Some run) → run.end ≡ hi → IsFilled (run_from es) (run_from n.entries) lo hi run
  filled_from es m n lo hi run lt clears u end = record {
    new = key_here m n lo (Some run) u;
    end = end;
    before = λ a below. key_beside m n lo (Some run) u a (λ is. omega arith) ∙ clears.before a below;
    within = λ a above inside. key_beside m n lo (Some run) u a (λ is. omega arith) ∙ clears.none_within a (omega arith) inside;
    after = λ a past. key_beside m n lo (Some run) u a (λ is. omega arith) ∙ clears.after a past;
  }

  -- the runs once the range was cut out and set
  pub placed_set : (es : List (ℕ × Run T)) (m n : BTreeMap ℕ (Run T)) (lo hi : ℕ) (run : Run T) → lo < hi → hi ≤ 2 ^ 40 → IsPlacedFrom 0 es → IsCutAt lo (run_from es) → Clears lo hi es m.entries → Updates nat_cmp m n lo (Some run) → run.end ≡ hi → IsOrdered nat_cmp n → IsPlacedFrom 0 n.entries
  placed_set es m n lo hi run lt top placed cut clears u end ordered =
      placed_again n ordered (apart_filled (run_from es) (run_from n.entries) lo hi run (filled_from es m n lo hi run lt clears u end) lt top cut (apart_from_placed 0 es placed))

  pub sets_whole : (es e1 e2 : List (ℕ × Run T)) (m n : BTreeMap ℕ (Run T)) (e5 e6 : List (ℕ × Run T)) (lo hi : ℕ) (run : Run T) → lo < hi → IsMaximal es → Cuts lo es e1 → Cuts hi e1 e2 → Clears lo hi e2 m.entries → Updates nat_cmp m n lo (Some run) → run.end ≡ hi → IsPlacedFrom 0 n.entries
      → Joins lo n.entries e5 → Joins hi e5 e6 → Sets lo hi run.value es e6
  sets_whole es e1 e2 m n e5 e6 lo hi run lt maximal c1 c2 clears u end placed j1 j2 =
      let filled = filled_from e2 m n lo hi run lt clears u end in
      let joined_cut = joined_swap hi lo (run_from e2) (c2.joined lo (joined_swap lo 0 (run_from e1) (c1.joined 0 maximal.joined))) in
      let joined_n = joined_filled (run_from e2) (run_from n.entries) lo hi run filled joined_cut in
      record {
        maximal = record {
          placed = j2.placed;
          joined = j2.joined 0 (joined_swap 0 hi (run_from e5) (j1.joined hi joined_n));
        };
        set = λ i. j2.same i ∙ j1.same i ∙ held_filled e2 n.entries lo hi run i c2.placed placed filled c2.cut lt
            ∙ ap (λ (x : Option T). if nat_le lo i && nat_lt i hi then Some run.value else x) (c2.same i ∙ c1.same i);
      }

  -- ---- a floor

  settled_held : (floor : ℕ) (es fs : List (ℕ × Run T)) (i : ℕ) → IsPlacedFrom 0 es → IsCutAt floor (run_from es) → Clears 0 floor es fs → held i fs ≡ seen_at floor i es
  settled_held floor es fs i placed cut clears =
      elim (cases_lt i floor) [
        | inl below ↦ rw (le-false floor i below) (held_bare 0 fs i (clears.placed placed) (λ a r f from. let none = clears.none_within a (omega arith) (omega arith) in absurd (cc)))
        | inr above ↦ rw (le-true floor i above) (elim (holder 0 es i placed) [
          | Covered a r c ↦ elim (cases_lt a floor) [
            | inl before ↦ let end = cut a r c.found before in let ends = c.ends in absurd (omega arith)
            | inr past ↦
                held_cover 0 fs a r i (clears.placed placed) (clears.after a past ∙ c.found) c.begins c.ends ∙ sym (held_cover 0 es a r i placed c.found c.begins c.ends)
          ]
          | Bare bare ↦
              held_bare 0 fs i (clears.placed placed) (λ a r f from. elim (cases_lt a floor) [
                | inl before ↦ let none = clears.none_within a (omega arith) before in absurd (cc)
                | inr past ↦ bare a r (sym (clears.after a past) ∙ f) from
              ])
              ∙ sym (held_bare 0 es i placed bare)
        ])
      ]

  pub settles_whole : (floor : ℕ) (es e1 e2 : List (ℕ × Run T)) → IsMaximal es → Cuts floor es e1 → Clears 0 floor e1 e2 → Settles floor es e2
  settles_whole floor es e1 e2 maximal cuts clears = record {
    maximal = record { placed = clears.placed cuts.placed; joined = joined };
    seen = λ i. settled_held floor e1 e2 i cuts.placed cuts.cut clears ∙ ap (λ (x : Option T). if nat_le floor i then x else None) (cuts.same i);
  }
    where
      joined : IsJoinedBut 0 0 (run_from e2)
      joined a r s fa fe not_zero not_zero' same =
          elim (cases_lt a floor) [
            | inl before ↦ let none = clears.none_within a (omega arith) before in cc
            | inr past ↦
                let first = sym (clears.after a past) ∙ fa in
                let longer = (apart_from_placed 0 e1 cuts.placed).filled a r first in
                let second = sym (clears.after r.end (omega arith)) ∙ fe in
                cuts.joined 0 maximal.joined a r s first second (λ is. omega arith) not_zero same
          ]

  -- ---- runs that are passed

  placed_weaker : (j k : ℕ) (es : List (ℕ × Run T)) → j ≤ k → IsPlacedFrom k es → IsPlacedFrom j es
  placed_weaker j k [] h p = tt
  placed_weaker j k (e ∷ es) h p = (omega arith, p.1, p.2, p.3)

  drops_head : (floor : ℕ) (start l n : List (ℕ × Run T)) (p : ℕ × Run T) → l ≡ p ∷ n → p.1.end ≤ floor → Drops floor start l → Drops floor start n
  drops_head floor start l n p is passed drops = record {
    maximal = record { placed = placed_weaker 0 p.1.end n (omega arith) placed.3; joined = joined };
    same = λ i from.
        let held_is : held i (p ∷ n) ≡ held i n = rw (within-above p.0 p.1.end i (omega arith)) refl in
        sym held_is ∙ subst (λ (x : List (ℕ × Run T)). held i x ≡ held i start) is (drops.same i from);
  }
    where
      placed : IsPlacedFrom 0 (p ∷ n)
      placed = subst (λ (x : List (ℕ × Run T)). IsPlacedFrom 0 x) is drops.maximal.placed

      was : IsJoinedBut 0 0 (run_from (p ∷ n))
      was = subst (λ (x : List (ℕ × Run T)). IsJoinedBut 0 0 (run_from x)) is drops.maximal.joined

      whole : (a : ℕ) (r : Run T) → run_from n a ≡ Some r → run_from (p ∷ n) a ≡ Some r
      whole a r f =
          let there = from_there p.1.end n a r placed.3 f in
          let pos = placed.1 in
          let ne : (a ≡ p.0 → ⊥) = omega arith in run_from-later p n a ne ∙ f

      joined : IsJoinedBut 0 0 (run_from n)
      joined a r s fa fe = was a r s (whole a r fa) (whole r.end s fe)

  pub drops_more : (floor : ℕ) (start l n : List (ℕ × Run T)) (o : Option (ℕ × Run T)) (k : ℕ) (run : Run T) → Drops floor start l → slice_get l 0 ≡ Some (k, run) → run.end ≤ floor → IfSome o (λ p. l ≡ p ∷ n) → IfNone o (n ≡ l) → Drops floor start n
  drops_more floor start l n None k run drops first passed some none = subst (λ (x : List (ℕ × Run T)). Drops floor start x) (sym none) drops
  drops_more floor start l n (Some p) k run drops first passed some none =
      let head : Some p ≡ Some (k, run) = subst (λ (x : List (ℕ × Run T)). slice_get x 0 ≡ Some (k, run)) some first in
      let same : p ≡ (k, run) = cc in
      let end : p.1.end ≡ run.end = ap (λ (x : ℕ × Run T). x.1.end) same in
      drops_head floor start l n p some (omega arith) drops

  -- where the first run passes the floor, each does
  pub freed_first : (floor : ℕ) (m : BTreeMap ℕ (Run T)) (k : ℕ) (run : Run T) → IsPlacedFrom 0 m.entries → run_from m.entries k ≡ Some run → IsLowerBound nat_cmp m k → floor < run.end → (a : ℕ) (r : Run T) → run_from m.entries a ≡ Some r → floor < r.end
  freed_first floor m k run placed first least past a r found =
      let apart = apart_from_placed 0 m.entries placed in
      let from : k ≤ a = le_from_not_gt k a (least a (ap is_some found)) in
      let longer = apart.filled a r found in
      elim (cases_eq a k) [
        | inl same ↦
            let there : run_from m.entries k ≡ Some r = subst (λ x. run_from m.entries x ≡ Some r) same found in
            let one : r ≡ run = cc in
            let end : r.end ≡ run.end = ap (λ (x : Run T). x.end) one in
            omega arith
        | inr ne ↦ let before = apart.apart k a run r first found (omega arith) in omega arith
      ]

  -- ---- a range that is set above a floor

  pub replaces_above : (floor lo hi : ℕ) (v : T) (old new : List (ℕ × Run T)) → floor ≤ lo → Sets lo hi v old new → Replaces floor lo hi v old floor new
  replaces_above floor lo hi v old new above sets = record {
    maximal = sets.maximal;
    seen = λ i. elim (cases_lt i floor) [
      | inl below ↦ rw (le-false floor i below, within-below lo hi i (omega arith)) refl
      | inr from ↦ rw (le-true floor i from) (sets.set i)
    ];
  }

  pub replaces_settled : (floor lo hi : ℕ) (v : T) (old mid new : List (ℕ × Run T)) → Settles floor old mid → Sets lo hi v mid new → Replaces floor lo hi v old 0 new
  replaces_settled floor lo hi v old mid new settles sets = record {
    maximal = sets.maximal;
    seen = λ i. rw (le-true 0 i (omega arith)) (sets.set i ∙ ap (λ (x : Option T). if nat_le lo i && nat_lt i hi then Some v else x) (settles.seen i));
  }
