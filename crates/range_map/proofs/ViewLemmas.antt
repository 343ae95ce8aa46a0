-- What the runs of a map, seen from its floor on, say of its entries.
use Rattle.std.proofs.Common.{◌≡◌, ℕ, suc, ◌^◌, ◌<◌, ◌≤◌, true, false, ◌&&◌, List, refl, sym, ◌∙◌, ap, subst, arith, inl, inr}
use Rattle.std.specs.Prelude.{◌⊎◌, Option, Some, None, IsSome, is_some, MatchOption, ⊤, nat_le, nat_lt, max, if◌then◌else◌}
use Rattle.std.proofs.lemmas.Bool.{cases_lt, cases_eq}
use Rattle.range_map.specs.declared.run.Run.{Run}
use Rattle.range_map.specs.Entries.{value_at, IsIncreasingFrom, entries_from, with_range, IsNextGap, IsNextHeld, IsNextRun, IsRunRound}
use Rattle.range_map.specs.Runs.{entries_of, held, run_from, IsPlacedFrom, IsApart, IsFirstWithin, IsCover, IsBare, IsMaximal, seen_at, Drops, Replaces}
use Rattle.range_map.proofs.RunsLemmas.{option_cases, apart_from_placed, Holder, Covered, Bare, holder, held_cover, held_bare}
use Rattle.range_map.proofs.SetLemmas.{le-true, le-false}
use Rattle.range_map.proofs.EntryLemmas.{same_entries, increasing_entries_of, increasing_entries_from, increasing_with_range, value_at-seen, value_at-entries_from, value_at-with_range}

module _ {T : Type 0} (floor : ℕ) (es : List (ℕ × Run T)) (v : List (ℕ × T)) (is : entries_from floor (entries_of es) ≡ v) where
  pub seen_is : (i : ℕ) → value_at i v ≡ seen_at floor i es
  seen_is i = ap (λ (x : List (ℕ × T)). value_at i x) (sym is) ∙ value_at-seen floor es i

  pub get_below : (i : ℕ) → i < floor → value_at i v ≡ None
  get_below i below = seen_is i ∙ rw (le-false floor i below) refl

  pub get_bare : (i : ℕ) → IsPlacedFrom 0 es → IsBare (run_from es) i → value_at i v ≡ None
  get_bare i placed bare =
      elim (cases_lt i floor) [
        | inl below ↦ get_below i below
        | inr from ↦ seen_is i ∙ rw (le-true floor i from) (held_bare 0 es i placed bare)
      ]

  pub get_held : (i : ℕ) → floor ≤ i → value_at i v ≡ held i es
  get_held i from = seen_is i ∙ rw (le-true floor i from) refl

  pub get_cover : (i lo : ℕ) (run : Run T) → IsPlacedFrom 0 es → floor ≤ i → IsCover (run_from es) i lo run → value_at i v ≡ Some run.value
  get_cover i lo run placed from c = get_held i from ∙ held_cover 0 es lo run i placed c.found c.begins c.ends

  pub ordered : IsPlacedFrom 0 es → IsIncreasingFrom 0 v
  ordered placed =
      subst (λ (x : List (ℕ × T)). IsIncreasingFrom 0 x) is (increasing_entries_from 0 floor 0 (entries_of es) (increasing_entries_of 0 es placed) (inl (omega arith)))

  -- ---- cuts

  pub cut_value : (i : ℕ) (fs : List (ℕ × Run T)) → floor < i → Drops i es fs → (j : ℕ) → value_at j (entries_from i (entries_of fs)) ≡ (if nat_le i j then value_at j v else None)
  cut_value i fs above drops j =
      value_at-seen i fs j ∙ elim (cases_lt j i) [
        | inl below ↦ rw (le-false i j below) refl
        | inr from ↦ rw (le-true i j from) (drops.same j from ∙ sym (get_held j (omega arith)))
      ]

  pub cut_ordered : (i : ℕ) (fs : List (ℕ × Run T)) → IsPlacedFrom 0 fs → IsIncreasingFrom 0 (entries_from i (entries_of fs))
  cut_ordered i fs placed = increasing_entries_from 0 i 0 (entries_of fs) (increasing_entries_of 0 fs placed) (inl (omega arith))

  pub cut_entries : (i : ℕ) (fs : List (ℕ × Run T)) → IsPlacedFrom 0 es → floor < i → Drops i es fs → entries_from i (entries_of fs) ≡ entries_from i v
  cut_entries i fs placed above drops =
      same_entries 0 (entries_from i (entries_of fs)) (entries_from i v) (cut_ordered i fs drops.maximal.placed) (increasing_entries_from 0 i 0 v (ordered placed) (inl (omega arith)))
      (λ j. cut_value i fs above drops j ∙ sym (value_at-entries_from i v j))

  pub cut_idle_value : (i : ℕ) → i ≤ floor → (j : ℕ) → value_at j v ≡ (if nat_le i j then value_at j v else None)
  cut_idle_value i up_to j =
      elim (cases_lt j i) [
        | inl below ↦ rw (le-false i j below) (get_below j (omega arith))
        | inr from ↦ rw (le-true i j from) refl
      ]

  pub cut_idle_entries : (i : ℕ) → IsPlacedFrom 0 es → i ≤ floor → v ≡ entries_from i v
  cut_idle_entries i placed up_to =
      same_entries 0 v (entries_from i v) (ordered placed) (increasing_entries_from 0 i 0 v (ordered placed) (inl (omega arith)))
      (λ j. cut_idle_value i up_to j ∙ sym (value_at-entries_from i v j))

  -- ---- ranges that are set

  pub set_value : (lo hi next : ℕ) (x : T) (fs : List (ℕ × Run T)) → Replaces floor lo hi x es next fs → (i : ℕ) → value_at i (entries_from next (entries_of fs)) ≡ (if nat_le lo i && nat_lt i hi then Some x else value_at i v)
  set_value lo hi next x fs replaces i =
      value_at-seen next fs i ∙ replaces.seen i ∙ ap (λ (o : Option T). if nat_le lo i && nat_lt i hi then Some x else o) (sym (seen_is i))

  pub set_entries : (lo hi next : ℕ) (x : T) (fs : List (ℕ × Run T)) → lo < hi → IsPlacedFrom 0 es → Replaces floor lo hi x es next fs → entries_from next (entries_of fs) ≡ with_range lo hi x v
  set_entries lo hi next x fs lt placed replaces =
      same_entries 0 (entries_from next (entries_of fs)) (with_range lo hi x v) (cut_ordered next fs replaces.maximal.placed) (increasing_with_range lo hi x v lt (ordered placed))
      (λ i. set_value lo hi next x fs replaces i ∙ sym (value_at-with_range lo hi x v i lt))

  -- ---- gaps

  pub gap_below : (from : ℕ) → from < floor → IsNextGap v from from
  gap_below from below = record { from_there = omega arith; not_held = get_below from below; held_before = λ i a b. absurd (omega arith) }

  pub held_run : (i lo : ℕ) (run : Run T) → IsPlacedFrom 0 es → IsCover (run_from es) i lo run → IsSome (held i es)
  held_run i lo run placed c = ap is_some (held_cover 0 es lo run i placed c.found c.begins c.ends)

  -- one more run that holds all up to its end
  pub gap_step : (from gap lo : ℕ) (run : Run T) → IsPlacedFrom 0 es → IsCover (run_from es) gap lo run → ((i : ℕ) → from ≤ i → i < gap → IsSome (held i es)) → (i : ℕ) → from ≤ i → i < run.end → IsSome (held i es)
  gap_step from gap lo run placed c before i a b =
      let begins = c.begins in
      elim (cases_lt i gap) [
        | inl below ↦ before i a below
        | inr past ↦ held_run i lo run placed (record { found = c.found; begins = omega arith; ends = b })
      ]

  pub gap_found : (from gap : ℕ) → IsPlacedFrom 0 es → floor ≤ from → from ≤ gap → ((i : ℕ) → from ≤ i → i < gap → IsSome (held i es)) → IsBare (run_from es) gap → IsNextGap v from gap
  gap_found from gap placed above up before bare = record {
    from_there = up;
    not_held = get_bare gap placed bare;
    held_before = λ i a b. ap is_some (get_held i (omega arith)) ∙ before i a b;
  }

  -- ---- the next held instance

  pub after_here : (from start lo : ℕ) (run : Run T) → start ≡ max from floor → IsPlacedFrom 0 es → IsCover (run_from es) start lo run → IsNextHeld v from start
  after_here from start lo run start_is placed c = record {
    from_there = omega arith;
    held = ap is_some (get_cover start lo run placed (omega arith) c);
    none_before = λ i a b. get_below i (omega arith);
  }

  pub after_end : (from start : ℕ) → start ≡ max from floor → IsPlacedFrom 0 es → 2 ^ 40 ≤ start → (i : ℕ) → from ≤ i → value_at i v ≡ None
  after_end from start start_is placed past i above =
      let apart = apart_from_placed 0 es placed in
      elim (cases_lt i floor) [
        | inl below ↦ get_below i below
        | inr from_floor ↦ get_bare i placed (λ a r f to. let end = apart.ended a r f in omega arith)
      ]

  pub after_none : (from start : ℕ) → start ≡ max from floor → IsPlacedFrom 0 es → IsBare (run_from es) start → ((a : ℕ) → start ≤ a → a < 2 ^ 40 → run_from es a ≡ None) → (i : ℕ) → from ≤ i → value_at i v ≡ None
  after_none from start start_is placed bare none i above =
      let apart = apart_from_placed 0 es placed in
      elim (cases_lt i floor) [
        | inl below ↦ get_below i below
        | inr from_floor ↦ get_bare i placed (λ a r f to. elim (cases_lt start a) [
          | inr before ↦ let end = bare a r f before in omega arith
          | inl after ↦
              let end = apart.ended a r f in
              let pos = apart.filled a r f in
              let nothing = none a (omega arith) (omega arith) in
              absurd (cc)
        ])
      ]

  pub after_first : (from start first : ℕ) → start ≡ max from floor → IsPlacedFrom 0 es → IsBare (run_from es) start → start ≤ first → IsSome (run_from es first) → ((a : ℕ) → start ≤ a → a < first → run_from es a ≡ None) → IsNextHeld v from first
  after_first from start first start_is placed bare from_start some none = record {
    from_there = omega arith;
    held = first_held (option_cases (run_from es first));
    none_before = λ i a b. elim (cases_lt i start) [
      | inl below ↦ get_below i (omega arith)
      | inr past ↦ get_bare i placed (λ k r f to. elim (cases_lt start k) [
        | inr before ↦ let end = bare k r f before in omega arith
        | inl after ↦ let nothing = none k (omega arith) (omega arith) in absurd (cc)
      ])
    ];
  }
    where
      first_held : (run_from es first ≡ None) ⊎ ((r : Run T) × (run_from es first ≡ Some r)) → IsSome (value_at first v)
      first_held (inl nothing) = let no : true ≡ false = sym some ∙ ap is_some nothing in absurd (cc)
      first_held (inr found) =
          let apart = apart_from_placed 0 es placed in
          let pos = apart.filled first found.0 found.1 in
          ap is_some (get_cover first first found.0 placed (omega arith) (record { found = found.1; begins = omega arith; ends = pos }))

  -- ---- the longest run

  pub run_round : (i lo : ℕ) (run : Run T) (begin : ℕ) → begin ≡ max lo floor → IsMaximal es → floor ≤ i → IsCover (run_from es) i lo run → IsRunRound v i begin run.end
  run_round i lo run begin begin_is maximal from c = record {
    begins = let b = c.begins in omega arith;
    ends = c.ends;
    equal = λ j a b. get_cover j lo run placed (omega arith) (record { found = c.found; begins = omega arith; ends = b }) ∙ sym here;
    longest_below = λ j next same. elim (cases_lt j floor) [
      | inl below ↦ let at = here in let none = get_below j below in cc
      | inr above ↦ before j (omega arith) (sym (get_held j above) ∙ same ∙ here) (holder 0 es j placed)
    ];
    longest_above = λ same. let ends = c.ends in after (sym (get_held run.end (omega arith)) ∙ same ∙ here) (holder 0 es run.end placed);
  }
    where
      placed : IsPlacedFrom 0 es
      placed = maximal.placed

      apart : IsApart (run_from es)
      apart = apart_from_placed 0 es maximal.placed

      here : value_at i v ≡ Some run.value
      here = get_cover i lo run maximal.placed from c

      value_of : (j b : ℕ) (s : Run T) → IsCover (run_from es) j b s → held j es ≡ Some run.value → s.value ≡ run.value
      value_of j b s cover held_is = let of = held_cover 0 es b s j maximal.placed cover.found cover.begins cover.ends in cc

      before : (j : ℕ) → lo ≡ suc j → held j es ≡ Some run.value → Holder (run_from es) j → ⊥
      before j next held_is (Bare bare) = let none = held_bare 0 es j maximal.placed bare in cc
      before j next held_is (Covered b s cover) =
          let begins = cover.begins in
          let ends = cover.ends in
          let end = apart.apart b lo s run cover.found c.found (omega arith) in
          let at : s.end ≡ lo = omega arith in
          maximal.joined b s run cover.found (subst (λ x. run_from es x ≡ Some run) (sym at) c.found) (λ z. omega arith) (λ z. omega arith) (value_of j b s cover held_is)

      after : held run.end es ≡ Some run.value → Holder (run_from es) run.end → ⊥
      after held_is (Bare bare) = let none = held_bare 0 es run.end maximal.placed bare in cc
      after held_is (Covered b s cover) =
          let begins = cover.begins in
          let ends = cover.ends in
          let c_begins = c.begins in
          let c_ends = c.ends in
          elim (cases_lt b lo) [
            | inl left ↦ let end = apart.apart b lo s run cover.found c.found left in omega arith
            | inr from_lo ↦ elim (cases_eq b lo) [
              | inl same ↦
                  let there : run_from es lo ≡ Some s = subst (λ x. run_from es x ≡ Some s) same cover.found in
                  let found = c.found in
                  let one : s ≡ run = cc in
                  let end : s.end ≡ run.end = ap (λ (x : Run T). x.end) one in
                  omega arith
              | inr ne ↦
                  let end = apart.apart lo b run s c.found cover.found (omega arith) in
                  let at : b ≡ run.end = omega arith in
                  maximal.joined lo run s c.found (subst (λ x. run_from es x ≡ Some s) at cover.found) (λ z. omega arith) (λ z. omega arith) (sym (value_of run.end b s cover held_is))
            ]
          ]

  -- ---- the first run from an instance on

  run_there : (from i lo : ℕ) (run : Run T) → IsMaximal es → floor ≤ i → IsCover (run_from es) i lo run → IsNextHeld v from i → IsNextRun v from i run.end run.value
  run_there from i lo run maximal above c next = record {
    begins = next;
    some = c.ends;
    equal = λ j a b. let begins = c.begins in get_cover j lo run maximal.placed (omega arith) (record { found = c.found; begins = omega arith; ends = b });
    longest = λ same. round.longest_above (same ∙ sym (get_cover i lo run maximal.placed above c));
  }
    where
      round : IsRunRound v i (max lo floor) run.end
      round = run_round i lo run (max lo floor) refl maximal above c

  pub run_here : (from start lo : ℕ) (run : Run T) → start ≡ max from floor → IsMaximal es → IsCover (run_from es) start lo run → IsNextRun v from start run.end run.value
  run_here from start lo run start_is maximal c = run_there from start lo run maximal (omega arith) c (after_here from start lo run start_is maximal.placed c)

  pub run_later : (from start first : ℕ) (run : Run T) → start ≡ max from floor → IsMaximal es → IsBare (run_from es) start → IsFirstWithin (run_from es) start (2 ^ 40) first run →
      IsNextRun v from first run.end run.value
  run_later from start first run start_is maximal bare is =
      let there = is.from_there in
      let apart = apart_from_placed 0 es maximal.placed in
      run_there from first first run maximal (omega arith) (record { found = is.found; begins = omega arith; ends = apart.filled first run is.found })
      (after_first from start first start_is maximal.placed bare there (ap is_some is.found) is.none_before)
