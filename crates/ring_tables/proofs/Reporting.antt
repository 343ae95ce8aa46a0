-- A page of votes is reported.
use Rattle.std.proofs.Common.{◌≡◌, ◌⊎◌, inl, inr, ℕ, suc, ◌<◌, ◌≤◌, max, Bool, true, false, cond, ◌&&◌, List, [], ◌∷◌, Option, Some, None, refl, sym, ◌∙◌, ap, subst, arith, length}
use Rattle.std.specs.Prelude.{nat_eq, nat_lt, nat_le, if◌then◌else◌, slice_index, slice_set}
use Rattle.std.proofs.lemmas.Bool.{cases_lt, cases_eq}
use Rattle.std.proofs.lemmas.Bool.Decides.{nat_tests}
use Rattle.std.proofs.lemmas.List.{get_or-set_same, get_or-set_other}
use Rattle.mrp_types.specs.declared.value.Value.{Value}
use Rattle.mrp_types.specs.declared.voted.Voted.{Voted}
use Rattle.range_map.specs.Entries.{value_at, IsIncreasingFrom}
use Rattle.vote_state.specs.declared.cast.Cast.{Cast}
use Rattle.vote_state.specs.Ranges.{cast_of, cast_at, AreInOrderFrom}
use Rattle.vote_state.proofs.MaximalLemmas.{cast_within, cast_below, cast_above}
use Rattle.quorums.specs.Groups.{Has}
use Rattle.protocol.specs.Ballots.{higher, with_reports}
use Rattle.protocol.proofs.OfferLemmas.{met, is_met}
use Rattle.ring_safety.specs.Faces.{Promise, Face, Vote, rank}
use Rattle.ring_safety.specs.Deeds.{Serves}
use Rattle.ring_kept.specs.Kept.{told_of}
use Rattle.ring_kept.proofs.Pages.{cast_before}
use Rattle.ring_tables.specs.Ties.{IsReported, Reports}

-- ---- what reports become

-- a report once a vote is told
abbrev pub merged : Option Cast → Option Cast → Option Cast
merged old None = old
merged old (Some cast) = Some (higher old cast)

rank_old : (old new : Option Cast) → rank (told_of old) ≤ rank (told_of (merged old new))
rank_old old None = omega arith
rank_old None (Some cast) = omega arith
rank_old (Some held) (Some cast) = go (nat_lt held.ballot cast.ballot) refl
  where
    go : (b : Bool) → nat_lt held.ballot cast.ballot ≡ b → suc held.ballot ≤ rank (told_of (Some (if b then cast else held)))
    go true e = grind (arith, nat_tests)
    go false e = omega arith

rank_new : (old new : Option Cast) → rank (told_of new) ≤ rank (told_of (merged old new))
rank_new old None = omega arith
rank_new None (Some cast) = omega arith
rank_new (Some held) (Some cast) = go (nat_lt held.ballot cast.ballot) refl
  where
    go : (b : Bool) → nat_lt held.ballot cast.ballot ≡ b → suc cast.ballot ≤ rank (told_of (Some (if b then cast else held)))
    go true e = omega arith
    go false e = grind (arith, nat_tests)

-- the report is one of the two
merged_from : (old new : Option Cast) (cast : Cast) → merged old new ≡ Some cast → (old ≡ Some cast) ⊎ (new ≡ Some cast)
merged_from old None cast e = inl e
merged_from None (Some new) cast e = inr e
merged_from (Some held) (Some new) cast e = go (nat_lt held.ballot new.ballot) e
  where
    go : (b : Bool) → Some (if b then new else held) ≡ Some cast → (Some held ≡ Some cast) ⊎ (Some new ≡ Some cast)
    go true e = inr e
    go false e = inl e

module _ (from : ℕ) where
  pub reports_below : (votes : List Voted) (reports : List (ℕ × Cast)) (i : ℕ) → IsIncreasingFrom 0 reports → i < from → value_at i (with_reports from votes reports) ≡ value_at i reports
  reports_below [] reports i p below = refl
  reports_below (vote ∷ votes) reports i p below =
      reports_below votes (met from vote reports) i (is_met from vote reports p).in_order below ∙ (is_met from vote reports p).below i (omega arith)

  pub reports_at : (k : ℕ) (votes : List Voted) (reports : List (ℕ × Cast)) (i : ℕ) → AreInOrderFrom k votes → IsIncreasingFrom 0 reports → from ≤ i
      → value_at i (with_reports from votes reports) ≡ merged (value_at i reports) (cast_at i votes)
  reports_at k [] reports i order p x = refl
  reports_at k (vote ∷ votes) reports i order p x =
      let m = is_met from vote reports p in
      let more = reports_at vote.hi votes (met from vote reports) i order.2 m.in_order x in
      elim (cases_lt i vote.lo) [
        | inl below ↦
            more ∙ ap (λ o. merged o (cast_at i votes)) (m.below i (omega arith)) ∙ ap (λ c. merged (value_at i reports) c) (sym (cast_below vote votes i below))
        | inr at ↦ elim (cases_lt i vote.hi) [
          | inl to ↦
              more ∙ ap (λ c. merged (value_at i (met from vote reports)) c) (cast_before vote.hi votes i order.2 to) ∙ m.within i (omega arith) to
              ∙ ap (λ c. merged (value_at i reports) c) (sym (cast_within vote votes i at to))
          | inr past ↦
              more ∙ ap (λ o. merged o (cast_at i votes)) (m.above i past) ∙ ap (λ c. merged (value_at i reports) c) (sym (cast_above vote votes i past))
        ]
      ]

-- ---- a page that counts

-- the page by which a position is covered past an instance: the new one from where it was covered to, else the one before
record IsNew (covered : List ℕ) (k : ℕ) (hi : ℕ) (p page : Promise Value) (j i : ℕ) : Type 0 where
  same : j ≡ k
  from : slice_index covered k ≤ i
  to : i < hi
  is : page ≡ p

record IsOld (covered : List ℕ) (before page : Promise Value) (j i : ℕ) : Type 0 where
  to : i < slice_index covered j
  is : page ≡ before

module _ (n : ℕ) (now : ℕ → Face Value) (trim ballot : ℕ) (covered : List ℕ) (reports : List (ℕ × Cast)) (r : Reports n now trim ballot covered reports)
    (k hi : ℕ) (p : Promise Value) (votes : List Voted) (sorted : IsIncreasingFrom 0 reports)
    (seat : k < n) (sized : length covered ≡ n) (made : Has (now k).promises p) (of_ballot : p.ballot ≡ ballot) (low : p.low ≤ slice_index covered k) (high : p.high ≡ hi)
    (trimmed : p.trim ≤ trim) (told : (i : ℕ) → p.told i ≡ told_of (cast_at i votes)) (paged : (i : ℕ) → hi ≤ i → cast_at i votes ≡ None) (order : AreInOrderFrom 0 votes)
    (past : slice_index covered k < hi) where
  abbrev at : ℕ
  at = slice_index covered k

  abbrev next_page : ℕ → ℕ → Promise Value
  next_page j i = cond (nat_eq j k && nat_le at i) p (r.page j i)

  abbrev next_covered : List ℕ
  next_covered = slice_set covered k hi

  abbrev next_reports : List (ℕ × Cast)
  next_reports = with_reports at votes reports

  covered_there : slice_index next_covered k ≡ hi
  covered_there = get_or-set_same covered k hi 0 (omega arith)

  covered_other : (j : ℕ) → (j ≡ k → ⊥) → slice_index next_covered j ≡ slice_index covered j
  covered_other j ne = get_or-set_other covered k j hi 0 ne

  old_page : (j i : ℕ) → (j ≡ k → i < at) → next_page j i ≡ r.page j i
  old_page j i h = let e : (nat_eq j k && nat_le at i) ≡ false = grind (arith, nat_tests) in rw e refl

  new_page : (i : ℕ) → at ≤ i → next_page k i ≡ p
  new_page i from = let e : (nat_eq k k && nat_le at i) ≡ true = grind (arith, nat_tests) in rw e refl

  which : (j i : ℕ) → i < slice_index next_covered j → IsNew covered k hi p (next_page j i) j i ⊎ IsOld covered (r.page j i) (next_page j i) j i
  which j i to = elim (cases_eq j k) [
    | inr ne ↦ let same = covered_other j ne in inr (record { to = omega arith; is = old_page j i (λ e. absurd (ne e)) })
    | inl same ↦ elim (cases_lt i at) [
      | inl below ↦ inr (record { to = subst (λ x. i < slice_index covered x) (sym same) below; is = old_page j i (λ e. below) })
      | inr from ↦
          let there : slice_index next_covered j ≡ hi = ap (λ x. slice_index next_covered x) same ∙ covered_there in
          inl (record { same = same; from = from; to = omega arith; is = ap (λ x. next_page x i) same ∙ new_page i from })
    ]
  ]

  raised : (i : ℕ) → rank (told_of (value_at i reports)) ≤ rank (told_of (value_at i next_reports))
  raised i = elim (cases_lt i at) [
    | inl below ↦ let e = ap (λ (o : Option Cast). rank (told_of o)) (reports_below at votes reports i sorted below) in omega arith
    | inr from ↦
        let e = ap (λ (o : Option Cast). rank (told_of o)) (reports_at at 0 votes reports i order sorted from) in
        let more = rank_old (value_at i reports) (cast_at i votes) in
        omega arith
  ]

  -- who told a report before tells it still
  still : (i : ℕ) (cast : Cast) → IsReported n covered r.page i cast → IsReported n next_covered next_page i cast
  still i cast q =
      let before : i < slice_index covered q.member = q.past in
      let there : (q.member ≡ k → i < at) = λ e. subst (λ x. i < slice_index covered x) e q.past in
      record {
        member = q.member;
        below = q.below;
        past = elim (cases_eq q.member k) [
          | inl same ↦
              let end : slice_index next_covered q.member ≡ hi = ap (λ x. slice_index next_covered x) same ∙ covered_there in
              let under = there same in
              omega arith
          | inr ne ↦ let end = covered_other q.member ne in omega arith
        ];
        tells = ap (λ (x : Promise Value). x.told i) (old_page q.member i there) ∙ q.tells;
      }

  newly : (i : ℕ) (cast : Cast) → at ≤ i → cast_at i votes ≡ Some cast → IsReported n next_covered next_page i cast
  newly i cast from e = record {
    member = k;
    below = seat;
    past =
        let end = covered_there in
        elim (cases_lt i hi) [
          | inl to ↦ omega arith
          | inr over ↦ let none = paged i over in absurd (cc)
        ];
    tells = ap (λ (x : Promise Value). x.told i) (new_page i from) ∙ told i ∙ ap (λ (o : Option Cast). told_of o) e;
  }

  pub reported_page : Reports n now trim ballot next_covered next_reports
  reported_page = record {
    page = next_page;
    made = λ j i lt from to. elim (which j i to) [
      | inl new ↦ subst (λ x. Has (now j).promises x) (sym new.is) (subst (λ x. Has (now x).promises p) (sym new.same) made)
      | inr old ↦ subst (λ x. Has (now j).promises x) (sym old.is) (r.made j i lt from old.to)
    ];
    serves = λ j i lt from to. elim (which j i to) [
      | inl new ↦
          let after : at ≤ i = new.from in
          let under : i < hi = new.to in
          subst (λ x. Serves x ballot i) (sym new.is) (record { of_ballot = of_ballot; from_low = omega arith; to_high = omega arith; untrimmed = omega arith })
      | inr old ↦ subst (λ x. Serves x ballot i) (sym old.is) (r.serves j i lt from old.to)
    ];
    told = λ j i lt from to. elim (which j i to) [
      | inl new ↦
          let a = ap (λ (x : Promise Value). rank (x.told i)) new.is in
          let b = ap (λ (o : Option (Vote Value)). rank o) (told i) in
          let c = ap (λ (o : Option Cast). rank (told_of o)) (reports_at at 0 votes reports i order sorted new.from) in
          let d = rank_new (value_at i reports) (cast_at i votes) in
          omega arith
      | inr old ↦
          let a = ap (λ (x : Promise Value). rank (x.told i)) old.is in
          let b = r.told j i lt from old.to in
          let c = raised i in
          omega arith
    ];
    reported = λ i cast from e. elim (cases_lt i at) [
      | inl below ↦ still i cast (r.reported i cast from (sym (reports_below at votes reports i sorted below) ∙ e))
      | inr after ↦ elim (merged_from (value_at i reports) (cast_at i votes) cast (sym (reports_at at 0 votes reports i order sorted after) ∙ e)) [
        | inl old ↦ still i cast (r.reported i cast from old)
        | inr new ↦ newly i cast after new
      ]
    ];
  }
