-- What the changes of a map's runs leave.
use Rattle.std.proofs.Common.{◌≡◌, ◌≢◌, ℕ, ◌-◌, ◌<◌, List, refl, sym, ◌∙◌, ap, subst, arith, inl, inr}
use Rattle.std.specs.Prelude.{Option, Some, None}
use Rattle.std.specs.Ordering.{nat_cmp}
use Rattle.std.specs.BTreeMap.{BTreeMap, IsOrdered, Updates}
use Rattle.std.proofs.lemmas.Bool.{cases_lt, cases_eq}
use Rattle.range_map.specs.declared.run.Run.{Run}
use Rattle.range_map.specs.Runs.{run_from, IsPlacedFrom, IsApart, IsCutAt, IsCover, IsBare, Cuts, Joins}
use Rattle.range_map.proofs.RunsLemmas.{is_at-other, apart_from_placed, placed_from_apart}
use Rattle.range_map.proofs.CutLemmas.{same_held, IsParted, holds_parted, holds_whole, apart_parted, apart_whole, joined_parted, joined_whole, cut_kept, cut_there}

module _ {T : Type 0} where
  -- ---- one key

  pub key_here : (m n : BTreeMap ℕ (Run T)) (k : ℕ) (w : Option (Run T)) → Updates nat_cmp m n k w → run_from n.entries k ≡ w
  key_here m n k w u = u.1

  pub key_beside : (m n : BTreeMap ℕ (Run T)) (k : ℕ) (w : Option (Run T)) → Updates nat_cmp m n k w → (q : ℕ) → q ≢ k → run_from n.entries q ≡ run_from m.entries q
  key_beside m n k w u q ne = u.2 q (is_at-other k q (λ same. ne (sym same)))

  pub placed_again : (m : BTreeMap ℕ (Run T)) → IsOrdered nat_cmp m → IsApart (run_from m.entries) → IsPlacedFrom 0 m.entries
  placed_again m ordered apart = placed_from_apart 0 m.entries ordered apart (λ a r h. omega arith)

  -- ---- cuts

  pub cuts_idle : (es : List (ℕ × Run T)) (at : ℕ) → IsPlacedFrom 0 es → IsCutAt at (run_from es) → Cuts at es es
  cuts_idle es at placed cut =
      let apart = apart_from_placed 0 es placed in
      record {
        placed = placed;
        same = λ i. refl;
        cut = cut;
        kept = λ x h. h;
        joined = λ y joined a r s fa fe not_at not_y. let pos = apart.filled a r fa in joined a r s fa fe (λ is. omega arith) not_y;
      }

  pub cuts_bare : (es : List (ℕ × Run T)) (at : ℕ) → IsPlacedFrom 0 es → IsBare (run_from es) at → Cuts at es es
  cuts_bare es at placed bare = cuts_idle es at placed (λ a r found lt. bare a r found (omega arith))

  pub cuts_begun : (es : List (ℕ × Run T)) (at lo : ℕ) (run : Run T) → IsPlacedFrom 0 es → IsCover (run_from es) at lo run → lo ≡ at → Cuts at es es
  cuts_begun es at lo run placed cover same =
      let apart = apart_from_placed 0 es placed in
      cuts_idle es at placed (λ a r found lt. let before = apart.apart a lo r run found cover.found (omega arith) in omega arith)

  pub cuts_parted : (l m n : BTreeMap ℕ (Run T)) (at lo : ℕ) (run first second : Run T) → IsPlacedFrom 0 l.entries → IsCover (run_from l.entries) at lo run → lo ≢ at → Updates nat_cmp l m lo (Some first) → Updates nat_cmp m n at (Some second) → IsOrdered nat_cmp n
      → first.end ≡ at → first.value ≡ run.value → second.end ≡ run.end → second.value ≡ run.value → Cuts at l.entries n.entries
  cuts_parted l m n at lo run first second placed cover ne to_m to_n ordered first_end first_value second_end second_value =
      record {
        placed = placed_n;
        same = λ i. same_held l.entries n.entries i placed placed_n (holds_parted g h lo at run first second parted i) (holds_whole g h lo at run first second parted i);
        cut = cut_there g h lo at run first second parted apart;
        kept = cut_kept g h lo at run first second parted;
        joined = joined_parted g h lo at run first second parted apart;
      }
    where
      g : ℕ → Option (Run T)
      g = run_from l.entries

      h : ℕ → Option (Run T)
      h = run_from n.entries

      apart : IsApart (run_from l.entries)
      apart = apart_from_placed 0 l.entries placed

      no_run : (o : Option (Run T)) → run_from l.entries at ≡ o → o ≡ None
      no_run None is = refl
      no_run (Some s) is = let begins = cover.begins in let ends = cover.ends in let far = apart.apart lo at run s cover.found is (omega arith) in absurd (omega arith)

      parted : IsParted (run_from l.entries) (run_from n.entries) lo at run first second
      parted =
          let begins = cover.begins in
          record {
            whole = cover.found;
            after = omega arith;
            within = cover.ends;
            none = no_run (run_from l.entries at) refl;
            head = key_beside m n at (Some second) to_n lo ne ∙ key_here l m lo (Some first) to_m;
            head_end = first_end;
            head_value = first_value;
            tail = key_here m n at (Some second) to_n;
            tail_end = second_end;
            tail_value = second_value;
            others = λ q not_lo not_at. key_beside m n at (Some second) to_n q not_at ∙ key_beside l m lo (Some first) to_m q not_lo;
          }

      placed_n : IsPlacedFrom 0 n.entries
      placed_n = placed_again n ordered (apart_parted (run_from l.entries) (run_from n.entries) lo at run first second parted apart)

  -- ---- joins

  pub joins_idle : (es : List (ℕ × Run T)) (at : ℕ) → IsPlacedFrom 0 es → ((a : ℕ) (r s : Run T) → run_from es a ≡ Some r → run_from es at ≡ Some s → r.end ≡ at → r.value ≢ s.value) → Joins at es es
  joins_idle es at placed differ = record {
    placed = placed;
    same = λ i. refl;
    joined = λ y joined a r s fa fe not_zero not_y same.
        elim (cases_eq r.end at) [
          | inl is ↦ differ a r s fa (subst (λ x. run_from es x ≡ Some s) is fe) is same
          | inr ne ↦ joined a r s fa fe ne not_y same
        ];
  }

  pub joins_first : (es : List (ℕ × Run T)) (at : ℕ) → IsPlacedFrom 0 es → at ≡ 0 → Joins at es es
  joins_first es at placed first =
      let apart = apart_from_placed 0 es placed in
      joins_idle es at placed (λ a r s fa fe is same. let pos = apart.filled a r fa in omega arith)

  pub joins_bare : (es : List (ℕ × Run T)) (at : ℕ) → IsPlacedFrom 0 es → at ≢ 0 → IsBare (run_from es) (at - 1) → Joins at es es
  joins_bare es at placed pos bare =
      let apart = apart_from_placed 0 es placed in
      joins_idle es at placed (λ a r s fa fe is same. let from = apart.filled a r fa in let end = bare a r fa (omega arith) in omega arith)

  pub joins_none : (es : List (ℕ × Run T)) (at : ℕ) → IsPlacedFrom 0 es → run_from es at ≡ None → Joins at es es
  joins_none es at placed none = joins_idle es at placed (λ a r s fa fe is same. cc)

  -- the only run that ends where another begins is the one that holds the instance before
  left_is : (es : List (ℕ × Run T)) (at lo : ℕ) (left : Run T) → IsPlacedFrom 0 es → IsCover (run_from es) (at - 1) lo left → (a : ℕ) (r : Run T) → run_from es a ≡ Some r → r.end ≡ at → r ≡ left
  left_is es at lo left placed cover a r found end =
      let apart = apart_from_placed 0 es placed in
      let pos = apart.filled a r found in
      let begins = cover.begins in
      let ends = cover.ends in
      elim (cases_eq a lo) [
        | inl same ↦ let there : run_from es lo ≡ Some r = subst (λ x. run_from es x ≡ Some r) same found in let left_there = cover.found in cc
        | inr ne ↦ elim (cases_lt a lo) [
          | inl below ↦ let before = apart.apart a lo r left found cover.found below in absurd (omega arith)
          | inr above ↦ let before = apart.apart lo a left r cover.found found (omega arith) in absurd (omega arith)
        ]
      ]

  pub joins_differ : (es : List (ℕ × Run T)) (at lo : ℕ) (left right : Run T) → IsPlacedFrom 0 es → IsCover (run_from es) (at - 1) lo left → run_from es at ≡ Some right → left.value ≢ right.value → Joins at es es
  joins_differ es at lo left right placed cover found differ =
      joins_idle es at placed (λ a r s fa fe is same.
      let is_left = left_is es at lo left placed cover a r fa is in
      let is_right : s ≡ right = cc in
      differ (ap (λ (x : Run T). x.value) (sym is_left) ∙ same ∙ ap (λ (x : Run T). x.value) is_right))

  pub joins_whole : (l m n : BTreeMap ℕ (Run T)) (at lo : ℕ) (left right whole : Run T) → IsPlacedFrom 0 l.entries → at ≢ 0 → IsCover (run_from l.entries) (at - 1) lo left → run_from l.entries at ≡ Some right → left.value ≡ right.value
      → Updates nat_cmp l m at None → Updates nat_cmp m n lo (Some whole) → IsOrdered nat_cmp n → whole.end ≡ right.end → whole.value ≡ left.value → Joins at l.entries n.entries
  joins_whole l m n at lo left right whole placed pos cover found same to_m to_n ordered whole_end whole_value =
      record {
        placed = placed_n;
        same = λ i. same_held l.entries n.entries i placed placed_n (holds_whole g h lo at whole left right parted i) (holds_parted g h lo at whole left right parted i);
        joined = joined_whole g h lo at whole left right parted;
      }
    where
      g : ℕ → Option (Run T)
      g = run_from n.entries

      h : ℕ → Option (Run T)
      h = run_from l.entries

      apart : IsApart (run_from l.entries)
      apart = apart_from_placed 0 l.entries placed

      below : lo < at
      below = let begins = cover.begins in omega arith

      apart_keys : at ≢ lo
      apart_keys = let lt = below in λ is. omega arith

      parted : IsParted (run_from n.entries) (run_from l.entries) lo at whole left right
      parted =
          let ends = cover.ends in
          let touching = apart.apart lo at left right cover.found found below in
          let within = apart.filled at right found in
          record {
            whole = key_here m n lo (Some whole) to_n;
            after = below;
            within = omega arith;
            none = key_beside m n lo (Some whole) to_n at apart_keys ∙ key_here l m at None to_m;
            head = cover.found;
            head_end = omega arith;
            head_value = sym whole_value;
            tail = found;
            tail_end = sym whole_end;
            tail_value = sym same ∙ sym whole_value;
            others = λ q not_lo not_at. sym (key_beside m n lo (Some whole) to_n q not_lo ∙ key_beside l m at None to_m q not_at);
          }

      placed_n : IsPlacedFrom 0 n.entries
      placed_n = placed_again n ordered (apart_whole (run_from n.entries) (run_from l.entries) lo at whole left right parted apart)
