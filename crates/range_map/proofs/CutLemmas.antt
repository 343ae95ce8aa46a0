-- A run parted in two, and two that touch made one.
use Rattle.std.proofs.Common.{◌≡◌, ◌≢◌, ℕ, ◌^◌, ◌<◌, ◌≤◌, List, refl, sym, ◌∙◌, ap, subst, arith, inl, inr}
use Rattle.std.specs.Prelude.{Option, Some, None}
use Rattle.std.proofs.lemmas.Bool.{cases_lt, cases_eq}
use Rattle.range_map.specs.declared.run.Run.{Run}
use Rattle.range_map.specs.Runs.{held, run_from, IsPlacedFrom, IsApart, IsJoinedBut, IsCutAt, IsCover, IsBare}
use Rattle.range_map.proofs.RunsLemmas.{Covered, Bare, holder, held_cover, held_bare}

module _ {T : Type 0} where
  -- i holds v, by some run
  pub record Holds (g : ℕ → Option (Run T)) (i : ℕ) (v : T) : Type 0 where
    pub begin : ℕ
    pub run : Run T
    pub cover : IsCover g i begin run
    pub value : run.value ≡ v

  pub held_holds : (es : List (ℕ × Run T)) (i : ℕ) (v : T) → IsPlacedFrom 0 es → Holds (run_from es) i v → held i es ≡ Some v
  held_holds es i v p h =
      held_cover 0 es h.begin h.run i p h.cover.found h.cover.begins h.cover.ends ∙ ap (λ (x : T). Some x) h.value

  -- where nothing holds, no run covers
  pub bare_from_none : (g : ℕ → Option (Run T)) (i : ℕ) → ((v : T) → Holds g i v → ⊥) → IsBare g i
  bare_from_none g i none a r found from =
      elim (cases_lt i r.end) [
        | inr past ↦ past
        | inl within ↦ absurd (none r.value (record { begin = a; run = r; cover = record { found = found; begins = from; ends = within }; value = refl }))
      ]

  pub none_from_bare : (g : ℕ → Option (Run T)) (i : ℕ) → IsBare g i → (v : T) → Holds g i v → ⊥
  none_from_bare g i bare v h =
      let end = bare h.begin h.run h.cover.found h.cover.begins in let within = h.cover.ends in omega arith

  pub same_held : (es fs : List (ℕ × Run T)) (i : ℕ) → IsPlacedFrom 0 es → IsPlacedFrom 0 fs → ((v : T) → Holds (run_from es) i v → Holds (run_from fs) i v) → ((v : T) → Holds (run_from fs) i v → Holds (run_from es) i v) → held i fs ≡ held i es
  same_held es fs i p q to back =
      elim (holder 0 es i p) [
        | Covered a r c ↦
            held_holds fs i r.value q (to r.value (record { begin = a; run = r; cover = c; value = refl }))
            ∙ sym (held_cover 0 es a r i p c.found c.begins c.ends)
        | Bare bare ↦
            held_bare 0 fs i q (bare_from_none (run_from fs) i (λ v h. none_from_bare (run_from es) i bare v (back v h)))
            ∙ sym (held_bare 0 es i p bare)
      ]

  -- h is g with the run from lo parted at `at`
  pub record IsParted (g h : ℕ → Option (Run T)) (lo at : ℕ) (run first second : Run T) : Type 0 where
    pub whole : g lo ≡ Some run
    pub after : lo < at
    pub within : at < run.end
    pub none : g at ≡ None
    pub head : h lo ≡ Some first
    pub head_end : first.end ≡ at
    pub head_value : first.value ≡ run.value
    pub tail : h at ≡ Some second
    pub tail_end : second.end ≡ run.end
    pub tail_value : second.value ≡ run.value
    pub others : (q : ℕ) → q ≢ lo → q ≢ at → h q ≡ g q

  pub data PartedAt (g : ℕ → Option (Run T)) (lo at : ℕ) (run : Run T) (q : ℕ) (s : Run T) : Type 0 where
    Head : q ≡ lo → s.end ≡ at → s.value ≡ run.value → PartedAt g lo at run q s
    Tail : q ≡ at → s.end ≡ run.end → s.value ≡ run.value → PartedAt g lo at run q s
    Other : q ≢ lo → q ≢ at → g q ≡ Some s → PartedAt g lo at run q s

  pub data WholeAt (h : ℕ → Option (Run T)) (lo at : ℕ) (run : Run T) (q : ℕ) (r : Run T) : Type 0 where
    Whole : q ≡ lo → r.end ≡ run.end → r.value ≡ run.value → WholeAt h lo at run q r
    Beside : q ≢ lo → q ≢ at → h q ≡ Some r → WholeAt h lo at run q r

  same_run : (g : ℕ → Option (Run T)) (p q : ℕ) (r s : Run T) → q ≡ p → g p ≡ Some r → g q ≡ Some s → s ≡ r
  same_run g p q r s same gp gq = let at : g p ≡ Some s = subst (λ x. g x ≡ Some s) same gq in cc

  pub parted_at : (g h : ℕ → Option (Run T)) (lo at : ℕ) (run first second : Run T) → IsParted g h lo at run first second → (q : ℕ) (s : Run T) → h q ≡ Some s → PartedAt g lo at run q s
  parted_at g h lo at run first second c q s found =
      elim (cases_eq q lo) [
        | inl same ↦
            let is = same_run h lo q first s same c.head found in
            Head same (ap (λ (x : Run T). x.end) is ∙ c.head_end) (ap (λ (x : Run T). x.value) is ∙ c.head_value)
        | inr apart ↦ elim (cases_eq q at) [
          | inl same ↦
              let is = same_run h at q second s same c.tail found in
              Tail same (ap (λ (x : Run T). x.end) is ∙ c.tail_end) (ap (λ (x : Run T). x.value) is ∙ c.tail_value)
          | inr other ↦ Other apart other (sym (c.others q apart other) ∙ found)
        ]
      ]

  pub whole_at : (g h : ℕ → Option (Run T)) (lo at : ℕ) (run first second : Run T) → IsParted g h lo at run first second → (q : ℕ) (r : Run T) → g q ≡ Some r → WholeAt h lo at run q r
  whole_at g h lo at run first second c q r found =
      elim (cases_eq q lo) [
        | inl same ↦
            let is = same_run g lo q run r same c.whole found in
            Whole same (ap (λ (x : Run T). x.end) is) (ap (λ (x : Run T). x.value) is)
        | inr apart ↦ elim (cases_eq q at) [
          | inl same ↦ let none = c.none in let there : g at ≡ Some r = subst (λ x. g x ≡ Some r) same found in absurd (cc)
          | inr other ↦ Beside apart other (c.others q apart other ∙ found)
        ]
      ]

  module _ (g h : ℕ → Option (Run T)) (lo at : ℕ) (run first second : Run T) (c : IsParted g h lo at run first second) where
    pub holds_parted : (i : ℕ) (v : T) → Holds g i v → Holds h i v
    holds_parted i v w =
        let after = c.after in let within = c.within in let head_end = c.head_end in let tail_end = c.tail_end in
        let begins = w.cover.begins in let ends = w.cover.ends in
        elim (whole_at g h lo at run first second c w.begin w.run w.cover.found) [
          | Beside ne na found ↦ record { begin = w.begin; run = w.run; cover = record { found = found; begins = w.cover.begins; ends = w.cover.ends }; value = w.value }
          | Whole same end value ↦ elim (cases_lt i at) [
            | inl below ↦ record { begin = lo; run = first; cover = record { found = c.head; begins = omega arith; ends = omega arith }; value = c.head_value ∙ sym value ∙ w.value }
            | inr above ↦ record { begin = at; run = second; cover = record { found = c.tail; begins = above; ends = omega arith }; value = c.tail_value ∙ sym value ∙ w.value }
          ]
        ]

    pub holds_whole : (i : ℕ) (v : T) → Holds h i v → Holds g i v
    holds_whole i v w =
        let after = c.after in let within = c.within in
        let begins = w.cover.begins in let ends = w.cover.ends in
        elim (parted_at g h lo at run first second c w.begin w.run w.cover.found) [
          | Other ne na found ↦ record { begin = w.begin; run = w.run; cover = record { found = found; begins = w.cover.begins; ends = w.cover.ends }; value = w.value }
          | Head same end value ↦ record { begin = lo; run = run; cover = record { found = c.whole; begins = omega arith; ends = omega arith }; value = sym value ∙ w.value }
          | Tail same end value ↦ record { begin = lo; run = run; cover = record { found = c.whole; begins = omega arith; ends = omega arith }; value = sym value ∙ w.value }
        ]

    pub apart_parted : IsApart g → IsApart h
    apart_parted p = record { filled = filled; ended = ended; apart = apart }
      where
        past : (b : ℕ) (s : Run T) → g b ≡ Some s → lo < b → run.end ≤ b
        past b s found lt = p.apart lo b run s c.whole found lt

        filled : (a : ℕ) (r : Run T) → h a ≡ Some r → a < r.end
        filled a r found =
            let after = c.after in let within = c.within in
            elim (parted_at g h lo at run first second c a r found) [ Head s e v ↦ omega arith | Tail s e v ↦ omega arith | Other x y f ↦ p.filled a r f ]

        ended : (a : ℕ) (r : Run T) → h a ≡ Some r → r.end ≤ 2 ^ 40
        ended a r found =
            let end = p.ended lo run c.whole in let within = c.within in
            elim (parted_at g h lo at run first second c a r found) [ Head s e v ↦ omega arith | Tail s e v ↦ omega arith | Other x y f ↦ p.ended a r f ]

        apart : (a b : ℕ) (r s : Run T) → h a ≡ Some r → h b ≡ Some s → a < b → r.end ≤ b
        apart a b r s fa fb lt =
            let after = c.after in let within = c.within in
            elim (parted_at g h lo at run first second c a r fa) [
              | Head sa ea va ↦ elim (parted_at g h lo at run first second c b s fb) [
                | Head sb eb vb ↦ absurd (omega arith)
                | Tail sb eb vb ↦ omega arith
                | Other xb yb gb ↦ let beyond = past b s gb (omega arith) in omega arith
              ]
              | Tail sa ea va ↦ elim (parted_at g h lo at run first second c b s fb) [
                | Head sb eb vb ↦ absurd (omega arith)
                | Tail sb eb vb ↦ absurd (omega arith)
                | Other xb yb gb ↦ let beyond = past b s gb (omega arith) in omega arith
              ]
              | Other xa ya ga ↦ elim (parted_at g h lo at run first second c b s fb) [
                | Head sb eb vb ↦ let before = p.apart a lo r run ga c.whole (omega arith) in omega arith
                | Tail sb eb vb ↦ elim (cases_lt a lo) [
                  | inl below ↦ let before = p.apart a lo r run ga c.whole below in omega arith
                  | inr above ↦ let beyond = past a r ga (omega arith) in absurd (omega arith)
                ]
                | Other xb yb gb ↦ p.apart a b r s ga gb lt
              ]
            ]

    pub apart_whole : IsApart h → IsApart g
    apart_whole p = record { filled = filled; ended = ended; apart = apart }
      where
        filled : (a : ℕ) (r : Run T) → g a ≡ Some r → a < r.end
        filled a r found =
            let after = c.after in let within = c.within in
            elim (whole_at g h lo at run first second c a r found) [ Whole s e v ↦ omega arith | Beside x y f ↦ p.filled a r f ]

        ended : (a : ℕ) (r : Run T) → g a ≡ Some r → r.end ≤ 2 ^ 40
        ended a r found =
            let end = p.ended at second c.tail in let same = c.tail_end in
            elim (whole_at g h lo at run first second c a r found) [ Whole s e v ↦ omega arith | Beside x y f ↦ p.ended a r f ]

        apart : (a b : ℕ) (r s : Run T) → g a ≡ Some r → g b ≡ Some s → a < b → r.end ≤ b
        apart a b r s fa fb lt =
            let after = c.after in let within = c.within in let head_end = c.head_end in let tail_end = c.tail_end in
            elim (whole_at g h lo at run first second c a r fa) [
              | Whole sa ea va ↦ elim (whole_at g h lo at run first second c b s fb) [
                | Whole sb eb vb ↦ absurd (omega arith)
                | Beside xb yb hb ↦
                    let past_head = p.apart lo b first s c.head hb (omega arith) in
                    let past_tail = p.apart at b second s c.tail hb (let ne = yb in omega arith) in
                    omega arith
              ]
              | Beside xa ya ha ↦ elim (whole_at g h lo at run first second c b s fb) [
                | Whole sb eb vb ↦ let before = p.apart a lo r first ha c.head (omega arith) in omega arith
                | Beside xb yb hb ↦ p.apart a b r s ha hb lt
              ]
            ]

    -- touching runs differ as before, but where the run was parted
    pub joined_parted : IsApart g → (y : ℕ) → IsJoinedBut 0 y g → IsJoinedBut at y h
    joined_parted p y joined a r s fa fe not_at not_y same =
        let after = c.after in let within = c.within in
        elim (parted_at g h lo at run first second c a r fa) [
          | Head sa ea va ↦ not_at ea
          | Tail sa ea va ↦ elim (parted_at g h lo at run first second c r.end s fe) [
            | Head sb eb vb ↦ omega arith
            | Tail sb eb vb ↦ omega arith
            | Other xb yb gb ↦
                joined lo run s c.whole (subst (λ x. g x ≡ Some s) ea gb) (omega arith) (λ is. not_y (ea ∙ is)) (sym va ∙ same)
          ]
          | Other xa ya ga ↦ let pos = p.filled a r ga in elim (parted_at g h lo at run first second c r.end s fe) [
            | Head sb eb vb ↦
                joined a r run ga (subst (λ x. g x ≡ Some run) (sym sb) c.whole) (omega arith) not_y (same ∙ vb)
            | Tail sb eb vb ↦ not_at sb
            | Other xb yb gb ↦ joined a r s ga gb (omega arith) not_y same
          ]
        ]

    pub joined_whole : (y : ℕ) → IsJoinedBut at y h → IsJoinedBut 0 y g
    joined_whole y joined a r s fa fe not_zero not_y same =
        let after = c.after in let within = c.within in let tail_end = c.tail_end in
        elim (whole_at g h lo at run first second c a r fa) [
          | Whole sa ea va ↦ elim (whole_at g h lo at run first second c r.end s fe) [
            | Whole sb eb vb ↦ omega arith
            | Beside xb yb hb ↦
                joined at second s c.tail (subst (λ x. h x ≡ Some s) (ea ∙ sym c.tail_end) hb) (λ is. omega arith) (λ is. not_y (ea ∙ sym c.tail_end ∙ is)) (c.tail_value ∙ sym va ∙ same)
          ]
          | Beside xa ya ha ↦ elim (whole_at g h lo at run first second c r.end s fe) [
            | Whole sb eb vb ↦
                joined a r first ha (subst (λ x. h x ≡ Some first) (sym sb) c.head) (λ is. omega arith) not_y (same ∙ vb ∙ sym c.head_value)
            | Beside xb yb hb ↦ joined a r s ha hb yb not_y same
          ]
        ]

    pub cut_kept : (x : ℕ) → IsCutAt x g → IsCutAt x h
    cut_kept x cut a r found lt =
        let after = c.after in let within = c.within in
        elim (parted_at g h lo at run first second c a r found) [
          | Head s e v ↦ let whole = cut lo run c.whole (omega arith) in omega arith
          | Tail s e v ↦ let whole = cut lo run c.whole (omega arith) in omega arith
          | Other x y f ↦ cut a r f lt
        ]

    pub cut_there : IsApart g → IsCutAt at h
    cut_there p a r found lt =
        let after = c.after in let within = c.within in
        elim (parted_at g h lo at run first second c a r found) [
          | Head s e v ↦ omega arith
          | Tail s e v ↦ absurd (omega arith)
          | Other x y f ↦ elim (cases_lt a lo) [
            | inl below ↦ let before = p.apart a lo r run f c.whole below in omega arith
            | inr above ↦ let beyond = p.apart lo a run r c.whole f (omega arith) in absurd (omega arith)
          ]
        ]
