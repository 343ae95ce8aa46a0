-- A save: the areas of the checkpoints stand for the old one or for the new one.
use Rattle.std.proofs.Common.{◌≡◌, ◌⊎◌, inl, inr, ℕ, ◌+◌, List, ◌∷◌, length, Option, None, Some, Result, Ok, Err, refl, ap, sym, ◌∙◌, subst, arith}
use Rattle.mrp_types.specs.declared.id.RingId.{RingId}
use Rattle.disk_model.specs.declared.area.Area.{Area}
use Rattle.disk_model.specs.declared.area.Area.TheVariants.{Journal0, Journal1, Check2, Check3}
use Rattle.disk_model.specs.declared.areas.Areas.{Areas}
use Rattle.disk_model.specs.Areas.{bytes_of}
use Rattle.gate_area.specs.declared.pair.Pair.TheVariants.{Check}
use Rattle.gate_area.specs.Gate.{OthersStay, FrontOrShort, IsClosed, RenewLeaves}
use Rattle.gate_area.specs.Standing.{stands, standing}
use Rattle.gate_area.proofs.Heads.{head-short, head-front}
use Rattle.gate_log.specs.Moments.{ChecksStay}
use Rattle.gate_log.proofs.Moves.{Judgement, stood}
use Rattle.checkpoint.specs.Spelling.{checkpoint_body}
use Rattle.checkpoint.specs.Checkpoints.{Checkpoint, Checkpoints, no_checkpoints, read_area, checkpoints_at, checkpoints_of, checkpoints_in, next_area, saved}
use Rattle.disk_states.specs.Works.{MaySave}
use Rattle.disk_states.proofs.Holding.{JournalStays, closed_head}
use Rattle.disk_states.proofs.Pairs.{own_check, StaysOrCloses, none_stays, none_next, first_stays, first_next, second_stays, second_next}
use Rattle.disk_states.proofs.Spelling.{IsFounded, founded_head, read_back}

-- ---- what the areas stand for

-- the checkpoints of an area that stands
abbrev pub standing_at : Area → ℕ → ℕ × Checkpoint → Checkpoints
standing_at area generation found = record { area = Some area; generation = generation; from = found.0; newest = Some found.1 }

pub record StandsAt (areas : Areas) (area : Area) (c : Checkpoints) : Type 0 where
  pub generation : ℕ
  pub found : ℕ × Checkpoint
  pub stands : stands Check areas ≡ Ok (Some (area, generation))
  pub read : read_area (bytes_of area areas) ≡ Ok found
  pub same : standing_at area generation found ≡ c

-- no area stands, or one of the two
pub data Standings (areas : Areas) (c : Checkpoints) : Type 0 where
  Fresh : stands Check areas ≡ Ok None → no_checkpoints ≡ c → Standings areas c
  First : StandsAt areas Check2 c → Standings areas c
  Second : StandsAt areas Check3 c → Standings areas c

pub standings : (areas : Areas) (c : Checkpoints) → checkpoints_in areas ≡ Ok c → Standings areas c
standings areas c is = by (stands Check areas) refl is
  where
    read_by : (area : Area) (g : ℕ) (r : Result (ℕ × Checkpoint) ℕ) → stands Check areas ≡ Ok (Some (area, g)) → read_area (bytes_of area areas) ≡ r → checkpoints_at area g r ≡ Ok c → StandsAt areas area c
    read_by area g (Err at) here read e = absurd cc
    read_by area g (Ok found) here read e = record { generation = g; found = found; stands = here; read = read; same = cc }

    by : (j : Judgement) → stands Check areas ≡ j → checkpoints_of areas j ≡ Ok c → Standings areas c
    by (Err spot) here e = absurd cc
    by (Ok None) here e = Fresh here cc
    by (Ok (Some (area, g))) here e =
        let at = read_by area g (read_area (bytes_of area areas)) here refl e in
        elim (own_check area g areas.check2 areas.check3 here) [
          | inl first ↦ First (subst (λ (x : Area). StandsAt areas x c) first at)
          | inr second ↦ Second (subst (λ (x : Area). StandsAt areas x c) second at)
        ]

-- ---- the areas of the checkpoints are as they were

same_stands : (before image : Areas) → ChecksStay before image → stands Check image ≡ stands Check before
same_stands before image same = ap (λ (f : List ℕ). standing Check f image.check3) same.check2 ∙ ap (λ (s : List ℕ). standing Check before.check2 s) same.check3

-- an area that stands as it stood, with the same bytes
still : (area : Area) (before image : Areas) (c : Checkpoints) (at : StandsAt before area c) → stands Check image ≡ Ok (Some (area, at.generation)) → bytes_of area image ≡ bytes_of area before → checkpoints_in image ≡ Ok c
still area before image c at here same =
    ap (checkpoints_of image) here ∙ ap (λ (b : List ℕ). checkpoints_at area at.generation (read_area b)) same ∙ ap (checkpoints_at area at.generation) at.read ∙ ap Ok at.same

pub checks_stay : (before image : Areas) (c : Checkpoints) → ChecksStay before image → checkpoints_in before ≡ Ok c → checkpoints_in image ≡ Ok c
checks_stay before image c same is = by (standings before c is)
  where
    by : Standings before c → checkpoints_in image ≡ Ok c
    by (Fresh here none) = ap (checkpoints_of image) (same_stands before image same ∙ here) ∙ ap Ok none
    by (First at) = still Check2 before image c at (same_stands before image same ∙ at.stands) same.check2
    by (Second at) = still Check3 before image c at (same_stands before image same ∙ at.stands) same.check3

-- ---- the other area is renewed

-- another area of the checkpoints is renewed, so the journal is as it was
pub journal_stays : (area : Option Area) (before image : Areas) → OthersStay (next_area area) before image → JournalStays before image
journal_stays None before image others = record { first = others Journal0 refl; second = others Journal1 refl }
journal_stays (Some Journal0) before image others = record { first = others Journal0 refl; second = others Journal1 refl }
journal_stays (Some Journal1) before image others = record { first = others Journal0 refl; second = others Journal1 refl }
journal_stays (Some Check2) before image others = record { first = others Journal0 refl; second = others Journal1 refl }
journal_stays (Some Check3) before image others = record { first = others Journal0 refl; second = others Journal1 refl }

-- it isn't open, or as it was
abbrev NotNext : Areas → Areas → Area → Type 0
NotNext before image area = OthersStay area before image × StaysOrCloses (bytes_of area before) (bytes_of area image)

-- the old checkpoint stands
old_stands : (before image : Areas) (c : Checkpoints) → checkpoints_in before ≡ Ok c → NotNext before image (next_area c.area) → checkpoints_in image ≡ Ok c
old_stands before image c is how = by (standings before c is)
  where
    at_first : (at : StandsAt before Check2 c) → NotNext before image Check3 → checkpoints_in image ≡ Ok c
    at_first at (others, shut) =
        still Check2 before image c at
        (ap (λ (f : List ℕ). standing Check f image.check3) (others Check2 refl) ∙ first_stays before.check2 before.check3 image.check3 at.generation at.stands shut)
        (others Check2 refl)

    at_second : (at : StandsAt before Check3 c) → NotNext before image Check2 → checkpoints_in image ≡ Ok c
    at_second at (others, shut) =
        still Check3 before image c at
        (ap (λ (s : List ℕ). standing Check image.check2 s) (others Check3 refl) ∙ second_stays before.check2 before.check3 image.check2 at.generation at.stands shut)
        (others Check3 refl)

    at_none : stands Check before ≡ Ok None → NotNext before image Check2 → checkpoints_in image ≡ Ok no_checkpoints
    at_none here (others, shut) =
        ap (checkpoints_of image) (ap (λ (s : List ℕ). standing Check image.check2 s) (others Check3 refl) ∙ none_stays before.check2 before.check3 image.check2 here shut)

    by : Standings before c → checkpoints_in image ≡ Ok c
    by (Fresh here none) = at_none here (subst (λ (x : Checkpoints). NotNext before image (next_area x.area)) (sym none) how) ∙ ap Ok none
    by (First at) = at_first at (subst (λ (x : Checkpoints). NotNext before image (next_area x.area)) (sym at.same) how)
    by (Second at) = at_second at (subst (λ (x : Checkpoints). NotNext before image (next_area x.area)) (sym at.same) how)

-- the new one does
abbrev NewStands : Areas → Areas → List (RingId × ℕ) → List ℕ → Checkpoints → Type 0
NewStands before image tuple state c =
    MaySave c tuple state → OthersStay (next_area c.area) before image → IsFounded (c.generation + 1) tuple state (bytes_of (next_area c.area) image) → checkpoints_in image ≡ Ok (saved c tuple state)

pub new_stands : (before image : Areas) (c : Checkpoints) (tuple : List (RingId × ℕ)) (state : List ℕ) → MaySave c tuple state → checkpoints_in before ≡ Ok c → OthersStay (next_area c.area) before image
    → IsFounded (c.generation + 1) tuple state (bytes_of (next_area c.area) image) → checkpoints_in image ≡ Ok (saved c tuple state)
new_stands before image c tuple state may is others founded = by (standings before c is)
  where
    -- the area that was founded stands
    read_new : (area : Area) (generation : ℕ) → stands Check image ≡ stood area generation → IsFounded generation tuple state (bytes_of area image)
        → checkpoints_in image ≡ Ok (standing_at area generation (18, record { tuple = tuple; state = state }))
    read_new area generation here founded =
        ap (checkpoints_of image) here ∙ ap (checkpoints_at area generation) (read_back generation tuple state (bytes_of area image) may.spelled may.size founded)

    at_none : stands Check before ≡ Ok None → NewStands before image tuple state no_checkpoints
    at_none here may others founded =
        read_new Check2 1
        (ap (λ (s : List ℕ). standing Check image.check2 s) (others Check3 refl)
        ∙ none_next before.check2 before.check3 image.check2 1 here (founded_head 1 tuple state image.check2 (omega arith) (omega arith) founded))
        founded

    at_first : (g : ℕ) (found : ℕ × Checkpoint) → stands Check before ≡ Ok (Some (Check2, g)) → NewStands before image tuple state (standing_at Check2 g found)
    at_first g found here may others founded =
        read_new Check3 (g + 1)
        (ap (λ (f : List ℕ). standing Check f image.check3) (others Check2 refl)
        ∙ first_next before.check2 before.check3 image.check3 g here (founded_head (g + 1) tuple state image.check3 (omega arith) (omega (arith, may.generation)) founded))
        founded

    at_second : (g : ℕ) (found : ℕ × Checkpoint) → stands Check before ≡ Ok (Some (Check3, g)) → NewStands before image tuple state (standing_at Check3 g found)
    at_second g found here may others founded =
        read_new Check2 (g + 1)
        (ap (λ (s : List ℕ). standing Check image.check2 s) (others Check3 refl)
        ∙ second_next before.check2 before.check3 image.check2 g here (founded_head (g + 1) tuple state image.check2 (omega arith) (omega (arith, may.generation)) founded))
        founded

    by : Standings before c → checkpoints_in image ≡ Ok (saved c tuple state)
    by (Fresh here none) = (subst (NewStands before image tuple state) none (at_none here)) may others founded
    by (First at) = (subst (NewStands before image tuple state) at.same (at_first at.generation at.found at.stands)) may others founded
    by (Second at) = (subst (NewStands before image tuple state) at.same (at_second at.generation at.found at.stands)) may others founded

-- ---- at each moment of a save

pub record SaveLeaves (c : Checkpoints) (tuple : List (RingId × ℕ)) (state : List ℕ) (before image : Areas) : Type 0 where
  pub journal : JournalStays before image
  pub checks : (checkpoints_in image ≡ Ok c) ⊎ (checkpoints_in image ≡ Ok (saved c tuple state))

pub save_leaves : (before image : Areas) (c : Checkpoints) (tuple : List (RingId × ℕ)) (state : List ℕ) → MaySave c tuple state → checkpoints_in before ≡ Ok c
    → RenewLeaves (next_area c.area) (checkpoint_body (c.generation + 1) tuple state) before image → SaveLeaves c tuple state before image
save_leaves before image c tuple state may is leaves = record { journal = journal_stays c.area before image leaves.others; checks = by leaves.file }
  where
    old : StaysOrCloses (bytes_of (next_area c.area) before) (bytes_of (next_area c.area) image) → checkpoints_in image ≡ Ok c
    old how = old_stands before image c is (leaves.others, how)

    by : FrontOrShort (bytes_of (next_area c.area) before) (bytes_of (next_area c.area) image)
        ⊎ (IsClosed (length (checkpoint_body (c.generation + 1) tuple state)) (bytes_of (next_area c.area) image) ⊎ (bytes_of (next_area c.area) image ≡ 1 ∷ checkpoint_body (c.generation + 1) tuple state))
        → (checkpoints_in image ≡ Ok c) ⊎ (checkpoints_in image ≡ Ok (saved c tuple state))
    by (inl (inl has)) = inl (old (inl (head-front Check (bytes_of (next_area c.area) before) (bytes_of (next_area c.area) image) has)))
    by (inl (inr few)) = inl (old (inr (head-short Check (bytes_of (next_area c.area) image) few.short)))
    by (inr (inl shut)) = inl (old (inr (closed_head Check (length (checkpoint_body (c.generation + 1) tuple state)) (bytes_of (next_area c.area) image) shut)))
    by (inr (inr all)) = inr (new_stands before image c tuple state may is leaves.others all)
