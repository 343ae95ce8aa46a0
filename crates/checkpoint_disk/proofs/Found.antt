-- What was saved is found.
use Rattle.std.proofs.Common.{◌≡◌, ◌⊎◌, ◌<◌, ◌≤◌, ◌+◌, ◌==◌, ◌^◌, inl, inr, ℕ, suc, Bool, true, false, nat_lt, if◌then◌else◌, List, [], ◌∷◌, ◌++◌, length, take, drop, Result, Ok, Err, refl, ap, sym, ◌∙◌, subst, arith}
use Rattle.std.specs.Int.{w64}
use Rattle.std.specs.List.{flat_map}
use Rattle.std.proofs.lemmas.Bool.{le-ltb}
use Rattle.std.proofs.lemmas.List.{take_all, drop_at, drop_all}
use Rattle.mrp_types.specs.declared.id.RingId.{RingId}
use Rattle.mrp_types.specs.Tuples.{IsTuple}
use Rattle.disk_model.specs.declared.area.Area.{Area}
use Rattle.disk_model.specs.declared.areas.Areas.{Areas}
use Rattle.disk_model.specs.Areas.{bytes_of}
use Rattle.disk_model.specs.Calls.{Told, and_then, reads, IsImage}
use Rattle.gate_area.specs.Gate.{renew_calls}
use Rattle.gate_log.proofs.Renewals.{renewed}
use Rattle.command_codec.specs.Fields.{u64_bytes}
use Rattle.command_codec.specs.Reader.{bytes_at}
use Rattle.command_codec.proofs.ReaderLaws.{wide64, number_law}
use Rattle.command_codec.proofs.Sizes.{length-u64_bytes}
use Rattle.frames.specs.Grammar.{all_of}
use Rattle.frames.specs.Spelling.{next_bytes}
use Rattle.frames.proofs.ListLaws.{tuple_law}
use Rattle.checkpoint.specs.Spelling.{checkpoint_bytes, checkpoint_body}
use Rattle.checkpoint.specs.Checkpoints.{Checkpoints, checkpoint_at, placed, read_from, is_newer, behind_format, read_area, checkpoints_in, next_area, save_calls, saved}
use Rattle.disk_states.proofs.Moments.{settled_is, renew_leaves, renew_settles}
use Rattle.disk_states.proofs.Saving.{save_leaves, new_stands}
use Rattle.disk_states.proofs.Spelling.{body_length, read_back}
use Rattle.checkpoint_disk.specs.Saved.{newer_area, older_area, MayBeSaved, NoneDamaged, FindsSaved, FindsEither}

-- ---- an area is read as it is spelled

pub newer_read : (generation : ℕ) (tuple : List (RingId × ℕ)) (state : List ℕ) → IsTuple tuple → length state < 2 ^ 64 → read_area (newer_area generation tuple state) ≡ Ok (18, record { tuple = tuple; state = state })
newer_read generation tuple state is size = read_back generation tuple state (newer_area generation tuple state) is size refl

-- a tuple, a length and so many bytes, from any position on
all_again : (at : ℕ) (tuple : List (RingId × ℕ)) (state : List ℕ) → IsTuple tuple → length state < 2 ^ 64
    → all_of checkpoint_at (record { at = at; rest = checkpoint_bytes tuple state }) ≡ Ok (record { tuple = tuple; state = state })
unfolding checkpoint_at bytes_at
all_again at tuple state is size =
    let first = tuple_law.again tuple at (u64_bytes (length state) ++ state) is in
    let second = (number_law w64 (2 ^ 64) u64_bytes wide64).again (length state) first.0 state size in
    let long : nat_lt (length state) (length state) ≡ false = le-ltb (length state) (length state) (omega arith) in
    let all : take (length state) state ≡ state = take_all (length state) state (omega arith) in
    let none : drop (length state) state ≡ [] = drop_all (length state) state (omega arith) in
    rw (first.1, second.1, long, all, none) refl

-- no tuple begins with 0
not_newer : (tuple : List (RingId × ℕ)) (state : List ℕ) → IsTuple tuple → is_newer (checkpoint_bytes tuple state) ≡ false
not_newer [] state is = absurd (omega (arith, is.some))
not_newer (x ∷ xs) state is = some_pairs (length xs)
  where
    some_pairs : (n : ℕ) → (suc n == 0) ≡ false
    some_pairs n = grind arith

pub older_read : (generation : ℕ) (tuple : List (RingId × ℕ)) (state : List ℕ) → IsTuple tuple → length state < 2 ^ 64 → read_area (older_area generation tuple state) ≡ Ok (16, record { tuple = tuple; state = state })
older_read generation tuple state is size =
    let file = older_area generation tuple state in
    let sixteen : drop 16 file ≡ checkpoint_bytes tuple state = drop_at (u64_bytes generation) (checkpoint_bytes tuple state) 8 (length-u64_bytes generation) in
    ap (λ (l : List ℕ). if is_newer l then behind_format (drop 17 file) file else read_from 16 file) sixteen
    ∙ ap (λ b. if b then behind_format (drop 17 file) file else read_from 16 file) (not_newer tuple state is)
    ∙ ap (λ (l : List ℕ). placed 16 (all_of checkpoint_at (record { at = 16; rest = l }))) sixteen
    ∙ ap (placed 16) (all_again 16 tuple state is size)

-- ---- images

no_damage : (areas : Areas) (c : Checkpoints) → checkpoints_in areas ≡ Ok c → NoneDamaged areas
no_damage areas c is area at other = by (checkpoints_in areas) is other
  where
    by : (r : Result Checkpoints (Area × ℕ)) → r ≡ Ok c → r ≡ Err (area, at) → ⊥
    by (Ok d) one two = cc
    by (Err spot) one two = cc

pub found_all : (t : Told) (c : Checkpoints) (tuple : List (RingId × ℕ)) (state : List ℕ) → MayBeSaved t c tuple state → (image : Areas) → IsImage (and_then t (save_calls c tuple state t)) image → FindsSaved c tuple state image
found_all t c tuple state m image is =
    let body = checkpoint_body (c.generation + 1) tuple state in
    let u = and_then t (renew_calls (next_area c.area) body t) in
    let done = renewed t (next_area c.area) body (body_length (c.generation + 1) tuple state) m.settled in
    let here : FindsSaved c tuple state (reads u) =
    let stood = new_stands (reads t) (reads u) c tuple state m.may m.stands done.others done.whole in
    record {
      spelled = done.whole;
      read = ap read_area done.whole ∙ newer_read (c.generation + 1) tuple state m.may.spelled m.may.size;
      newest = stood;
      undamaged = no_damage (reads u) (saved c tuple state) stood;
    } in
    subst (FindsSaved c tuple state) (sym (settled_is u image (renew_settles t (next_area c.area) body) is)) here

pub found_either : (t : Told) (c : Checkpoints) (tuple : List (RingId × ℕ)) (state : List ℕ) → MayBeSaved t c tuple state → (count : ℕ) (image : Areas)
    → IsImage (and_then t (take count (save_calls c tuple state t))) image → FindsEither c tuple state image
found_either t c tuple state m count image is =
    let body = checkpoint_body (c.generation + 1) tuple state in
    let left = save_leaves (reads t) image c tuple state m.may m.stands (renew_leaves t (next_area c.area) body (body_length (c.generation + 1) tuple state) m.settled count image is) in
    record { newest = left.checks; undamaged = by left.checks }
  where
    by : (checkpoints_in image ≡ Ok c) ⊎ (checkpoints_in image ≡ Ok (saved c tuple state)) → NoneDamaged image
    by (inl old) = no_damage image c old
    by (inr new) = no_damage image (saved c tuple state) new
