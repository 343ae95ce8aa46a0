-- What renewing an area leaves at each moment.
use Rattle.std.proofs.Common.{◌≡◌, ℕ, ◌+◌, ◌<◌, ◌≤◌, ◌⊎◌, inl, inr, List, [], ◌∷◌, ◌++◌, length, take, drop, ap, sym, ◌∙◌, subst, arith, length-take}
use Rattle.std.proofs.lemmas.List.{append-nil, drop_all, drop_at, take-append-le, take-take}
use Rattle.disk_model.specs.declared.area.Area.{Area}
use Rattle.disk_model.specs.declared.areas.Areas.{Areas}
use Rattle.disk_model.specs.Areas.{bytes_of}
use Rattle.disk_model.specs.Calls.{Told, and_then, area_bytes, reads, IsSettled}
use Rattle.disk_model.proofs.OnArea.{image-other}
use Rattle.disk_model.proofs.Reading.{reads-bytes}
use Rattle.gate_area.specs.Gate.{opened, IsRetired, IsClosed, OpenOrShut, RetireLeaves, FoundLeaves, RenewLeaves, retire_steps, retire_calls}
use Rattle.gate_area.proofs.Pairs.{retire_retires}
use Rattle.gate_area.proofs.Phases.{reads_image}

-- the file with an open gate and its body, in parts
pub opened_is : (gate : ℕ) (body file : List ℕ) → gate < length file
    → opened gate body file ≡ take gate file ++ (1 ∷ (body ++ drop (gate + 1 + length body) file))
opened_is gate body file within =
    let front : length (take (gate + 1) file) ≡ gate + 1 = omega (arith, length-take (gate + 1) file) in
    let rest = body ++ drop (gate + 1 + length body) file in
    ap (λ x. x ++ ((1 ∷ []) ++ drop (gate + 1) (take (gate + 1) file ++ rest)))
    (take-append-le gate (take (gate + 1) file) rest (omega arith) ∙ take-take gate (gate + 1) file (omega arith))
    ∙ ap (λ x. take gate file ++ (1 ∷ x)) (drop_at (take (gate + 1) file) rest (gate + 1) front)

-- retiring leaves this
pub retire_renews : (area : Area) (body : List ℕ) (before after image : Areas) → RetireLeaves area before after image → RenewLeaves area body before image
retire_renews area body before after image leaves = record { others = leaves.others; file = inl leaves.file }

-- founding leaves this of what retiring left
pub found_renews : (t : Told) (area : Area) (body : List ℕ) (after image : Areas) → 16 ≤ length body → IsSettled t
    → FoundLeaves area body (reads (and_then t (retire_calls area t))) after image → RenewLeaves area body (reads t) image
found_renews t area body after image long settled leaves =
    let u = and_then t (retire_calls area t) in
    let steps = retire_steps (length (area_bytes area t)) in
    let few : IsRetired (bytes_of area (reads u)) = subst IsRetired (sym (reads-bytes u area)) (retire_retires area t) in
    record {
      others = λ b other. leaves.others b other ∙ image-other t b area steps 4 (reads u) other settled (reads_image u) ∙ sym (reads-bytes t b);
      file = inr (by_file body (bytes_of area (reads u)) (bytes_of area image) long few leaves.file);
    }
  where
    by_file : (body f image : List ℕ) → 16 ≤ length body → IsRetired f → OpenOrShut 0 body f image → IsClosed (length body) image ⊎ (image ≡ 1 ∷ body)
    by_file body f image long few (inl is) = inl (record { some = is.within; no_longer = omega (arith, is.no_longer, few.short); shut = is.shut })
    by_file body f image long few (inr all) =
        inr (all ∙ opened_is 0 body f few.some ∙ ap (λ l. 1 ∷ (body ++ l)) (drop_all (0 + 1 + length body) f (omega (arith, few.short))) ∙ ap (λ l. 1 ∷ l) (append-nil body))
