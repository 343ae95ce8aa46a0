-- The bytes of an area, and the tests of two tuples.
use Rattle.std.proofs.Common.{◌≡◌, ℕ, ◌<◌, inl, inr, Bool, true, false, List, [], ◌∷◌, length, drop, Result, Ok, Err, refl, ap, ◌∙◌, arith}
use Rattle.std.proofs.lemmas.List.{drop_all}
use Rattle.mrp_types.specs.declared.id.RingId.{RingId}
use Rattle.disk_model.specs.declared.area.Area.{Area}
use Rattle.command_codec.specs.declared.fault.CodecFault.{CodecFault}
use Rattle.command_codec.specs.declared.fault.CodecFault.TheVariants.{Short, BadKind, BadField, TooLong, Left, Memory as NoRoom}
use Rattle.command_codec.specs.Reader.{within}
use Rattle.frames.specs.Grammar.{all_of, tuple_at}
use Rattle.gate_area.specs.declared.pair.SurveyFault.{SurveyFault}
use Rattle.gate_area.specs.declared.pair.SurveyFault.TheVariants.{Damaged}
use Rattle.plain_model.specs.StateBytes.{fault_position}
use Rattle.checkpoint.specs.Checkpoints.{Checkpoint, checkpoint_at, checkpoints_at, is_after, is_same_tuple}
use Rattle.checkpoint.proofs.Tests.{same-is}
use Rattle.checkpoint_disk.specs.Standing.{IsRead, Finds, damage_of}

-- nothing stands behind the end
nothing_there : (from : ℕ) → all_of checkpoint_at (record { at = from; rest = [] }) ≡ Err (Short from)
unfolding checkpoint_at tuple_at within
nothing_there from = refl

pub past_the_end : (from : ℕ) (bytes : List ℕ) → length bytes < from → all_of checkpoint_at (record { at = from; rest = drop from bytes }) ≡ Err (Short from)
past_the_end from bytes less = ap (λ (l : List ℕ). all_of checkpoint_at (record { at = from; rest = l })) (drop_all from bytes (omega (arith, less))) ∙ nothing_there from

-- a fault in an area's bytes is the damaged place of it
damages : (area : Area) (generation : ℕ) (fault : CodecFault) (at : ℕ) → fault_position fault ≡ at → Finds (Err (area, at)) (Err (damage_of area fault))
damages area generation (Short k) at is = inl (ap (Damaged area) is)
damages area generation (BadKind k) at is = inl (ap (Damaged area) is)
damages area generation (BadField k) at is = inl (ap (Damaged area) is)
damages area generation (TooLong k) at is = inl (ap (Damaged area) is)
damages area generation (Left k) at is = inl (ap (Damaged area) is)
damages area generation NoRoom at is = inr (inr refl)

pub finds_damage : (area : Area) (generation : ℕ) (expected : Result (ℕ × Checkpoint) ℕ) (fault : CodecFault) (e : SurveyFault) → IsRead expected (Err fault) → e ≡ damage_of area fault
    → Finds (checkpoints_at area generation expected) (Err e)
finds_damage area generation (Ok found) fault e read same = inr (same ∙ ap (damage_of area) read)
finds_damage area generation (Err at) fault e (inl memory) same = inr (inr (same ∙ ap (damage_of area) memory))
finds_damage area generation (Err at) fault e (inr is) same = rw same (damages area generation fault at is)

-- ---- the tests of two tuples

pub none_after : (xs : List (RingId × ℕ)) → is_after xs [] ≡ false
none_after [] = refl
none_after (x ∷ xs) = refl

told_apart : (a b : List (RingId × ℕ)) → (a ≡ b → ⊥) → is_same_tuple a b ≡ false
told_apart a b other = by (is_same_tuple a b) refl
  where
    by : (t : Bool) → is_same_tuple a b ≡ t → t ≡ false
    by false is = refl
    by true is = absurd (other ((same-is a b).0 is))

pub other_lengths : (a b : List (RingId × ℕ)) → (length a ≡ length b → ⊥) → is_same_tuple a b ≡ false
other_lengths a b other = told_apart a b (λ same. other (ap length same))
