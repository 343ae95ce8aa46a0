-- The run of the example: each condition by computation.
use Rattle.std.proofs.Common.{◌≡◌, inl, inr, ℕ, zero, suc, ◌<◌, ◌≤◌, Bool, true, false, cond, nat_eq, nat_lt, not, [], ◌∷◌, None, refl, arith}
use Rattle.quorums.specs.Groups.{Has}
use Rattle.ring_safety.specs.Faces.{Promise, voted, page, rank}
use Rattle.ring_safety.specs.Deeds.{IsPromised, Serves, Backing}
use Rattle.ring_safety.specs.Worlds.{Step, Before, Stopped, After, World, empty, durables, run, CanRun, Chosen}
use Rattle.ring_safety.specs.Deeds.{Promises, Starts}
use Rattle.ring_safety.specs.Example.{with_state_before, with_state_after, first_world, second_world, seven}

-- what holds of 0, 1 and 2 holds of each number below 3
below_three : (P : ℕ → Type 0) → P 0 → P 1 → P 2 → (k : ℕ) → k < 3 → P k
below_three P x y z zero lt = x
below_three P x y z (suc zero) lt = y
below_three P x y z (suc (suc zero)) lt = z
below_three P x y z (suc (suc (suc k))) lt = absurd (omega arith)

not_there : {C : Type 0} → false ≡ true → C
not_there e = cc

-- acceptors 0 and 1; acceptors 0 and 2; acceptors 1 and 2
abbrev two_low : ℕ → Bool
two_low k = nat_lt k 2

abbrev two_apart : ℕ → Bool
two_apart k = not (nat_eq k 1)

abbrev two_high : ℕ → Bool
two_high k = not (nat_eq k 0)

-- the promises of ballot 1 that hold instance 0, and those of ballot 5
abbrev promises_one : ℕ → Promise ℕ
promises_one k = cond (nat_eq k 0)
    (record { ballot = 1; low = 0; high = 1; trim = 0; told = page (λ i. None) 0 1 })
    (record { ballot = 1; low = 0; high = 10; trim = 0; told = page (λ i. None) 0 10 })

abbrev promises_five : ℕ → Promise ℕ
promises_five k = cond (nat_eq k 0)
    (record { ballot = 5; low = 0; high = 10; trim = 0; told = page (voted (λ i. None) 0 (record { ballot = 1; value = 7 })) 0 10 })
    (record { ballot = 5; low = 0; high = 10; trim = 0; told = page (λ i. None) 0 10 })

abbrev world_of_one : World ℕ
world_of_one = run (Stopped 1 (Starts 1 10 ∷ []) ∷ Before 1 ∷ Step 1 (Starts 1 10 ∷ []) ∷ Step 0 (Promises 1 0 1 ∷ Promises 1 1 10 ∷ []) ∷ []) empty

backing_one : Backing 3 (durables world_of_one) 1 (world_of_one 1).durable (seven 1)
backing_one = record {
  members = two_low;
  promise = promises_one;
  majority = omega arith;
  made = below_three (λ k. two_low k ≡ true → IsPromised (durables world_of_one) 1 (world_of_one 1).durable k (promises_one k))
      (λ e. inl (inr (inl refl))) (λ e. inl (inl refl)) not_there;
  serves = below_three (λ k. two_low k ≡ true → Serves (promises_one k) 1 0)
      (λ e. record { of_ballot = refl; from_low = omega arith; to_high = omega arith; untrimmed = omega arith })
      (λ e. record { of_ballot = refl; from_low = omega arith; to_high = omega arith; untrimmed = omega arith })
      not_there;
  due = inl (below_three (λ k. two_low k ≡ true → (promises_one k).told 0 ≡ None) (λ e. refl) (λ e. refl) not_there);
}

pub can_first : CanRun 3 empty with_state_before
can_first = (
  (record { owned = refl; above = omega arith }, tt),
  (
    tt,
    (
      (record { owned = refl; above = omega arith }, tt),
      (
        (omega arith, (omega arith, tt)),
        (
          (record { next = 0; leads = refl; promised = refl; unproposed = omega arith; untrimmed = omega arith; backing = backing_one }, tt),
          (
            (record { proposed = inl (inl refl); promised = omega arith; untrimmed = omega arith }, tt),
            (tt, ((record { proposed = inl (inl refl); promised = omega arith; untrimmed = omega arith }, tt), tt)),
          ),
        ),
      ),
    ),
  ),
)

pub chosen_first : Chosen 3 (durables first_world) (seven 1)
chosen_first = record {
  members = two_low;
  majority = omega arith;
  cast = below_three (λ k. two_low k ≡ true → Has (durables first_world k).casts (seven 1)) (λ e. inl refl) (λ e. inl refl) not_there;
}

abbrev world_of_five : World ℕ
world_of_five = run (Stopped 2 (Starts 2 10 ∷ []) ∷ After 2 ∷ Step 2 (Starts 5 10 ∷ []) ∷ Step 0 (Promises 5 0 10 ∷ []) ∷ []) first_world

backing_five : Backing 3 (durables world_of_five) 2 (world_of_five 2).durable (seven 5)
backing_five = record {
  members = two_apart;
  promise = promises_five;
  majority = omega arith;
  made = below_three (λ k. two_apart k ≡ true → IsPromised (durables world_of_five) 2 (world_of_five 2).durable k (promises_five k))
      (λ e. inl (inl refl)) not_there (λ e. inl (inl refl));
  serves = below_three (λ k. two_apart k ≡ true → Serves (promises_five k) 5 0)
      (λ e. record { of_ballot = refl; from_low = omega arith; to_high = omega arith; untrimmed = omega arith })
      not_there
      (λ e. record { of_ballot = refl; from_low = omega arith; to_high = omega arith; untrimmed = omega arith });
  due = inr (record {
    member = 0;
    below = omega arith;
    is_member = refl;
    vote = record { ballot = 1; value = 7 };
    tells = refl;
    highest = below_three (λ k. two_apart k ≡ true → rank ((promises_five k).told 0) ≤ 2) (λ e. omega arith) not_there (λ e. omega arith);
    same = refl;
  });
}

pub can_second : CanRun 3 first_world with_state_after
can_second = (
  (record { owned = refl; above = omega arith }, tt),
  (
    tt,
    (
      (record { owned = refl; above = omega arith }, tt),
      (
        (omega arith, tt),
        (
          (record { next = 0; leads = refl; promised = refl; unproposed = omega arith; untrimmed = omega arith; backing = backing_five }, tt),
          (
            (record { proposed = inl (inl refl); promised = omega arith; untrimmed = omega arith }, tt),
            (tt, ((omega arith, tt), tt)),
          ),
        ),
      ),
    ),
  ),
)

pub chosen_second : Chosen 3 (durables second_world) (seven 5)
chosen_second = record {
  members = two_high;
  majority = omega arith;
  cast = below_three (λ k. two_high k ≡ true → Has (durables second_world k).casts (seven 5)) not_there (λ e. inl refl) (λ e. inl refl);
}
