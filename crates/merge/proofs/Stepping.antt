-- The step takes place after place.
use Rattle.std.proofs.Common.{arith, ◌≡◌, ◌<◌, inl, inr, ℕ, zero, suc, ◌+◌, ◌==◌, Bool, true, false, if◌then◌else◌, List, [], ◌∷◌, refl, sym, ap, subst, ◌∙◌}
use Rattle.std.specs.Prelude.{Option, Some, None}
use Rattle.std.proofs.lemmas.Bool.{cases_order}
use Rattle.mrp_types.specs.declared.id.RingId.{RingId}
use Rattle.mrp_types.specs.declared.place.Place.{Place}
use Rattle.mrp_types.specs.declared.value.Value.{Value}
use Rattle.mrp_types.specs.declared.value.Value.TheVariants.{Skip, Batch}
use Rattle.mrp_types.specs.Moves.{place_of, next_place, past, past_many, rings_of}
use Rattle.mrp_config.specs.Config.{Config, has_ring}
use Rattle.plain_model.specs.Tuples.{round_sizes}
use Rattle.protocol.specs.Node.{StepSoFar, View, Service, Ready, Standing}
use Rattle.protocol.specs.Merging.{value_at_place, merges_place, merges_up_to, delivers}
use Rattle.range_map.specs.Entries.{value_at}
use Rattle.merge.specs.declared.passing.Next.{Next}
use Rattle.merge.specs.declared.passing.Next.TheVariants.{Deliver, Wait}
use Rattle.merge.specs.Merged.{learned_at, PassesSkips, FindsBatch, Waits, Merges}
use Rattle.merge.specs.Steps.{Agree, stands_at}

-- ---- of one ring's maps

pub is_ring : (rings : List RingId) (maps : List (List (ℕ × Value))) (place : RingId × ℕ) (v : Value) → learned_at rings maps place ≡ Some v → has_ring rings place.0.0 ≡ true
is_ring [] maps place v is = absurd (cc)
is_ring (ring ∷ rings) [] place v is = absurd (cc)
is_ring (ring ∷ rings) (map ∷ maps) place v is = by (ring.0 == place.0.0) is (λ h. is_ring rings maps place v h)
  where
    by : (t : Bool) → (if t then value_at place.1 map else learned_at rings maps place) ≡ Some v → (learned_at rings maps place ≡ Some v → has_ring rings place.0.0 ≡ true) →
        (if t then true else has_ring rings place.0.0) ≡ true
    by true h later = refl
    by false h later = later h

seen : (view : View) (rings : List RingId) (maps : List (List (ℕ × Value))) (place : RingId × ℕ) (v : Value) → Agree view rings maps → learned_at rings maps place ≡ Some v → value_at_place view place ≡ Some v
seen view rings maps place v agree is = agree place (is_ring rings maps place v is) ∙ is

-- ---- the step

one_skip : (config : Config) (service : Service) (standing : Standing) (tuple : List (RingId × ℕ)) (a : StepSoFar) (most : ℕ) → value_at_place a.view (next_place (round_sizes config) tuple) ≡ Some Skip →
    merges_up_to (suc most) config (stands_at service standing tuple a) ≡ merges_up_to most config (stands_at service standing (past (round_sizes config) tuple) a)
one_skip config service standing tuple a most is =
    ap (λ (o : Option Value). merges_place (merges_up_to most config) config (record service { stage = Ready (record standing { tuple = tuple }) }) (record standing { tuple = tuple })
    (next_place (round_sizes config) tuple) o (stands_at service standing tuple a)) is

over_skips : (config : Config) (service : Service) (standing : Standing) (a : StepSoFar) (most n : ℕ) (from : List (RingId × ℕ)) →
    ((k : ℕ) → k < n → value_at_place a.view (next_place (round_sizes config) (past_many (round_sizes config) k from)) ≡ Some Skip) →
    merges_up_to (n + most) config (stands_at service standing from a) ≡ merges_up_to most config (stands_at service standing (past_many (round_sizes config) n from) a)
over_skips config service standing a most zero from each = ap (λ (k : ℕ). merges_up_to k config (stands_at service standing from a)) none
  where
    none : zero + most ≡ most
    none = omega arith
over_skips config service standing a most (suc n) from each =
    ap (λ (k : ℕ). merges_up_to k config (stands_at service standing from a)) one
    ∙ one_skip config service standing from a (n + most) (each 0 (omega arith))
    ∙ over_skips config service standing a most n (past (round_sizes config) from) (λ k less. each (suc k) (omega (arith, less)))
  where
    one : suc n + most ≡ suc (n + most)
    one = omega arith

pub passes_skips : (config : Config) (service : Service) (standing : Standing) (a : StepSoFar) (maps : List (List (ℕ × Value))) (from stop : List (RingId × ℕ)) → Agree a.view (rings_of from) maps →
    (passes : PassesSkips (round_sizes config) (rings_of from) maps from stop) → (most : ℕ) →
    merges_up_to (passes.count + most) config (stands_at service standing from a) ≡ merges_up_to most config (stands_at service standing stop a)
passes_skips config service standing a maps from stop agree passes most =
    over_skips config service standing a most passes.count from
    (λ k less. seen a.view (rings_of from) maps (next_place (round_sizes config) (past_many (round_sizes config) k from)) Skip agree (passes.skips k less))
    ∙ ap (λ (t : List (RingId × ℕ)). merges_up_to most config (stands_at service standing t a)) passes.moved

pub delivers_batch : (config : Config) (service : Service) (standing : Standing) (a : StepSoFar) (maps : List (List (ℕ × Value))) (from stop : List (RingId × ℕ)) (place : Place) → Agree a.view (rings_of from) maps →
    (finds : FindsBatch (round_sizes config) maps from place stop) → (most : ℕ) → merges_up_to (suc most) config (stands_at service standing stop a) ≡
    merges_up_to most config (delivers config (record service { stage = Ready (record standing { tuple = stop }) }) (record standing { tuple = stop }) (next_place (round_sizes config) stop) finds.batch (stands_at service standing stop a))
delivers_batch config service standing a maps from stop place agree finds most =
    ap (λ (o : Option Value). merges_place (merges_up_to most config) config (record service { stage = Ready (record standing { tuple = stop }) }) (record standing { tuple = stop })
    (next_place (round_sizes config) stop) o (stands_at service standing stop a))
    (seen a.view (rings_of from) maps (next_place (round_sizes config) stop) (Batch finds.batch) agree finds.holds)

pub ends_there : (config : Config) (service : Service) (standing : Standing) (a : StepSoFar) (maps : List (List (ℕ × Value))) (from stop : List (RingId × ℕ)) (ring : RingId) → Agree a.view (rings_of from) maps →
    has_ring (rings_of from) ring.0 ≡ true → Waits (round_sizes config) maps from ring stop → (most : ℕ) → merges_up_to most config (stands_at service standing stop a) ≡ stands_at service standing stop a
ends_there config service standing a maps from stop ring agree has waits zero = refl
ends_there config service standing a maps from stop ring agree has waits (suc most) =
    ap (λ (o : Option Value). merges_place (merges_up_to most config) config (record service { stage = Ready (record standing { tuple = stop }) }) (record standing { tuple = stop })
    (next_place (round_sizes config) stop) o (stands_at service standing stop a))
    (agree (next_place (round_sizes config) stop) (subst (λ (r : RingId). has_ring (rings_of from) r.0 ≡ true) (sym waits.next) has) ∙ waits.bare)

-- ---- a merge comes to one thing

-- the first place that isn't a skip is one
same_count : (m : ℕ → ℕ) (maps : List (List (ℕ × Value))) (old a b : List (RingId × ℕ)) → (p : PassesSkips m (rings_of old) maps old a) → (q : PassesSkips m (rings_of old) maps old b) →
    (learned_at (rings_of old) maps (next_place m a) ≡ Some Skip → ⊥) → (learned_at (rings_of old) maps (next_place m b) ≡ Some Skip → ⊥) → a ≡ b
same_count m maps old a b p q stops_a stops_b = elim (cases_order p.count q.count) [
  | inl same ↦ sym p.moved ∙ ap (λ (n : ℕ). past_many m n old) same ∙ q.moved
  | inr (inl less) ↦ absurd (stops_a (subst (λ (t : List (RingId × ℕ)). learned_at (rings_of old) maps (next_place m t) ≡ Some Skip) p.moved (q.skips p.count less)))
  | inr (inr more) ↦ absurd (stops_b (subst (λ (t : List (RingId × ℕ)). learned_at (rings_of old) maps (next_place m t) ≡ Some Skip) q.moved (p.skips q.count more)))
]

no_skip : (o : Option Value) (batch : List ℕ) → o ≡ Some (Batch batch) → o ≡ Some Skip → ⊥
no_skip o batch is other = absurd (cc)

no_value : (o : Option Value) → o ≡ None → o ≡ Some Skip → ⊥
no_value o is other = absurd (cc)

no_both : (o : Option Value) (batch : List ℕ) → o ≡ None → o ≡ Some (Batch batch) → ⊥
no_both o batch is other = absurd (cc)

pub one_merge : (m : ℕ → ℕ) (maps : List (List (ℕ × Value))) (old a b : List (RingId × ℕ)) (x y : Next) → Merges m maps old x a → Merges m maps old y b → (x ≡ y) × (a ≡ b)
one_merge m maps old a b (Deliver place) (Deliver other) p q =
    let same : p.stop ≡ q.stop = same_count m maps old p.stop q.stop p.finds.passes q.finds.passes
    (no_skip (learned_at (rings_of old) maps (next_place m p.stop)) p.finds.batch p.finds.holds) (no_skip (learned_at (rings_of old) maps (next_place m q.stop)) q.finds.batch q.finds.holds) in
    (ap (λ (l : Place). Deliver l) (sym p.finds.next ∙ ap (λ (t : List (RingId × ℕ)). place_of (next_place m t)) same ∙ q.finds.next), sym p.moved ∙ ap (λ (t : List (RingId × ℕ)). past m t) same ∙ q.moved)
one_merge m maps old a b (Deliver place) (Wait ring) p q =
    let same : p.stop ≡ b = same_count m maps old p.stop b p.finds.passes q.passes
    (no_skip (learned_at (rings_of old) maps (next_place m p.stop)) p.finds.batch p.finds.holds) (no_value (learned_at (rings_of old) maps (next_place m b)) q.bare) in
    absurd (no_both (learned_at (rings_of old) maps (next_place m b)) p.finds.batch q.bare (subst (λ (t : List (RingId × ℕ)). learned_at (rings_of old) maps (next_place m t) ≡ Some (Batch p.finds.batch)) same p.finds.holds))
one_merge m maps old a b (Wait ring) (Deliver place) p q =
    let same : q.stop ≡ a = same_count m maps old q.stop a q.finds.passes p.passes
    (no_skip (learned_at (rings_of old) maps (next_place m q.stop)) q.finds.batch q.finds.holds) (no_value (learned_at (rings_of old) maps (next_place m a)) p.bare) in
    absurd (no_both (learned_at (rings_of old) maps (next_place m a)) q.finds.batch p.bare (subst (λ (t : List (RingId × ℕ)). learned_at (rings_of old) maps (next_place m t) ≡ Some (Batch q.finds.batch)) same q.finds.holds))
one_merge m maps old a b (Wait ring) (Wait other) p q =
    let same : a ≡ b = same_count m maps old a b p.passes q.passes (no_value (learned_at (rings_of old) maps (next_place m a)) p.bare) (no_value (learned_at (rings_of old) maps (next_place m b)) q.bare) in
    (ap (λ (r : RingId). Wait r) (sym p.next ∙ ap (λ (t : List (RingId × ℕ)). (next_place m t).0) same ∙ q.next), same)
