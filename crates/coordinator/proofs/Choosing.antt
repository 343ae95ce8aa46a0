-- What is proposed next, case by case, as the code finds it.
use Rattle.std.proofs.Common.{◌≡◌, ℕ, suc, ◌+◌, ◌/◌, ◌<◌, ◌≤◌, min, true, false, Bool, ◌&&◌, ◌||◌, List, [], ◌∷◌, length, map, refl, sym, ◌∙◌, ap, arith}
use Rattle.std.specs.Prelude.{Option, Some, None, nat_le, nat_lt, not, if◌then◌else◌}
use Rattle.mrp_types.specs.declared.id.NodeId.{NodeId}
use Rattle.mrp_types.specs.declared.id.TheConstants.{END}
use Rattle.mrp_types.specs.declared.value.Value.{Value}
use Rattle.mrp_types.specs.declared.value.Value.TheVariants.{Skip, Batch}
use Rattle.mrp_types.specs.declared.voted.Decided.{Decided}
use Rattle.range_map.specs.Entries.{value_at, IsIncreasingFrom}
use Rattle.range_map.proofs.EntryLemmas.{lt-true, lt-false}
use Rattle.protocol.specs.Parts.{Ring, Campaign}
use Rattle.protocol.specs.Ballots.{covered_to, reached_by}
use Rattle.protocol.specs.Proposing.{due_by, due_at, reported_to, gaps_to, run_within, Choice, Rests, Offers, choice_of, choice, has_room}
use Rattle.protocol.proofs.OfferLemmas.{choice_offer}
use Rattle.ring_learner.specs.Filled.{AreLearned}
use Rattle.coordinator.specs.Offers.{IsSeated, end_of}
use Rattle.coordinator.proofs.Covering.{reached_covered}

module _ (ring : Ring) (window : ℕ) (campaign : Campaign) (held : List (ℕ × Value)) (seated : IsSeated ring window campaign) where
  room : has_room ring campaign ≡ nat_lt (length campaign.outstanding) window
  room = ap (λ (n : ℕ). nat_lt (length campaign.outstanding) n) (sym seated.room)

  abbrev by_tests : Bool → Bool → Choice
  by_tests free under = if free && under then choice_of ring campaign held (due_at ring campaign campaign.next) else Rests

  pub rests_full : (has : Bool) → has ≡ nat_lt (length campaign.outstanding) window → has ≡ false → Rests ≡ choice ring campaign held
  rests_full has is none = sym (ap (λ (b : Bool). by_tests b (nat_lt campaign.next (covered_to ring campaign.covered))) (room ∙ sym is ∙ none))

  module _ (reached : ℕ) (reached_is : reached ≡ reached_by (length campaign.covered / 2 + 1) campaign.covered campaign.covered) where
    same : reached ≡ covered_to ring campaign.covered
    same = reached_covered ring campaign reached seated.seats reached_is

    pub rests_short : reached ≤ campaign.next → Rests ≡ choice ring campaign held
    rests_short short = sym (ap (λ (b : Bool). by_tests (has_room ring campaign) b) (ap (λ (n : ℕ). nat_lt campaign.next n) (sym same) ∙ lt-false campaign.next reached short) ∙ none (has_room ring campaign))
      where
        none : (b : Bool) → by_tests b false ≡ Rests
        none true = refl
        none false = refl

    pub chosen_by : (has : Bool) (due : Option Value) → has ≡ nat_lt (length campaign.outstanding) window → has ≡ true → campaign.next < reached
        → due ≡ due_by (value_at campaign.next campaign.reports) (not (nat_le END reached) || nat_lt (suc campaign.next) (reported_to campaign.reports))
        → choice_of ring campaign held due ≡ choice ring campaign held
    chosen_by has due is free under due_is =
        ap (λ (d : Option Value). choice_of ring campaign held d)
        (due_is ∙ ap (λ (n : ℕ). due_by (value_at campaign.next campaign.reports) (not (nat_le END n) || nat_lt (suc campaign.next) (reported_to campaign.reports))) same)
        ∙ sym (ap (λ (b : Bool). by_tests b (nat_lt campaign.next (covered_to ring campaign.covered))) (room ∙ sym is ∙ free)
        ∙ ap (λ (b : Bool). by_tests true b) (ap (λ (n : ℕ). nat_lt campaign.next n) (sym same) ∙ lt-true campaign.next reached under))

    pub offer_chosen : (value : Value) (range : Decided) (taken : ℕ) → range.value ≡ value → range.lo ≡ campaign.next → taken ≡ 0
        → range.hi ≡ end_of campaign.next (run_within campaign.next (min (campaign.next + 65536) (gaps_to (nat_le END reached) (reported_to campaign.reports) reached)) campaign held) value
        → Offers range taken ≡ choice_of ring campaign held (Some value)
    offer_chosen value range taken value_is begin none end =
        ap (λ (n : ℕ). Offers range n) none
        ∙ ap (λ (r : Decided). Offers r 0) (same_range range campaign.next (end_of campaign.next (run_within campaign.next (min (campaign.next + 65536) (gaps_to (nat_le END reached) (reported_to campaign.reports) reached)) campaign held) value) value begin end value_is)
        ∙ ap (λ (n : ℕ). Offers (record { lo = campaign.next; hi = end_of campaign.next (run_within campaign.next (min (campaign.next + 65536) (gaps_to (nat_le END n) (reported_to campaign.reports) n)) campaign held) value; value = value }) 0) same
        ∙ by value
      where
        same_range : (r : Decided) (lo hi : ℕ) (v : Value) → r.lo ≡ lo → r.hi ≡ hi → r.value ≡ v → r ≡ record { lo = lo; hi = hi; value = v }
        same_range r lo hi v a b e =
            ap (λ (x : ℕ). let s : Decided = record { lo = x; hi = r.hi; value = r.value } in s) a
            ∙ ap (λ (x : ℕ). let s : Decided = record { lo = lo; hi = x; value = r.value } in s) b
            ∙ ap (λ (x : Value). let s : Decided = record { lo = lo; hi = hi; value = x } in s) e

        by : (v : Value) → Offers (record { lo = campaign.next; hi = end_of campaign.next (run_within campaign.next (min (campaign.next + 65536) (gaps_to (nat_le END (covered_to ring campaign.covered)) (reported_to campaign.reports) (covered_to ring campaign.covered))) campaign held) v; value = v }) 0
            ≡ choice_of ring campaign held (Some v)
        by Skip = refl
        by (Batch batch) = refl

-- a ring in which the campaign is seated: what is chosen begins below where a majority is covered, and passes an instance
abbrev some_ring : ℕ → Campaign → Ring
some_ring window campaign = record {
  id = record { 0 = 0 };
  own = record { 0 = 0 };
  acceptors = map (λ (n : ℕ). let node : NodeId = record { 0 = n } in node) campaign.covered;
  members = [];
  subscribers = [];
  window = window;
  lambda = 0;
  delta = 0;
}

all_seats : (xs : List ℕ) → length xs ≡ length (map (λ (n : ℕ). let node : NodeId = record { 0 = n } in node) xs)
all_seats [] = refl
all_seats (x ∷ xs) = ap (λ (n : ℕ). suc n) (all_seats xs)

seats_there : (window : ℕ) (campaign : Campaign) → IsSeated (some_ring window campaign) window campaign
seats_there window campaign = record { room = refl; seats = all_seats campaign.covered }

pub chosen_passes : (window : ℕ) (campaign : Campaign) (held : List (ℕ × Value)) (range : Decided) (taken : ℕ) → IsIncreasingFrom 0 campaign.reports → AreLearned held → value_at campaign.next held ≡ None
    → ((ring : Ring) → IsSeated ring window campaign → Offers range taken ≡ choice ring campaign held) → campaign.next < range.hi
chosen_passes window campaign held range taken ordered are unlearned chosen =
    let is = choice_offer (some_ring window campaign) campaign held ordered are.ordered unlearned range taken (sym (chosen (some_ring window campaign) (seats_there window campaign))) in
    let begins = is.begins in
    let some = is.some in
    omega arith
