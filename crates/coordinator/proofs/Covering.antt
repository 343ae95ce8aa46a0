-- Up to where a majority is covered.
use Rattle.std.proofs.Common.{◌≡◌, ℕ, ◌+◌, ◌/◌, length, subst, ◌<◌, ◌≤◌, ◌^◌, max, true, false, Bool, List, [], ◌∷◌, refl, sym, ◌∙◌, ap, arith}
use Rattle.std.specs.Prelude.{nat_le, count_by, if◌then◌else◌}
use Rattle.std.specs.List.{AllByRecursion}
use Rattle.range_map.proofs.SetLemmas.{le-true, le-false}
use Rattle.mrp_types.specs.declared.id.TheConstants.{END}
use Rattle.protocol.specs.Parts.{Ring, Campaign, Role, Active, Coordinator, Part}
use Rattle.protocol.specs.Ballots.{reached_by, covered_to, role_leads}
use Rattle.coordinator.specs.Standing.{Led, HasSeats, Leads}
use Rattle.coordinator.specs.Offers.{IsWithin}

pub one_reached : (needed count x reached rest total : ℕ) → needed ≤ count → max reached (max (if nat_le needed count then x else 0) rest) ≡ total → max (max reached x) rest ≡ total
one_reached needed count x reached rest total h is = let here : (if nat_le needed count then x else 0) ≡ x = rw (le-true needed count h) refl in omega arith

pub one_short : (needed count x reached rest total : ℕ) → count < needed → max reached (max (if nat_le needed count then x else 0) rest) ≡ total → max reached rest ≡ total
one_short needed count x reached rest total h is = let here : (if nat_le needed count then x else 0) ≡ 0 = rw (le-false needed count h) refl in omega arith

-- all are instances or the end of them, and so is the greatest that a majority reaches
pub reached_within : (needed : ℕ) (all xs : List ℕ) → AllByRecursion IsWithin xs → reached_by needed all xs ≤ 2 ^ 40
reached_within needed all [] each = omega arith
reached_within needed all (x ∷ xs) each = by (nat_le needed (count_by (λ y. nat_le x y) all)) (reached_within needed all xs each.1)
  where
    by : (b : Bool) → reached_by needed all xs ≤ 2 ^ 40 → max (if b then x else 0) (reached_by needed all xs) ≤ 2 ^ 40
    by true rest = let here = each.0 in omega arith
    by false rest = omega arith

-- a coordinator leads as its ring has it
pub leads_of : (ring : Ring) (led : Led) (part : Part) (campaign : Campaign) (leads : Bool) → Leads led ring part → led.table.role ≡ Active campaign
    → leads ≡ nat_le END (reached_by (length campaign.covered / 2 + 1) campaign.covered campaign.covered) → leads ≡ role_leads ring part.coordinator.role
unfolding covered_to
leads_of ring led part campaign leads stands role is =
    let same : length campaign.covered ≡ length ring.acceptors = subst (λ (r : Role). HasSeats ring r) role stands.seats in
    is ∙ ap (λ (n : ℕ). nat_le END (reached_by (n / 2 + 1) campaign.covered campaign.covered)) same
    ∙ ap (λ (r : Role). role_leads ring r) (sym (ap (λ (t : Coordinator). t.role) (sym stands.table) ∙ role))

pub reached_covered : (ring : Ring) (campaign : Campaign) (reached : ℕ) → length campaign.covered ≡ length ring.acceptors
    → reached ≡ reached_by (length campaign.covered / 2 + 1) campaign.covered campaign.covered → reached ≡ covered_to ring campaign.covered
unfolding covered_to
reached_covered ring campaign reached same is = is ∙ ap (λ (n : ℕ). reached_by (n / 2 + 1) campaign.covered campaign.covered) same
