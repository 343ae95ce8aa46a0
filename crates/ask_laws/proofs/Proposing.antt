-- A coordinator proposes what was reported, Skip, or a batch of commands that wait.
use Rattle.std.proofs.Common.{◌≤◌, ℕ, zero, suc, ◌-◌, ◌*◌, Bool, true, false, ◌&&◌, ◌||◌, List, [], ◌∷◌, ◌++◌, length, Option, Some, None, refl, arith, length-append}
use Rattle.std.specs.Prelude.{nat_lt, nat_le, not, if◌then◌else◌}
use Rattle.std.specs.List.{AllByRecursion, flat_map, sum_by}
use Rattle.std.proofs.lemmas.List.Concat.{length-flat_map}
use Rattle.std.proofs.lemmas.List.Sums.{sum_by-cons}
use Rattle.mrp_types.specs.declared.id.TheConstants.{END}
use Rattle.mrp_types.specs.declared.value.Entry.{Entry}
use Rattle.mrp_types.specs.declared.value.Value.{Value}
use Rattle.mrp_types.specs.declared.value.Value.TheVariants.{Skip, Batch}
use Rattle.mrp_types.specs.declared.voted.Decided.{Decided}
use Rattle.mrp_types.specs.Entries.{IsEntry}
use Rattle.command_codec.specs.Fields.{u16_bytes}
use Rattle.command_codec.specs.Spelling.{entry_bytes, batch_bytes}
use Rattle.command_codec.proofs.Sizes.{length-u16_bytes, length-entry_bytes}
use Rattle.range_map.specs.Entries.{value_at}
use Rattle.vote_state.specs.declared.cast.Cast.{Cast}
use Rattle.ring_link.specs.Silence.{Link}
use Rattle.plain_model.proofs.Pages.{front-longest}
use Rattle.protocol.specs.Parts.{Ring, Pending, Campaign, Role, Idle, Active, Effects}
use Rattle.protocol.specs.Effects.{with_part, with_campaign}
use Rattle.protocol.specs.Acceptor.{votes_for}
use Rattle.protocol.specs.Ballots.{covered_to, leads_now}
use Rattle.protocol.specs.Proposing.{reported_to, due_by, due_at, unproposed, entry_size, fresh_entries, as_proposed, with_proposed, Choice, Rests, Offers, fresh_choice, choice_of, has_room, choice, advanced, own_mask, with_outstanding, after_offer, vote_of, offers, Turn, Stops, Proposes, turn_by, turn_in, turn_of, proposing, proposes_after}
use Rattle.ask_laws.specs.Carried.{BatchCarries, ValueCarries, RangesCarry, CampaignCarries, RoleCarries, EffectsCarry}
use Rattle.ask_laws.proofs.Lists.{mapped, appended, fronted, OrNone, found_at}
use Rattle.ask_laws.proofs.Acceptor.{part_made, votes_made, decides_or_forwards_made}

many_entries : (es : List Entry) → length es * 11 ≤ sum_by entry_size es
many_entries [] = omega arith
many_entries (e ∷ es) = omega (arith, sum_by-cons entry_size e es, length-entry_bytes e, many_entries es)

module _ (Is : ℕ → Entry → Type 0) (Valid : Type 0) (valid : (r : ℕ) (e : Entry) → Is r e → IsEntry e) where
  module _ (ring : Ring) where
    -- ---- a fresh batch

    unproposed_all : (pending : List Pending) → AllByRecursion (λ (p : Pending). Is ring.id.0 p.entry) pending → AllByRecursion (Is ring.id.0) (unproposed pending)
    unproposed_all [] all = tt
    unproposed_all (p ∷ pending) all = by p.proposed (unproposed_all pending all.1)
      where
        by : (t : Bool) → AllByRecursion (Is ring.id.0) (unproposed pending) → AllByRecursion (Is ring.id.0) (if t then unproposed pending else p.entry ∷ unproposed pending)
        by true later = later
        by false later = (all.0, later)

    -- a fresh batch is the spelling of its entries
    batch_carries : (e : Entry) (es : List Entry) → AllByRecursion (Is ring.id.0) (e ∷ es) → sum_by entry_size (e ∷ es) ≤ 8192 - 3 → BatchCarries Is ring.id.0 (batch_bytes (e ∷ es))
    batch_carries e es all fits = record {
      entries = e ∷ es;
      spelled = refl;
      valid = record {
        some = omega arith;
        few = omega (arith, fits, many_entries (e ∷ es));
        each = mapped (Is ring.id.0) IsEntry (valid ring.id.0) (e ∷ es) all;
        short = omega (
          arith,
          fits,
          length-append (u16_bytes (length (e ∷ es))) (flat_map entry_bytes (e ∷ es)),
          length-u16_bytes (length (e ∷ es)),
          length-flat_map entry_bytes (e ∷ es),
        );
      };
      each = all;
    }

    abbrev ChoiceCarries : Choice → Type 0
    ChoiceCarries Rests = Unit {0}
    ChoiceCarries (Offers range taken) = ValueCarries Is ring.id.0 range.value

    fresh_carries : (next : ℕ) (pending : List Pending) → AllByRecursion (λ (p : Pending). Is ring.id.0 p.entry) pending → ChoiceCarries (fresh_choice next (fresh_entries pending))
    fresh_carries next pending all =
        by (fresh_entries pending) (fronted (Is ring.id.0) entry_size (8192 - 3) (unproposed pending) (unproposed_all pending all)) (front-longest entry_size (8192 - 3) (unproposed pending)).fits
      where
        by : (es : List Entry) → AllByRecursion (Is ring.id.0) es → sum_by entry_size es ≤ 8192 - 3 → ChoiceCarries (fresh_choice next es)
        by [] each fits = tt
        by (e ∷ es) each fits = batch_carries e es each fits

    -- ---- what is chosen

    abbrev ValueOrNone : Option Value → Type 0
    ValueOrNone None = Unit {0}
    ValueOrNone (Some value) = ValueCarries Is ring.id.0 value

    due_carries : (o : Option Cast) (gap : Bool) → OrNone (λ (c : Cast). ValueCarries Is ring.id.0 c.value) o → ValueOrNone (due_by o gap)
    due_carries (Some cast) gap is = is
    due_carries None true is = tt
    due_carries None false is = tt

    chosen_carries : (campaign : Campaign) (held : List (ℕ × Value)) (o : Option Value) → CampaignCarries Is ring.id.0 campaign → ValueOrNone o → ChoiceCarries (choice_of ring campaign held o)
    chosen_carries campaign held (Some (Batch batch)) c is = is
    chosen_carries campaign held (Some Skip) c is = tt
    chosen_carries campaign held None c is = fresh_carries campaign.next campaign.pending c.pending

    choice_carries : (campaign : Campaign) (held : List (ℕ × Value)) → CampaignCarries Is ring.id.0 campaign → ChoiceCarries (choice ring campaign held)
    choice_carries campaign held c = by (has_room ring campaign && nat_lt campaign.next (covered_to ring campaign.covered))
      where
        by : (t : Bool) → ChoiceCarries (if t then choice_of ring campaign held (due_at ring campaign campaign.next) else Rests)
        by true = chosen_carries campaign held (due_at ring campaign campaign.next) c
            (due_carries (value_at campaign.next campaign.reports) (not (leads_now ring campaign) || nat_lt (suc campaign.next) (reported_to campaign.reports))
            (found_at (λ (x : Cast). ValueCarries Is ring.id.0 x.value) campaign.next campaign.reports c.reports))
        by false = tt

    -- ---- a proposal

    proposed_all : (count : ℕ) (pending : List Pending) → AllByRecursion (λ (p : Pending). Is ring.id.0 p.entry) pending
        → AllByRecursion (λ (p : Pending). Is ring.id.0 p.entry) (with_proposed count pending)
    proposed_all zero [] all = tt
    proposed_all (suc count) [] all = tt
    proposed_all zero (p ∷ pending) all = all
    proposed_all (suc count) (p ∷ pending) all = by p.proposed (proposed_all (suc count) pending all.1) (proposed_all count pending all.1)
      where
        by : (t : Bool) → AllByRecursion (λ (q : Pending). Is ring.id.0 q.entry) (with_proposed (suc count) pending) → AllByRecursion (λ (q : Pending). Is ring.id.0 q.entry) (with_proposed count pending)
            → AllByRecursion (λ (q : Pending). Is ring.id.0 q.entry) (if t then p ∷ with_proposed (suc count) pending else as_proposed p ∷ with_proposed count pending)
        by true more less = (all.0, more)
        by false more less = (all.0, less)

    outstanding_all : (range : Decided) (outstanding : List Decided) → ValueCarries Is ring.id.0 range.value → RangesCarry Is ring.id.0 outstanding
        → RangesCarry Is ring.id.0 (with_outstanding ring range outstanding)
    outstanding_all range outstanding is all = by (nat_le (length ring.acceptors) 1)
      where
        by : (t : Bool) → RangesCarry Is ring.id.0 (if t then outstanding else outstanding ++ range ∷ [])
        by true = all
        by false = appended (λ (d : Decided). ValueCarries Is ring.id.0 d.value) outstanding (range ∷ []) all (is, tt)

    pub offers_made : (link : Link) (campaign : Campaign) (range : Decided) (taken : ℕ) (effects : Effects) → CampaignCarries Is ring.id.0 campaign → ValueCarries Is ring.id.0 range.value
        → EffectsCarry Is Valid ring.id.0 effects → EffectsCarry Is Valid ring.id.0 (offers ring link campaign range taken effects)
    unfolding offers
    offers_made link campaign range taken effects c is m =
        let now : Effects = with_part (with_campaign (after_offer ring range taken campaign) effects.part) effects in
        decides_or_forwards_made Is Valid ring link (own_mask ring) (vote_of campaign.ballot range) (votes_for ring (vote_of campaign.ballot range) now) is
        (votes_made Is Valid ring (vote_of campaign.ballot range) now is
        (part_made Is Valid ring (with_campaign (after_offer ring range taken campaign) effects.part) effects
        (record {
          votes = m.part.votes;
          role = record { reports = c.reports; outstanding = outstanding_all range campaign.outstanding is c.outstanding; pending = proposed_all taken campaign.pending c.pending };
          held = m.part.held;
        }) m))

    -- ---- one after another

    abbrev TurnCarries : Turn → Type 0
    TurnCarries (Stops effects) = EffectsCarry Is Valid ring.id.0 effects
    TurnCarries (Proposes campaign range taken effects) = CampaignCarries Is ring.id.0 campaign × ValueCarries Is ring.id.0 range.value × EffectsCarry Is Valid ring.id.0 effects

    turn_carries : (effects : Effects) → EffectsCarry Is Valid ring.id.0 effects → TurnCarries (turn_of ring effects)
    turn_carries effects m = by_role effects.part.coordinator.role m.part.role
      where
        by_choice : (campaign : Campaign) → CampaignCarries Is ring.id.0 campaign → (x : Choice) → ChoiceCarries x → TurnCarries (turn_by effects campaign x)
        by_choice campaign c Rests is = part_made Is Valid ring (with_campaign campaign effects.part) effects (record { votes = m.part.votes; role = c; held = m.part.held }) m
        by_choice campaign c (Offers range taken) is = (c, is, m)

        by_role : (role : Role) → RoleCarries Is ring.id.0 role → TurnCarries (turn_in ring effects role)
        by_role Idle is = m
        by_role (Active campaign) is =
            let c : CampaignCarries Is ring.id.0 (advanced effects.part campaign) = record { reports = is.reports; outstanding = is.outstanding; pending = is.pending } in
            by_choice (advanced effects.part campaign) c (choice ring (advanced effects.part campaign) effects.part.learner.held) (choice_carries (advanced effects.part campaign) effects.part.learner.held c)

    proposing_made : (n : ℕ) (link : Link) (turn : Turn) → TurnCarries turn → EffectsCarry Is Valid ring.id.0 (proposing n ring link turn)
    unfolding proposing
    proposing_made zero link (Stops effects) t = t
    proposing_made zero link (Proposes campaign range taken effects) t = t.2
    proposing_made (suc n) link (Stops effects) t = t
    proposing_made (suc n) link (Proposes campaign range taken effects) t =
        proposing_made n link (turn_of ring (offers ring link campaign range taken effects))
        (turn_carries (offers ring link campaign range taken effects) (offers_made link campaign range taken effects t.0 t.1 t.2))

    pub proposes_made : (link : Link) (effects : Effects) → EffectsCarry Is Valid ring.id.0 effects → EffectsCarry Is Valid ring.id.0 (proposes_after ring link effects)
    unfolding proposes_after
    proposes_made link effects m = proposing_made END link (turn_of ring effects) (turn_carries effects m)
