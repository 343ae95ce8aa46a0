-- The rows of a coordinator's table, case by case.
use Rattle.std.proofs.Common.{◌≡◌, ℕ, zero, suc, ◌<◌, ◌≤◌, true, false, Bool, List, [], ◌++◌, length, refl, sym, ◌∙◌, ap, subst, arith, append_assoc, inl, inr}
use Rattle.std.specs.Prelude.{◌==◌, ◌&&◌, Option, Some, None, nat_lt, slice_index, if◌then◌else◌}
use Rattle.std.proofs.lemmas.Bool.{cases_lt}
use Rattle.std.proofs.lemmas.List.{append-nil}
use Rattle.std.proofs.lemmas.List.Quantifiers.{position-Some}
use Rattle.mrp_types.specs.declared.id.NodeId.{NodeId}
use Rattle.mrp_types.specs.declared.id.TheConstants.{END}
use Rattle.mrp_types.specs.declared.voted.Decided.{Decided}
use Rattle.range_map.proofs.EntryLemmas.{eq-true, eq-false, lt-true, lt-false}
use Rattle.vote_state.specs.declared.change.Change.{Change}
use Rattle.frames.specs.declared.sent.Sent.{Sent}
use Rattle.frames.specs.declared.body.Body.TheVariants.{Prepare}
use Rattle.ring_link.specs.Silence.{Link}
use Rattle.skip_leveller.specs.Levelling.{answer_of}
use Rattle.protocol.specs.Parts.{Ring, Campaign, Role, Idle, Active, Coordinator, Part, Effects}
use Rattle.protocol.specs.Rings.{position_of, sends, next_acceptor}
use Rattle.protocol.specs.Effects.{no_effects, with_campaign, with_part, with_frames}
use Rattle.protocol.specs.Ballots.{Page, with_page, asks_more, counts, reported, reported_at, role_leads}
use Rattle.protocol.specs.Proposing.{Choice, Rests, Offers, Turn, Stops, Proposes, choice, advanced, turn_by, turn_of, turn_in, offers, proposing, proposes_after, proposes, has_room}
use Rattle.protocol.specs.Leading.{prepares_again, accepts_again, resends_in, resends, with_tick_taken, shortfall_from, levels_by, levels_in, levels}
use Rattle.coordinator.specs.Standing.{Led, with_table, led_in, role_of, HasSeats, Leads, Makes}
use Rattle.coordinator.specs.Offers.{IsSeated, Made}
use Rattle.coordinator.proofs.Offering.{offers_part}

-- ---- the role as it is kept

abbrev pub led_with : ℕ → ℕ → ℕ → ℕ → Role → Led
led_with window lambda delta top role = record { window = window; lambda = lambda; delta = delta; table = record { top = top; role = role } }

pub same_led : (window lambda delta top : ℕ) (o p : Option Campaign) (led : Led) → o ≡ p → led_with window lambda delta top (role_of o) ≡ led → led_with window lambda delta top (role_of p) ≡ led
same_led window lambda delta top o p led is view = ap (λ (x : Option Campaign). led_with window lambda delta top (role_of x)) (sym is) ∙ view

pub role_is : (window lambda delta top : ℕ) (o p : Option Campaign) (led : Led) → o ≡ p → led_with window lambda delta top (role_of o) ≡ led → led.table.role ≡ role_of p
role_is window lambda delta top o p led is view = ap (λ (l : Led). l.table.role) (sym view) ∙ ap (λ (x : Option Campaign). role_of x) is

-- ---- Promise

module _ (ring : Ring) (part : Part) (led : Led) (from : NodeId) (page : Page) (campaign : Campaign) (position : ℕ) (stands : Leads led ring part) (role : led.table.role ≡ Active campaign) (seat : position_of ring from ≡ Some position) where
  abbrev row : Bool → Effects
  row b =
      if b then with_frames (asks_more ring from page) (with_part (with_campaign (with_page position (slice_index campaign.covered position) page campaign) part) (no_effects part))
      else no_effects part

  pub seat_in : position < length campaign.covered
  seat_in =
      let there = position-Some (λ (other : NodeId). other.0 == from.0) ring.acceptors position from seat in
      let same : length campaign.covered ≡ length ring.acceptors = subst (λ (r : Role). HasSeats ring r) role stands.seats in
      let within = there.0 in
      omega arith

  row_is : (b : Bool) → counts page campaign.ballot (slice_index campaign.covered position) ≡ b → reported ring from page (no_effects part) ≡ row b
  row_is b is =
      ap (λ (r : Role). reported_at ring from page r (position_of ring from) (no_effects part)) (ap (λ (t : Coordinator). t.role) (sym stands.table) ∙ role)
      ∙ ap (λ (o : Option ℕ). reported_at ring from page (Active campaign) o (no_effects part)) seat
      ∙ ap (λ (t : Bool). row t) is

  pub page_dropped : (kept : Led) (out : List Sent) → kept ≡ led → counts page campaign.ballot (slice_index campaign.covered position) ≡ false
      → (kept ≡ with_table (reported ring from page (no_effects part)).part.coordinator led) × (out ≡ out ++ (reported ring from page (no_effects part)).frames)
  page_dropped kept out same is = (
    same ∙ ap (λ (t : Coordinator). with_table t led) stands.table ∙ ap (λ (e : Effects). with_table e.part.coordinator led) (sym (row_is false is)),
    sym (append-nil out) ∙ ap (λ (e : Effects). out ++ e.frames) (sym (row_is false is)),
  )

  more_is : page.hi ≤ END → (if nat_lt page.hi END then sends ring (Some from) (Prepare ring.id page.ballot page.hi) else []) ≡ asks_more ring from page
  more_is end = elim (cases_lt page.hi END) [
    | inl under ↦
        ap (λ (b : Bool). if b then sends ring (Some from) (Prepare ring.id page.ballot page.hi) else []) (lt-true page.hi END under)
        ∙ ap (λ (b : Bool). if b then [] else sends ring (Some from) (Prepare ring.id page.ballot page.hi)) (sym (eq-false page.hi END (λ same. absurd (omega arith))))
    | inr at ↦
        ap (λ (b : Bool). if b then sends ring (Some from) (Prepare ring.id page.ballot page.hi) else []) (lt-false page.hi END at)
        ∙ ap (λ (b : Bool). if b then [] else sends ring (Some from) (Prepare ring.id page.ballot page.hi)) (sym (eq-true page.hi END (omega arith)))
  ]

  pub page_taken : (kept : Led) (next : Campaign) (out sent : List Sent) → kept ≡ led_in (Active next) led → next ≡ with_page position (slice_index campaign.covered position) page campaign → page.hi ≤ END
      → sent ≡ out ++ (if nat_lt page.hi END then sends ring (Some from) (Prepare ring.id page.ballot page.hi) else []) → counts page campaign.ballot (slice_index campaign.covered position) ≡ true
      → (kept ≡ with_table (reported ring from page (no_effects part)).part.coordinator led) × (sent ≡ out ++ (reported ring from page (no_effects part)).frames)
  page_taken kept next out sent same next_is end asked is = (
    same ∙ ap (λ (c : Campaign). led_in (Active c) led) next_is
        ∙ ap (λ (t : Coordinator). with_table (record t { role = Active (with_page position (slice_index campaign.covered position) page campaign) }) led) stands.table
        ∙ ap (λ (e : Effects). with_table e.part.coordinator led) (sym (row_is true is)),
    asked ∙ ap (λ (f : List Sent). out ++ f) (more_is end) ∙ ap (λ (e : Effects). out ++ e.frames) (sym (row_is true is)),
  )

-- ---- nothing

pub makes_nothing : (effects : Effects) (part : Part) (led kept : Led) (c : List Change) (f : List Sent) (l : List Decided) → effects ≡ no_effects part → led.table ≡ part.coordinator → kept ≡ led → Makes effects led kept c c f f l l
makes_nothing effects part led kept c f l is table same = record {
  table = same ∙ ap (λ (t : Coordinator). with_table t led) table ∙ ap (λ (e : Effects). with_table e.part.coordinator led) (sym is);
  added = record { changes = sym (append-nil c) ∙ ap (λ (e : Effects). c ++ e.changes) (sym is); frames = sym (append-nil f) ∙ ap (λ (e : Effects). f ++ e.frames) (sym is) };
  learned = sym (append-nil l) ∙ ap (λ (e : Effects). l ++ e.learned) (sym is);
}

module _ (ring : Ring) (link : Link) (part : Part) (led : Led) (stands : Leads led ring part) where
  pub part_role : (role : Role) → led.table.role ≡ role → part.coordinator.role ≡ role
  part_role role is = ap (λ (t : Coordinator). t.role) (sym stands.table) ∙ is

  ended : (n : ℕ) (effects : Effects) → proposing n ring link (Stops effects) ≡ effects
  unfolding proposing
  ended zero effects = refl
  ended (suc n) effects = refl

  pub idle_proposes : led.table.role ≡ Idle → proposes ring link part ≡ no_effects part
  unfolding proposes_after
  idle_proposes role = ap (λ (r : Role). proposing END ring link (turn_in ring (no_effects part) r)) (part_role Idle role) ∙ ended END (no_effects part)

  pub idle_levels : led.table.role ≡ Idle → levels ring link part ≡ no_effects part
  unfolding levels
  idle_levels role = ap (λ (r : Role). levels_in ring link part r) (part_role Idle role)

  pub rests_levels : (campaign : Campaign) (leads : Bool) → led.table.role ≡ Active campaign → leads ≡ role_leads ring part.coordinator.role → leads ≡ false → levels ring link part ≡ no_effects part
  unfolding levels
  rests_levels campaign leads role is none =
      ap (λ (r : Role). levels_in ring link part r) (part_role (Active campaign) role)
      ∙ ap (λ (b : Bool). if b then levels_by ring link part (with_tick_taken campaign) (answer_of campaign.leveller) else no_effects part)
      (ap (λ (r : Role). role_leads ring r) (sym (part_role (Active campaign) role)) ∙ sym is ∙ none)

  pub leads_levels : (campaign : Campaign) (leads : Bool) → led.table.role ≡ Active campaign → leads ≡ role_leads ring part.coordinator.role → leads ≡ true
      → levels_by ring link part (with_tick_taken campaign) (answer_of campaign.leveller) ≡ levels ring link part
  unfolding levels
  leads_levels campaign leads role is some =
      sym (ap (λ (r : Role). levels_in ring link part r) (part_role (Active campaign) role)
      ∙ ap (λ (b : Bool). if b then levels_by ring link part (with_tick_taken campaign) (answer_of campaign.leveller) else no_effects part)
      (ap (λ (r : Role). role_leads ring r) (sym (part_role (Active campaign) role)) ∙ sym is ∙ some))

  -- ---- what is sent again

  pub idle_resends : (out : List Sent) → led.table.role ≡ Idle → out ≡ out ++ (resends ring link part).frames
  unfolding resends
  idle_resends out role = sym (append-nil out) ∙ ap (λ (r : Role). out ++ (resends_in ring link part r).frames) (sym (part_role Idle role))

  pub all_resent : (campaign : Campaign) (trim first_ballot then_ballot : ℕ) (covered : List ℕ) (outstanding : List Decided) (out first second : List Sent) → led.table.role ≡ Active campaign → part.kept.trim ≡ trim
      → first_ballot ≡ campaign.ballot → then_ballot ≡ campaign.ballot → covered ≡ campaign.covered → outstanding ≡ campaign.outstanding
      → first ≡ out ++ prepares_again ring first_ballot ring.acceptors covered → second ≡ first ++ accepts_again ring (next_acceptor ring link) then_ballot trim outstanding
      → second ≡ out ++ (resends ring link part).frames
  unfolding resends
  all_resent campaign trim first_ballot then_ballot covered outstanding out first second role trimmed first_is then_is covered_is outstanding_is asked again =
      again ∙ ap (λ (f : List Sent). f ++ accepts_again ring (next_acceptor ring link) then_ballot trim outstanding) asked
      ∙ append_assoc out (prepares_again ring first_ballot ring.acceptors covered) (accepts_again ring (next_acceptor ring link) then_ballot trim outstanding)
      ∙ ap (λ (n : ℕ). out ++ (prepares_again ring n ring.acceptors covered ++ accepts_again ring (next_acceptor ring link) then_ballot trim outstanding)) first_is
      ∙ ap (λ (cs : List ℕ). out ++ (prepares_again ring campaign.ballot ring.acceptors cs ++ accepts_again ring (next_acceptor ring link) then_ballot trim outstanding)) covered_is
      ∙ ap (λ (n : ℕ). out ++ (prepares_again ring campaign.ballot ring.acceptors campaign.covered ++ accepts_again ring (next_acceptor ring link) n trim outstanding)) then_is
      ∙ ap (λ (rs : List Decided). out ++ (prepares_again ring campaign.ballot ring.acceptors campaign.covered ++ accepts_again ring (next_acceptor ring link) campaign.ballot trim rs)) outstanding_is
      ∙ ap (λ (t : ℕ). out ++ (prepares_again ring campaign.ballot ring.acceptors campaign.covered ++ accepts_again ring (next_acceptor ring link) campaign.ballot t campaign.outstanding)) (sym trimmed)
      ∙ ap (λ (r : Role). out ++ (resends_in ring link part r).frames) (sym (part_role (Active campaign) role))

  pub seated : (window : ℕ) (campaign : Campaign) → led.table.role ≡ Active campaign → window ≡ led.window → IsSeated ring window campaign
  seated window campaign role is = record { room = is ∙ stands.window; seats = subst (λ (r : Role). HasSeats ring r) role stands.seats }

-- ---- the greatest refusal stays

module _ (ring : Ring) (link : Link) where
  abbrev turn_top : Turn → ℕ
  turn_top (Stops effects) = effects.part.coordinator.top
  turn_top (Proposes campaign range taken effects) = effects.part.coordinator.top

  same_top : (effects : Effects) → turn_top (turn_of ring effects) ≡ effects.part.coordinator.top
  same_top effects = by effects.part.coordinator.role
    where
      by_choice : (campaign : Campaign) (c : Choice) → turn_top (turn_by effects campaign c) ≡ effects.part.coordinator.top
      by_choice campaign Rests = refl
      by_choice campaign (Offers range taken) = refl

      by : (role : Role) → turn_top (turn_in ring effects role) ≡ effects.part.coordinator.top
      by Idle = refl
      by (Active campaign) = by_choice (advanced effects.part campaign) (choice ring (advanced effects.part campaign) effects.part.learner.held)

  proposing_top : (n : ℕ) (turn : Turn) → (proposing n ring link turn).part.coordinator.top ≡ turn_top turn
  unfolding proposing
  proposing_top zero (Stops effects) = refl
  proposing_top zero (Proposes campaign range taken effects) = refl
  proposing_top (suc n) (Stops effects) = refl
  proposing_top (suc n) (Proposes campaign range taken effects) =
      proposing_top n (turn_of ring (offers ring link campaign range taken effects))
      ∙ same_top (offers ring link campaign range taken effects)
      ∙ ap (λ (p : Part). p.coordinator.top) (offers_part ring link campaign range taken effects)

  after_top : (effects : Effects) → (proposes_after ring link effects).part.coordinator.top ≡ effects.part.coordinator.top
  unfolding proposes_after
  after_top effects = proposing_top END (turn_of ring effects) ∙ same_top effects

  pub proposes_top : (part : Part) → (proposes ring link part).part.coordinator.top ≡ part.coordinator.top
  proposes_top part = after_top (no_effects part)

  pub levels_top : (part : Part) (campaign : Campaign) (answer : Option ℕ) → (levels_by ring link part campaign answer).part.coordinator.top ≡ part.coordinator.top
  levels_top part campaign None = refl
  levels_top part campaign (Some missing) = by (has_room ring campaign && nat_lt campaign.next END)
    where
      by : (b : Bool)
          → (if b then proposes_after ring link (offers ring link campaign (shortfall_from campaign.next missing) 0 (no_effects part)) else no_effects (with_campaign campaign part)).part.coordinator.top
          ≡ part.coordinator.top
      by true =
          after_top (offers ring link campaign (shortfall_from campaign.next missing) 0 (no_effects part))
          ∙ ap (λ (p : Part). p.coordinator.top) (offers_part ring link campaign (shortfall_from campaign.next missing) 0 (no_effects part))
      by false = refl

-- what was made, with the coordinator's table
pub makes_of : (effects : Effects) (part : Part) (led kept : Led) (next : Campaign) (cb c : List Change) (fb f : List Sent) (lb l : List Decided) → led.table ≡ part.coordinator → effects.part.coordinator.top ≡ part.coordinator.top
    → kept ≡ led_in (Active next) led → Made effects next cb c fb f lb l → Makes effects led kept cb c fb f lb l
makes_of effects part led kept next cb c fb f lb l table top same made = record {
  table =
      same ∙ ap (λ (n : ℕ). with_table (record { top = n; role = Active next }) led) (ap (λ (t : Coordinator). t.top) table ∙ sym top)
      ∙ ap (λ (r : Role). with_table (record { top = effects.part.coordinator.top; role = r }) led) (sym made.role);
  added = made.behind.added;
  learned = made.behind.learned;
}

pub same_table : (effects other : Effects) (led kept : Led) (cb c : List Change) (fb f : List Sent) (lb l : List Decided) → effects ≡ other → Makes effects led kept cb c fb f lb l → Makes other led kept cb c fb f lb l
same_table effects other led kept cb c fb f lb l is makes = subst (λ (e : Effects). Makes e led kept cb c fb f lb l) is makes
