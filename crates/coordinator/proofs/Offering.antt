-- Proposals one after another: what one adds, and where they end.
use Rattle.std.proofs.Common.{◌≡◌, ℕ, zero, suc, ◌+◌, ◌/◌, ◌<◌, ◌≤◌, max, true, false, Bool, List, [], ◌∷◌, ◌++◌, length, refl, sym, ◌∙◌, ap, subst, arith, append_assoc}
use Rattle.std.specs.Prelude.{◌&&◌, min, Option, Some, nat_le, nat_lt, count_ones, if◌then◌else◌}
use Rattle.std.proofs.lemmas.List.{append-nil}
use Rattle.mrp_types.specs.declared.id.TheConstants.{END}
use Rattle.mrp_types.specs.declared.id.RingId.{RingId}
use Rattle.mrp_types.specs.declared.value.Value.{Value}
use Rattle.mrp_types.specs.declared.voted.Voted.{Voted}
use Rattle.mrp_types.specs.declared.voted.Decided.{Decided}
use Rattle.vote_state.specs.declared.change.Change.{Change}
use Rattle.vote_state.specs.declared.change.Change.TheVariants.{Vote}
use Rattle.vote_state.specs.State.{with_vote}
use Rattle.frames.specs.declared.sent.Sent.{Sent}
use Rattle.ring_link.specs.Silence.{Link}
use Rattle.protocol.specs.Parts.{Ring, Pending, Campaign, Role, Active, Part, Effects}
use Rattle.frames.specs.declared.body.Body.TheVariants.{Accept}
use Rattle.protocol.specs.Rings.{sends, next_acceptor}
use Rattle.protocol.specs.Effects.{with_kept, with_campaign, with_part, with_frames, no_effects}
use Rattle.protocol.specs.Learner.{decided_of, first_gap}
use Rattle.protocol.specs.Acceptor.{votes_for, decides, decides_or_forwards}
use Rattle.vote_state.specs.declared.cast.Cast.{Cast}
use Rattle.mrp_types.specs.declared.value.Value.TheVariants.{Skip}
use Rattle.range_map.proofs.EntryLemmas.{lt-true}
use Rattle.skip_leveller.specs.Levelling.{Levelling, with_tick, answer_of}
use Rattle.protocol.specs.Leading.{with_tick_taken, shortfall_from, levels_by}
use Rattle.protocol.specs.Proposing.{has_room, Choice, Rests, Offers, choice, own_mask, after_offer, vote_of, offers, Turn, Stops, Proposes, turn_by, turn_of, turn_in, proposing, proposes_after}
use Rattle.ring_view.specs.Views.{where_decided}
use Rattle.ring_view.proofs.ViewLemmas.{onward_changes, onward_frames, onward_learned}
use Rattle.coordinator.specs.Offers.{IsSeated, Behind, Made}

-- ---- one proposal

module _ (ring : Ring) (link : Link) (campaign : Campaign) (range : Decided) (taken : ℕ) (effects : Effects) where
  abbrev vote : Voted
  vote = vote_of campaign.ballot range

  abbrev voted : Effects
  voted = votes_for ring vote (with_part (with_campaign (after_offer ring range taken campaign) effects.part) effects)

  onward_part : (mask : ℕ) (v : Voted) (e : Effects) → (decides_or_forwards ring link mask v e).part ≡ e.part
  onward_part mask v e = by (nat_le (length ring.acceptors / 2 + 1) (count_ones mask))
    where
      by : (b : Bool) → (if b then decides ring link (decided_of v) e else with_frames (sends ring (next_acceptor ring link) (Accept ring.id v.ballot v.lo v.hi mask v.value)) e).part ≡ e.part
      by true = refl
      by false = refl

  pub offers_part : (offers ring link campaign range taken effects).part ≡ with_kept (with_vote vote effects.part.kept) (with_campaign (after_offer ring range taken campaign) effects.part)
  unfolding offers
  offers_part = onward_part (own_mask ring) vote voted

  offers_changes : (offers ring link campaign range taken effects).changes ≡ effects.changes ++ Vote ring.id vote ∷ []
  unfolding offers
  offers_changes = onward_changes ring link (own_mask ring) vote voted effects.part

  offers_frames : (offers ring link campaign range taken effects).frames ≡ effects.frames ++ (decides_or_forwards ring link (own_mask ring) vote (no_effects effects.part)).frames
  unfolding offers
  offers_frames = onward_frames ring link (own_mask ring) vote voted effects.part

  offers_learned : (offers ring link campaign range taken effects).learned ≡ effects.learned ++ (decides_or_forwards ring link (own_mask ring) vote (no_effects effects.part)).learned
  unfolding offers
  offers_learned = onward_learned ring link (own_mask ring) vote voted effects.part

  pub one_offered : (next : Campaign) (id : RingId) (mask : ℕ) (own recorded : Voted) (cb c d : List Change) (fb f g : List Sent) (lb l m : List Decided) (decided : Bool)
      → id ≡ ring.id → mask ≡ own_mask ring → own ≡ vote → recorded ≡ vote → next ≡ after_offer ring range taken campaign → Behind effects cb c fb f lb l
      → d ≡ c ++ Vote id recorded ∷ [] → g ≡ f ++ (decides_or_forwards ring link mask own (no_effects effects.part)).frames
      → (decides_or_forwards ring link mask own (no_effects effects.part)).learned ≡ where_decided decided (decided_of own) → m ≡ l ++ where_decided decided range
      → Made (offers ring link campaign range taken effects) next cb d fb g lb m
  one_offered next id mask own recorded cb c d fb f g lb l m decided id_is mask_is own_is recorded_is next_is behind changed sent told taken_in = record {
    role = ap (λ (p : Part). p.coordinator.role) offers_part ∙ ap (λ (x : Campaign). Active x) (sym next_is);
    behind = record {
      added = record {
        changes = changed ∙ ap (λ (cs : List Change). cs ++ Vote id recorded ∷ []) behind.added.changes ∙ append_assoc cb effects.changes (Vote id recorded ∷ [])
            ∙ ap (λ (i : RingId). cb ++ (effects.changes ++ Vote i recorded ∷ [])) id_is ∙ ap (λ (v : Voted). cb ++ (effects.changes ++ Vote ring.id v ∷ [])) recorded_is
            ∙ ap (λ (cs : List Change). cb ++ cs) (sym offers_changes);
        frames = sent ∙ ap (λ (fs : List Sent). fs ++ (decides_or_forwards ring link mask own (no_effects effects.part)).frames) behind.added.frames
            ∙ append_assoc fb effects.frames (decides_or_forwards ring link mask own (no_effects effects.part)).frames
            ∙ ap (λ (x : ℕ). fb ++ (effects.frames ++ (decides_or_forwards ring link x own (no_effects effects.part)).frames)) mask_is
            ∙ ap (λ (v : Voted). fb ++ (effects.frames ++ (decides_or_forwards ring link (own_mask ring) v (no_effects effects.part)).frames)) own_is
            ∙ ap (λ (fs : List Sent). fb ++ fs) (sym offers_frames);
      };
      learned = taken_in ∙ ap (λ (ds : List Decided). ds ++ where_decided decided range) behind.learned ∙ append_assoc lb effects.learned (where_decided decided range)
          ∙ ap (λ (v : Voted). lb ++ (effects.learned ++ where_decided decided (decided_of v))) (sym own_is)
          ∙ ap (λ (ds : List Decided). lb ++ (effects.learned ++ ds)) (sym told)
          ∙ ap (λ (x : ℕ). lb ++ (effects.learned ++ (decides_or_forwards ring link x own (no_effects effects.part)).learned)) mask_is
          ∙ ap (λ (v : Voted). lb ++ (effects.learned ++ (decides_or_forwards ring link (own_mask ring) v (no_effects effects.part)).learned)) own_is
          ∙ ap (λ (ds : List Decided). lb ++ ds) (sym offers_learned);
    };
  }

-- ---- one after another

-- What was proposed so far leads to all that is proposed, `total`; the campaign stands where nothing is learned. Each
-- proposal to come passes an instance at least, so that there are at most as many as `fuel`.
pub record Goes (ring : Ring) (link : Link) (total : Effects) (trim : ℕ) (held : List (ℕ × Value)) (campaign : Campaign) (old_changes new_changes : List Change) (old_frames new_frames : List Sent) (old_learned new_learned : List Decided) : Type 0 where
  pub fuel : ℕ
  pub so_far : Effects
  pub before : Campaign
  pub role : so_far.part.coordinator.role ≡ Active before
  pub trimmed : so_far.part.kept.trim ≡ trim
  pub learner : so_far.part.learner.held ≡ held
  pub advanced : campaign ≡ record before { next = first_gap (max before.next trim) held }
  pub same : total ≡ proposing fuel ring link (turn_of ring so_far)
  pub enough : END ≤ fuel + campaign.next
  pub behind : Behind so_far old_changes new_changes old_frames new_frames old_learned new_learned

module _ (ring : Ring) (link : Link) (total : Effects) (trim : ℕ) (held : List (ℕ × Value)) where
  turn_is : (effects : Effects) (before campaign : Campaign) → effects.part.coordinator.role ≡ Active before → effects.part.kept.trim ≡ trim → effects.part.learner.held ≡ held
      → campaign ≡ record before { next = first_gap (max before.next trim) held }
      → turn_of ring effects ≡ turn_by effects campaign (choice ring campaign held)
  turn_is effects before campaign role trim_is held_is up =
      ap (λ (r : Role). turn_in ring effects r) role
      ∙ ap (λ (t : ℕ). turn_by effects (record before { next = first_gap (max before.next t) effects.part.learner.held }) (choice ring (record before { next = first_gap (max before.next t) effects.part.learner.held }) effects.part.learner.held)) trim_is
      ∙ ap (λ (h : List (ℕ × Value)). turn_by effects (record before { next = first_gap (max before.next trim) h }) (choice ring (record before { next = first_gap (max before.next trim) h }) h)) held_is
      ∙ ap (λ (x : Campaign). turn_by effects x (choice ring x held)) (sym up)

  rested : (n : ℕ) (effects : Effects) → proposing n ring link (Stops effects) ≡ effects
  unfolding proposing
  rested zero effects = refl
  rested (suc n) effects = refl

  proposed : (n : ℕ) (campaign : Campaign) (range : Decided) (taken : ℕ) (effects : Effects)
      → proposing (suc n) ring link (Proposes campaign range taken effects) ≡ proposing n ring link (turn_of ring (offers ring link campaign range taken effects))
  unfolding proposing
  proposed n campaign range taken effects = refl

  module _ (campaign : Campaign) (cb c : List Change) (fb f : List Sent) (lb l : List Decided) (goes : Goes ring link total trim held campaign cb c fb f lb l) where
    pub all_proposed : Rests ≡ choice ring campaign held → Made total campaign cb c fb f lb l
    all_proposed none =
        let turn : turn_of ring goes.so_far ≡ Stops (with_part (with_campaign campaign goes.so_far.part) goes.so_far) =
        turn_is goes.so_far goes.before campaign goes.role goes.trimmed goes.learner goes.advanced ∙ ap (λ (x : Choice). turn_by goes.so_far campaign x) (sym none) in
        let all : total ≡ with_part (with_campaign campaign goes.so_far.part) goes.so_far =
        goes.same ∙ ap (λ (t : Turn). proposing goes.fuel ring link t) turn ∙ rested goes.fuel (with_part (with_campaign campaign goes.so_far.part) goes.so_far) in
        subst (λ (e : Effects). Made e campaign cb c fb f lb l) (sym all)
        (record { role = refl; behind = record { added = record { changes = goes.behind.added.changes; frames = goes.behind.added.frames }; learned = goes.behind.learned } })

    -- a proposal, and then the next instance is passed on
    pub one_more : (range : Decided) (taken : ℕ) (next up : Campaign) (d : List Change) (g : List Sent) (m : List Decided) → Offers range taken ≡ choice ring campaign held → campaign.next < range.hi → campaign.next < END
        → Made (offers ring link campaign range taken goes.so_far) next cb d fb g lb m → next ≡ after_offer ring range taken campaign → up ≡ record next { next = first_gap (max next.next trim) held }
        → range.hi ≤ up.next → Goes ring link total trim held up cb d fb g lb m
    one_more range taken next up d g m some past under made next_is up_is far = by goes.fuel refl
      where
        turn : turn_of ring goes.so_far ≡ Proposes campaign range taken goes.so_far
        turn = turn_is goes.so_far goes.before campaign goes.role goes.trimmed goes.learner goes.advanced ∙ ap (λ (x : Choice). turn_by goes.so_far campaign x) (sym some)

        by : (n : ℕ) → goes.fuel ≡ n → Goes ring link total trim held up cb d fb g lb m
        by zero none = let enough = goes.enough in absurd (omega arith)
        by (suc n) is =
            let enough = goes.enough in
            record {
              fuel = n;
              so_far = offers ring link campaign range taken goes.so_far;
              before = next;
              role = made.role;
              trimmed = ap (λ (p : Part). p.kept.trim) (offers_part ring link campaign range taken goes.so_far) ∙ goes.trimmed;
              learner = ap (λ (p : Part). p.learner.held) (offers_part ring link campaign range taken goes.so_far) ∙ goes.learner;
              advanced = up_is;
              same = goes.same ∙ ap (λ (t : Turn). proposing goes.fuel ring link t) turn ∙ ap (λ (k : ℕ). proposing k ring link (Proposes campaign range taken goes.so_far)) is ∙ proposed n campaign range taken goes.so_far;
              enough = omega arith;
              behind = made.behind;
            }

-- proposing begins
pub begins : (ring : Ring) (link : Link) (effects : Effects) (trim : ℕ) (held : List (ℕ × Value)) (before campaign : Campaign) (cb c : List Change) (fb f : List Sent) (lb l : List Decided)
    → effects.part.kept.trim ≡ trim → effects.part.learner.held ≡ held → Made effects before cb c fb f lb l → campaign ≡ record before { next = first_gap (max before.next trim) held }
    → Goes ring link (proposes_after ring link effects) trim held campaign cb c fb f lb l
unfolding proposes_after
begins ring link effects trim held before campaign cb c fb f lb l trim_is held_is made up = record {
  fuel = END;
  so_far = effects;
  before = before;
  role = made.role;
  trimmed = trim_is;
  learner = held_is;
  advanced = up;
  same = refl;
  enough = omega arith;
  behind = made.behind;
}

-- ---- what stays seated

pub still_seated : (ring : Ring) (window next : ℕ) (old new : Campaign) → new ≡ record old { next = next } → IsSeated ring window old → IsSeated ring window new
still_seated ring window next old new is seated = record { room = seated.room; seats = ap (λ (x : Campaign). length x.covered) is ∙ seated.seats }

pub offered_seated : (ring : Ring) (window : ℕ) (range : Decided) (taken : ℕ) (old new : Campaign) → new ≡ after_offer ring range taken old → IsSeated ring window old → IsSeated ring window new
offered_seated ring window range taken old new is seated = record { room = seated.room; seats = ap (λ (x : Campaign). length x.covered) is ∙ seated.seats }

-- ---- levelling

pub nothing_behind : (part : Part) (c : List Change) (f : List Sent) (l : List Decided) → Behind (no_effects part) c c f f l l
nothing_behind part c f l = record { added = record { changes = sym (append-nil c); frames = sym (append-nil f) }; learned = sym (append-nil l) }

pub ticked : (old : Campaign) (ballot next : ℕ) (covered : List ℕ) (reports : List (ℕ × Cast)) (outstanding : List Decided) (pending : List Pending) (l t : Levelling)
    → (let c : Campaign = record { ballot = ballot; next = next; covered = covered; reports = reports; outstanding = outstanding; pending = pending; leveller = l } in c) ≡ old → t ≡ with_tick l
    → (let c : Campaign = record { ballot = ballot; next = next; covered = covered; reports = reports; outstanding = outstanding; pending = pending; leveller = t } in c) ≡ with_tick_taken old
ticked old ballot next covered reports outstanding pending l t view tick =
    ap (λ (x : Levelling). let c : Campaign = record { ballot = ballot; next = next; covered = covered; reports = reports; outstanding = outstanding; pending = pending; leveller = x } in c) tick
    ∙ ap (λ (c : Campaign). with_tick_taken c) view

pub shortfall_range : (lo begin hi missing : ℕ) → lo ≡ begin → hi ≡ min END (lo + missing) → (let d : Decided = record { lo = lo; hi = hi; value = Skip } in d) ≡ shortfall_from begin missing
shortfall_range lo begin hi missing same end =
    let to : hi ≡ min (begin + missing) END = omega arith in
    ap (λ (n : ℕ). let d : Decided = record { lo = n; hi = hi; value = Skip } in d) same
    ∙ ap (λ (n : ℕ). let d : Decided = record { lo = begin; hi = n; value = Skip } in d) to

pub made_alike : (ring : Ring) (link : Link) (x y : Campaign) (r s : Decided) (taken : ℕ) (effects : Effects) (new : Campaign) (cb c : List Change) (fb f : List Sent) (lb l : List Decided) → x ≡ y → r ≡ s
    → Made (offers ring link x r taken effects) new cb c fb f lb l → Made (offers ring link y s taken effects) new cb c fb f lb l
made_alike ring link x y r s taken effects new cb c fb f lb l same range made =
    subst (λ (z : Campaign). Made (offers ring link z s taken effects) new cb c fb f lb l) same
    (subst (λ (q : Decided). Made (offers ring link x q taken effects) new cb c fb f lb l) range made)

module _ (ring : Ring) (link : Link) (part : Part) (old : Campaign) (missing window : ℕ) where
  abbrev levels_at : Option ℕ → Effects
  levels_at answer = levels_by ring link part (with_tick_taken old) answer

  abbrev by_room : Bool → Bool → Effects
  by_room free under =
      if free && under then proposes_after ring link (offers ring link (with_tick_taken old) (shortfall_from old.next missing) 0 (no_effects part))
      else no_effects (with_campaign (with_tick_taken old) part)

  pub levelled : (has : Bool) → Some missing ≡ answer_of old.leveller → window ≡ ring.window → has ≡ nat_lt (length old.outstanding) window → has ≡ true → old.next < END
      → proposes_after ring link (offers ring link (with_tick_taken old) (shortfall_from old.next missing) 0 (no_effects part)) ≡ levels_by ring link part (with_tick_taken old) (answer_of old.leveller)
  levelled has answer room is free under =
      ap (λ (b : Bool). by_room b true) (sym free ∙ is ∙ ap (λ (n : ℕ). nat_lt (length old.outstanding) n) room)
      ∙ ap (λ (b : Bool). by_room (has_room ring (with_tick_taken old)) b) (sym (lt-true old.next END under))
      ∙ ap (λ (a : Option ℕ). levels_at a) answer
