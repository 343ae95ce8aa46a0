-- The words of the acceptor's table carry what was there and what came.
use Rattle.std.proofs.Common.{ℕ, ◌-◌, Bool, true, false, ◌||◌, List, [], ◌∷◌, length, Option, Some, None}
use Rattle.std.specs.Prelude.{◌==◌, nat_lt, nat_le, not, max, count_ones, if◌then◌else◌}
use Rattle.std.specs.List.{AllByRecursion, flat_map}
use Rattle.mrp_types.specs.declared.id.NodeId.{NodeId}
use Rattle.mrp_types.specs.declared.value.Entry.{Entry}
use Rattle.mrp_types.specs.declared.value.Value.{Value}
use Rattle.mrp_types.specs.declared.voted.Voted.{Voted}
use Rattle.mrp_types.specs.declared.voted.Decided.{Decided}
use Rattle.range_map.specs.Entries.{entries_from}
use Rattle.vote_state.specs.declared.cast.Cast.{Cast}
use Rattle.vote_state.specs.declared.ring.RingState.{RingState}
use Rattle.vote_state.specs.declared.change.Change.{Change}
use Rattle.vote_state.specs.declared.change.Change.TheVariants as changes
use Rattle.vote_state.specs.Ranges.{cast_of, ranges_of, are_held}
use Rattle.vote_state.specs.State.{with_vote, with_trim}
use Rattle.ring_link.specs.Silence.{Link}
use Rattle.frames.specs.Spelling.{vote_size, decided_size}
use Rattle.frames.specs.declared.body.Body.{Body}
use Rattle.frames.specs.declared.body.Body.TheVariants.{Refuse, Accept, Decide, Chosen, Trimmed}
use Rattle.frames.specs.declared.sent.Sent.{Sent}
use Rattle.protocol.specs.Lines.{Line}
use Rattle.protocol.specs.Parts.{Ring, Role, Idle, Active, Part, Effects}
use Rattle.protocol.specs.Rings.{is_node, is_beyond, owner_of, position_of, majority_of, has_bit, with_bit, next_acceptor, next_member, sent_by, sends, sends_each}
use Rattle.protocol.specs.Effects.{no_effects, with_part, with_change, with_frames, with_kept, with_learned, with_line}
use Rattle.protocol.specs.Learner.{decided_of, learned_ranges, is_finished, role_unfinished, without_finished}
use Rattle.protocol.specs.Acceptor.{idle_below, promised_part, promises, votes_for, promises_anew, votes_anew, trims_to, page_room, ranges_page, promise_of, tells_promise, refuses, tells_trim, prepares, first_decide, decides, decides_or_forwards, accepts_at, accepts, tells_ranges, fetches}
use Rattle.ask_laws.specs.Carried.{ValueCarries, VotesCarry, RangesCarry, RoleCarries, PartCarries, ChangeCarries, LineCarries, BodyCarries, SentCarries, EffectsCarry}
use Rattle.ask_laws.proofs.Lists.{appended, filtered, fronted, range_all, ranges_all, learned_all}

module _ (Is : ℕ → Entry → Type 0) (Valid : Type 0) where
  -- ---- frames

  pub sends_to_carry : (own to : NodeId) (b : Body) → BodyCarries Is Valid b → (t : Bool) → AllByRecursion (SentCarries Is Valid) (if t then [] else sent_by own to b ∷ [])
  sends_to_carry own to b is true = tt
  sends_to_carry own to b is false = (is, tt)

  pub sends_carry : (ring : Ring) (to : Option NodeId) (b : Body) → BodyCarries Is Valid b → AllByRecursion (SentCarries Is Valid) (sends ring to b)
  sends_carry ring None b is = tt
  sends_carry ring (Some to) b is = sends_to_carry ring.own to b is (to.0 == ring.own.0 || is_beyond b)

  pub each_carries : {T : Type 0} (h : T → List Sent) → ((x : T) → AllByRecursion (SentCarries Is Valid) (h x)) → (xs : List T) → AllByRecursion (SentCarries Is Valid) (flat_map h xs)
  each_carries h says [] = tt
  each_carries h says (x ∷ xs) = appended (SentCarries Is Valid) (h x) (flat_map h xs) (says x) (each_carries h says xs)

  pub sends_each_carry : (ring : Ring) (nodes : List NodeId) (b : Body) → BodyCarries Is Valid b → AllByRecursion (SentCarries Is Valid) (sends_each ring nodes b)
  sends_each_carry ring nodes b is = each_carries (λ node. sends ring (Some node) b) (λ node. sends_carry ring (Some node) b is) nodes

  module _ (ring : Ring) where
    abbrev pub Made : Effects → Type 0
    Made effects = EffectsCarry Is Valid ring.id.0 effects

    -- ---- what was made goes on

    pub none_made : (part : Part) → PartCarries Is ring.id.0 part → Made (no_effects part)
    none_made part is = record { part = is; changes = tt; frames = tt; lines = tt; learned = tt }

    pub part_made : (part : Part) (effects : Effects) → PartCarries Is ring.id.0 part → Made effects → Made (with_part part effects)
    part_made part effects is m = record { part = is; changes = m.changes; frames = m.frames; lines = m.lines; learned = m.learned }

    pub frames_made : (frames : List Sent) (effects : Effects) → AllByRecursion (SentCarries Is Valid) frames → Made effects → Made (with_frames frames effects)
    frames_made frames effects is m = record { part = m.part; changes = m.changes; frames = appended (SentCarries Is Valid) effects.frames frames m.frames is; lines = m.lines; learned = m.learned }

    pub line_made : (line : Line) (effects : Effects) → LineCarries Is line → Made effects → Made (with_line line effects)
    line_made line effects is m = record { part = m.part; changes = m.changes; frames = m.frames; lines = appended (LineCarries Is) effects.lines (line ∷ []) m.lines (is, tt); learned = m.learned }

    pub change_made : (change : Change) (part : Part) (effects : Effects) → ChangeCarries Is change → PartCarries Is ring.id.0 part → Made effects → Made (with_change change part effects)
    change_made change part effects is new m = record {
      part = new;
      changes = appended (ChangeCarries Is) effects.changes (change ∷ []) m.changes (is, tt);
      frames = m.frames;
      lines = m.lines;
      learned = m.learned;
    }

    pub learned_made : (range : Decided) (effects : Effects) → ValueCarries Is ring.id.0 range.value → Made effects → Made (with_learned range effects)
    learned_made range effects is m = record {
      part = m.part;
      changes = m.changes;
      frames = m.frames;
      lines = m.lines;
      learned = appended (λ (d : Decided). ValueCarries Is ring.id.0 d.value) effects.learned (range ∷ []) m.learned (is, tt);
    }

    -- ---- durable changes

    idle_carries : (promise : ℕ) (role : Role) → RoleCarries Is ring.id.0 role → RoleCarries Is ring.id.0 (idle_below promise role)
    idle_carries promise Idle is = tt
    idle_carries promise (Active campaign) is = by (nat_lt campaign.ballot promise)
      where
        by : (t : Bool) → RoleCarries Is ring.id.0 (if t then Idle else Active campaign)
        by true = tt
        by false = is

    pub promises_made : (ballot : ℕ) (effects : Effects) → Made effects → Made (promises ring ballot effects)
    promises_made ballot effects m = change_made (changes.Promise ring.id ballot) (promised_part ballot effects.part) effects tt
        (record { votes = m.part.votes; role = idle_carries ballot effects.part.coordinator.role m.part.role; held = m.part.held }) m

    promises_anew_made : (ballot : ℕ) (effects : Effects) → Made effects → Made (promises_anew ring ballot effects)
    promises_anew_made ballot effects m = by (ballot == effects.part.kept.promise)
      where
        by : (t : Bool) → Made (if t then effects else promises ring ballot effects)
        by true = m
        by false = promises_made ballot effects m

    pub votes_made : (vote : Voted) (effects : Effects) → ValueCarries Is ring.id.0 vote.value → Made effects → Made (votes_for ring vote effects)
    votes_made vote effects is m = change_made (changes.Vote ring.id vote) (with_kept (with_vote vote effects.part.kept) effects.part) effects is
        (record {
          votes = range_all (λ (c : Cast). ValueCarries Is ring.id.0 c.value) vote.lo vote.hi (cast_of vote) effects.part.kept.votes is m.part.votes;
          role = m.part.role;
          held = m.part.held;
        }) m

    votes_anew_made : (vote : Voted) (effects : Effects) → ValueCarries Is ring.id.0 vote.value → Made effects → Made (votes_anew ring vote effects)
    votes_anew_made vote effects is m = by (are_held vote effects.part.kept.votes)
      where
        by : (t : Bool) → Made (if t then effects else votes_for ring vote effects)
        by true = m
        by false = votes_made vote effects is m

    unfinished_carries : (trim : ℕ) (held : List (ℕ × Value)) (role : Role) → RoleCarries Is ring.id.0 role → RoleCarries Is ring.id.0 (role_unfinished trim held role)
    unfinished_carries trim held Idle is = tt
    unfinished_carries trim held (Active campaign) is = record {
      reports = is.reports;
      outstanding = filtered (λ (d : Decided). ValueCarries Is ring.id.0 d.value) (λ range. not (is_finished trim held range)) campaign.outstanding is.outstanding;
      pending = is.pending;
    }

    pub without_finished_carries : (part : Part) → PartCarries Is ring.id.0 part → PartCarries Is ring.id.0 (without_finished part)
    without_finished_carries part is = record { votes = is.votes; role = unfinished_carries part.kept.trim part.learner.held part.coordinator.role is.role; held = is.held }

    pub trims_made : (trim : ℕ) (effects : Effects) → Made effects → Made (trims_to ring trim effects)
    trims_made trim effects m = by (nat_le trim effects.part.kept.trim)
      where
        by : (t : Bool) → Made (if t then effects else with_change (changes.Trim ring.id trim) (without_finished (with_kept (with_trim trim effects.part.kept) effects.part)) effects)
        by true = m
        by false = change_made (changes.Trim ring.id trim) (without_finished (with_kept (with_trim trim effects.part.kept) effects.part)) effects tt
            (without_finished_carries (with_kept (with_trim trim effects.part.kept) effects.part) (record {
              votes = filtered (λ (e : ℕ × Cast). ValueCarries Is ring.id.0 e.1.value) (λ e. nat_le trim e.0) effects.part.kept.votes m.part.votes;
              role = m.part.role;
              held = m.part.held;
            })) m

    -- ---- Prepare

    promise_carries : (ballot lo : ℕ) (kept : RingState) → VotesCarry Is ring.id.0 kept.votes → BodyCarries Is Valid (promise_of ring ballot lo kept)
    promise_carries ballot lo kept is =
        fronted (λ (v : Voted). ValueCarries Is ring.id.0 v.value) vote_size page_room (ranges_of (entries_from (max lo kept.trim) kept.votes))
        (ranges_all (ValueCarries Is ring.id.0) (entries_from (max lo kept.trim) kept.votes)
        (filtered (λ (e : ℕ × Cast). ValueCarries Is ring.id.0 e.1.value) (λ e. nat_le (max lo kept.trim) e.0) kept.votes is))

    refuses_made : (to : Option NodeId) (ballot : ℕ) (part : Part) → PartCarries Is ring.id.0 part → Made (refuses ring to ballot part)
    refuses_made to ballot part is = frames_made (sends ring to (Refuse ring.id ballot part.kept.promise)) (no_effects part)
        (sends_carry ring to (Refuse ring.id ballot part.kept.promise) tt) (none_made part is)

    tells_trim_made : (to : Option NodeId) (part : Part) → PartCarries Is ring.id.0 part → Made (tells_trim ring to part)
    tells_trim_made to part is = frames_made (sends ring to (Trimmed ring.id part.kept.trim)) (no_effects part)
        (sends_carry ring to (Trimmed ring.id part.kept.trim) tt) (none_made part is)

    tells_made : (to : NodeId) (ballot lo : ℕ) (effects : Effects) → Made effects → Made (tells_promise ring to ballot lo effects)
    tells_made to ballot lo effects m = frames_made (sends ring (Some to) (promise_of ring ballot lo effects.part.kept)) effects
        (sends_carry ring (Some to) (promise_of ring ballot lo effects.part.kept) (promise_carries ballot lo effects.part.kept m.part.votes)) m

    pub prepares_made : (part : Part) (from : NodeId) (ballot lo : ℕ) → PartCarries Is ring.id.0 part → Made (prepares ring part from ballot lo)
    unfolding prepares
    prepares_made part from ballot lo is = by (not (is_node from (owner_of ring ballot))) (nat_lt ballot part.kept.promise)
      where
        by : (t u : Bool) → Made (if t then no_effects part else if u then refuses ring (Some from) ballot part
            else tells_promise ring from ballot lo (promises ring ballot (no_effects part)))
        by true u = none_made part is
        by false true = refuses_made (Some from) ballot part is
        by false false = tells_made from ballot lo (promises ring ballot (no_effects part)) (promises_made ballot (no_effects part) (none_made part is))

    -- ---- Accept

    pub decides_or_forwards_made : (link : Link) (mask : ℕ) (vote : Voted) (effects : Effects) → ValueCarries Is ring.id.0 vote.value → Made effects → Made (decides_or_forwards ring link mask vote effects)
    decides_or_forwards_made link mask vote effects is m = by (nat_le (majority_of ring) (count_ones mask))
      where
        first : (t : Bool) → AllByRecursion (SentCarries Is Valid)
            (if t then sends ring (next_member ring link) (Decide ring.id vote.lo vote.hi (length ring.members - 2) vote.value) else [])
        first true = sends_carry ring (next_member ring link) (Decide ring.id vote.lo vote.hi (length ring.members - 2) vote.value) is
        first false = tt

        by : (t : Bool) → Made (if t then decides ring link (decided_of vote) effects
            else with_frames (sends ring (next_acceptor ring link) (Accept ring.id vote.ballot vote.lo vote.hi mask vote.value)) effects)
        by true = learned_made (decided_of vote) (with_frames (first_decide ring link (decided_of vote)) effects) is
            (frames_made (first_decide ring link (decided_of vote)) effects (first (nat_le 2 (length ring.members))) m)
        by false = frames_made (sends ring (next_acceptor ring link) (Accept ring.id vote.ballot vote.lo vote.hi mask vote.value)) effects
            (sends_carry ring (next_acceptor ring link) (Accept ring.id vote.ballot vote.lo vote.hi mask vote.value) is) m

    pub accepts_made : (link : Link) (part : Part) (ballot lo hi mask : ℕ) (value : Value) → ValueCarries Is ring.id.0 value → PartCarries Is ring.id.0 part
        → Made (accepts ring link part ballot lo hi mask value)
    unfolding accepts
    accepts_made link part ballot lo hi mask value came is = at (position_of ring ring.own)
      where
        at : (o : Option ℕ) → Made (accepts_at ring link part mask (record { lo = lo; hi = hi; ballot = ballot; value = value }) o)
        at None = none_made part is
        at (Some position) = by (nat_lt ballot part.kept.promise) (nat_lt lo part.kept.trim) (has_bit mask position)
          where
            by : (t u v : Bool) → Made (if t then refuses ring (owner_of ring ballot) ballot part else if u then tells_trim ring (owner_of ring ballot) part
                else if v then no_effects part
                else decides_or_forwards ring link (with_bit mask position) (record { lo = lo; hi = hi; ballot = ballot; value = value })
                (votes_anew ring (record { lo = lo; hi = hi; ballot = ballot; value = value }) (promises_anew ring ballot (no_effects part))))
            by true u v = refuses_made (owner_of ring ballot) ballot part is
            by false true v = tells_trim_made (owner_of ring ballot) part is
            by false false true = none_made part is
            by false false false =
                let vote : Voted = record { lo = lo; hi = hi; ballot = ballot; value = value } in
                decides_or_forwards_made link (with_bit mask position) vote (votes_anew ring vote (promises_anew ring ballot (no_effects part))) came
                (votes_anew_made vote (promises_anew ring ballot (no_effects part)) came (promises_anew_made ballot (no_effects part) (none_made part is)))

    -- ---- Fetch

    pub fetches_made : (part : Part) (from : NodeId) (lo : ℕ) → PartCarries Is ring.id.0 part → Made (fetches ring part from lo)
    unfolding fetches
    fetches_made part from lo is = by (nat_lt lo part.kept.trim)
      where
        tells : (ranges : List Decided) → RangesCarry Is ring.id.0 ranges → AllByRecursion (SentCarries Is Valid) (tells_ranges ring from ranges)
        tells [] all = tt
        tells (range ∷ ranges) all = sends_carry ring (Some from) (Chosen ring.id (range ∷ ranges)) all

        by : (t : Bool) → Made (if t then tells_trim ring (Some from) part
            else with_frames (tells_ranges ring from (ranges_page (learned_ranges (entries_from lo part.learner.held)))) (no_effects part))
        by true = tells_trim_made (Some from) part is
        by false = frames_made (tells_ranges ring from (ranges_page (learned_ranges (entries_from lo part.learner.held)))) (no_effects part)
            (tells (ranges_page (learned_ranges (entries_from lo part.learner.held)))
            (fronted (λ (d : Decided). ValueCarries Is ring.id.0 d.value) decided_size page_room (learned_ranges (entries_from lo part.learner.held))
            (learned_all (ValueCarries Is ring.id.0) (entries_from lo part.learner.held)
            (filtered (λ (e : ℕ × Value). ValueCarries Is ring.id.0 e.1) (λ e. nat_le lo e.0) part.learner.held is.held))))
            (none_made part is)
