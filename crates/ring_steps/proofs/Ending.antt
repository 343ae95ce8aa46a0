-- A step as a whole: whatever happens to a node, what it makes stands for a face that its deeds lead to.
use Rattle.std.proofs.Common.{◌≡◌, inl, inr, map, ℕ, ◌<◌, Bool, true, false, List, [], ◌∷◌, length, Option, Some, None, refl, sym, ◌∙◌, ap, subst, arith}
use Rattle.std.specs.Prelude.{◌+◌, ◌%◌, ◌==◌, if◌then◌else◌}
use Rattle.std.specs.List.{AllByRecursion}
use Rattle.std.proofs.Math.ListN.{length-set}
use Rattle.mrp_types.specs.declared.value.Value.{Value}
use Rattle.mrp_config.specs.Config.{Config}
use Rattle.vote_state.specs.declared.change.Change.{Change}
use Rattle.vote_state.specs.declared.change.Change.TheVariants.{Epoch, Promise, Vote, Trim}
use Rattle.vote_state.specs.State.{State, ring_at, changed, taken}
use Rattle.vote_journal.specs.Journal.{Journal, recorded}
use Rattle.ring_link.specs.Silence.{with_tick}
use Rattle.plain_model.specs.StateBytes.{state_bytes}
use Rattle.ring_reach.specs.Reach.{seen}
use Rattle.ring_reach.proofs.Reaching.{reach_none}
use Rattle.protocol.specs.Parts.{Ring}
use Rattle.protocol.specs.Rings.{is_acceptor}
use Rattle.protocol.specs.Coordinator.{leads}
use Rattle.protocol.specs.Node.{work_of, StepSoFar, View, RingPart, Service, Stage, Recovering, Ready, Event, Ticks, Takes, Leads, Stepped, begun_with, finished, part_in, part_at}
use Rattle.protocol.specs.Bases.{base_by, rebased, rebases}
use Rattle.protocol.specs.Learning.{applies_effects}
use Rattle.protocol.specs.Step.{at_acceptor, handles_from, step}
use Rattle.protocol.specs.Tick.{saves, is_due_to_save, saves_stage, saves_first, is_due_to_compact, compacts, beats, or_compacts, ticks}
use Rattle.range_map.proofs.EntryLemmas.{increasing_entries_from}
use Rattle.vote_state.specs.State.{ring_at}
use Rattle.vote_journal.specs.Journal.{Journal, recorded}
use Rattle.protocol.specs.Parts.{Learner}
use Rattle.protocol.specs.Learner.{with_base}
use Rattle.std.proofs.lemmas.Bool.{cases_lt}
use Rattle.mrp_types.specs.declared.id.RingId.{RingId}
use Rattle.ring_safety.specs.Faces.{Face}
use Rattle.ring_safety.specs.Invariant.{Local}
use Rattle.ring_kept.specs.Kept.{KeptTies, kept_after}
use Rattle.ring_tables.specs.Ties.{acceptors, IsSaid, IsTold, LearnerTies, AreRecorded}
use Rattle.beside_rings.specs.Beside.{changes_in}
use Rattle.ring_steps.specs.Stands.{ViewStands, EventSaid, StepStands}
use Rattle.ring_tables.specs.Settled.{PartFine}
use Rattle.ring_tables.proofs.More.{none_recorded, told_more}
use Rattle.ring_steps.proofs.Along.{MemberTies, OnWay, WayAfter}
use Rattle.ring_tables.specs.Done.{Seats}
use Rattle.ring_steps.proofs.Dispatching.{from_goes, lead_goes, beats_go}
use Rattle.ring_kept.proofs.Keeping.{cut_above, cut_below, ring_taken}
use Rattle.quorums.proofs.Each.{appended}

-- ---- learners begin anew

-- a part of a list in which each was changed, and none its ring
pub record Mapped (h : RingPart → RingPart) (parts : List RingPart) (id : RingId) (q : RingPart) : Type 0 where
  pub before : RingPart
  pub there : part_in parts id ≡ Some before
  pub made : h before ≡ q

pub mapped_there : (h : RingPart → RingPart) → ((p : RingPart) → (h p).ring ≡ p.ring) → (parts : List RingPart) (id : RingId) (q : RingPart) → part_in (map h parts) id ≡ Some q → Mapped h parts id q
mapped_there h same [] id q e = absurd (cc)
mapped_there h same (p ∷ parts) id q e = go (p.ring.id.0 == id.0) refl (subst (λ (r : Ring). (if r.id.0 == id.0 then Some (h p) else part_in (map h parts) id) ≡ Some q) (same p) e) (λ f. mapped_there h same parts id q f)
  where
    go : (b : Bool) → (p.ring.id.0 == id.0) ≡ b → (if p.ring.id.0 == id.0 then Some (h p) else part_in (map h parts) id) ≡ Some q
        → (part_in (map h parts) id ≡ Some q → Mapped h parts id q) → Mapped h (p ∷ parts) id q
    go true t found later =
        let head : (if p.ring.id.0 == id.0 then Some (h p) else part_in (map h parts) id) ≡ Some (h p) = rw t refl in
        record { before = p; there = rw t refl; made = some_same (sym head ∙ found) }
      where
        some_same : {a b : RingPart} → Some a ≡ Some b → a ≡ b
        some_same e = cc
    go false t found later =
        let tail : (if p.ring.id.0 == id.0 then Some (h p) else part_in (map h parts) id) ≡ part_in (map h parts) id = rw t refl in
        let m = later (sym tail ∙ found) in
        record { before = m.before; there = (let skip : (if p.ring.id.0 == id.0 then Some p else part_in parts id) ≡ part_in parts id = rw t refl in skip ∙ m.there); made = m.made }

pub based_ties : (n : ℕ) (now : ℕ → Face Value) (inst : ℕ) (learner : Learner) → LearnerTies n now learner → LearnerTies n now (with_base inst learner)
based_ties n now inst learner l = record {
  ordered = increasing_entries_from 0 inst 0 learner.held l.ordered (inl (omega arith));
  chosen = λ i value e. elim (cases_lt i inst) [
    | inl below ↦ let none = cut_below inst learner.held i below in absurd (cc)
    | inr from ↦ l.chosen i value (sym (cut_above inst learner.held i from) ∙ e)
  ];
}

-- ---- what was recorded

pub state_recorded : (j : Journal) (cs : List Change) (ring : RingId) → ring.0 < length j.state.rings → ring_at (recorded j cs).state ring ≡ kept_after ring cs (ring_at j.state ring)
state_recorded j [] ring within = refl
state_recorded j (c ∷ cs) ring within = ring_taken ring (c ∷ cs) j.state within

-- ---- as many rings as before

changed_rings : (c : Change) (s : State) → length (changed c s).rings ≡ length s.rings
changed_rings (Epoch epoch) s = refl
changed_rings (Promise ring ballot) s = length-set s.rings ring.0 _
changed_rings (Vote ring v) s = length-set s.rings ring.0 _
changed_rings (Trim ring inst) s = length-set s.rings ring.0 _

taken_rings : (cs : List Change) (s : State) → length (taken cs s).rings ≡ length s.rings
taken_rings [] s = refl
taken_rings (c ∷ cs) s = taken_rings cs (changed c s) ∙ changed_rings c s

recorded_rings : (j : Journal) (cs : List Change) → length (recorded j cs).state.rings ≡ length j.state.rings
recorded_rings j [] = refl
recorded_rings j (c ∷ cs) = taken_rings (c ∷ cs) j.state

-- ---- the end

module _ (ring : Ring) (faces : ℕ → Face Value) (a : ℕ) (start : Face Value) where
  way_rebased : (j : Journal) (f : Face Value) (so_far : StepSoFar) → OnWay ring faces a start j (PartFine ring) f so_far → OnWay ring faces a start j (PartFine ring) f (rebases so_far)
  way_rebased j f so_far w = record {
    reached = w.reached;
    journal = w.journal;
    kept = w.kept;
    frames = w.frames;
    replies = w.replies;
    lines = w.lines;
    recorded = w.recorded;
    told = w.told;
    part = λ q is.
        let m = mapped_there (rebased so_far.view.service) (λ p. refl) so_far.view.parts ring.id q is in
        let t = w.part m.before m.there in
        subst (λ (x : RingPart). MemberTies ring faces a (ring_at j.state ring.id) (PartFine ring) f so_far.changes x) m.made
        (record {
          of_ring = t.of_ring;
          ties = record {
            kept = t.ties.kept;
            role = t.ties.role;
            learner = based_ties (acceptors ring) (seen faces a f) (base_by m.before.ring m.before.part so_far.view.service) m.before.part.learner t.ties.learner;
          };
          kept = t.kept;
          fine = record { settled = t.fine.settled; idle = t.fine.idle };
        });
  }

  pub way_finished : (f : Face Value) (so_far : StepSoFar) → ring.id.0 < length so_far.view.journal.state.rings → OnWay ring faces a start so_far.view.journal (PartFine ring) f so_far
      → StepStands ring faces a start (finished so_far)
  way_finished f so_far within w = record {
    face = f;
    reached = w.reached;
    stands = record {
      rings = let same = recorded_rings so_far.view.journal so_far.changes in omega arith;
      kept = subst (λ k. KeptTies f k) (sym now) w.kept;
      part = λ p is. let t = w.part p is in record { of_ring = t.of_ring; ties = t.ties; kept = sym t.kept ∙ sym now; fine = t.fine };
    };
    frames = appended (IsSaid ring (seen faces a f)) so_far.frames so_far.replies w.frames w.replies;
    lines = w.lines;
    recorded = work so_far.changes w.recorded;
    told = told_more ring a start f so_far.frames so_far.replies w.told;
  }
    where
      work : (cs : List Change) → AreRecorded ring.id start f cs → AreRecorded ring.id start f (changes_in (work_of cs))
      work [] all = all
      work (c ∷ cs) all = all

      now : ring_at (recorded so_far.view.journal so_far.changes).state ring.id ≡ kept_after ring.id so_far.changes (ring_at so_far.view.journal.state ring.id)
      now = state_recorded so_far.view.journal so_far.changes ring.id within

  pub finished_stands : (f : Face Value) (so_far : StepSoFar) → ring.id.0 < length so_far.view.journal.state.rings → OnWay ring faces a start so_far.view.journal (PartFine ring) f so_far
      → StepStands ring faces a start (finished (rebases so_far))
  finished_stands f so_far within w = way_finished f (rebases so_far) within (way_rebased so_far.view.journal f so_far w)

-- ---- the step

module _ (config : Config) (ring : Ring) (faces : ℕ → Face Value) (a : ℕ) (start : Face Value) (at_seats : is_acceptor ring ≡ true → Seats ring a)
    (all : (k : ℕ) → Local (acceptors ring) faces k (faces k)) (local : Local (acceptors ring) faces a start) where
  module _ (view : View) (v : ViewStands ring (seen faces a start) start view) where
    abbrev j : Journal
    j = view.journal

    -- a view that differs in what no ring sees
    begun : (other : View) → other.journal ≡ view.journal → other.parts ≡ view.parts → OnWay ring faces a start view.journal (PartFine ring) start (begun_with other)
    begun other journal parts = record {
      reached = reach_none (acceptors ring) faces a start;
      journal = journal;
      kept = v.kept;
      frames = tt;
      replies = tt;
      lines = tt;
      recorded = none_recorded ring.id start;
      told = λ p h lt. inl h;
      part = λ p is.
          let t = v.part p (ap (λ (l : List RingPart). part_of l) (sym parts) ∙ is) in
          record { of_ring = t.of_ring; ties = t.ties; kept = sym t.kept; fine = t.fine };
    }
      where
        part_of : List RingPart → Option RingPart
        part_of l = part_in l ring.id

    ends : (f : Face Value) (so_far : StepSoFar) → WayAfter ring faces a start view.journal (PartFine ring) f so_far → StepStands ring faces a start (finished (rebases so_far))
    ends f so_far w =
        let same : so_far.view.journal ≡ view.journal = w.way.journal in
        finished_stands ring faces a start w.face so_far (subst (λ (x : Journal). ring.id.0 < length x.state.rings) (sym same) v.rings)
        (subst (λ (x : Journal). OnWay ring faces a start x (PartFine ring) w.face so_far) (sym same) w.way)

    -- nothing is done at the ring
    quiet : (effects : Stepped) → effects.view.journal.state ≡ view.journal.state → effects.view.parts ≡ view.parts → effects.frames ≡ [] → AllByRecursion (IsTold ring (seen faces a start)) effects.lines
        → changes_in effects.work ≡ [] → StepStands ring faces a start effects
    quiet effects state parts frames lines work = record {
      face = start;
      reached = reach_none (acceptors ring) faces a start;
      stands = record {
        rings = subst (λ (x : State). ring.id.0 < length x.rings) (sym state) v.rings;
        kept = subst (λ (x : State). KeptTies start (ring_at x ring.id)) (sym state) v.kept;
        part = λ p is.
            let t = v.part p (ap (λ (l : List RingPart). part_of l) (sym parts) ∙ is) in
            record { of_ring = t.of_ring; ties = t.ties; kept = t.kept ∙ ap (λ (x : State). ring_at x ring.id) (sym state); fine = t.fine };
      };
      frames = subst (λ l. AllByRecursion (IsSaid ring (seen faces a start)) l) (sym frames) tt;
      lines = lines;
      recorded = subst (λ l. AreRecorded ring.id start start l) (sym work) (none_recorded ring.id start);
      told = λ p h lt. inl h;
    }
      where
        part_of : List RingPart → Option RingPart
        part_of l = part_in l ring.id

    tick_stands : StepStands ring faces a start (ticks config view)
    unfolding ticks
    tick_stands = by_service view.service
      where
        beaten : StepStands ring faces a start (finished (rebases (beats config view)))
        beaten =
            let now : View = record view { beat = view.beat + 1; link = with_tick view.link } in
            ends start (beats config view)
            (beats_go config ring faces a start view.journal at_seats all local view.parts (view.beat + 1) ((view.beat + 1) % config.resend == 0) start (begun_with now) (begun now refl refl))

        compacted : (b : Bool) → StepStands ring faces a start (if b then compacts view else finished (rebases (beats config view)))
        compacted true = quiet (compacts view) refl refl refl tt refl
        compacted false = beaten

        rest : StepStands ring faces a start (or_compacts config view None)
        rest = compacted (is_due_to_compact config view)

        by_stage : (service : Service) (stage : Stage) → StepStands ring faces a start (or_compacts config view (saves_stage config view service stage))
        by_stage service (Recovering attempt) = rest
        by_stage service (Ready standing) = go (is_due_to_save config view standing)
          where
            go : (b : Bool) → StepStands ring faces a start (or_compacts config view (if b then Some (saves view service standing (state_bytes standing.replica)) else None))
            go true = quiet (saves view service standing (state_bytes standing.replica)) refl refl refl (tt, tt) refl
            go false = rest

        by_service : (o : Option Service) → StepStands ring faces a start (or_compacts config view (saves_first config view o))
        by_service None = rest
        by_service (Some service) = by_stage service service.stage

    -- whatever happens to the node
    pub step_stands : (event : Event) → EventSaid ring faces event → StepStands ring faces a start (step config view event)
    unfolding step
    step_stands Ticks said = tick_stands
    step_stands (Takes frame) said =
        ends start (handles_from config frame.from frame.body (begun_with view))
        (from_goes config ring faces a start view.journal at_seats all local frame.from frame.body said start (begun_with view) (begun view refl refl))
    step_stands (Leads fr) said =
        ends start (at_acceptor (λ r part b. applies_effects config r (leads r b.view.link part) b) (part_at view fr) (begun_with view))
        (lead_goes config ring faces a start view.journal at_seats all local fr start (begun_with view) (begun view refl refl))
