-- A step as a whole, and an opening.
use Rattle.std.proofs.Common.{◌≡◌, inl, inr, ℕ, ◌≤◌, Bool, true, false, List, [], ◌∷◌, map, Option, Some, None, refl, sym, ◌∙◌, ap, subst, arith}
use Rattle.std.specs.Prelude.{◌+◌, ◌%◌, ◌==◌, if◌then◌else◌}
use Rattle.std.specs.List.{AllByRecursion}
use Rattle.mrp_types.specs.declared.id.NodeId.{NodeId}
use Rattle.mrp_types.specs.declared.value.Entry.{Entry}
use Rattle.mrp_types.specs.Entries.{IsEntry}
use Rattle.mrp_config.specs.Config.{Config, has_node, partition_of}
use Rattle.mrp_config.specs.Walk.{node_ids, ring_ids}
use Rattle.mrp_config.specs.Valid.{IsValid, IsPartition, IncreasesFrom, AreAtMost, numbers_of_rings}
use Rattle.mrp_config.specs.declared.tables.RingTable.{RingTable}
use Rattle.mrp_config.specs.declared.tables.PartitionTable.{PartitionTable}
use Rattle.quorums.specs.Groups.{Has}
use Rattle.vote_state.specs.State.{State}
use Rattle.vote_state.specs.Valid.{IsRing}
use Rattle.vote_state.proofs.StateLemmas.{append_all}
use Rattle.vote_journal.specs.Journal.{Journal}
use Rattle.checkpoint.specs.Checkpoints.{Checkpoints}
use Rattle.plain_model.specs.StateBytes.{state_bytes}
use Rattle.ring_link.specs.Silence.{with_tick}
use Rattle.state_laws.specs.States.{HasFewLogs}
use Rattle.state_laws.proofs.Batches.{partition-limits}
use Rattle.state_laws.proofs.Bytes.{sound_short}
use Rattle.protocol.specs.Rings.{is_member, ring_of}
use Rattle.protocol.specs.Coordinator.{leads}
use Rattle.protocol.specs.Node.{StepSoFar, View, RingPart, Service, Stage, Recovering, Ready, Event, Ticks, Takes, Leads, begun_with, finished, part_at}
use Rattle.protocol.specs.Bases.{rebased, rebases}
use Rattle.protocol.specs.Learning.{applies_effects}
use Rattle.protocol.specs.Step.{at_acceptor, handles_from, step}
use Rattle.protocol.specs.Tick.{saves, is_due_to_save, saves_stage, saves_first, is_due_to_compact, compacts, beats, or_compacts, ticks}
use Rattle.protocol.specs.Opening.{part_of_ring, parts_of, view_of, begins_first, opened}
use Rattle.step_valid.specs.Valid.{ViewValid, AreNumbered, EventValid}
use Rattle.ask_laws.specs.Carried.{StageKeeps, ReplicaKeeps, NewestKeeps, RingPartCarries, StateCarries, ViewCarries, EventCarries}
use Rattle.ask_laws.proofs.Commands.{IsOfBytes}
use Rattle.step_shape.specs.Shaped.{SentFits, MemberFits, ServiceFits, ReplicaFits, NewestFits, ViewFits, EventFits, SoFarFits, StepFits, KeepsNothing}
use Rattle.step_shape.proofs.Merging.{IsMine, Ground}
use Rattle.step_shape.proofs.Recovering.{begins_keep}
use Rattle.step_shape.proofs.Going.{Whole}
use Rattle.step_shape.proofs.Dispatch.{from_goes, lead_goes, beats_go}

-- ---- the end

rebased_fit : (service : Option Service) (parts : List RingPart) → AllByRecursion MemberFits parts → AllByRecursion MemberFits (map (rebased service) parts)
rebased_fit service [] all = tt
rebased_fit service (p ∷ parts) all = (
  record { outstanding = all.0.outstanding; next = all.0.next; outside = λ e. let o = all.0.outside e in record { kept = o.kept; idle = o.idle; round = o.round } },
  rebased_fit service parts all.1,
)

finished_fits : (fine : ℕ → Type 0) (id : NodeId) (a : StepSoFar) → SoFarFits fine id a → StepFits fine id (finished a)
finished_fits fine id a f = record {
  view = record { parts = f.view.parts; replica = f.view.replica; newest = f.view.newest };
  frames = append_all (SentFits fine id) a.frames a.replies f.frames f.replies;
}

ended_fits : (fine : ℕ → Type 0) (id : NodeId) (a : StepSoFar) → SoFarFits fine id a → StepFits fine id (finished (rebases a))
ended_fits fine id a f =
    finished_fits fine id (rebases a) (record { view = record { parts = rebased_fit a.view.service a.view.parts f.view.parts; replica = f.view.replica; newest = f.view.newest }; frames = f.frames; replies = f.replies; epoch = f.epoch })

-- ---- a step

module _ (config : Config) (numbered : AreNumbered config) (unique : (t u : RingTable) → Has config.rings t → Has config.rings u → t.id.0 ≡ u.id.0 → t ≡ u)
    (Is : ℕ → Entry → Type 0) (Valid : Type 0) (known : Valid) (entry : (r : ℕ) (e : Entry) → Is r e → IsEntry e) (given : Valid → (r : ℕ) (e : Entry) → Is r e → IsOfBytes e)
    (fine : ℕ → Type 0) (view : View) (v : ViewValid config view) (c : ViewCarries Is Valid view) (f : ViewFits view) (low : fine view.journal.state.epoch) where
  begun : (other : View) → other ≡ record view { beat = other.beat; link = other.link } → Whole config fine view.id Is Valid (begun_with other)
  begun other same = subst (λ (x : View). Whole config fine view.id Is Valid (begun_with x)) (sym same) (record {
    valid = record { own = refl; state = v.state; parts = v.parts; changes = tt; frames = tt; replies = tt; lines = tt };
    carries = record { view = record { state = c.state; parts = c.parts; replica = c.replica; newest = c.newest }; changes = tt; frames = tt; replies = tt; lines = tt };
    fits = record { view = record { parts = f.parts; replica = f.replica; newest = f.newest }; frames = tt; replies = tt; epoch = low };
  })

  tick_fits : StepFits fine view.id (ticks config view)
  unfolding ticks
  tick_fits = by_service view.service (c.replica known) f.replica
    where
      beaten : StepFits fine view.id (finished (rebases (beats config view)))
      beaten =
          let now : View = record view { beat = view.beat + 1; link = with_tick view.link } in
          ended_fits fine view.id (beats config view)
          (beats_go config numbered unique Is Valid known entry given fine view.id view.parts (view.beat + 1) ((view.beat + 1) % config.resend == 0) (begun_with now) (begun now refl)).fits

      compacted : (b : Bool) → StepFits fine view.id (if b then compacts view else finished (rebases (beats config view)))
      compacted true = record { view = record { parts = f.parts; replica = f.replica; newest = f.newest }; frames = tt }
      compacted false = beaten

      rest : StepFits fine view.id (or_compacts config view None)
      rest = compacted (is_due_to_compact config view)

      by_stage : (service : Service) (stage : Stage) → ServiceFits service → StageKeeps service.partition stage → StepFits fine view.id (or_compacts config view (saves_stage config view service stage))
      by_stage service (Recovering attempt) fits sound = rest
      by_stage service (Ready standing) fits sound = go (is_due_to_save config view standing)
        where
          go : (b : Bool) → StepFits fine view.id (or_compacts config view (if b then Some (saves view service standing (state_bytes standing.replica)) else None))
          go true = record {
            view = record { parts = f.parts; replica = record { attempts = fits.attempts; rings = fits.rings; stage = tt }; newest = sound_short service.partition standing.replica sound };
            frames = tt;
          }
          go false = rest

      by_service : (o : Option Service) → ReplicaKeeps o → ReplicaFits o → StepFits fine view.id (or_compacts config view (saves_first config view o))
      by_service None keeps fits = rest
      by_service (Some service) keeps fits = by_stage service service.stage fits keeps.stage

  pub step_fits : (event : Event) → EventValid event → EventCarries Is Valid event → EventFits fine event → StepFits fine view.id (step config view event)
  unfolding step
  step_fits Ticks is carries fits = tick_fits
  step_fits (Takes frame) is carries fits =
      ended_fits fine view.id (handles_from config frame.from frame.body (begun_with view))
      (from_goes config numbered unique Is Valid known entry given fine view.id frame.from frame.body is carries fits (begun_with view) (begun view refl)).fits
  step_fits (Leads fr) is carries fits =
      ended_fits fine view.id (at_acceptor (λ r part b. applies_effects config r (leads r b.view.link part) b) (part_at view fr) (begun_with view))
      (lead_goes config numbered unique Is Valid known entry given fine view.id fr (begun_with view) (begun view refl)).fits

-- ---- an opening

module _ (config : Config) (numbered : AreNumbered config) (Is : ℕ → Entry → Type 0) (given : (r : ℕ) (e : Entry) → Is r e → IsOfBytes e) (fine : ℕ → Type 0) (id : NodeId)
    (partitions : (p : PartitionTable) → partition_of config.partitions id ≡ Some p → HasFewLogs p × AreAtMost 15 (numbers_of_rings p.rings)) where
  opened_parts : (state : State) → StateCarries Is state → KeepsNothing config id state → (tables : List RingTable) → ((t : RingTable) → Has tables t → Has config.rings t)
      → AllByRecursion (λ (p : RingPart). IsMine id p × RingPartCarries Is p × MemberFits p) (parts_of config id state tables)
  opened_parts state c keeps [] listed = tt
  opened_parts state c keeps (t ∷ tables) listed = go (is_member (ring_of config id t)) refl (opened_parts state c keeps tables (λ x there. listed x (inr there)))
    where
      go : (b : Bool) → is_member (ring_of config id t) ≡ b → AllByRecursion (λ (p : RingPart). IsMine id p × RingPartCarries Is p × MemberFits p) (parts_of config id state tables)
          → AllByRecursion (λ (p : RingPart). IsMine id p × RingPartCarries Is p × MemberFits p) (if b then part_of_ring state (ring_of config id t) ∷ parts_of config id state tables else parts_of config id state tables)
      go false member rest = rest
      go true member rest = (
        (
          record { number = numbered t (listed t (inl refl)); own = refl },
          record { votes = c t.id.0; role = tt; held = tt },
          record { outstanding = tt; next = tt; outside = λ e. record { kept = keeps t (listed t (inl refl)) member e; idle = refl; round = refl } },
        ),
        rest,
      )

  apart : (parts : List RingPart) → AllByRecursion (λ (p : RingPart). IsMine id p × RingPartCarries Is p × MemberFits p) parts
      → AllByRecursion (IsMine id) parts × AllByRecursion (RingPartCarries Is) parts × AllByRecursion MemberFits parts
  apart [] all = (tt, tt, tt)
  apart (p ∷ parts) all = let rest = apart parts all.1 in ((all.0.0, rest.0), (all.0.1, rest.1), (all.0.2, rest.2))

  pub opened_fits : (journal : Journal) (checkpoints : Checkpoints) → StateCarries Is journal.state → NewestKeeps checkpoints.newest → NewestFits checkpoints.newest → KeepsNothing config id journal.state → fine journal.state.epoch
      → StepFits fine id (opened config id journal checkpoints)
  unfolding opened
  opened_fits journal checkpoints c keeps short none low =
      finished_fits fine id (begins_first config (partition_of config.partitions id) (begun_with (view_of config id journal checkpoints))) (begins (partition_of config.partitions id) refl).fits
    where
      parts : AllByRecursion (IsMine id) (parts_of config id journal.state config.rings) × AllByRecursion (RingPartCarries Is) (parts_of config id journal.state config.rings)
          × AllByRecursion MemberFits (parts_of config id journal.state config.rings)
      parts = apart (parts_of config id journal.state config.rings) (opened_parts journal.state c none config.rings (λ t there. there))

      first : Ground Is fine id (begun_with (view_of config id journal checkpoints))
      first = record {
        own = refl;
        mine = parts.0;
        parts = parts.1;
        newest = keeps;
        replica = tt;
        fits = record { view = record { parts = parts.2; replica = tt; newest = short }; frames = tt; replies = tt; epoch = low };
      }

      begins : (o : Option PartitionTable) → partition_of config.partitions id ≡ o → Ground Is fine id (begins_first config o (begun_with (view_of config id journal checkpoints)))
      begins None e = first
      begins (Some partition) e =
          let p = partitions partition e in
          begins_keep Is given fine id config (record { partition = partition; attempts = 0; stage = Recovering (record { number = 0; ticks = 0; answers = []; choice = None }) })
          (record { logs = p.0; attempts = omega arith; rings = p.1 }) (begun_with (view_of config id journal checkpoints)) first

-- ---- what a valid deployment gives

ids_from : (least : ℕ) (tables : List RingTable) → IncreasesFrom least (ring_ids tables) → (t : RingTable) → Has tables t → least ≤ t.id.0
ids_from least [] up t has = absurd has
ids_from least (x ∷ tables) up t (inl e) = let same : t.id.0 ≡ x.id.0 = ap (λ (y : RingTable). y.id.0) e in let low = up.0 in omega arith
ids_from least (x ∷ tables) up t (inr later) = let more = ids_from (x.id.0 + 1) tables up.1 t later in let low = up.0 in omega arith

one_table : (least : ℕ) (tables : List RingTable) → IncreasesFrom least (ring_ids tables) → (t u : RingTable) → Has tables t → Has tables u → t.id.0 ≡ u.id.0 → t ≡ u
one_table least [] up t u has there same = absurd has
one_table least (x ∷ tables) up t u (inl e) (inl d) same = e ∙ sym d
one_table least (x ∷ tables) up t u (inl e) (inr there) same =
    let here : t.id.0 ≡ x.id.0 = ap (λ (y : RingTable). y.id.0) e in let past = ids_from (x.id.0 + 1) tables up.1 u there in absurd (omega arith)
one_table least (x ∷ tables) up t u (inr has) (inl d) same =
    let here : u.id.0 ≡ x.id.0 = ap (λ (y : RingTable). y.id.0) d in let past = ids_from (x.id.0 + 1) tables up.1 t has in absurd (omega arith)
one_table least (x ∷ tables) up t u (inr has) (inr there) same = one_table (x.id.0 + 1) tables up.1 t u has there same

pub tables_differ : (config : Config) → IsValid config → (t u : RingTable) → Has config.rings t → Has config.rings u → t.id.0 ≡ u.id.0 → t ≡ u
tables_differ config valid t u has there same = one_table 0 config.rings valid.rings.ids t u has there same

low_among : (tables : List RingTable) → AreAtMost 15 (ring_ids tables) → (table : RingTable) → Has tables table → IsRing table.id
low_among [] all table there = absurd there
low_among (t ∷ tables) all table (inl e) = let low = all.0 in let same = ap (λ (x : RingTable). x.id.0) e in omega arith
low_among (t ∷ tables) all table (inr there) = low_among tables all.1 table there

pub are_numbered : (config : Config) → IsValid config → AreNumbered config
are_numbered config valid = low_among config.rings valid.rings.numbers

partition_fits : (nodes rings : List ℕ) (id : NodeId) (ps : List PartitionTable) → AllByRecursion (IsPartition nodes rings) ps → (p : PartitionTable) → partition_of ps id ≡ Some p → HasFewLogs p × AreAtMost 15 (numbers_of_rings p.rings)
partition_fits nodes rings id [] all p e = absurd (cc)
partition_fits nodes rings id (x ∷ ps) all p e = by (has_node x.replicas id.0) e (λ h. partition_fits nodes rings id ps all.1 p h)
  where
    by : (t : Bool) → (if t then Some x else partition_of ps id) ≡ Some p → (partition_of ps id ≡ Some p → HasFewLogs p × AreAtMost 15 (numbers_of_rings p.rings)) → HasFewLogs p × AreAtMost 15 (numbers_of_rings p.rings)
    by true h later = let is : x ≡ p = cc in subst (λ (q : PartitionTable). HasFewLogs q × AreAtMost 15 (numbers_of_rings q.rings)) is ((partition-limits nodes rings x all.0).0, all.0.numbers)
    by false h later = later h

pub partitions_fit : (config : Config) → IsValid config → (id : NodeId) (p : PartitionTable) → partition_of config.partitions id ≡ Some p → HasFewLogs p × AreAtMost 15 (numbers_of_rings p.rings)
partitions_fit config valid id p e = partition_fits (node_ids config.nodes) (ring_ids config.rings) id config.partitions valid.partitions.each p e
