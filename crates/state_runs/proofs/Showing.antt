-- What is shown of a ready node is the state at its tuple, and nothing is shown of others.
use Rattle.std.proofs.Common.{◌≡◌, ℕ, suc, ◌+◌, inl, inr, Bool, true, false, List, [], ◌∷◌, ◌++◌, Option, Some, None, refl, sym, ◌∙◌, ap, subst, arith}
use Rattle.std.specs.Prelude.{◌==◌, if◌then◌else◌, slice_index_or}
use Rattle.std.specs.List.{AllByRecursion}
use Rattle.mrp_types.specs.declared.id.NodeId.{NodeId}
use Rattle.mrp_types.specs.declared.id.ClientId.{ClientId}
use Rattle.mrp_config.specs.Config.{Config, partition_of}
use Rattle.mrp_config.specs.Valid.{IsValid}
use Rattle.mrp_config.specs.declared.tables.PartitionTable.{PartitionTable}
use Rattle.transcript.specs.declared.line.ShownState.{ShownState}
use Rattle.checkpoint.specs.Checkpoints.{Checkpoint, Checkpoints}
use Rattle.vote_state.specs.State.{no_votes}
use Rattle.vote_state.specs.declared.ring.RingState.{RingState}
use Rattle.vote_journal.specs.Journal.{Journal}
use Rattle.plain_model.specs.Replicas.{Replica}
use Rattle.plain_model.specs.StateBytes.{state_bytes}
use Rattle.plain_model.proofs.TupleOrder.{same_number, other_number}
use Rattle.protocol.specs.Lines.{Line, Cause, Restore, Begin, Up as WentUp, Down as WentDown, State}
use Rattle.protocol.specs.Lines as line
use Rattle.protocol.specs.Client.{ClientEffects, asks, client_ticks, client_takes}
use Rattle.protocol.specs.Opening.{opened}
use Rattle.protocol.specs.Node.{View, Event, Service, Stage, Recovering, Ready, shown_of, shown_of_stage}
use Rattle.protocol.specs.Step.{step}
use Rattle.bare_world.specs.Worlds.{Possible, Host, Up, Down, World, nothing, Happening, Steps, Breaks, Crashes, Opens, Fails, Asks, ClientTicks, ClientTakes, Shows, Lists, chosen, possible_of, happens, steps_as, breaks_as, crashes_as, opens_as, fails_as, client_step, state_of_host, with_lines}
use Rattle.bare_world.specs.Runs.{IsNode, MayCome, MayOpenAt, MayHappen, run, MayRun}
use Rattle.bare_world.proofs.Onward.{run_both, may_both}
use Rattle.line_rules.specs.Rules.{F4, HasNode}
use Rattle.line_rules.specs.Scanners.{Mark, Begun, Restored, past, touches, or_else, life, mark_of}
use Rattle.line_rules.proofs.Growing.{last_quiet, last_own}
use Rattle.line_rules.proofs.Growing as growing
use Rattle.faithful.proofs.Growing.{past_more}
use Rattle.recovery_lines.specs.Ties.{IsCovered, AreCovered, AreRight, IsRightLine, IsOf, IsPlaced, ReplicaLines, AttemptLines, StageLines, rings_in}
use Rattle.recovery_lines.proofs.Printing.{differ}
use Rattle.step_lines.specs.Effects.{EventSaid, KeptFor}
use Rattle.step_lines.proofs.Whole.{step_right}
use Rattle.step_lines.proofs.Opening.{opened_lines}
use Rattle.quorums.proofs.Each.{mapped}
use Rattle.node_lines.specs.Printed.{IsNodeLine}
use Rattle.node_lines.proofs.Stepping.{step_quiet, opened_quiet}
use Rattle.line_runs.specs.Invariant.{node, latest_first, PossibleLines, UpLines}
use Rattle.line_runs.specs.Laws.{IsRun, lines_of, IsPossible}
use Rattle.line_runs.proofs.Fitting.{valid_fits}
use Rattle.line_runs.proofs.Laws.{run_lines, possible_lines, service_lines, ready_lines}
use Rattle.line_runs.proofs.Worlds.{covered_past}
use Rattle.state_steps.proofs.Growing.{below_bytes}
use Rattle.state_runs.proofs.Clients.{IsClientLine, touches_none, IsBeside, beside_asks, beside_ticks, beside_takes}
use Rattle.state_runs.proofs.Runs.{up_lines, view_lines, event_said, step_agrees, own_client}
use Rattle.state_runs.proofs.Laws.{ready_at}

-- ---- words

-- a node that is down isn't ready by its lines
abbrev IsClosed : List Line → ℕ → Host → Type 0
IsClosed lines n (Up view) = Unit {0}
IsClosed lines n (Down durable pending) = life n lines ≡ Some Restored → ⊥

abbrev pub AreShown : Config → List Line → Type 0
AreShown c [] = Unit {0}
AreShown c (l ∷ before) = F4 c before l × AreShown c before

-- it shows no state
abbrev IsUnshown : Line → Type 0
IsUnshown (State x shown) = ⊥
IsUnshown other = Unit {0}

record KeepsShown (c : Config) (lines : List Line) (w : World) : Type 0 where
  closed : (n : ℕ) → IsClosed lines n (w.hosts n)
  shown : AreShown c lines

unshown_node : (l : Line) → IsNodeLine l → IsUnshown l
unshown_node (State x shown) is = is
unshown_node other is = tt

unshown_client : (c : Config) (l : Line) → IsClientLine c l → IsUnshown l
unshown_client c (State x shown) is = is
unshown_client c other is = tt

unshown_rule : (c : Config) (before : List Line) (l : Line) → IsUnshown l → F4 c before l
unshown_rule c before (State x shown) is = absurd is
unshown_rule c before other is = tt

shown_past : (c : Config) (new lines : List Line) → AllByRecursion IsUnshown new → AreShown c lines → AreShown c (past lines new)
shown_past c [] lines all shown = shown
shown_past c (l ∷ new) lines all shown = shown_past c new (l ∷ lines) all.1 (unshown_rule c lines l all.0, shown)

-- ---- lives

life_past : (x n : ℕ) → (x ≡ n → ⊥) → (new lines : List Line) → AllByRecursion (IsOf (node x)) new → life n (past lines new) ≡ life n lines
life_past x n ne [] lines own = refl
life_past x n ne (l ∷ new) lines own = life_past x n ne new (l ∷ lines) own.1 ∙ last_quiet n l lines mark_of (own.0 n ne)

closed_past : (x n : ℕ) → (x ≡ n → ⊥) → (new lines : List Line) → AllByRecursion (IsOf (node x)) new → (host : Host) → IsClosed lines n host → IsClosed (past lines new) n host
closed_past x n ne new lines own (Up view) k = tt
closed_past x n ne new lines own (Down durable pending) k = λ e. k (sym (life_past x n ne new lines own) ∙ e)

-- after its down line a node is closed
down_closed : (x : NodeId) (cause : Cause) (lines : List Line) → life x.0 (line.Down x cause ∷ lines) ≡ Some Restored → ⊥
down_closed x cause lines e = other (life x.0 lines) (sym (last_own x.0 (line.Down x cause) lines mark_of (growing.same_number x.0)) ∙ e)
  where
    other : (o : Option Mark) → or_else (mark_of lines (line.Down x cause)) o ≡ Some Restored → ⊥
    other o f = cc

-- a restore line is a replica's
record IsReplica (c : Config) (x : ℕ) : Type 0 where
  partition : PartitionTable
  there : partition_of c.partitions (node x) ≡ Some partition

restored_replica : (c : Config) (x : ℕ) (lines : List Line) → AreRight c lines → life x lines ≡ Some Restored → IsReplica c x
restored_replica c x [] right e = absurd (cc)
restored_replica c x (l ∷ lines) right e = by_touch (touches x l) refl e (λ f. restored_replica c x lines right.1 f)
  where
    by_line : (k : Line) → touches x k ≡ true → IsRightLine c lines k → or_else (mark_of lines k) (life x lines) ≡ Some Restored → (life x lines ≡ Some Restored → IsReplica c x) → IsReplica c x
    by_line (Restore n tuple) q h g rest =
        record { partition = h.partition; there = subst (λ (k : ℕ). partition_of c.partitions (node k) ≡ Some h.partition) (same_number n.0 x q) h.replica }
    by_line (Begin n epoch attempt tuple) q h g rest = absurd (cc)
    by_line (WentUp n epoch) q h g rest = absurd (cc)
    by_line (WentDown n cause) q h g rest = absurd (cc)
    by_line other q h g rest = rest g

    by_touch : (b : Bool) → touches x l ≡ b → (if b then or_else (mark_of lines l) (life x lines) else life x lines) ≡ Some Restored → (life x lines ≡ Some Restored → IsReplica c x) → IsReplica c x
    by_touch true q g rest = by_line l q right.0 g rest
    by_touch false q g rest = rest g

begun_not_restored : (o : Option Mark) → o ≡ Some Begun → o ≡ Some Restored → ⊥
begun_not_restored o e f = cc

none_not_some : (p : PartitionTable) (o : Option PartitionTable) → o ≡ None → o ≡ Some p → ⊥
none_not_some p o e f = cc

-- ---- worlds

module _ (c : Config) (lines new : List Line) (w v : World) (kept : KeepsShown c lines w) (plain : AllByRecursion IsUnshown new) where
  -- one node is put, which prints
  put_shown : (x : ℕ) (host : Host) → v.hosts ≡ (λ n. if n == x then host else w.hosts n) → AllByRecursion (IsOf (node x)) new → IsClosed (past lines new) x host → KeepsShown c (past lines new) v
  put_shown x host hosts own here = record {
    closed = subst (λ (f : ℕ → Host). (n : ℕ) → IsClosed (past lines new) n (f n)) (sym hosts) (λ n. go n (n == x) refl);
    shown = shown_past c new lines plain kept.shown;
  }
    where
      go : (n : ℕ) (b : Bool) → (n == x) ≡ b → IsClosed (past lines new) n (if b then host else w.hosts n)
      go n true e = subst (λ (k : ℕ). IsClosed (past lines new) k host) (sym (same_number n x e)) here
      go n false e = closed_past x n (λ same. other_number n x e (sym same)) new lines own (w.hosts n) (kept.closed n)

  -- none is
  still_shown : v.hosts ≡ w.hosts → AllByRecursion (λ (l : Line). (x : ℕ) → touches x l ≡ false) new → KeepsShown c (past lines new) v
  still_shown hosts none = record {
    closed = subst (λ (f : ℕ → Host). (n : ℕ) → IsClosed (past lines new) n (f n)) (sym hosts)
        (λ n. closed_past (suc n) n (λ e. omega arith) new lines (mapped (λ (l : Line). (x : ℕ) → touches x l ≡ false) (IsOf (node (suc n))) (λ l t other ne. t other) new none) (w.hosts n) (kept.closed n));
    shown = shown_past c new lines plain kept.shown;
  }

-- ---- a happening after a run

module _ (c : Config) (hs : List Happening) (r : IsRun c hs) where
  abbrev now : World
  now = run c hs nothing

  abbrev so_far : List Line
  so_far = past [] (run c hs nothing).lines

  step_own : (id : NodeId) (event : Event) (view : View) → now.hosts id.0 ≡ Up view → MayCome now id event → AllByRecursion (IsOf (node id.0)) (step c view event).lines
  step_own id event view e may =
      let u = up_lines c hs r id.0 view e in
      subst (λ (x : NodeId). AllByRecursion (IsOf x) (step c view event).lines) u.id
      (step_right c (valid_fits c r.valid) so_far view (view_lines c hs r id.0 view u) (subst (λ (x : NodeId). AllByRecursion (IsPlaced c x) (rings_in view.parts)) (sym u.id) u.placed) u.told u.covered event
      (subst (λ (x : NodeId). EventSaid c so_far x event) (sym u.id) (event_said c hs r id event may)) (step_agrees c hs r id event view e may)).1.own

  stood_lines : (n : ℕ) (after : Bool) (durable pending : Possible) → now.hosts n ≡ Down durable pending → PossibleLines c so_far n (chosen after durable pending)
  stood_lines n after durable pending e = possible_lines c hs r n (chosen after durable pending) (subst (λ (host : Host). IsPossible host (chosen after durable pending)) (sym e) (either after))
    where
      either : (after : Bool) → IsPossible (Down durable pending) (chosen after durable pending)
      either false = inl refl
      either true = inr refl

  opened_own : (id : NodeId) (after : Bool) (journal : Journal) (checkpoints : Checkpoints) (durable pending : Possible) → now.hosts id.0 ≡ Down durable pending → MayOpenAt c id after journal checkpoints (Down durable pending)
      → AllByRecursion (IsOf id) (opened c id journal checkpoints).lines
  opened_own id after journal checkpoints durable pending e may =
      (opened_lines c (valid_fits c r.valid) so_far id journal checkpoints (chosen after durable pending).state.epoch may.epoch
      (subst (λ (k : Option Checkpoint). KeptFor c so_far id (chosen after durable pending).state.epoch k (partition_of c.partitions id)) (sym may.newest) (stood_lines id.0 after durable pending e).kept)
      (run_lines c hs r).right (run_lines c hs r).known
      (covered_past c (line.Up id ((chosen after durable pending).state.epoch + 1) ∷ []) so_far journal.state
      (λ ring. subst (λ (rs : List RingState). IsCovered c so_far ring (slice_index_or rs ring.0 no_votes).trim) (sym may.rings) ((stood_lines id.0 after durable pending e).covered ring)))).1.own

  -- ---- what is shown

  module _ (id : NodeId) (there : IsNode c id) where
    show_up : (view : View) → now.hosts id.0 ≡ Up view → F4 c so_far (line.State id (shown_of view.service))
    show_up view e = by_service view.service refl
      where
        replica : ReplicaLines c so_far (node id.0) view.journal.state.epoch view.checkpoints.newest view.service
        replica = (up_lines c hs r id.0 view e).replica

        by_stage : (service : Service) → view.service ≡ Some service → (stage : Stage) → service.stage ≡ stage → F4 c so_far (line.State id (shown_of_stage stage))
        by_stage service f (Recovering attempt) g =
            let lines = service_lines c hs r id.0 view service e f in
            let stage : StageLines c so_far (node id.0) view.journal.state.epoch view.checkpoints.newest service.partition (Recovering attempt) =
            subst (λ (st : Stage). StageLines c so_far (node id.0) view.journal.state.epoch view.checkpoints.newest service.partition st) g lines.stage in
            record { fits_node = there; closed = begun_not_restored (life id.0 so_far) stage.0.begun }
        by_stage service f (Ready standing) g =
            let lines = service_lines c hs r id.0 view service e f in
            let ready = ready_lines c hs r id.0 view service standing e f g in
            let state = ready_at c hs r id.0 service.partition standing (record { service = service; serves = record { view = view; up = e; there = f; partition = refl }; ready = g }) in
            record {
              stands = record { partition = service.partition; replica = lines.own.replica; ready = ready.ready; tuple = standing.tuple; shown = refl; reached = ready.reached };
              bytes = below_bytes c so_far service.partition standing.tuple state.entries state.below ∙ ap (λ (x : Replica). Some (state_bytes x)) (sym state.same);
            }

        by_service : (o : Option Service) → view.service ≡ o → F4 c so_far (line.State id (shown_of o))
        by_service None f = record {
          fits_node = there;
          closed = λ g.
              let is : IsReplica c id.0 = restored_replica c id.0 so_far (run_lines c hs r).right g in
              none_not_some is.partition (partition_of c.partitions (node id.0)) (subst (λ (o : Option Service). ReplicaLines c so_far (node id.0) view.journal.state.epoch view.checkpoints.newest o) f replica) is.there;
        }
        by_service (Some service) f = by_stage service f service.stage refl

    show_line : (host : Host) → now.hosts id.0 ≡ host → IsClosed so_far id.0 host → F4 c so_far (line.State id (state_of_host host))
    show_line (Up view) e closed = show_up view e
    show_line (Down durable pending) e closed = record { fits_node = there; closed = closed }

  -- ---- what happens

  module _ (kept : KeepsShown c so_far now) where
    steps_shown : (id : NodeId) (event : Event) (host : Host) → now.hosts id.0 ≡ host → MayCome now id event → KeepsShown c (past [] (steps_as c id event host now).lines) (steps_as c id event host now)
    steps_shown id event (Down durable pending) e may = kept
    steps_shown id event (Up view) e may =
        subst (λ (ls : List Line). KeepsShown c ls (steps_as c id event (Up view) now)) (sym (past_more [] (run c hs nothing).lines (step c view event).lines))
        (put_shown c so_far (step c view event).lines now (steps_as c id event (Up view) now) kept (mapped IsNodeLine IsUnshown unshown_node (step c view event).lines (step_quiet c view event))
        id.0 (Up (step c view event).view) refl (step_own id event view e may) tt)

    downs_shown : (id : NodeId) (cause : Cause) (durable pending : Possible) (v : World) → v.lines ≡ (run c hs nothing).lines ++ line.Down id cause ∷ [] → v.hosts ≡ (λ n. if n == id.0 then Down durable pending else now.hosts n)
        → KeepsShown c (past [] v.lines) v
    downs_shown id cause durable pending v same hosts =
        subst (λ (ls : List Line). KeepsShown c ls v) (sym (ap (λ (ls : List Line). past [] ls) same ∙ past_more [] (run c hs nothing).lines (line.Down id cause ∷ [])))
        (put_shown c so_far (line.Down id cause ∷ []) now v kept (tt, tt) id.0 (Down durable pending) hosts ((λ other ne. differ id.0 other ne), tt) (down_closed id cause so_far))

    breaks_shown : (id : NodeId) (event : Event) (cause : Cause) (host : Host) → KeepsShown c (past [] (breaks_as c id event cause host now).lines) (breaks_as c id event cause host now)
    breaks_shown id event cause (Down durable pending) = kept
    breaks_shown id event cause (Up view) = downs_shown id cause (possible_of view) (possible_of (step c view event).view) (breaks_as c id event cause (Up view) now) refl refl

    crashes_shown : (id : NodeId) (cause : Cause) (host : Host) → KeepsShown c (past [] (crashes_as id cause host now).lines) (crashes_as id cause host now)
    crashes_shown id cause (Down durable pending) = kept
    crashes_shown id cause (Up view) = downs_shown id cause (possible_of view) (possible_of view) (crashes_as id cause (Up view) now) refl refl

    fails_shown : (id : NodeId) (after : Bool) (left : Possible) (cause : Cause) (host : Host) → KeepsShown c (past [] (fails_as id after left cause host now).lines) (fails_as id after left cause host now)
    fails_shown id after left cause (Up view) = kept
    fails_shown id after left cause (Down durable pending) = downs_shown id cause (chosen after durable pending) left (fails_as id after left cause (Down durable pending) now) refl refl

    opens_shown : (id : NodeId) (after : Bool) (journal : Journal) (checkpoints : Checkpoints) (host : Host) → now.hosts id.0 ≡ host → MayOpenAt c id after journal checkpoints host
        → KeepsShown c (past [] (opens_as c id journal checkpoints host now).lines) (opens_as c id journal checkpoints host now)
    opens_shown id after journal checkpoints (Up view) e may = kept
    opens_shown id after journal checkpoints (Down durable pending) e may =
        subst (λ (ls : List Line). KeepsShown c ls (opens_as c id journal checkpoints (Down durable pending) now))
        (sym (past_more [] (run c hs nothing).lines (line.Up id journal.state.epoch ∷ (opened c id journal checkpoints).lines)))
        (put_shown c so_far (line.Up id journal.state.epoch ∷ (opened c id journal checkpoints).lines) now (opens_as c id journal checkpoints (Down durable pending) now) kept
        (tt, mapped IsNodeLine IsUnshown unshown_node (opened c id journal checkpoints).lines (opened_quiet c id journal checkpoints))
        id.0 (Up (opened c id journal checkpoints).view) refl ((λ other ne. differ id.0 other ne), opened_own id after journal checkpoints durable pending e may) tt)

    client_shown : (id : ClientId) (effects : ClientEffects) → IsBeside c effects → KeepsShown c (past [] (client_step id effects now).lines) (client_step id effects now)
    client_shown id effects b =
        subst (λ (ls : List Line). KeepsShown c ls (client_step id effects now)) (sym (past_more [] (run c hs nothing).lines effects.lines))
        (still_shown c so_far effects.lines now (client_step id effects now) kept (mapped (IsClientLine c) IsUnshown (unshown_client c) effects.lines b.lines) refl
        (mapped (IsClientLine c) (λ (l : Line). (x : ℕ) → touches x l ≡ false) (touches_none c) effects.lines b.lines))

    -- a line that is shown of no node's life
    line_shown : (l : Line) → F4 c so_far l → ((x : ℕ) → touches x l ≡ false) → KeepsShown c (past [] (with_lines (l ∷ []) now).lines) (with_lines (l ∷ []) now)
    line_shown l rule none =
        subst (λ (ls : List Line). KeepsShown c ls (with_lines (l ∷ []) now)) (sym (past_more [] (run c hs nothing).lines (l ∷ [])))
        (record { closed = λ n. closed_past (suc n) n (λ e. omega arith) (l ∷ []) so_far ((λ other ne. none other), tt) (now.hosts n) (kept.closed n); shown = (rule, kept.shown) })

    happens_shown : (h : Happening) → MayHappen c now h → KeepsShown c (past [] (happens c h now).lines) (happens c h now)
    happens_shown (Steps id event) may = steps_shown id event ((run c hs nothing).hosts id.0) refl may
    happens_shown (Breaks id event cause) may = breaks_shown id event cause ((run c hs nothing).hosts id.0)
    happens_shown (Crashes id cause) may = crashes_shown id cause ((run c hs nothing).hosts id.0)
    happens_shown (Opens id after journal checkpoints) may = opens_shown id after journal checkpoints ((run c hs nothing).hosts id.0) refl may
    happens_shown (Fails id after left cause) may = fails_shown id after left cause ((run c hs nothing).hosts id.0)
    happens_shown (Asks id command) may = client_shown id (asks c ((run c hs nothing).clients id.0) command) (beside_asks c ((run c hs nothing).clients id.0) command (own_client c hs r id may.0))
    happens_shown (ClientTicks id) may = client_shown id (client_ticks c ((run c hs nothing).clients id.0)) (beside_ticks c ((run c hs nothing).clients id.0))
    happens_shown (ClientTakes id body) may = client_shown id (client_takes c ((run c hs nothing).clients id.0) body) (beside_takes c ((run c hs nothing).clients id.0) body)
    happens_shown (Shows id) may =
        line_shown (line.State id (state_of_host ((run c hs nothing).hosts id.0))) (show_line id may ((run c hs nothing).hosts id.0) refl (kept.closed id.0)) (λ x. refl)
    happens_shown (Lists number shown) may = line_shown (line.Frame number shown) tt (λ x. refl)

-- ---- runs

abbrev Shown : Config → World → Type 0
Shown c w = KeepsShown c (past [] w.lines) w

shown_on : (c : Config) → IsValid c → (first rest : List Happening) → MayRun c nothing first → MayRun c (run c first nothing) rest → Shown c (run c first nothing) → Shown c (run c rest (run c first nothing))
shown_on c valid first [] may more kept = kept
shown_on c valid first (h ∷ rest) may more kept =
    let same = run_both c nothing first (h ∷ []) in
    let there : Shown c (happens c h (run c first nothing)) = happens_shown c first (record { valid = valid; may = may }) kept h more.0 in
    subst (λ (w : World). Shown c (run c rest w)) (run_both c nothing first (h ∷ []))
    (shown_on c valid (first ++ h ∷ []) rest (may_both c nothing first (h ∷ []) may (more.0, tt)) (subst (λ (w : World). MayRun c w rest) (sym same) more.1) (subst (λ (w : World). Shown c w) (sym same) there))

run_shown : (c : Config) (hs : List Happening) → IsRun c hs → Shown c (run c hs nothing)
run_shown c hs r = shown_on c r.valid [] hs tt r.may (record { closed = λ n e. none e; shown = tt })
  where
    none : None ≡ Some Restored → ⊥
    none e = cc

shown_before : (c : Config) (new lines : List Line) → AreShown c (past lines new) → AreShown c lines
shown_before c [] lines shown = shown
shown_before c (l ∷ new) lines shown = (shown_before c new (l ∷ lines) shown).1

pub state_line : (c : Config) (hs : List Happening) → IsRun c hs → (before after : List Line) (x : NodeId) (shown : Option ShownState) → lines_of c hs ≡ before ++ State x shown ∷ after → F4 c (latest_first before) (State x shown)
state_line c hs r before after x shown at =
    (shown_before c after (State x shown ∷ past [] before)
    (subst (λ (ls : List Line). AreShown c ls) (ap (λ (ls : List Line). past [] ls) at ∙ past_more [] before (State x shown ∷ after)) (run_shown c hs r).shown)).0
