-- The epoch of a node never falls, so no frame names an epoch above those of all nodes.
use Rattle.std.proofs.Common.{◌≡◌, inl, inr, ℕ, ◌≤◌, Bool, true, false, List, [], ◌∷◌, ◌++◌, refl, sym, ◌∙◌, ap, subst, arith}
use Rattle.std.specs.Prelude.{◌==◌, if◌then◌else◌}
use Rattle.std.specs.List.{AllByRecursion}
use Rattle.mrp_types.specs.declared.id.NodeId.{NodeId}
use Rattle.mrp_types.specs.declared.id.Party.{Party}
use Rattle.mrp_types.specs.declared.id.Party.TheVariants.{Node, Client}
use Rattle.mrp_types.specs.declared.value.Entry.{Entry}
use Rattle.mrp_config.specs.Config.{Config}
use Rattle.mrp_config.specs.Valid.{IsValid}
use Rattle.plain_model.proofs.TupleOrder.{same_number}
use Rattle.vote_state.specs.declared.change.Change.{Change}
use Rattle.vote_state.specs.declared.change.Change.TheVariants.{Epoch, Promise, Vote, Trim}
use Rattle.vote_state.specs.State.{State, with_ring, with_promise, with_vote, with_trim, ring_at, taken}
use Rattle.vote_journal.specs.Journal.{Journal}
use Rattle.checkpoint.specs.Checkpoints.{Checkpoints}
use Rattle.frames.specs.declared.body.Body.{Body}
use Rattle.frames.specs.declared.body.Body.TheVariants as body
use Rattle.frames.specs.declared.sent.Sent.{Sent}
use Rattle.beside_rings.specs.Beside.{changes_in}
use Rattle.protocol.specs.Lines.{Cause}
use Rattle.protocol.specs.Node.{View, Event, Work, Nothing, Records, Saves, Compacts}
use Rattle.protocol.specs.Opening.{opened}
use Rattle.protocol.specs.Step.{step}
use Rattle.bare_world.specs.Worlds.{Possible, Host, Up, Down, World, Happening, Steps, Breaks, Crashes, Opens, Fails, Asks, ClientTicks, ClientTakes, Shows, Lists, nothing, possible_of, chosen, steps_as, breaks_as, crashes_as, opens_as, fails_as, happens}
use Rattle.bare_world.specs.Runs.{MayCome, MayOpenAt, MayLeaveAt, MayHappen, run, MayRun}
use Rattle.bare_world.proofs.Onward.{run_both, may_both}
use Rattle.ask_laws.specs.Asks.{asked_in, IsAsked}
use Rattle.ask_laws.specs.Carried.{ChangeCarries, WorkCarries, ViewCarries, HostCarries, PartyCarries, SentCarries}
use Rattle.ask_laws.proofs.Given.{entry_of_bytes}
use Rattle.ask_laws.proofs.Hosts.{came_carries}
use Rattle.ask_laws.proofs.Stepping.{step_carries}
use Rattle.ask_laws.proofs.Worlds.{all_keep}
use Rattle.bare_ties.proofs.Changing.{step_by}
use Rattle.line_runs.specs.Laws.{IsPossible}
use Rattle.world_shape.specs.Shape.{EpochIs, EpochAtMost, AreAtMost}
use Rattle.world_shape.proofs.Spelled.{epoch_is}
use Rattle.world_shape.proofs.Fitting.{PartyFits, FromFits, AllFine, opened_journal, runs_fine}
use Rattle.world_shape.proofs.Shaping.{state_after}

-- ---- the epoch of a node

-- each state that the node's disk may stand for is at least in this epoch
abbrev LeastIs : ℕ → Host → Type 0
LeastIs m (Up view) = m ≤ view.journal.state.epoch
LeastIs m (Down durable pending) = (m ≤ durable.state.epoch) × (m ≤ pending.state.epoch)

same_epoch : (Is : ℕ → Entry → Type 0) (cs : List Change) → AllByRecursion (ChangeCarries Is) cs → (s : State) → (taken cs s).epoch ≡ s.epoch
same_epoch Is [] all s = refl
same_epoch Is (Epoch e ∷ cs) all s = absurd all.0
same_epoch Is (Promise ring ballot ∷ cs) all s = same_epoch Is cs all.1 (with_ring ring (with_promise ballot (ring_at s ring)) s)
same_epoch Is (Vote ring v ∷ cs) all s = same_epoch Is cs all.1 (with_ring ring (with_vote v (ring_at s ring)) s)
same_epoch Is (Trim ring inst ∷ cs) all s = same_epoch Is cs all.1 (with_ring ring (with_trim inst (ring_at s ring)) s)

in_work : (Is : ℕ → Entry → Type 0) (work : Work) → WorkCarries Is work → AllByRecursion (ChangeCarries Is) (changes_in work)
in_work Is Nothing c = tt
in_work Is (Records changes) c = c
in_work Is (Saves tuple state) c = tt
in_work Is Compacts c = tt

put_least : (id : NodeId) (host : Host) (w : World) (m n : ℕ) → (n ≡ id.0 → LeastIs m host) → LeastIs m (w.hosts n) → LeastIs m (if n == id.0 then host else w.hosts n)
put_least id host w m n here least = go (n == id.0) refl
  where
    go : (t : Bool) → (n == id.0) ≡ t → LeastIs m (if t then host else w.hosts n)
    go true e = here (same_number n id.0 e)
    go false e = least

module _ (config : Config) (valid : IsValid config) (before : List Happening) (ran : MayRun config nothing before) where
  abbrev now : World
  now = run config before nothing

  step_epoch : (id : NodeId) (view : View) (event : Event) → now.hosts id.0 ≡ Up view → MayCome now id event → (step config view event).view.journal.state.epoch ≡ view.journal.state.epoch
  step_epoch id view event here may =
      let Is : ℕ → Entry → Type 0 = IsAsked config (asked_in config before) in
      let c : ViewCarries (IsAsked config (asked_in config before)) (IsValid config) view = subst (λ (h : Host). HostCarries (IsAsked config (asked_in config before)) (IsValid config) h) here ((all_keep config before ran).carried.hosts id.0) in
      let made = step_carries (IsAsked config (asked_in config before)) (IsValid config) (λ r e is. is.entry) (λ deployed r e is. entry_of_bytes config (asked_in config before) deployed r e is) config view event c
      (came_carries (IsAsked config (asked_in config before)) (IsValid config) now id event may (all_keep config before ran).carried) in
      ap (λ (j : Journal). j.state.epoch) (step_by config view event).journal ∙ ap (λ (s : State). s.epoch) (state_after view (step config view event).work)
      ∙ same_epoch (IsAsked config (asked_in config before)) (changes_in (step config view event).work) (in_work (IsAsked config (asked_in config before)) (step config view event).work made.work) view.journal.state

  module _ (m n : ℕ) (least : LeastIs m (now.hosts n)) where
    at_host : (id : NodeId) (host : Host) → now.hosts id.0 ≡ host → n ≡ id.0 → LeastIs m host
    at_host id host here e = subst (λ (h : Host). LeastIs m h) (ap (λ (k : ℕ). now.hosts k) e ∙ here) least

    steps_least : (id : NodeId) (event : Event) (host : Host) → now.hosts id.0 ≡ host → MayCome now id event → LeastIs m ((steps_as config id event host now).hosts n)
    steps_least id event (Down durable pending) here may = least
    steps_least id event (Up view) here may =
        put_least id (Up (step config view event).view) now m n (λ e. subst (λ (k : ℕ). m ≤ k) (sym (step_epoch id view event here may)) (at_host id (Up view) here e)) least

    breaks_least : (id : NodeId) (event : Event) (cause : Cause) (host : Host) → now.hosts id.0 ≡ host → MayCome now id event → LeastIs m ((breaks_as config id event cause host now).hosts n)
    breaks_least id event cause (Down durable pending) here may = least
    breaks_least id event cause (Up view) here may =
        put_least id (Down (possible_of view) (possible_of (step config view event).view)) now m n
        (λ e. (at_host id (Up view) here e, subst (λ (k : ℕ). m ≤ k) (sym (step_epoch id view event here may)) (at_host id (Up view) here e))) least

    crashes_least : (id : NodeId) (cause : Cause) (host : Host) → now.hosts id.0 ≡ host → LeastIs m ((crashes_as id cause host now).hosts n)
    crashes_least id cause (Down durable pending) here = least
    crashes_least id cause (Up view) here = put_least id (Down (possible_of view) (possible_of view)) now m n (λ e. (at_host id (Up view) here e, at_host id (Up view) here e)) least

    picked : (after : Bool) (durable pending : Possible) → LeastIs m (Down durable pending) → m ≤ (chosen after durable pending).state.epoch
    picked false durable pending d = d.0
    picked true durable pending d = d.1

    opens_least : (id : NodeId) (after : Bool) (journal : Journal) (checkpoints : Checkpoints) (host : Host) → now.hosts id.0 ≡ host → MayOpenAt config id after journal checkpoints host → LeastIs m ((opens_as config id journal checkpoints host now).hosts n)
    opens_least id after journal checkpoints (Up view) here may = least
    opens_least id after journal checkpoints (Down durable pending) here may =
        put_least id (Up (opened config id journal checkpoints).view) now m n
        (λ e.
        let stood = picked after durable pending (at_host id (Down durable pending) here e) in
        let more = may.epoch in
        let low : m ≤ journal.state.epoch = omega arith in
        subst (λ (j : Journal). m ≤ j.state.epoch) (sym (opened_journal config id journal checkpoints)) low) least

    fails_least : (id : NodeId) (after : Bool) (left : Possible) (cause : Cause) (host : Host) → now.hosts id.0 ≡ host → MayLeaveAt after left host → LeastIs m ((fails_as id after left cause host now).hosts n)
    fails_least id after left cause (Up view) here may = least
    fails_least id after left cause (Down durable pending) here may =
        put_least id (Down (chosen after durable pending) left) now m n
        (λ e.
        let stood = picked after durable pending (at_host id (Down durable pending) here e) in
        (stood, elim may.epoch [ inl same ↦ omega arith | inr more ↦ omega arith ])) least

    happens_least : (h : Happening) → MayHappen config now h → LeastIs m ((happens config h now).hosts n)
    happens_least (Steps id event) may = steps_least id event (now.hosts id.0) refl may
    happens_least (Breaks id event cause) may = breaks_least id event cause (now.hosts id.0) refl may
    happens_least (Crashes id cause) may = crashes_least id cause (now.hosts id.0) refl
    happens_least (Opens id after journal checkpoints) may = opens_least id after journal checkpoints (now.hosts id.0) refl may
    happens_least (Fails id after left cause) may = fails_least id after left cause (now.hosts id.0) refl may.1
    happens_least (Asks id command) may = least
    happens_least (ClientTicks id) may = least
    happens_least (ClientTakes id b) may = least
    happens_least (Shows id) may = least
    happens_least (Lists number shown) may = least

-- ---- a run

run_least : (config : Config) → IsValid config → (hs before : List Happening) → MayRun config nothing before → MayRun config (run config before nothing) hs → (m n : ℕ) → LeastIs m ((run config before nothing).hosts n)
    → LeastIs m ((run config hs (run config before nothing)).hosts n)
run_least config valid [] before ran may m n least = least
run_least config valid (h ∷ hs) before ran may m n least =
    let same = run_both config nothing before (h ∷ []) in
    subst (λ (w : World). LeastIs m ((run config hs w).hosts n)) same
    (run_least config valid hs (before ++ h ∷ []) (may_both config nothing before (h ∷ []) ran (may.0, tt)) (subst (λ (w : World). MayRun config w hs) (sym same) may.1) m n
    (subst (λ (w : World). LeastIs m (w.hosts n)) (sym same) (happens_least config valid before ran m n least h may.0)))

within : (limit m n : ℕ) (w : World) → AreAtMost limit w → LeastIs m (w.hosts n) → m ≤ limit
within limit m n w low least = go (w.hosts n) refl least
  where
    go : (host : Host) → w.hosts n ≡ host → LeastIs m host → m ≤ limit
    go (Up view) e own = let most = low n (possible_of view) (subst (λ (h : Host). IsPossible h (possible_of view)) (sym e) refl) in omega arith
    go (Down durable pending) e own = let most = low n durable (subst (λ (h : Host). IsPossible h durable) (sym e) (inl refl)) in let first = own.0 in omega arith

all_low : (config : Config) → IsValid config → (limit : ℕ) (hs before : List Happening) → MayRun config nothing before → MayRun config (run config before nothing) hs → AreAtMost limit (run config hs (run config before nothing))
    → AllFine (λ e. e ≤ limit) config hs (run config before nothing)
all_low config valid limit [] before ran may low = λ id view here. low id.0 (possible_of view) (subst (λ (h : Host). IsPossible h (possible_of view)) (sym here) refl)
all_low config valid limit (h ∷ hs) before ran may low =
    let same = run_both config nothing before (h ∷ []) in (
      λ id view here.
          let m : ℕ = view.journal.state.epoch in
          within limit view.journal.state.epoch id.0 (run config (h ∷ hs) (run config before nothing)) low
          (run_least config valid (h ∷ hs) before ran may view.journal.state.epoch id.0 (subst (λ (x : Host). LeastIs view.journal.state.epoch x) (sym here) (omega arith))),
      subst (λ (w : World). AllFine (λ e. e ≤ limit) config hs w) same
          (all_low config valid limit hs (before ++ h ∷ []) (may_both config nothing before (h ∷ []) ran (may.0, tt)) (subst (λ (w : World). MayRun config w hs) (sym same) may.1)
          (subst (λ (w : World). AreAtMost limit (run config hs w)) (sym same) low)),
    )

-- ---- frames

from_epoch : (fine : ℕ → Type 0) (config : Config) (Is : ℕ → Entry → Type 0) (Valid : Type 0) (from to : Party) (b : Body) → PartyFits fine config from to b → PartyCarries Is Valid from b → EpochIs fine b
from_epoch fine config Is Valid (Node x) to b f c = epoch_is fine b f.1
from_epoch fine config Is Valid (Client x) to (body.Submit r hops client seq command) f c = tt
from_epoch fine config Is Valid (Client x) to other f c = absurd c

all_epochs : (fine : ℕ → Type 0) (config : Config) (Is : ℕ → Entry → Type 0) (Valid : Type 0) (frames : List Sent) → AllByRecursion (FromFits fine config) frames → AllByRecursion (SentCarries Is Valid) frames
    → AllByRecursion (λ (sent : Sent). EpochIs fine sent.frame.body) frames
all_epochs fine config Is Valid [] f c = tt
all_epochs fine config Is Valid (sent ∷ frames) f c = (from_epoch fine config Is Valid sent.frame.from sent.to sent.frame.body f.0 c.0, all_epochs fine config Is Valid frames f.1 c.1)

pub epochs_hold : (config : Config) → IsValid config → (hs : List Happening) → MayRun config nothing hs → (limit : ℕ) → AreAtMost limit (run config hs nothing) → AllByRecursion (EpochAtMost limit) (run config hs nothing).frames
epochs_hold config valid hs may limit low =
    all_epochs (λ e. e ≤ limit) config (IsAsked config (asked_in config hs)) (IsValid config) (run config hs nothing).frames
    (runs_fine (λ e. e ≤ limit) config valid hs may (all_low config valid limit hs [] tt may low)).frames (all_keep config hs may).carried.frames
