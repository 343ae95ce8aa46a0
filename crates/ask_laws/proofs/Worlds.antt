-- Every run keeps that all its entries were asked.
use Rattle.std.proofs.Common.{◌≡◌, ℕ, Bool, true, false, List, [], ◌∷◌, ◌++◌, Option, Some, None, refl, sym, subst, arith, inl, inr}
use Rattle.std.specs.Prelude.{◌==◌, if◌then◌else◌}
use Rattle.mrp_types.specs.declared.id.ClientId.{ClientId}
use Rattle.mrp_types.specs.declared.value.Entry.{Entry}
use Rattle.mrp_types.specs.Entries.{IsEntry}
use Rattle.command_codec.specs.declared.command.Command.{Command}
use Rattle.mrp_config.specs.Config.{Config}
use Rattle.mrp_config.specs.Valid.{IsValid, IsPartition}
use Rattle.mrp_config.specs.Walk.{node_ids, ring_ids}
use Rattle.state_laws.specs.States.{HasFewLogs}
use Rattle.std.specs.List.{AllByRecursion}
use Rattle.plain_model.proofs.TupleOrder.{same_number, other_number}
use Rattle.protocol.specs.Lines.{Line}
use Rattle.protocol.specs.Lines as line
use Rattle.protocol.specs.Client.{ClientView, ClientEffects, asks, client_ticks, client_takes}
use Rattle.bare_world.specs.Worlds.{Host, Up, Down, World, nothing, Happening, Steps, Breaks, Crashes, Opens, Fails, Asks, ClientTicks, ClientTakes, Shows, Lists, with_client, client_step, steps_as, breaks_as, crashes_as, opens_as, fails_as, state_of_host, happens}
use Rattle.bare_world.specs.Runs.{MayHappen, run, MayRun}
use Rattle.ask_laws.specs.Carried.{WorldCarries}
use Rattle.ask_laws.specs.Asks.{asked_with, asked_after, asked_in, IsAsked, IsTaken, ClientKeeps, ClientsKeep}
use Rattle.ask_laws.proofs.Commands.{IsOfBytes}
use Rattle.ask_laws.proofs.Given.{entry_of_bytes}
use Rattle.ask_laws.proofs.Lists.{mapped}
use Rattle.ask_laws.proofs.More.{world_more}
use Rattle.ask_laws.proofs.Hosts.{lines_put, frames_put, came_carries, crashes_carry, opens_carry, fails_carry, steps_carry, breaks_carry, none_carries}
use Rattle.ask_laws.proofs.Clients.{asked_more, keeps_more, EffectsKeep, Still, ticks_still, takes_still}
use Rattle.ask_laws.proofs.Asking.{now_asked, told_by, still_told, AskKeeps, asks_keep}

-- what a run keeps, with what was asked so far
pub record RunKeeps (config : Config) (asked : ℕ → ℕ → Option Command) (w : World) : Type 0 where
  pub clients : ClientsKeep config asked w.clients
  pub carried : WorldCarries (IsAsked config asked) (IsValid config) w

module _ (config : Config) (old new : ℕ → ℕ → Option Command) (more : (c s : ℕ) (x : Command) → old c s ≡ Some x → new c s ≡ Some x) where
  -- a client is put, which takes what is new
  clients_put : (clients : ℕ → ClientView) (id : ClientId) (view : ClientView) → ClientsKeep config old clients
      → ((s : ℕ) (x : Command) → new id.0 s ≡ Some x → IsTaken config id.0 s view.next x) → ((c s : ℕ) (x : Command) → (id.0 ≡ c → ⊥) → new c s ≡ Some x → old c s ≡ Some x)
      → ClientKeeps config new id.0 view → ClientsKeep config new (λ k. if k == id.0 then view else clients k)
  clients_put clients id view k own others is = record { taken = taken; each = each }
    where
      taken : (c s : ℕ) (x : Command) → new c s ≡ Some x → IsTaken config c s (if c == id.0 then view else clients c).next x
      taken c s x e = by (c == id.0) refl
        where
          by : (t : Bool) → (c == id.0) ≡ t → IsTaken config c s (if t then view else clients c).next x
          by true h =
              let same = sym (same_number c id.0 h) in
              subst (λ (n : ℕ). IsTaken config n s view.next x) same (own s x (subst (λ (n : ℕ). new n s ≡ Some x) (sym same) e))
          by false h = k.taken c s x (others c s x (λ same. other_number c id.0 h (sym same)) e)

      each : (c : ℕ) → ClientKeeps config new c (if c == id.0 then view else clients c)
      each c = by (c == id.0) refl
        where
          by : (t : Bool) → (c == id.0) ≡ t → ClientKeeps config new c (if t then view else clients c)
          by true h = subst (λ (n : ℕ). ClientKeeps config new n view) (sym (same_number c id.0 h)) is
          by false h = keeps_more config old new c (clients c) (more c) (k.each c)

  applies_effects_keeps : (id : ClientId) (effects : ClientEffects) (w : World) → RunKeeps config old w → ((s : ℕ) (x : Command) → new id.0 s ≡ Some x → IsTaken config id.0 s effects.client.next x)
      → ((c s : ℕ) (x : Command) → (id.0 ≡ c → ⊥) → new c s ≡ Some x → old c s ≡ Some x) → EffectsKeep config new id.0 effects → RunKeeps config new (client_step id effects w)
  applies_effects_keeps id effects w keeps own others d = record {
    clients = clients_put w.clients id effects.client keeps.clients own others d.client;
    carried = lines_put (IsAsked config new) (IsValid config) effects.lines sent d.lines (frames_put (IsAsked config new) (IsValid config) effects.frames put d.frames still);
  }
    where
      put : World
      put = with_client id effects.client w

      sent : World
      sent = record put { frames = put.frames ++ effects.frames }

      before : WorldCarries (IsAsked config new) (IsValid config) w
      before = world_more (IsAsked config old) (IsAsked config new) (IsValid config) (asked_more config old new more) w keeps.carried

      still : WorldCarries (IsAsked config new) (IsValid config) (with_client id effects.client w)
      still = record { hosts = before.hosts; frames = before.frames; lines = before.lines; works = before.works; read = before.read }

module _ (config : Config) (asked : ℕ → ℕ → Option Command) where
  still_keeps : (id : ClientId) (effects : ClientEffects) (w : World) → RunKeeps config asked w → Still config asked id.0 (w.clients id.0) effects → RunKeeps config asked (client_step id effects w)
  still_keeps id effects w keeps still =
      applies_effects_keeps config asked asked (λ c s x e. e) id effects w keeps
      (λ s x e. subst (λ (n : ℕ). IsTaken config id.0 s n x) (sym still.next) (keeps.clients.taken id.0 s x e)) (λ c s x other e. e) still.keeps

  -- what happens at a node leaves the clients
  at_node : (w v : World) → v.clients ≡ w.clients → RunKeeps config asked w → WorldCarries (IsAsked config asked) (IsValid config) v → RunKeeps config asked v
  at_node w v same keeps carried = record { clients = subst (λ (clients : ℕ → ClientView). ClientsKeep config asked clients) (sym same) keeps.clients; carried = carried }

  valid : (r : ℕ) (e : Entry) → IsAsked config asked r e → IsEntry e
  valid r e is = is.entry

  given : IsValid config → (r : ℕ) (e : Entry) → IsAsked config asked r e → IsOfBytes e
  given deployed r e is = entry_of_bytes config asked deployed r e is

  few_logs : IsValid config → AllByRecursion HasFewLogs config.partitions
  few_logs deployed = mapped (IsPartition (node_ids config.nodes) (ring_ids config.rings)) HasFewLogs (λ p is. record { few = is.few_logs; low = is.low_logs }) config.partitions deployed.partitions.each

  pub happening_keeps : (w : World) (h : Happening) → MayHappen config w h → RunKeeps config asked w → RunKeeps config (asked_with config w h asked) (happens config h w)
  happening_keeps w (Steps id event) may keeps =
      at_node w (steps_as config id event (w.hosts id.0) w) (same (w.hosts id.0)) keeps
      (steps_carry (IsAsked config asked) (IsValid config) valid given config id event (w.hosts id.0) w (came_carries (IsAsked config asked) (IsValid config) w id event may keeps.carried) (keeps.carried.hosts id.0) keeps.carried)
    where
      same : (host : Host) → (steps_as config id event host w).clients ≡ w.clients
      same (Up view) = refl
      same (Down durable pending) = refl
  happening_keeps w (Breaks id event cause) may keeps =
      at_node w (breaks_as config id event cause (w.hosts id.0) w) (same (w.hosts id.0)) keeps
      (breaks_carry (IsAsked config asked) (IsValid config) valid given config id event cause (w.hosts id.0) w (came_carries (IsAsked config asked) (IsValid config) w id event may keeps.carried) (keeps.carried.hosts id.0) keeps.carried)
    where
      same : (host : Host) → (breaks_as config id event cause host w).clients ≡ w.clients
      same (Up view) = refl
      same (Down durable pending) = refl
  happening_keeps w (Crashes id cause) may keeps =
      at_node w (crashes_as id cause (w.hosts id.0) w) (same (w.hosts id.0)) keeps (crashes_carry (IsAsked config asked) (IsValid config) id cause (w.hosts id.0) w (keeps.carried.hosts id.0) keeps.carried)
    where
      same : (host : Host) → (crashes_as id cause host w).clients ≡ w.clients
      same (Up view) = refl
      same (Down durable pending) = refl
  happening_keeps w (Opens id after journal checkpoints) may keeps =
      at_node w (opens_as config id journal checkpoints (w.hosts id.0) w) (same (w.hosts id.0)) keeps
      (opens_carry (IsAsked config asked) (IsValid config) given config few_logs id after journal checkpoints (w.hosts id.0) w may (keeps.carried.hosts id.0) keeps.carried)
    where
      same : (host : Host) → (opens_as config id journal checkpoints host w).clients ≡ w.clients
      same (Up view) = refl
      same (Down durable pending) = refl
  happening_keeps w (Fails id after left cause) may keeps =
      at_node w (fails_as id after left cause (w.hosts id.0) w) (same (w.hosts id.0)) keeps
      (fails_carry (IsAsked config asked) (IsValid config) id after left cause (w.hosts id.0) w may.1 (keeps.carried.hosts id.0) keeps.carried)
    where
      same : (host : Host) → (fails_as id after left cause host w).clients ≡ w.clients
      same (Up view) = refl
      same (Down durable pending) = refl
  happening_keeps w (Asks id command) may keeps =
      applies_effects_keeps config asked (now_asked config asked w.clients id command) (still_told config asked w.clients id command) id (asks config (w.clients id.0) command) w keeps made.taken others made.keeps
    where
      made : AskKeeps config asked w.clients id command (asks config (w.clients id.0) command)
      made = asks_keep config asked w.clients id command may.0 may.1 keeps.clients

      others : (c s : ℕ) (x : Command) → (id.0 ≡ c → ⊥) → now_asked config asked w.clients id command c s ≡ Some x → asked c s ≡ Some x
      others c s x other e = elim (told_by config asked w.clients id command c s x e) [
        | inl old ↦ old
        | inr new ↦ absurd (other new.own)
      ]
  happening_keeps w (ClientTicks id) may keeps =
      still_keeps id (client_ticks config (w.clients id.0)) w keeps (ticks_still config asked id.0 (w.clients id.0) (keeps.clients.each id.0) (keeps.clients.taken id.0))
  happening_keeps w (ClientTakes id body) may keeps =
      still_keeps id (client_takes config (w.clients id.0) body) w keeps (takes_still config asked id.0 (w.clients id.0) body (keeps.clients.each id.0))
  happening_keeps w (Shows id) may keeps = at_node w (happens config (Shows id) w) refl keeps (lines_put (IsAsked config asked) (IsValid config) (line.State id (state_of_host (w.hosts id.0)) ∷ []) w (tt, tt) keeps.carried)
  happening_keeps w (Lists number shown) may keeps = at_node w (happens config (Lists number shown) w) refl keeps (lines_put (IsAsked config asked) (IsValid config) (line.Frame number shown ∷ []) w (tt, tt) keeps.carried)

-- ---- runs

pub run_keeps : (config : Config) (hs : List Happening) (w : World) (asked : ℕ → ℕ → Option Command) → MayRun config w hs → RunKeeps config asked w
    → RunKeeps config (asked_after config hs w asked) (run config hs w)
run_keeps config [] w asked may keeps = keeps
run_keeps config (h ∷ hs) w asked may keeps = run_keeps config hs (happens config h w) (asked_with config w h asked) may.1 (happening_keeps config asked w h may.0 keeps)

none_keeps : (config : Config) → RunKeeps config (λ c s. None) nothing
none_keeps config = record {
  clients = record { taken = λ c s x e. absurd (no_command x e); each = λ c. record { id = refl; first = omega arith; awaited = tt } };
  carried = none_carries (IsAsked config (λ c s. None)) (IsValid config);
}
  where
    no_command : (x : Command) → None ≡ Some x → ⊥
    no_command x e = cc

-- in every run from nothing
pub all_keep : (config : Config) (hs : List Happening) → MayRun config nothing hs → RunKeeps config (asked_in config hs) (run config hs nothing)
all_keep config hs may = run_keeps config hs nothing (λ c s. None) may (none_keeps config)
