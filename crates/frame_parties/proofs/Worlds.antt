-- A happening keeps the names of a world.
use Rattle.std.proofs.Common.{◌≡◌, ℕ, Bool, true, false, ◌++◌, refl, sym, subst}
use Rattle.std.specs.Prelude.{◌==◌, if◌then◌else◌}
use Rattle.mrp_types.specs.declared.id.NodeId.{NodeId}
use Rattle.mrp_types.specs.declared.id.ClientId.{ClientId}
use Rattle.mrp_types.specs.declared.id.Party.{Party}
use Rattle.mrp_types.specs.declared.id.Party.TheVariants.{Node, Client}
use Rattle.mrp_config.specs.Config.{Config}
use Rattle.vote_journal.specs.Journal.{Journal}
use Rattle.frames.specs.declared.body.Body.{Body}
use Rattle.frames.specs.declared.body.Body.TheVariants.{Reply}
use Rattle.frames.specs.declared.frame.Frame.{Frame}
use Rattle.checkpoint.specs.Checkpoints.{Checkpoints}
use Rattle.protocol.specs.Lines.{Cause}
use Rattle.protocol.specs.Client.{ClientEffects, asks, client_ticks, client_takes}
use Rattle.protocol.specs.Node.{Event, Ticks, Takes, Leads, Stepped}
use Rattle.protocol.specs.Opening.{opened}
use Rattle.protocol.specs.Step.{step}
use Rattle.bare_world.specs.Worlds.{Possible, Host, Up, Down, World, Happening, Steps, Breaks, Crashes, Opens, Fails, Asks, ClientTicks, ClientTakes, Shows, Lists, happens, steps_as, breaks_as, crashes_as, opens_as, fails_as, client_step}
use Rattle.bare_world.specs.Runs.{IsClient, MayCome, MayOpenAt, MayHappen}
use Rattle.line_rules.specs.Rules.{HasClient, HasParty}
use Rattle.faithful.proofs.Quorum.{all_has}
use Rattle.quorums.proofs.Each.{appended}
use Rattle.frame_parties.proofs.Invariant.{GoesBetween, IsAddressed, AreAddressed, IsClosed, EventNamed, HostNamed, WorldNamed}
use Rattle.frame_parties.proofs.Clients.{asks_named, ticks_named, takes_named}
use Rattle.frame_parties.proofs.Stepping.{StepNamed, step_named, opened_named}

from_there : (c : Config) (from to : Party) (body : Body) → GoesBetween c from to body → HasParty c from
from_there c (Node from) (Node to) body is = is.0
from_there c (Node from) (Client to) (Reply client seq partition reply) is = is.0
from_there c (Node from) (Client to) other is = absurd is
from_there c (Client from) (Node to) body is = is.0
from_there c (Client from) (Client to) body is = absurd is

hosts_put : (c : Config) (x : ℕ) (host : Host) (hosts : ℕ → Host) → HostNamed c host → ((n : ℕ) → HostNamed c (hosts n)) → (n : ℕ) → HostNamed c (if n == x then host else hosts n)
hosts_put c x host hosts here others n = go (n == x)
  where
    go : (b : Bool) → HostNamed c (if b then host else hosts n)
    go true = here
    go false = others n

module _ (c : Config) (closed : IsClosed c) (w : World) (clients : (n : ℕ) → (w.clients n).id ≡ record { 0 = n }) (named : WorldNamed c w) where
  -- what comes was sent
  event_named : (id : NodeId) (event : Event) → MayCome w id event → EventNamed c event
  event_named id Ticks may = tt
  event_named id (Leads ring) may = tt
  event_named id (Takes frame) may =
      subst (λ (f : Frame). HasParty c f.from) may.same (from_there c may.sent.frame.from may.sent.to may.sent.frame.body (all_has (IsAddressed c) w.frames may.sent named.frames may.there))

  own_client : (id : ClientId) → IsClient c id → HasClient c (w.clients id.0).id
  own_client id there = subst (λ (k : ClientId). HasClient c k) (sym (clients id.0)) there

  -- a node is up with what a step leaves
  up_named : (id : NodeId) (made : Stepped) (v : World) → v.frames ≡ w.frames ++ made.frames → v.hosts ≡ (λ n. if n == id.0 then Up made.view else w.hosts n) → StepNamed c made → WorldNamed c v
  up_named id made v fs hs s = record {
    frames = subst (AreAddressed c) (sym fs) (appended (IsAddressed c) w.frames made.frames named.frames s.frames);
    hosts = subst (λ (f : ℕ → Host). (n : ℕ) → HostNamed c (f n)) (sym hs) (hosts_put c id.0 (Up made.view) w.hosts s.view named.hosts);
  }

  -- a node goes down
  down_named : (id : NodeId) (durable pending : Possible) (v : World) → v.frames ≡ w.frames → v.hosts ≡ (λ n. if n == id.0 then Down durable pending else w.hosts n) → WorldNamed c v
  down_named id durable pending v fs hs = record {
    frames = subst (AreAddressed c) (sym fs) named.frames;
    hosts = subst (λ (f : ℕ → Host). (n : ℕ) → HostNamed c (f n)) (sym hs) (hosts_put c id.0 (Down durable pending) w.hosts tt named.hosts);
  }

  -- frames of clients
  client_named : (id : ClientId) (made : ClientEffects) → AreAddressed c made.frames → WorldNamed c (client_step id made w)
  client_named id made s = record { frames = appended (IsAddressed c) w.frames made.frames named.frames s; hosts = named.hosts }

  steps_named : (id : NodeId) (event : Event) (host : Host) → HostNamed c host → EventNamed c event → WorldNamed c (steps_as c id event host w)
  steps_named id event (Down durable pending) h is = named
  steps_named id event (Up view) h is = up_named id (step c view event) (steps_as c id event (Up view) w) refl refl (step_named c closed view h event is)

  breaks_named : (id : NodeId) (event : Event) (cause : Cause) (host : Host) → WorldNamed c (breaks_as c id event cause host w)
  breaks_named id event cause (Down durable pending) = named
  breaks_named id event cause (Up view) = down_named id _ _ (breaks_as c id event cause (Up view) w) refl refl

  crashes_named : (id : NodeId) (cause : Cause) (host : Host) → WorldNamed c (crashes_as id cause host w)
  crashes_named id cause (Down durable pending) = named
  crashes_named id cause (Up view) = down_named id _ _ (crashes_as id cause (Up view) w) refl refl

  opens_named : (id : NodeId) (after : Bool) (journal : Journal) (checkpoints : Checkpoints) (host : Host) → MayOpenAt c id after journal checkpoints host → WorldNamed c (opens_as c id journal checkpoints host w)
  opens_named id after journal checkpoints (Up view) may = named
  opens_named id after journal checkpoints (Down durable pending) may =
      up_named id (opened c id journal checkpoints) (opens_as c id journal checkpoints (Down durable pending) w) refl refl (opened_named c closed id may.node journal checkpoints)

  fails_named : (id : NodeId) (after : Bool) (left : Possible) (cause : Cause) (host : Host) → WorldNamed c (fails_as id after left cause host w)
  fails_named id after left cause (Up view) = named
  fails_named id after left cause (Down durable pending) = down_named id _ left (fails_as id after left cause (Down durable pending) w) refl refl

  pub happens_named : (h : Happening) → MayHappen c w h → WorldNamed c (happens c h w)
  happens_named (Steps id event) may = steps_named id event (w.hosts id.0) (named.hosts id.0) (event_named id event may)
  happens_named (Breaks id event cause) may = breaks_named id event cause (w.hosts id.0)
  happens_named (Crashes id cause) may = crashes_named id cause (w.hosts id.0)
  happens_named (Opens id after journal checkpoints) may = opens_named id after journal checkpoints (w.hosts id.0) may
  happens_named (Fails id after left cause) may = fails_named id after left cause (w.hosts id.0)
  happens_named (Asks id command) may = client_named id (asks c (w.clients id.0) command) (asks_named c closed (w.clients id.0) command (own_client id may.0))
  happens_named (ClientTicks id) may = client_named id (client_ticks c (w.clients id.0)) (ticks_named c closed (w.clients id.0) (own_client id may))
  happens_named (ClientTakes id body) may = client_named id (client_takes c (w.clients id.0) body) (takes_named c closed (w.clients id.0) body)
  happens_named (Shows id) may = record { frames = named.frames; hosts = named.hosts }
  happens_named (Lists number shown) may = record { frames = named.frames; hosts = named.hosts }
