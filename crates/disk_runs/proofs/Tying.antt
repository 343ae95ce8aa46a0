-- What is put into both worlds leaves them tied.
use Rattle.std.proofs.Common.{◌≡◌, ℕ, ◌==◌, Bool, true, false, cond, List, [], ◌∷◌, ◌++◌, Option, Some, refl, sym, ap, ◌∙◌, subst, append-nil}
use Rattle.std.specs.Prelude.{if◌then◌else◌}
use Rattle.mrp_types.specs.declared.id.NodeId.{NodeId}
use Rattle.mrp_types.specs.declared.id.ClientId.{ClientId}
use Rattle.mrp_config.specs.Config.{Config}
use Rattle.frames.specs.declared.sent.Sent.{Sent}
use Rattle.plain_model.proofs.TupleOrder.{same_number}
use Rattle.protocol.specs.Client.{ClientView}
use Rattle.bare_world.specs.Worlds as bare
use Rattle.bare_world.specs.Runs.{IsNode, IsClient}
use Rattle.world_model.specs.Worlds.{Host, World, node_at, with_node, client_at, with_client, sends}
use Rattle.bare_ties.specs.Ties.{HostTies}
use Rattle.disk_runs.specs.Runs.{NodeTies, ClientTies, WorldTies}
use Rattle.disk_runs.proofs.Lookups.{put_at}

-- what is found at a node once this one was put, and at a client
pub node_put : (w : World) (id : NodeId) (host : Host) (q : NodeId) → node_at (with_node id host w) q ≡ cond (q.0 == id.0) (Some host) (node_at w q)
node_put w id host q = put_at (λ (n : NodeId). n.0) w.nodes id host q

client_put : (w : World) (id : ClientId) (view : ClientView) (q : ClientId) → client_at (with_client id view w) q ≡ cond (q.0 == id.0) (Some view) (client_at w q)
client_put w id view q = put_at (λ (n : ClientId). n.0) w.clients id view q

pub same_node : (q id : NodeId) → (q.0 == id.0) ≡ true → id ≡ q
same_node q id e = ap (λ (n : ℕ). (let r : NodeId = record { 0 = n } in r)) (sym (same_number q.0 id.0 e))

same_client : (q id : ClientId) → (q.0 == id.0) ≡ true → id ≡ q
same_client q id e = ap (λ (n : ℕ). (let r : ClientId = record { 0 = n } in r)) (sym (same_number q.0 id.0 e))

module _ (config : Config) where
  pub nodes_put : (w : World) (hosts : ℕ → bare.Host) (id : NodeId) (host : Host) (other : bare.Host) → ((q : NodeId) → NodeTies config q (node_at w q) (hosts q.0)) → IsNode config id → HostTies config id host other
      → (q : NodeId) → NodeTies config q (node_at (with_node id host w) q) (if q.0 == id.0 then other else hosts q.0)
  nodes_put w hosts id host other ties there here q =
      subst (λ (o : Option Host). NodeTies config q o (if q.0 == id.0 then other else hosts q.0)) (sym (node_put w id host q)) (by (q.0 == id.0) refl)
    where
      by : (t : Bool) → (q.0 == id.0) ≡ t → NodeTies config q (cond t (Some host) (node_at w q)) (if t then other else hosts q.0)
      by true e = subst (λ (n : NodeId). IsNode config n × HostTies config n host other) (same_node q id e) (there, here)
      by false e = ties q

  pub clients_put : (w : World) (clients : ℕ → ClientView) (id : ClientId) (view : ClientView) → ((q : ClientId) → ClientTies config q (client_at w q) (clients q.0)) → IsClient config id
      → (q : ClientId) → ClientTies config q (client_at (with_client id view w) q) (if q.0 == id.0 then view else clients q.0)
  clients_put w clients id view ties there q =
      subst (λ (o : Option ClientView). ClientTies config q o (if q.0 == id.0 then view else clients q.0)) (sym (client_put w id view q)) (by (q.0 == id.0) refl)
    where
      by : (t : Bool) → (q.0 == id.0) ≡ t → ClientTies config q (cond t (Some view) (client_at w q)) (if t then view else clients q.0)
      by true e = (subst (λ (n : ClientId). IsClient config n) (same_client q id e) there, refl)
      by false e = ties q

  -- frames are sent in both
  pub sent_ties : (frames : List Sent) (w : World) (b : bare.World) → ((q : NodeId) → NodeTies config q (node_at w q) (b.hosts q.0)) → ((q : ClientId) → ClientTies config q (client_at w q) (b.clients q.0))
      → b.frames ≡ w.frames ++ frames → WorldTies config (sends frames w) b
  sent_ties [] w b nodes clients all = record { nodes = nodes; clients = clients; frames = all ∙ append-nil w.frames }
  sent_ties (s ∷ frames) w b nodes clients all = record { nodes = nodes; clients = clients; frames = all }
