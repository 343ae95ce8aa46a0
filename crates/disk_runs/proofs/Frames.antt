-- What happens at a client, and frames that come.
use Rattle.std.proofs.Common.{◌≡◌, ℕ, ◌+◌, zero, suc, List, [], ◌∷◌, ◌++◌, Option, Some, None, inl, inr, refl, sym, ap, subst, arith}
use Rattle.std.specs.Prelude.{slice_get}
use Rattle.mrp_types.specs.declared.id.NodeId.{NodeId}
use Rattle.mrp_types.specs.declared.id.ClientId.{ClientId}
use Rattle.mrp_types.specs.declared.id.Party.{Party}
use Rattle.mrp_types.specs.declared.id.Party.TheVariants.{Node, Client}
use Rattle.mrp_config.specs.Config.{Config}
use Rattle.command_codec.specs.declared.command.Command.{Command}
use Rattle.frames.specs.declared.sent.Sent.{Sent}
use Rattle.quorums.specs.Groups.{Has}
use Rattle.protocol.specs.Client.{ClientView, ClientEffects, MayBeAsked, asks, client_ticks, client_takes}
use Rattle.protocol.specs.Node.{Event, Takes}
use Rattle.bare_world.specs.Worlds as bare
use Rattle.bare_world.specs.Runs.{IsClient, MayCome, MayHappen, MayRun, WasSent}
use Rattle.world_model.specs.Worlds.{World, client_at, with_client, client_step, client_gets, client_asks, client_step_tick, ticks_client, delivers_to, delivers, moves_on, flows}
use Rattle.disk_runs.specs.Runs.{ClientTies, WorldTies, world_after, IsListed, GoesOn}
use Rattle.disk_runs.proofs.Going.{Goes, by_none, by_one, then_goes}
use Rattle.disk_runs.proofs.Tying.{clients_put, sent_ties}
use Rattle.disk_runs.proofs.Nodes.{WorksAt, step_goes}

-- a frame that is found was sent
found_at : (frames : List Sent) (n : ℕ) (sent : Sent) → slice_get frames n ≡ Some sent → Has frames sent
found_at [] n sent e = absurd (grind arith)
found_at (x ∷ frames) zero sent e = inl (let same : x ≡ sent = cc in sym same)
found_at (x ∷ frames) (suc n) sent e = inr (found_at frames n sent e)

module _ (config : Config) where
  -- ---- clients

  module _ (past : List bare.Happening) (ran : MayRun config bare.nothing past) (w : World) (ties : WorldTies config w (world_after config past)) (id : ClientId) where
    abbrev b : bare.World
    b = world_after config past

    client_goes : (h : bare.Happening) → MayHappen config b h → IsListed b h → (made : ClientEffects) → bare.happens config h b ≡ bare.client_step id made b → IsClient config id → GoesOn config past (client_step id made w)
    client_goes h may listed made is there =
        by_one config past ran h may listed (bare.client_step id made b) is (client_step id made w)
        (sent_ties config made.frames (with_client id made.client w) (bare.client_step id made b) ties.nodes (clients_put config w b.clients id made.client ties.clients there)
        (ap (λ frames. frames ++ made.frames) ties.frames))
        refl

    pub asks_goes : (command : Command) → MayBeAsked command → GoesOn config past (client_asks config id command (client_at w id) w)
    asks_goes command may = by (client_at w id) (ties.clients id)
      where
        by : (o : Option ClientView) → ClientTies config id o (b.clients id.0) → GoesOn config past (client_asks config id command o w)
        by None tied = by_none config past ran w ties
        by (Some view) tied = client_goes (bare.Asks id command) (tied.0, may) tt (asks config view command) (ap (λ (c : ClientView). bare.client_step id (asks config c command) b) tied.1) tied.0

    pub tick_goes : GoesOn config past (ticks_client config id w)
    tick_goes = by (client_at w id) (ties.clients id)
      where
        by : (o : Option ClientView) → ClientTies config id o (b.clients id.0) → GoesOn config past (client_step_tick config id o w)
        by None tied = by_none config past ran w ties
        by (Some view) tied = client_goes (bare.ClientTicks id) tied.0 tt (client_ticks config view) (ap (λ (c : ClientView). bare.client_step id (client_ticks config c) b) tied.1) tied.0

    gets_goes : (sent : Sent) → Has w.frames sent → sent.to ≡ Client id → GoesOn config past (client_gets config id sent.frame.body (client_at w id) w)
    gets_goes sent has to = by (client_at w id) (ties.clients id)
      where
        was : WasSent b.frames (Client id) sent.frame
        was = record { sent = sent; there = subst (λ (frames : List Sent). Has frames sent) (sym ties.frames) has; by = to; same = refl }

        by : (o : Option ClientView) → ClientTies config id o (b.clients id.0) → GoesOn config past (client_gets config id sent.frame.body o w)
        by None tied = by_none config past ran w ties
        by (Some view) tied =
            client_goes (bare.ClientTakes id sent.frame.body) (tied.0, record { frame = sent.frame; sent = was; same = refl }) tt (client_takes config view sent.frame.body)
            (ap (λ (c : ClientView). bare.client_step id (client_takes config c sent.frame.body) b) tied.1) tied.0

  -- ---- frames

  -- the work of whatever step may be done, wherever a run has come
  abbrev pub Works : Type 0
  Works = (past : List bare.Happening) (ran : MayRun config bare.nothing past) (w : World) (ties : WorldTies config w (world_after config past)) (id : NodeId) (event : Event) → MayCome (world_after config past) id event
      → WorksAt config past ran w ties id event

  module _ (works : Works) where
    pub comes_goes : (sent : Sent) (past : List bare.Happening) → MayRun config bare.nothing past → (w : World) → WorldTies config w (world_after config past) → Has w.frames sent → GoesOn config past (delivers_to config sent.to sent w)
    comes_goes sent past ran w ties has = by sent.to refl
      where
        by : (to : Party) → sent.to ≡ to → GoesOn config past (delivers_to config to sent w)
        by (Node id) to =
            let was : MayCome (world_after config past) id (Takes sent.frame) = record { sent = sent; there = subst (λ (frames : List Sent). Has frames sent) (sym ties.frames) has; by = to; same = refl } in
            step_goes config past ran w ties id (Takes sent.frame) was (works past ran w ties id (Takes sent.frame) was)
        by (Client id) to = gets_goes past ran w ties id sent has to

    pub deliver_goes : (frame : ℕ) → Goes config (λ w. delivers config (slice_get w.frames frame) w)
    deliver_goes frame past ran w ties = by (slice_get w.frames frame) refl
      where
        by : (o : Option Sent) → slice_get w.frames frame ≡ o → GoesOn config past (delivers config o w)
        by None e = by_none config past ran w ties
        by (Some sent) e = comes_goes sent past ran w ties (found_at w.frames frame sent e)

    pub flow_goes : (count : ℕ) → Goes config (flows config count)
    flow_goes zero past ran w ties = by_none config past ran w ties
    flow_goes (suc count) past ran w ties = by (slice_get w.frames w.cursor) refl (λ next may v tied. flow_goes count next may v tied)
      where
        by : (o : Option Sent) → slice_get w.frames w.cursor ≡ o → Goes config (flows config count) → GoesOn config past (moves_on config (λ next. flows config count next) o w)
        by None e rest = by_none config past ran w ties
        by (Some sent) e rest =
            let moved : World = record w { cursor = w.cursor + 1 } in
            then_goes config past (delivers_to config sent.to sent moved) (λ next. flows config count next)
            (comes_goes sent past ran moved (record { nodes = ties.nodes; clients = ties.clients; frames = ties.frames }) (found_at w.frames w.cursor sent e))
            (λ next may tied. rest next may (delivers_to config sent.to sent moved).world tied)
