-- Where a run lists frames as they were sent, the names of each listed frame fit the deployment.
use Rattle.std.proofs.Common.{ℕ, Bool, List, [], ◌∷◌, ◌++◌, Option, Some, None, sym, subst}
use Rattle.std.specs.Prelude.{slice_get}
use Rattle.std.specs.Option.{option_map}
use Rattle.std.specs.List.{AllByRecursion}
use Rattle.mrp_types.specs.declared.id.NodeId.{NodeId}
use Rattle.mrp_types.specs.declared.id.ClientId.{ClientId}
use Rattle.mrp_config.specs.Config.{Config}
use Rattle.mrp_config.specs.Valid.{IsValid}
use Rattle.transcript.specs.declared.line.ShownFrame.{ShownFrame}
use Rattle.frames.specs.declared.sent.Sent.{Sent}
use Rattle.checkpoint.specs.Checkpoints.{Checkpoints}
use Rattle.vote_journal.specs.Journal.{Journal}
use Rattle.quorums.proofs.Each.{appended, mapped}
use Rattle.protocol.specs.Lines.{Line, Cause, Frame}
use Rattle.protocol.specs.Lines as line
use Rattle.protocol.specs.Client.{ClientEffects, asks, client_ticks, client_takes}
use Rattle.protocol.specs.Opening.{opened}
use Rattle.protocol.specs.Node.{Event}
use Rattle.protocol.specs.Step.{step}
use Rattle.bare_world.specs.Worlds.{Possible, Host, Up, Down, World, nothing, Happening, Steps, Breaks, Crashes, Opens, Fails, Asks, ClientTicks, ClientTakes, Shows, Lists, happens, steps_as, breaks_as, crashes_as, opens_as, fails_as, client_step, state_of_host}
use Rattle.bare_world.specs.Runs.{MayHappen, run, MayRun}
use Rattle.bare_world.proofs.Onward.{run_both, may_both}
use Rattle.line_rules.specs.Rules.{NamesFit}
use Rattle.node_lines.specs.Printed.{IsNodeLine}
use Rattle.node_lines.proofs.Stepping.{step_quiet, opened_quiet}
use Rattle.line_runs.specs.Laws.{IsRun, lines_of}
use Rattle.state_runs.proofs.Clients.{IsClientLine, IsBeside, beside_asks, beside_ticks, beside_takes}
use Rattle.state_runs.proofs.Runs.{own_client}
use Rattle.world_model.specs.Worlds.{shown_of}
use Rattle.disk_runs.specs.Runs.{IsListed, AreListed}
use Rattle.frame_parties.specs.Parties.{IsOfParties}
use Rattle.frame_parties.proofs.Lists.{IfThere, get_all}
use Rattle.frame_parties.proofs.Runs.{frames_of_parties}

-- the names of a listed frame fit the deployment
abbrev pub FrameNamed : Config → Line → Type 0
FrameNamed c (Frame number shown) = NamesFit c (Frame number shown)
FrameNamed c other = Unit {0}

node_named : (c : Config) (l : Line) → IsNodeLine l → FrameNamed c l
node_named c (Frame number shown) is = absurd is
node_named c other is = tt

client_named : (c : Config) (l : Line) → IsClientLine c l → FrameNamed c l
client_named c (Frame number shown) is = absurd is
client_named c other is = tt

-- ---- a happening after a run

module _ (c : Config) (hs : List Happening) (r : IsRun c hs) (named : AllByRecursion (FrameNamed c) (run c hs nothing).lines) where
  abbrev now : World
  now = run c hs nothing

  plus : (new : List Line) → AllByRecursion (FrameNamed c) new → AllByRecursion (FrameNamed c) (now.lines ++ new)
  plus new all = appended (FrameNamed c) now.lines new named all

  steps_named : (id : NodeId) (event : Event) (host : Host) → AllByRecursion (FrameNamed c) (steps_as c id event host now).lines
  steps_named id event (Down durable pending) = named
  steps_named id event (Up view) = plus (step c view event).lines (mapped IsNodeLine (FrameNamed c) (node_named c) (step c view event).lines (step_quiet c view event))

  breaks_named : (id : NodeId) (event : Event) (cause : Cause) (host : Host) → AllByRecursion (FrameNamed c) (breaks_as c id event cause host now).lines
  breaks_named id event cause (Down durable pending) = named
  breaks_named id event cause (Up view) = plus (line.Down id cause ∷ []) (tt, tt)

  crashes_named : (id : NodeId) (cause : Cause) (host : Host) → AllByRecursion (FrameNamed c) (crashes_as id cause host now).lines
  crashes_named id cause (Down durable pending) = named
  crashes_named id cause (Up view) = plus (line.Down id cause ∷ []) (tt, tt)

  fails_named : (id : NodeId) (after : Bool) (left : Possible) (cause : Cause) (host : Host) → AllByRecursion (FrameNamed c) (fails_as id after left cause host now).lines
  fails_named id after left cause (Up view) = named
  fails_named id after left cause (Down durable pending) = plus (line.Down id cause ∷ []) (tt, tt)

  opens_named : (id : NodeId) (journal : Journal) (checkpoints : Checkpoints) (host : Host) → AllByRecursion (FrameNamed c) (opens_as c id journal checkpoints host now).lines
  opens_named id journal checkpoints (Up view) = named
  opens_named id journal checkpoints (Down durable pending) =
      plus (line.Up id journal.state.epoch ∷ (opened c id journal checkpoints).lines)
      (tt, mapped IsNodeLine (FrameNamed c) (node_named c) (opened c id journal checkpoints).lines (opened_quiet c id journal checkpoints))

  client_step_named : (id : ClientId) (effects : ClientEffects) → IsBeside c effects → AllByRecursion (FrameNamed c) (client_step id effects now).lines
  client_step_named id effects beside = plus effects.lines (mapped (IsClientLine c) (FrameNamed c) (client_named c) effects.lines beside.lines)

  shown_named : (number : ℕ) (o : Option Sent) → IfThere (IsOfParties c) o → FrameNamed c (Frame number (option_map shown_of o))
  shown_named number None all = tt
  shown_named number (Some sent) all = all

  happens_named : (h : Happening) → MayHappen c now h → IsListed now h → AllByRecursion (FrameNamed c) (happens c h now).lines
  happens_named (Steps id event) may listed = steps_named id event (now.hosts id.0)
  happens_named (Breaks id event cause) may listed = breaks_named id event cause (now.hosts id.0)
  happens_named (Crashes id cause) may listed = crashes_named id cause (now.hosts id.0)
  happens_named (Opens id after journal checkpoints) may listed = opens_named id journal checkpoints (now.hosts id.0)
  happens_named (Fails id after left cause) may listed = fails_named id after left cause (now.hosts id.0)
  happens_named (Asks id command) may listed = client_step_named id (asks c (now.clients id.0) command) (beside_asks c (now.clients id.0) command (own_client c hs r id may.0))
  happens_named (ClientTicks id) may listed = client_step_named id (client_ticks c (now.clients id.0)) (beside_ticks c (now.clients id.0))
  happens_named (ClientTakes id body) may listed = client_step_named id (client_takes c (now.clients id.0) body) (beside_takes c (now.clients id.0) body)
  happens_named (Shows id) may listed = plus (line.State id (state_of_host (now.hosts id.0)) ∷ []) (tt, tt)
  happens_named (Lists number shown) may listed =
      plus (Frame number shown ∷ []) (
        subst (λ (s : Option ShownFrame). FrameNamed c (Frame number s)) (sym listed)
            (shown_named number (slice_get now.frames number) (get_all (IsOfParties c) now.frames number (frames_of_parties c hs r))),
        tt,
      )

-- ---- runs

named_on : (c : Config) → IsValid c → (first rest : List Happening) → MayRun c nothing first → MayRun c (run c first nothing) rest → AreListed c rest (run c first nothing)
    → AllByRecursion (FrameNamed c) (run c first nothing).lines → AllByRecursion (FrameNamed c) (run c rest (run c first nothing)).lines
named_on c valid first [] may more listed named = named
named_on c valid first (h ∷ rest) may more listed named =
    let same = run_both c nothing first (h ∷ []) in
    let there : AllByRecursion (FrameNamed c) (happens c h (run c first nothing)).lines = happens_named c first (record { valid = valid; may = may }) named h more.0 listed.0 in
    subst (λ (w : World). AllByRecursion (FrameNamed c) (run c rest w).lines) same
    (named_on c valid (first ++ h ∷ []) rest (may_both c nothing first (h ∷ []) may (more.0, tt)) (subst (λ (w : World). MayRun c w rest) (sym same) more.1)
    (subst (λ (w : World). AreListed c rest w) (sym same) listed.1) (subst (λ (w : World). AllByRecursion (FrameNamed c) w.lines) (sym same) there))

pub frames_named : (c : Config) (hs : List Happening) → IsRun c hs → AreListed c hs nothing → AllByRecursion (FrameNamed c) (lines_of c hs)
frames_named c hs r listed = named_on c r.valid [] hs tt r.may listed tt
