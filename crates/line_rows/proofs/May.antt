-- Each happening of some moves may happen when its turn comes.
use Rattle.mrp_types.specs.declared.id.NodeId.{NodeId}
use Rattle.command_codec.specs.declared.command.Command.{Command}
use Rattle.mrp_types.specs.declared.id.ClientId.{ClientId}
use Rattle.std.proofs.Common.{◌≡◌, ℕ, zero, suc, ◌<◌, ◌≤◌, List, [], ◌∷◌, Option, Some, None, refl, sym, subst, arith, false, inl, inr}
use Rattle.std.specs.Prelude.{slice_get}
use Rattle.std.specs.List.{AllByRecursion}
use Rattle.mrp_types.specs.declared.id.Party.{Party}
use Rattle.mrp_types.specs.declared.id.Party.TheVariants.{Node, Client}
use Rattle.mrp_config.specs.Config.{Config, node_at, client_at}
use Rattle.mrp_config.specs.declared.tables.NodeTable.{NodeTable}
use Rattle.mrp_config.specs.declared.tables.ClientTable.{ClientTable}
use Rattle.command_codec.specs.declared.command.Command.TheVariants.{Append}
use Rattle.command_codec.specs.Fields.{u16_bytes}
use Rattle.state_laws.proofs.Examples.{bytes_by}
use Rattle.protocol.specs.Client.{MayBeAsked}
use Rattle.frames.specs.declared.sent.Sent.{Sent}
use Rattle.quorums.specs.Groups.{Has}
use Rattle.checkpoint.specs.Checkpoints.{Checkpoint}
use Rattle.bare_world.specs.Worlds.{Host, Up, Down, World, Happening, nothing, happens}
use Rattle.bare_world.specs.Runs.{MayHappen, MayRun, MayOpenAt}
use Rattle.line_rows.specs.Moves.{checkpoints_of, Move, Open, Next, Tick, Lead, Ask, Fall, opens_with, opens_host, taken_by, client_of, taken_next, asked_by, happenings_of, moved_on, with_happening, happenings, journal_of}
use Rattle.line_rows.specs.Row.{config, moves, log}

-- what is asked may be asked
abbrev AreAsked : List Move → Type 0
AreAsked [] = Unit {0}
AreAsked (Ask id command ∷ ms) = MayBeAsked command × AreAsked ms
AreAsked (other ∷ ms) = AreAsked ms

get_has : (xs : List Sent) (n : ℕ) (s : Sent) → slice_get xs n ≡ Some s → Has xs s
get_has [] n s e = absurd (cc)
get_has (x ∷ xs) zero s e = let same : x ≡ s = cc in inl (sym same)
get_has (x ∷ xs) (suc n) s e = inr (get_has xs n s e)

no_newest : (o : Option Checkpoint) (newest : Checkpoint) → o ≡ Some newest → o ≡ None → ⊥
no_newest o newest a b = cc

module _ (c : Config) (w : World) where
  opened : (id : NodeId) (host : Host) → w.hosts id.0 ≡ host → AllByRecursion (MayHappen c w) (opens_host c id host)
  opened id (Up view) e = tt
  opened id (Down durable pending) e = by_table (node_at c.nodes id.0) refl durable.newest refl
    where
      by_table : (o : Option NodeTable) → node_at c.nodes id.0 ≡ o → (newest : Option Checkpoint) → durable.newest ≡ newest → AllByRecursion (MayHappen c w) (opens_with id o durable newest)
      by_table None t newest n = tt
      by_table (Some table) t (Some newest) n = tt
      by_table (Some table) t None n = (
        subst (λ (host : Host). MayOpenAt c id false (journal_of id durable) (checkpoints_of durable) host) (sym e) (record {
          node = (table, t);
          epoch = refl;
          rings = refl;
          newest = refl;
          readable = λ p newest there some. absurd (no_newest durable.newest newest some n);
        }),
        tt,
      )

  taken : (o : Option Sent) (cursor : ℕ) → slice_get w.frames cursor ≡ o → AllByRecursion (MayHappen c w) (taken_next c o)
  taken None cursor e = tt
  taken (Some sent) cursor e = by_party sent.to refl (client_of c sent.to) refl
    where
      by_party : (to : Party) → sent.to ≡ to → (o : Option ClientTable) → client_of c to ≡ o → AllByRecursion (MayHappen c w) (taken_by c to o sent)
      by_party (Node id) t o f = (record { sent = sent; there = get_has w.frames cursor sent e; by = t; same = refl }, tt)
      by_party (Client id) t None f = tt
      by_party (Client id) t (Some table) f = (((table, f), record { frame = sent.frame; sent = record { sent = sent; there = get_has w.frames cursor sent e; by = t; same = refl }; same = refl }), tt)

  asked : (id : ClientId) (command : Command) → MayBeAsked command → (o : Option ClientTable) → client_at c.clients id.0 ≡ o → AllByRecursion (MayHappen c w) (asked_by id command o)
  asked id command valid None e = tt
  asked id command valid (Some table) e = (((table, e), valid), tt)

  one : (m : Move) (cursor : ℕ) → AreAsked (m ∷ []) → AllByRecursion (MayHappen c w) (happenings_of c cursor w m)
  one (Open id) cursor a = opened id (w.hosts id.0) refl
  one Next cursor a = taken (slice_get w.frames cursor) cursor refl
  one (Tick id) cursor a = (tt, tt)
  one (Lead id ring) cursor a = (tt, tt)
  one (Ask id command) cursor a = asked id command a.0 (client_at c.clients id.0) refl
  one (Fall id) cursor a = (tt, tt)

first_asked : (m : Move) (ms : List Move) → AreAsked (m ∷ ms) → AreAsked (m ∷ []) × AreAsked ms
first_asked (Ask id command) ms a = ((a.0, tt), a.1)
first_asked (Open id) ms a = (tt, a)
first_asked Next ms a = (tt, a)
first_asked (Tick id) ms a = (tt, a)
first_asked (Lead id ring) ms a = (tt, a)
first_asked (Fall id) ms a = (tt, a)

all_may : (c : Config) (ms : List Move) (cursor : ℕ) (w : World) → AreAsked ms → MayRun c w (happenings c ms cursor w)
all_may c [] cursor w a = tt
all_may c (m ∷ ms) cursor w a =
    let f = first_asked m ms a in
    go (happenings_of c cursor w m) (one c w m cursor f.0) (λ n v. all_may c ms n v f.1)
  where
    go : (hs : List Happening) → AllByRecursion (MayHappen c w) hs → ((n : ℕ) (v : World) → MayRun c v (happenings c ms n v)) → MayRun c w (with_happening (happenings c ms) c (moved_on m (slice_get w.frames cursor) cursor) w hs)
    go [] may rest = rest (moved_on m (slice_get w.frames cursor) cursor) w
    go (h ∷ hs) may rest = (may.0, rest (moved_on m (slice_get w.frames cursor) cursor) (happens c h w))

-- to append two bytes to log 0 may be asked
two_bytes : (a b : ℕ) → a < 256 → b < 256 → MayBeAsked (Append (log 0) (a ∷ b ∷ []))
unfolding u16_bytes
two_bytes a b low high = record {
  valid = (omega arith, omega arith);
  numbers = tt;
  bytes = bytes_by (1 ∷ 0 ∷ 0 ∷ 2 ∷ a ∷ b ∷ []) (omega arith, (omega arith, (omega arith, (omega arith, (low, (high, tt))))));
}

pub may_happen : MayRun config nothing (happenings config moves 0 nothing)
may_happen = all_may config moves 0 nothing (two_bytes 104 105 (omega arith) (omega arith), (two_bytes 111 107 (omega arith) (omega arith), (two_bytes 98 121 (omega arith) (omega arith), tt)))
