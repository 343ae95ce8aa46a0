-- What was asked was told to the client, and stays asked.
use Rattle.std.proofs.Common.{◌≡◌, ◌<◌, ◌≤◌, ◌^◌, ◌⊎◌, inl, inr, ℕ, true, ◌&&◌, List, [], ◌∷◌, ◌++◌, Option, Some, None, Result, Ok, refl, sym, ap, subst, ◌∙◌}
use Rattle.std.specs.Prelude.{nat_lt}
use Rattle.mrp_types.specs.declared.id.RingId.{RingId}
use Rattle.mrp_types.specs.declared.value.Entry.{Entry}
use Rattle.command_codec.specs.declared.command.Command.{Command}
use Rattle.command_codec.specs.Spelling.{command_bytes}
use Rattle.mrp_config.specs.declared.routing.NoGroup.{NoGroup}
use Rattle.mrp_config.specs.Config.{Config}
use Rattle.mrp_config.specs.Routing.{concerned_of, route_of}
use Rattle.plain_model.proofs.TupleOrder.{split_and}
use Rattle.protocol.specs.Client.{Asked}
use Rattle.bare_world.specs.Worlds.{World, nothing, Happening, Asks, happens}
use Rattle.bare_world.specs.Runs.{run, MayRun}
use Rattle.ask_laws.specs.Asks.{is_free, is_ordered, asked_with, asked_after, asked_in, WasTold, IsAsked}
use Rattle.ask_laws.proofs.Clients.{asked_more}
use Rattle.ask_laws.proofs.Asking.{IsNew, told_by, still_told}
use Rattle.ask_laws.proofs.Worlds.{all_keep}

-- ---- what was told

free_is : (o : Option Asked) → is_free o ≡ true → o ≡ None
free_is None e = refl
free_is (Some a) e = absurd (cc)

told_later : (config : Config) (h : Happening) (hs : List Happening) (w : World) (c s : ℕ) (x : Command) → WasTold config hs (happens config h w) c s x → WasTold config (h ∷ hs) w c s x
told_later config h hs w c s x t = record { before = h ∷ t.before; after = t.after; parts = ap (λ (l : List Happening). h ∷ l) t.parts; free = t.free; number = t.number }

told_now : (config : Config) (w : World) (asked : ℕ → ℕ → Option Command) (h : Happening) (hs : List Happening) (c s : ℕ) (x : Command) → asked_with config w h asked c s ≡ Some x
    → (asked c s ≡ Some x) ⊎ WasTold config (h ∷ hs) w c s x
told_now config w asked (Asks id command) hs c s x e = elim (told_by config asked w.clients id command c s x e) [
  | inl old ↦ inl old
  | inr new ↦ inr (made new)
]
  where
    made : IsNew config asked w.clients id command c s x → WasTold config (Asks id command ∷ hs) w c s x
    made new =
        let free = (split_and (is_free (w.clients id.0).asked) (is_ordered (route_of (concerned_of command config.partitions)) && nat_lt (w.clients id.0).next (2 ^ 63)) new.taken).0 in
        subst (λ (n : ℕ). WasTold config (Asks id command ∷ hs) w n s x) new.own (
        record {
          before = [];
          after = hs;
          parts = ap (λ (y : Command). Asks id y ∷ hs) new.same;
          free = free_is (w.clients id.0).asked free;
          number = new.number;
        }
        )
told_now config w asked h hs c s x e = inl e

pub told_in : (config : Config) (hs : List Happening) (w : World) (asked : ℕ → ℕ → Option Command) (c s : ℕ) (x : Command) → asked_after config hs w asked c s ≡ Some x
    → (asked c s ≡ Some x) ⊎ WasTold config hs w c s x
told_in config [] w asked c s x e = inl e
told_in config (h ∷ hs) w asked c s x e = elim (told_in config hs (happens config h w) (asked_with config w h asked) c s x e) [
  | inl now ↦ told_now config w asked h hs c s x now
  | inr later ↦ inr (told_later config h hs w c s x later)
]

pub was-told : (config : Config) (hs : List Happening) (c s : ℕ) (x : Command) → asked_in config hs c s ≡ Some x → WasTold config hs nothing c s x
was-told config hs c s x e = elim (told_in config hs nothing (λ c s. None) c s x e) [
  | inl none ↦ absurd (no_command none)
  | inr told ↦ told
]
  where
    no_command : None ≡ Some x → ⊥
    no_command h = cc

-- ---- what was asked stays

with_stays : (config : Config) (w : World) (h : Happening) (asked : ℕ → ℕ → Option Command) (c s : ℕ) (x : Command) → asked c s ≡ Some x → asked_with config w h asked c s ≡ Some x
with_stays config w (Asks id command) asked c s x e = still_told config asked w.clients id command c s x e
with_stays config w h asked c s x e = e

after_stays : (config : Config) (hs : List Happening) (w : World) (asked : ℕ → ℕ → Option Command) (c s : ℕ) (x : Command) → asked c s ≡ Some x → asked_after config hs w asked c s ≡ Some x
after_stays config [] w asked c s x e = e
after_stays config (h ∷ hs) w asked c s x e = after_stays config hs (happens config h w) (asked_with config w h asked) c s x (with_stays config w h asked c s x e)

both_after : (config : Config) (first second : List Happening) (w : World) (asked : ℕ → ℕ → Option Command)
    → asked_after config (first ++ second) w asked ≡ asked_after config second (run config first w) (asked_after config first w asked)
both_after config [] second w asked = refl
both_after config (h ∷ first) second w asked = both_after config first second (happens config h w) (asked_with config w h asked)

pub stays-asked : (config : Config) (first second : List Happening) (r : ℕ) (e : Entry) → IsAsked config (asked_in config first) r e → IsAsked config (asked_in config (first ++ second)) r e
stays-asked config first second r e is =
    asked_more config (asked_in config first) (asked_in config (first ++ second))
    (λ c s x h. ap (λ (asked : ℕ → ℕ → Option Command). asked c s) (both_after config first second nothing (λ c s. None))
    ∙ after_stays config second (run config first nothing) (asked_in config first) c s x h) r e is

-- ---- numbers

some_same : (x y : Command) → Some x ≡ Some y → x ≡ y
some_same x y e = cc

ring_same : (x y : RingId) (a b : Result RingId NoGroup) → a ≡ Ok x → b ≡ Ok y → a ≡ b → x ≡ y
ring_same x y a b e f g = cc

pub one-command : (config : Config) (asked : ℕ → ℕ → Option Command) (r other : ℕ) (a b : Entry) → IsAsked config asked r a → IsAsked config asked other b → a.client.0 ≡ b.client.0 → a.seq ≡ b.seq
    → (r ≡ other) × (a.command ≡ b.command)
one-command config asked r other a b first second client seq = (
  ap (λ (x : RingId). x.0) (ring_same (record { 0 = r }) (record { 0 = other }) (route_of (concerned_of first.command config.partitions)) (route_of (concerned_of second.command config.partitions))
      first.route second.route
      (ap (λ (x : Command). route_of (concerned_of x config.partitions)) same)),
  first.spelled ∙ ap command_bytes same ∙ sym second.spelled,
)
  where
    same : first.command ≡ second.command
    same = some_same first.command second.command
        (sym first.told ∙ ap (λ (n : ℕ). asked n a.seq) client ∙ ap (λ (n : ℕ). asked b.client.0 n) seq ∙ second.told)

pub below-next : (config : Config) (hs : List Happening) (r : ℕ) (e : Entry) → MayRun config nothing hs → IsAsked config (asked_in config hs) r e
    → (1 ≤ e.seq) × (e.seq < ((run config hs nothing).clients e.client.0).next)
below-next config hs r e may is =
    let t = (all_keep config hs may).clients.taken e.client.0 e.seq is.command is.told in
    (t.some, t.below)
