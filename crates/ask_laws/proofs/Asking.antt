-- A client that is told to ask takes the command under its next number, or nothing.
use Rattle.std.proofs.Common.{◌≡◌, ◌<◌, ◌≤◌, ◌⊎◌, inl, inr, ℕ, ◌+◌, ◌^◌, Bool, true, false, ◌&&◌, Option, Some, None, Result, Ok, Err, refl, sym, ap, subst, ◌∙◌, arith, true≢false}
use Rattle.std.specs.Prelude.{◌==◌, nat_lt, if◌then◌else◌}
use Rattle.std.proofs.lemmas.Bool.Decides.{nat_tests}
use Rattle.mrp_types.specs.declared.id.ClientId.{ClientId}
use Rattle.mrp_types.specs.declared.id.RingId.{RingId}
use Rattle.command_codec.specs.declared.command.Command.{Command}
use Rattle.mrp_config.specs.declared.routing.NoGroup.{NoGroup}
use Rattle.mrp_config.specs.Config.{Config}
use Rattle.mrp_config.specs.Routing.{concerned_of, route_of}
use Rattle.plain_model.proofs.TupleOrder.{split_and, same_number}
use Rattle.protocol.specs.Client.{MayBeAsked, Asked, ClientView, ClientEffects, idles, sends_it, asked_first, asks_on, asks_beside, asks}
use Rattle.bare_world.specs.Runs.{IsClient}
use Rattle.ask_laws.specs.Asks.{is_free, takes, or_else, IsTaken, ClientKeeps, ClientsKeep}
use Rattle.ask_laws.proofs.Clients.{or_more, keeps_more, EffectsKeep, Sends, submits_carry}

pub taken_later : (config : Config) (c s n m : ℕ) (command : Command) → n ≤ m → IsTaken config c s n command → IsTaken config c s m command
taken_later config c s n m command more t =
    let below : s < n = t.below in
    record { client = t.client; valid = t.valid; ring = t.ring; route = t.route; some = t.some; numbered = t.numbered; below = omega arith }

or_told : (o p : Option Command) (x : Command) → or_else o p ≡ Some x → (o ≡ Some x) ⊎ (p ≡ Some x)
or_told None p x e = inr e
or_told (Some y) p x e = inl e

if_told : (t : Bool) (command x : Command) → (if t then Some command else None) ≡ Some x → (t ≡ true) × (command ≡ x)
if_told true command x e = (refl, cc)
if_told false command x e = absurd (cc)

module _ (config : Config) (asked : ℕ → ℕ → Option Command) (clients : ℕ → ClientView) (id : ClientId) (command : Command) where
  abbrev pub now_asked : ℕ → ℕ → Option Command
  now_asked c s = or_else (asked c s) (if (id.0 == c) && (((clients id.0).next == s) && takes config (clients id.0) command) then Some command else None)

  -- the command that is taken now
  pub record IsNew (c s : ℕ) (x : Command) : Type 0 where
    pub own : id.0 ≡ c
    pub number : (clients id.0).next ≡ s
    pub taken : takes config (clients id.0) command ≡ true
    pub same : command ≡ x

  pub told_by : (c s : ℕ) (x : Command) → now_asked c s ≡ Some x → (asked c s ≡ Some x) ⊎ IsNew c s x
  told_by c s x e = elim (or_told (asked c s) (if (id.0 == c) && (((clients id.0).next == s) && takes config (clients id.0) command) then Some command else None) x e) [
    | inl old ↦ inl old
    | inr new ↦ inr (made new)
  ]
    where
      made : (if (id.0 == c) && (((clients id.0).next == s) && takes config (clients id.0) command) then Some command else None) ≡ Some x → IsNew c s x
      made h =
          let t = if_told ((id.0 == c) && (((clients id.0).next == s) && takes config (clients id.0) command)) command x h in
          let first = split_and (id.0 == c) (((clients id.0).next == s) && takes config (clients id.0) command) t.0 in
          let second = split_and ((clients id.0).next == s) (takes config (clients id.0) command) first.1 in
          record { own = same_number id.0 c first.0; number = same_number (clients id.0).next s second.0; taken = second.1; same = t.1 }

  pub still_told : (c s : ℕ) (x : Command) → asked c s ≡ Some x → now_asked c s ≡ Some x
  still_told c s x e = or_more (asked c s) (if (id.0 == c) && (((clients id.0).next == s) && takes config (clients id.0) command) then Some command else None) x e

  -- what the client makes of it
  pub record AskKeeps (effects : ClientEffects) : Type 0 where
    pub next : (clients id.0).next ≤ effects.client.next
    pub keeps : EffectsKeep config now_asked id.0 effects
    pub taken : (s : ℕ) (x : Command) → now_asked id.0 s ≡ Some x → IsTaken config id.0 s effects.client.next x

  module _ (there : IsClient config id) (valid : MayBeAsked command) (k : ClientsKeep config asked clients) where
    own_still : ClientKeeps config now_asked id.0 (clients id.0)
    own_still = keeps_more config asked now_asked id.0 (clients id.0) (still_told id.0) (k.each id.0)

    -- nothing is taken
    none_taken : takes config (clients id.0) command ≡ false → (s : ℕ) (x : Command) → now_asked id.0 s ≡ Some x → IsTaken config id.0 s (clients id.0).next x
    none_taken none s x e = elim (told_by id.0 s x e) [
      | inl old ↦ k.taken id.0 s x old
      | inr new ↦ absurd (true≢false (sym new.taken ∙ none))
    ]

    pub asks_keep : AskKeeps (asks config (clients id.0) command)
    unfolding asks
    asks_keep = by_asked (clients id.0).asked refl
      where
        idle : takes config (clients id.0) command ≡ false → AskKeeps (idles (clients id.0))
        idle none = record { next = omega arith; keeps = record { client = own_still; frames = tt; lines = tt }; taken = none_taken none }

        number : (n : ℕ) → (n == n) ≡ true
        number n = grind (arith, nat_tests)

        by_number : (ring : RingId) → is_free (clients id.0).asked ≡ true → route_of (concerned_of command config.partitions) ≡ Ok ring → (t : Bool) → nat_lt (clients id.0).next (2 ^ 63) ≡ t
            → AskKeeps (if t then sends_it config (record (clients id.0) { next = (clients id.0).next + 1 }) (asked_first (clients id.0).next command ring) else idles (clients id.0))
        by_number ring free ordered false less = idle (rw (free, ordered, less) refl)
        by_number ring free ordered true less = record {
          next = omega arith;
          keeps = record {
            client = record { id = (k.each id.0).id; first = omega arith; awaited = record { number = refl; told = told; route = ordered } };
            frames = submits_carry config now_asked id.0 (record (clients id.0) { next = (clients id.0).next + 1 }) (asked_first (clients id.0).next command ring) (k.each id.0).id sends;
            lines = tt;
          };
          taken = λ s x e. elim (told_by id.0 s x e) [
            | inl old ↦ taken_later config id.0 s (clients id.0).next ((clients id.0).next + 1) x (omega arith) (k.taken id.0 s x old)
            | inr new ↦ subst (λ (y : Command). IsTaken config id.0 s ((clients id.0).next + 1) y) new.same (subst (λ (n : ℕ). IsTaken config id.0 n ((clients id.0).next + 1) command) new.number fresh)
          ];
        }
          where
            is_less : (n : ℕ) → nat_lt n (2 ^ 63) ≡ true → n < 2 ^ 63
            is_less n h = grind (arith, nat_tests)

            fresh : IsTaken config id.0 (clients id.0).next ((clients id.0).next + 1) command
            fresh = record { client = there; valid = valid; ring = ring; route = ordered; some = (k.each id.0).first; numbered = is_less (clients id.0).next less; below = omega arith }

            is_taken : takes config (clients id.0) command ≡ true
            is_taken = rw (free, ordered, less) refl

            -- the number is fresh
            none_before : (o : Option Command) → asked id.0 (clients id.0).next ≡ o → asked id.0 (clients id.0).next ≡ None
            none_before None e = e
            none_before (Some x) e = absurd (let below = (k.taken id.0 (clients id.0).next x e).below in omega arith)

            told : now_asked id.0 (clients id.0).next ≡ Some command
            told = rw (none_before (asked id.0 (clients id.0).next) refl, number id.0, number (clients id.0).next, is_taken) refl

            sends : Sends config now_asked id.0 (asked_first (clients id.0).next command ring)
            sends = record { told = told; route = ordered; valid = valid; client = there; some = (k.each id.0).first; numbered = is_less (clients id.0).next less }

        by_route : is_free (clients id.0).asked ≡ true → (r : Result RingId NoGroup) → route_of (concerned_of command config.partitions) ≡ r → AskKeeps (asks_on config (clients id.0) command r)
        by_route free (Err none) ordered = idle (rw (free, ordered) refl)
        by_route free (Ok ring) ordered = by_number ring free ordered (nat_lt (clients id.0).next (2 ^ 63)) refl

        by_asked : (o : Option Asked) → (clients id.0).asked ≡ o → AskKeeps (asks_beside config (clients id.0) command o)
        by_asked None e = by_route (ap is_free e) (route_of (concerned_of command config.partitions)) refl
        by_asked (Some a) e = record {
          next = omega arith;
          keeps = record { client = own_still; frames = tt; lines = (tt, tt) };
          taken = none_taken (rw e refl);
        }
