-- What a client prints are its answers and that it is busy, and its frames are its own.
use Rattle.std.proofs.Common.{◌≡◌, ℕ, Bool, true, false, List, Option, Some, None, refl}
use Rattle.std.specs.Prelude.{◌==◌, nat_lt, ◌&&◌, not, if◌then◌else◌, Result, Ok, Err, ◌%◌, ◌+◌, ◌^◌}
use Rattle.std.specs.List.{AllByRecursion}
use Rattle.mrp_types.specs.declared.id.NodeId.{NodeId}
use Rattle.mrp_types.specs.declared.id.PartitionId.{PartitionId}
use Rattle.mrp_types.specs.declared.id.RingId.{RingId}
use Rattle.command_codec.specs.declared.command.Command.{Command}
use Rattle.command_codec.specs.declared.fault.CodecFault.{CodecFault}
use Rattle.command_codec.specs.declared.reply.Reply.{Reply}
use Rattle.command_codec.specs.Grammar.{reply_of}
use Rattle.mrp_config.specs.declared.routing.NoGroup.{NoGroup}
use Rattle.mrp_config.specs.declared.tables.PartitionTable.{PartitionTable}
use Rattle.mrp_config.specs.Config.{Config, partition_at}
use Rattle.mrp_config.specs.Routing.{concerned_of, is_concerned, route_of}
use Rattle.frames.specs.declared.body.Body.{Body}
use Rattle.frames.specs.declared.body.Body.TheVariants as bodies
use Rattle.protocol.specs.Lines.{Line, Answer, Busy}
use Rattle.protocol.specs.Client.{with_part, have_all, asked_first, Asked, ClientView, ClientEffects, idles, submit_to, sends_it, asks_on, asks_beside, asks, ticks_for, client_ticks, answers, gathered, replied_with, replied_by, replied_for, replied, client_takes, fits, has_part}
use Rattle.line_rules.specs.Rules.{HasClient}
use Rattle.line_rules.specs.Scanners.{touches}
use Rattle.quorums.proofs.Each.{mapped}
use Rattle.quiet_rules.specs.Quiet.{OwesNothing, OwnNamesFit}
use Rattle.quiet_rules.proofs.Words.{by_test}
use Rattle.state_steps.specs.Folded.{SentFolded}

-- a client of the deployment answers, or is busy
abbrev pub IsClientLine : Config → Line → Type 0
IsClientLine c (Answer client seq bytes) = Unit {0}
IsClientLine c (Busy client seq) = HasClient c client
IsClientLine c other = ⊥

module _ (c : Config) where
  owes_none : (l : Line) → IsClientLine c l → OwesNothing l
  owes_none (Answer client seq bytes) is = tt
  owes_none (Busy client seq) is = tt
  owes_none other is = absurd is

  fits_own : (l : Line) → IsClientLine c l → OwnNamesFit c l
  fits_own (Answer client seq bytes) is = tt
  fits_own (Busy client seq) is = is
  fits_own other is = absurd is

  pub owe_none : (ls : List Line) → AllByRecursion (IsClientLine c) ls → AllByRecursion OwesNothing ls
  owe_none ls all = mapped (IsClientLine c) OwesNothing owes_none ls all

  pub fit_own : (ls : List Line) → AllByRecursion (IsClientLine c) ls → AllByRecursion (OwnNamesFit c) ls
  fit_own ls all = mapped (IsClientLine c) (OwnNamesFit c) fits_own ls all

  -- they are of no node's life
  pub touches_none : (l : Line) → IsClientLine c l → (x : ℕ) → touches x l ≡ false
  touches_none (Answer client seq bytes) is x = refl
  touches_none (Busy client seq) is x = refl
  touches_none other is x = absurd is

pub record IsBeside (c : Config) (effects : ClientEffects) : Type 0 where
  pub lines : AllByRecursion (IsClientLine c) effects.lines
  pub frames : (lines : List Line) → AllByRecursion (SentFolded c lines) effects.frames

module _ (c : Config) where
  beside_idles : (v : ClientView) → IsBeside c (idles v)
  beside_idles v = record { lines = tt; frames = λ ls. tt }

  beside_if : (b : Bool) (x y : ClientEffects) → IsBeside c x → IsBeside c y → IsBeside c (if b then x else y)
  beside_if b x y p q = by_test (IsBeside c) b x y (λ e. p) q

  beside_sends : (v : ClientView) (a : Asked) → IsBeside c (sends_it c v a)
  beside_sends v a = record { lines = tt; frames = λ ls. go ls _ }
    where
      go : (ls : List Line) (o : Option NodeId) → AllByRecursion (SentFolded c ls) (submit_to v a o)
      go ls None = tt
      go ls (Some node) = (tt, tt)

  pub beside_asks : (v : ClientView) (command : Command) → HasClient c v.id → IsBeside c (asks c v command)
  unfolding asks
  beside_asks v command there = by_asked v.asked
    where
      by_route : (r : Result RingId NoGroup) → IsBeside c (asks_on c v command r)
      by_route (Err none) = beside_idles v
      by_route (Ok ring) = beside_if (nat_lt v.next (2 ^ 63)) (sends_it c (record v { next = v.next + 1 }) (asked_first v.next command ring)) (idles v)
          (beside_sends (record v { next = v.next + 1 }) (asked_first v.next command ring)) (beside_idles v)

      by_asked : (o : Option Asked) → IsBeside c (asks_beside c v command o)
      by_asked (Some a) = record { lines = (there, tt); frames = λ ls. tt }
      by_asked None = by_route (route_of (concerned_of command c.partitions))

  pub beside_ticks : (v : ClientView) → IsBeside c (client_ticks c v)
  unfolding client_ticks
  beside_ticks v = by_asked v.asked
    where
      by_asked : (o : Option Asked) → IsBeside c (ticks_for c v o)
      by_asked None = beside_idles v
      by_asked (Some a) = beside_if ((a.ticks + 1) % c.resend == 0) (sends_it c v (record a { ticks = a.ticks + 1; tries = a.tries + 1 })) (idles (record v { asked = Some (record a { ticks = a.ticks + 1 }) }))
          (beside_sends v (record a { ticks = a.ticks + 1; tries = a.tries + 1 })) (beside_idles (record v { asked = Some (record a { ticks = a.ticks + 1 }) }))

  beside_replied : (v : ClientView) (seq : ℕ) (partition : PartitionId) (reply : List ℕ) → IsBeside c (replied c v seq partition reply)
  unfolding replied
  beside_replied v seq partition reply = by_asked v.asked
    where
      by_all : (a : Asked) (b : Bool) → IsBeside c (if b then answers v a else idles (record v { asked = Some a }))
      by_all a true = record { lines = (tt, tt); frames = λ ls. tt }
      by_all a false = beside_idles (record v { asked = Some a })

      by_reply : (a : Asked) (p : PartitionTable) (r : Result Reply CodecFault) → IsBeside c (replied_with c v a p r)
      by_reply a p (Err fault) = beside_idles v
      by_reply a p (Ok reply) = beside_if (fits p a.command reply) (gathered c v (record a { parts = with_part p.id reply a.parts })) (idles v)
          (by_all (record a { parts = with_part p.id reply a.parts }) (have_all (concerned_of a.command c.partitions) (with_part p.id reply a.parts))) (beside_idles v)

      by_partition : (a : Asked) (o : Option PartitionTable) → IsBeside c (replied_by c v a o reply)
      by_partition a None = beside_idles v
      by_partition a (Some p) = beside_if (is_concerned a.command p && not (has_part a.parts p.id)) (replied_with c v a p (reply_of reply)) (idles v) (by_reply a p (reply_of reply)) (beside_idles v)

      by_asked : (o : Option Asked) → IsBeside c (replied_for c v seq partition reply o)
      by_asked None = beside_idles v
      by_asked (Some a) = beside_if (a.seq == seq) (replied_by c v a (partition_at c.partitions partition.0) reply) (idles v) (by_partition a (partition_at c.partitions partition.0)) (beside_idles v)

  pub beside_takes : (v : ClientView) (body : Body) → IsBeside c (client_takes c v body)
  unfolding client_takes
  beside_takes v (bodies.Reply client seq partition reply) = beside_if (client.0 == v.id.0) (replied c v seq partition reply) (idles v) (beside_replied v seq partition reply) (beside_idles v)
  beside_takes v other = beside_idles v
