-- What a client makes of a command, a tick and a frame: the parts that it holds, and its answer.
use Rattle.std.proofs.Common.{◌≡◌, ℕ, ◌+◌, ◌%◌, ◌^◌, Bool, true, false, ◌&&◌, List, Option, Some, None, Result, Ok, Err, refl, sym, ap, ◌∙◌, subst, true≢false}
use Rattle.std.specs.Prelude.{◌==◌, nat_lt, not, if◌then◌else◌}
use Rattle.std.specs.List.{AllByRecursion}
use Rattle.mrp_types.specs.declared.id.ClientId.{ClientId}
use Rattle.mrp_types.specs.declared.id.PartitionId.{PartitionId}
use Rattle.mrp_types.specs.declared.id.RingId.{RingId}
use Rattle.mrp_types.specs.Book.{Learning}
use Rattle.command_codec.specs.declared.command.Command.{Command}
use Rattle.command_codec.specs.declared.fault.CodecFault.{CodecFault}
use Rattle.command_codec.specs.declared.reply.Reply.{Reply}
use Rattle.command_codec.specs.Grammar.{reply_of}
use Rattle.command_codec.specs.Replies.{reply_bytes, joined}
use Rattle.mrp_config.specs.declared.routing.NoGroup.{NoGroup}
use Rattle.mrp_config.specs.declared.tables.PartitionTable.{PartitionTable}
use Rattle.mrp_config.specs.Config.{Config, partition_at}
use Rattle.mrp_config.specs.Valid.{IsValid}
use Rattle.mrp_config.specs.Routing.{concerned_of, route_of, is_concerned}
use Rattle.frames.specs.declared.body.Body.{Body}
use Rattle.frames.specs.declared.body.Body.TheVariants as bodies
use Rattle.quorums.specs.Groups.{Has}
use Rattle.plain_model.proofs.TupleOrder.{split_and, same_number}
use Rattle.protocol.specs.Lines.{Line, Answer, Busy}
use Rattle.protocol.specs.Client.{Asked, ClientView, ClientEffects, idles, sends_it, asked_first, asks_on, asks_beside, asks, ticks_for, client_ticks, fits, has_part, with_part, have_all, answers, gathered, replied_with, replied_by, replied_for, replied, client_takes}
use Rattle.state_laws.specs.Books.{AreOfBytes}
use Rattle.ask_laws.specs.Asks.{IsAwaited, IsAwaitedOrNone, ClientKeeps}
use Rattle.answer_laws.specs.Answering.{RepliesTo, AreReplies, IsReplyOf}
use Rattle.answer_runs.specs.Answers.{BodyReplies, AreParts, HoldsParts, IsAnswered}
use Rattle.answer_runs.proofs.Parts.{concerned_rise, concerned_has, found_has, no_parts, part_put, all_replied, replies_of}
use Rattle.answer_runs.proofs.Replying.{spoken, read_back, are_replies}

-- the lines of a client: that it is busy, and an answer as it has to be
abbrev pub ClientPrints : Config → List Learning → (ℕ → ℕ → Option Command) → Line → Type 0
ClientPrints c known asked (Answer client seq bytes) = IsAnswered c known asked client.0 seq bytes
ClientPrints c known asked (Busy client seq) = Unit {0}
ClientPrints c known asked other = ⊥

pub record EffectsAnswer (c : Config) (known : List Learning) (asked : ℕ → ℕ → Option Command) (k : ℕ) (effects : ClientEffects) : Type 0 where
  pub parts : HoldsParts c known k effects.client.asked
  pub lines : AllByRecursion (ClientPrints c known asked) effects.lines

module _ (c : Config) (known : List Learning) (asked : ℕ → ℕ → Option Command) (k : ℕ) where
  idle_answers : (view : ClientView) → HoldsParts c known k view.asked → EffectsAnswer c known asked k (idles view)
  idle_answers view holds = record { parts = holds; lines = tt }

  if_answers : (t : Bool) (x y : ClientEffects) → EffectsAnswer c known asked k x → EffectsAnswer c known asked k y → EffectsAnswer c known asked k (if t then x else y)
  if_answers true x y p q = p
  if_answers false x y p q = q

  pub asks_answer : (view : ClientView) (command : Command) → HoldsParts c known k view.asked → EffectsAnswer c known asked k (asks c view command)
  unfolding asks
  asks_answer view command holds = by_asked view.asked
    where
      by_route : (r : Result RingId NoGroup) → EffectsAnswer c known asked k (asks_on c view command r)
      by_route (Err none) = idle_answers view holds
      by_route (Ok ring) =
          if_answers (nat_lt view.next (2 ^ 63)) (sends_it c (record view { next = view.next + 1 }) (asked_first view.next command ring)) (idles view)
          (record { parts = no_parts (RepliesTo c known (record { 0 = k }) view.next) (concerned_of command c.partitions); lines = tt })
          (idle_answers view holds)

      by_asked : (o : Option Asked) → EffectsAnswer c known asked k (asks_beside c view command o)
      by_asked None = by_route (route_of (concerned_of command c.partitions))
      by_asked (Some a) = record { parts = holds; lines = (tt, tt) }

  pub ticks_answer : (view : ClientView) → HoldsParts c known k view.asked → EffectsAnswer c known asked k (client_ticks c view)
  unfolding client_ticks
  ticks_answer view holds = by_asked view.asked holds
    where
      by_asked : (o : Option Asked) → HoldsParts c known k o → EffectsAnswer c known asked k (ticks_for c view o)
      by_asked None h = idle_answers view holds
      by_asked (Some a) h =
          if_answers ((a.ticks + 1) % c.resend == 0) (sends_it c view (record a { ticks = a.ticks + 1; tries = a.tries + 1 })) (idles (record view { asked = Some (record a { ticks = a.ticks + 1 }) }))
          (record { parts = h; lines = tt }) (record { parts = h; lines = tt })

  module _ (valid : IsValid c) (bytes : AreOfBytes known) where
    abbrev Replies : ℕ → PartitionTable → Reply → Type 0
    Replies seq = RepliesTo c known (record { 0 = k }) seq

    gathers : (view : ClientView) (a : Asked) → view.id ≡ record { 0 = k } → IsAwaited c asked k view.next a → AreParts (Replies a.seq) (concerned_of a.command c.partitions) a.parts
        → EffectsAnswer c known asked k (gathered c view a)
    gathers view a own is parts = go (have_all (concerned_of a.command c.partitions) a.parts) refl
      where
        each : have_all (concerned_of a.command c.partitions) a.parts ≡ true → AreReplies c known (record { 0 = k }) a.seq (concerned_of a.command c.partitions) (replies_of (Replies a.seq) a.parts)
        each all =
            are_replies c known (record { 0 = k }) a.seq (concerned_of a.command c.partitions) (replies_of (Replies a.seq) a.parts)
            (all_replied (Replies a.seq) 0 (concerned_of a.command c.partitions) a.parts (concerned_rise a.command 0 c.partitions valid.partitions.ids) parts all)

        go : (t : Bool) → have_all (concerned_of a.command c.partitions) a.parts ≡ t → EffectsAnswer c known asked k (if t then answers view a else idles (record view { asked = Some a }))
        go true all = record {
          parts = tt;
          lines = (
            subst (λ (id : ClientId). IsAnswered c known asked id.0 a.seq (reply_bytes (joined (replies_of (Replies a.seq) a.parts)))) (sym own)
                (record { command = a.command; told = is.told; ring = a.ring; route = is.route; replies = replies_of (Replies a.seq) a.parts; each = each all; spelled = refl }),
            tt,
          );
        }
        go false all = record { parts = parts; lines = tt }

    abbrev ok : Reply → Result Reply CodecFault
    ok reply = Ok reply

    same_reply : (x y : Reply) → ok x ≡ ok y → y ≡ x
    same_reply x y e = cc

    no_reply : (fault : CodecFault) (y : Reply) → Err fault ≡ Ok y → ⊥
    no_reply fault y e = cc

    module _ (view : ClientView) (own : view.id ≡ record { 0 = k }) (holds : HoldsParts c known k view.asked) (a : Asked) (is : IsAwaited c asked k view.next a)
        (parts : AreParts (Replies a.seq) (concerned_of a.command c.partitions) a.parts) where
      -- the reply is the one that its bytes are
      by_reply : (p : PartitionTable) (reply : Reply) (r : Result Reply CodecFault) → Has c.partitions p → is_concerned a.command p ≡ true → has_part a.parts p.id ≡ false → Replies a.seq p reply → r ≡ Ok reply
          → EffectsAnswer c known asked k (replied_with c view a p r)
      by_reply p reply (Err fault) has concerned none replies e = absurd (no_reply fault reply e)
      by_reply p reply (Ok told) has concerned none replies e =
          if_answers (fits p a.command told) (gathered c view (record a { parts = with_part p.id told a.parts })) (idles view)
          (gathers view (record a { parts = with_part p.id told a.parts }) own (record { number = is.number; told = is.told; route = is.route })
          (part_put (Replies a.seq) 0 (concerned_of a.command c.partitions) a.parts p told (concerned_rise a.command 0 c.partitions valid.partitions.ids) (concerned_has a.command p c.partitions has concerned) none
          (subst (λ (x : Reply). Replies a.seq p x) (same_reply told reply e) replies) parts))
          (idle_answers view holds)

      is_not : (t : Bool) → not t ≡ true → t ≡ false
      is_not true h = absurd (true≢false (sym h))
      is_not false h = refl

      same_table : (x y : PartitionTable) (o : Option PartitionTable) → o ≡ Some x → o ≡ Some y → x ≡ y
      same_table x y o e f = cc

      by_partition : (partition : PartitionId) (text : List ℕ) → IsReplyOf c known (record { 0 = k }) a.seq partition text → (o : Option PartitionTable) → partition_at c.partitions partition.0 ≡ o
          → EffectsAnswer c known asked k (replied_by c view a o text)
      by_partition partition text r None e = idle_answers view holds
      by_partition partition text r (Some p) e = go (is_concerned a.command p && not (has_part a.parts p.id)) refl
        where
          has : Has c.partitions p
          has = found_has c.partitions partition.0 p e

          replies : Replies a.seq p r.reply
          replies = subst (λ (x : PartitionTable). Replies a.seq x r.reply) (same_table r.table p (partition_at c.partitions partition.0) r.there e) r.replies

          go : (t : Bool) → (is_concerned a.command p && not (has_part a.parts p.id)) ≡ t → EffectsAnswer c known asked k (if t then replied_with c view a p (reply_of text) else idles view)
          go true h =
              let s = split_and (is_concerned a.command p) (not (has_part a.parts p.id)) h in
              by_reply p r.reply (reply_of text) has s.0 (is_not (has_part a.parts p.id) s.1) replies
              (ap reply_of r.spelled ∙ read_back r.reply (spoken c known (record { 0 = k }) a.seq p r.reply valid bytes has replies))
          go false h = idle_answers view holds

    pub takes_answer : (view : ClientView) (body : Body) → ClientKeeps c asked k view → HoldsParts c known k view.asked → BodyReplies c known body → EffectsAnswer c known asked k (client_takes c view body)
    unfolding client_takes replied
    takes_answer view (bodies.Reply client seq partition text) keeps holds r = by (client.0 == view.id.0) refl
      where
        of_client : client.0 ≡ view.id.0 → IsReplyOf c known (record { 0 = k }) seq partition text
        of_client e = subst (λ (id : ClientId). IsReplyOf c known id seq partition text) (ap (λ (n : ℕ). record { 0 = n }) (e ∙ ap (λ (id : ClientId). id.0) keeps.id)) r

        by_asked : IsReplyOf c known (record { 0 = k }) seq partition text → (o : Option Asked) → HoldsParts c known k o → IsAwaitedOrNone c asked k view.next o → EffectsAnswer c known asked k (replied_for c view seq partition text o)
        by_asked own None h is = idle_answers view holds
        by_asked own (Some a) h is = go (a.seq == seq) refl
          where
            go : (t : Bool) → (a.seq == seq) ≡ t → EffectsAnswer c known asked k (if t then replied_by c view a (partition_at c.partitions partition.0) text else idles view)
            go true e = by_partition view keeps.id holds a is h partition text (subst (λ (n : ℕ). IsReplyOf c known (record { 0 = k }) n partition text) (sym (same_number a.seq seq e)) own) (partition_at c.partitions partition.0) refl
            go false e = idle_answers view holds

        by : (t : Bool) → (client.0 == view.id.0) ≡ t → EffectsAnswer c known asked k (if t then replied_for c view seq partition text view.asked else idles view)
        by true e = by_asked (of_client (same_number client.0 view.id.0 e)) view.asked holds keeps.awaited
        by false e = idle_answers view holds
    takes_answer view other keeps holds r = idle_answers view holds
