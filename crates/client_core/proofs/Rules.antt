-- The rules of a client, by what a core keeps of it.
use Rattle.std.proofs.Common.{arith, ◌≡◌, ℕ, ◌+◌, ◌^◌, ◌%◌, ◌<◌, ◌==◌, nat_lt, ◌&&◌, not, Bool, true, false, if◌then◌else◌, List, [], ◌∷◌, length, map, refl, sym, ◌∙◌, ap, Ok, Option, Some, None}
use Rattle.std.specs.Option.{option_map}
use Rattle.mrp_types.specs.declared.id.ClientId.{ClientId}
use Rattle.mrp_types.specs.declared.id.RingId.{RingId}
use Rattle.command_codec.specs.declared.command.Command.{Command}
use Rattle.mrp_types.specs.declared.id.PartitionId.{PartitionId}
use Rattle.command_codec.specs.declared.reply.Reply.{Reply}
use Rattle.command_codec.specs.Grammar.{reply_of}
use Rattle.command_codec.specs.Replies.{joined, reply_bytes}
use Rattle.mrp_config.specs.declared.tables.PartitionTable.{PartitionTable}
use Rattle.mrp_config.specs.Config.{Config, ring_at, partition_at}
use Rattle.mrp_config.specs.Routing.{is_concerned, concerned_of, route_of}
use Rattle.frames.specs.declared.sent.Sent.{Sent}
use Rattle.protocol.specs.Client.{Asked, ClientView, ClientEffects, idles, asked_first, acceptors_of, asks, sends_it, submits, client_ticks, replied, replied_by, gathered, answers, fits, has_part, with_part, have_all}
use Rattle.client_core.specs.Clients.{StandsFor, reduced}
use Rattle.client_core.specs.Cores.{core_of, asked_of}
use Rattle.client_core.specs.declared.waiting.Waiting.{Waiting}
use Rattle.client_core.specs.Calls.{Follows}
use Rattle.client_core.proofs.Sending.{one_more, full}
use Rattle.std.proofs.Math.Nat.{mod-add-mod}
use Rattle.protocol.specs.Lines.{Line, Answer}

none_before : (config : Config) (o : Option Asked) → option_map (reduced config) o ≡ None → o ≡ None
none_before config None is = refl
none_before config (Some a) is = absurd cc

same_view : (c : ClientView) (id : ClientId) (next : ℕ) (asked : Option Asked) → c.id ≡ id → c.next ≡ next → c.asked ≡ asked → c ≡ record { id = id; next = next; asked = asked }
same_view c id next asked e f g = rw (← e, ← f, ← g) refl

-- the client for which a core stands that waits for nothing
pub free_view : (config : Config) (id : ClientId) (next : ℕ) (c : ClientView) → StandsFor (core_of config id next None) c → c ≡ record { id = id; next = next; asked = None }
free_view config id next c stands =
    same_view c id next None (sym (ap (λ (v : ClientView). v.id) stands)) (sym (ap (λ (v : ClientView). v.next) stands))
    (none_before config c.asked (sym (ap (λ (v : ClientView). v.asked) stands)))

asks_anew : (config : Config) (id : ClientId) (next : ℕ) (command : Command) (ring : RingId) → route_of (concerned_of command config.partitions) ≡ Ok ring → nat_lt next (2 ^ 63) ≡ true →
    asks config (record { id = id; next = next; asked = None }) command ≡ sends_it config (record { id = id; next = next + 1; asked = None }) (asked_first next command ring)
unfolding asks
asks_anew config id next command ring routed low = rw (routed, low) refl

is_below : (n : ℕ) → n < 2 ^ 63 → nat_lt n (2 ^ 63) ≡ true
is_below n low = grind arith

zero_left : (m : ℕ) → 0 % m ≡ 0
zero_left m = grind arith

pub asks_follow : (config : Config) (id : ClientId) (next : ℕ) (command : Command) (ring : RingId) (waiting : Waiting) (sent : Sent) → route_of (concerned_of command config.partitions) ≡ Ok ring →
    next < 2 ^ 63 → asked_of waiting ≡ asked_first next command ring →
    ((c : ClientView) (a : Asked) → c.id ≡ id → a.seq ≡ waiting.seq → a.command ≡ waiting.command → a.ring ≡ waiting.ring →
    a.tries % length (acceptors_of (ring_at config.rings a.ring.0)) ≡ 0 → submits config c a ≡ sent ∷ []) →
    Follows (core_of config id next None) (core_of config id (next + 1) (Some waiting)) (λ config c. asks config c command) (sent ∷ []) []
asks_follow config id next command ring waiting sent routed low begun sends = record {
  config = refl;
  client = λ c stands. rw (free_view config id next c stands, made) (rw (begun, left, zero_left config.resend) refl);
  frames = λ c stands. rw (free_view config id next c stands, made) shown;
  lines = λ c stands. rw (free_view config id next c stands, made) refl;
}
  where
    made : asks config (record { id = id; next = next; asked = None }) command ≡ sends_it config (record { id = id; next = next + 1; asked = None }) (asked_first next command ring)
    made = asks_anew config id next command ring routed (is_below next low)

    left : 0 % length (acceptors_of (ring_at config.rings ring.0)) ≡ 0
    left = zero_left _

    shown : submits config (record { id = id; next = next + 1; asked = None }) (asked_first next command ring) ≡ sent ∷ []
    shown = sends (record { id = id; next = next + 1; asked = None }) (asked_first next command ring) refl
        (sym (ap (λ (a : Asked). a.seq) begun)) (sym (ap (λ (a : Asked). a.command) begun)) (sym (ap (λ (a : Asked). a.ring) begun)) left

-- ---- a client that waits

some_before : (config : Config) (o : Option Asked) (r : Asked) → option_map (reduced config) o ≡ Some r → (a : Asked) × (o ≡ Some a) × (reduced config a ≡ r)
some_before config None r is = absurd cc
some_before config (Some a) r is = (a, refl, cc)

abbrev waits : ClientId → ℕ → Asked → ClientView
waits id next a = record { id = id; next = next; asked = Some a }

-- the client for which a core stands that waits
pub some_view : (config : Config) (id : ClientId) (next : ℕ) (waiting : Waiting) (c : ClientView) → StandsFor (core_of config id next (Some waiting)) c →
    (a : Asked) × (c ≡ waits id next a) × (reduced config a ≡ asked_of waiting)
some_view config id next waiting c stands =
    let found = some_before config c.asked (asked_of waiting) (sym (ap (λ (v : ClientView). v.asked) stands)) in
    (found.0, same_view c id next (Some found.0) (sym (ap (λ (v : ClientView). v.id) stands)) (sym (ap (λ (v : ClientView). v.next) stands)) found.1, found.2)

-- where a rule makes the same of each client for which a core stands, the core follows it
follow_by : (config : Config) (id : ClientId) (next : ℕ) (waiting : Waiting) (left : Option Waiting) (rule : Config → ClientView → ClientEffects) (sends : List Sent) (prints : List Line) →
    ((a : Asked) → reduced config a ≡ asked_of waiting → (effects : ClientEffects) × (rule config (waits id next a) ≡ effects)
    × ((core_of config id next left).client ≡ record effects.client { asked = option_map (reduced config) effects.client.asked }) × (effects.frames ≡ sends) × (effects.lines ≡ prints)) →
    Follows (core_of config id next (Some waiting)) (core_of config id next left) rule sends prints
follow_by config id next waiting left rule sends prints made = record {
  config = refl;
  client = λ c stands. let v = some_view config id next waiting c stands in let m = made v.0 v.2 in rw (v.1, m.1) m.2;
  frames = λ c stands. let v = some_view config id next waiting c stands in let m = made v.0 v.2 in rw (v.1, m.1) m.3;
  lines = λ c stands. let v = some_view config id next waiting c stands in let m = made v.0 v.2 in rw (v.1, m.1) m.4;
}

pub dropped_follow : (config : Config) (id : ClientId) (next : ℕ) (waiting : Waiting) (rule : Config → ClientView → ClientEffects) →
    ((a : Asked) → reduced config a ≡ asked_of waiting → rule config (waits id next a) ≡ idles (waits id next a)) →
    Follows (core_of config id next (Some waiting)) (core_of config id next (Some waiting)) rule [] []
dropped_follow config id next waiting rule drops =
    follow_by config id next waiting (Some waiting) rule [] [] (λ a is. (idles (waits id next a), drops a is, ap (λ (x : Asked). waits id next x) (sym is), refl, refl))

-- ---- ticks

quiet_made : (config : Config) (id : ClientId) (next : ℕ) (a : Asked) (left : ℕ) → 0 < config.resend → a.ticks % config.resend ≡ left → left + 1 < config.resend →
    client_ticks config (waits id next a) ≡ idles (waits id next (record a { ticks = a.ticks + 1 }))
unfolding client_ticks
quiet_made config id next a left some is low =
    let up = one_more a.ticks config.resend left some is low in
    let test : ((a.ticks + 1) % config.resend == 0) ≡ false = not_zero ((a.ticks + 1) % config.resend) left up in
    rw test refl
  where
    not_zero : (n left : ℕ) → n ≡ left + 1 → (n == 0) ≡ false
    not_zero n left is = grind arith

pub quiet_follow : (config : Config) (id : ClientId) (next : ℕ) (waiting : Waiting) → 0 < config.resend → waiting.ticks + 1 < config.resend →
    Follows (core_of config id next (Some waiting)) (core_of config id next (Some (record waiting { ticks = waiting.ticks + 1 }))) client_ticks [] []
quiet_follow config id next waiting some low =
    follow_by config id next waiting (Some (record waiting { ticks = waiting.ticks + 1 })) client_ticks [] [] (λ a is.
    let left : a.ticks % config.resend ≡ waiting.ticks = ap (λ (x : Asked). x.ticks) is in
    let up = one_more a.ticks config.resend waiting.ticks some left low in
    let same : reduced config (record a { ticks = a.ticks + 1 }) ≡ record (asked_of waiting) { ticks = waiting.ticks + 1 } =
    ap (λ n. record (reduced config a) { ticks = n }) up ∙ ap (λ (x : Asked). record x { ticks = waiting.ticks + 1 }) is in
    (idles (waits id next (record a { ticks = a.ticks + 1 })), quiet_made config id next a waiting.ticks some left low, ap (λ (x : Asked). waits id next x) (sym same), refl, refl))

beat_made : (config : Config) (id : ClientId) (next : ℕ) (a : Asked) → (a.ticks + 1) % config.resend ≡ 0 →
    client_ticks config (waits id next a) ≡ sends_it config (waits id next (record a { ticks = a.ticks + 1 })) (record a { ticks = a.ticks + 1; tries = a.tries + 1 })
unfolding client_ticks
beat_made config id next a is = rw is refl

pub beat_follow : (config : Config) (id : ClientId) (next : ℕ) (waiting : Waiting) (turn : ℕ) (sent : Sent) → 0 < config.resend → waiting.ticks + 1 ≡ config.resend →
    turn ≡ (waiting.turn + 1) % length (acceptors_of (ring_at config.rings waiting.ring.0)) →
    ((c : ClientView) (a : Asked) → c.id ≡ id → a.seq ≡ waiting.seq → a.command ≡ waiting.command → a.ring ≡ waiting.ring →
    a.tries % length (acceptors_of (ring_at config.rings a.ring.0)) ≡ turn → submits config c a ≡ sent ∷ []) →
    Follows (core_of config id next (Some waiting)) (core_of config id next (Some (record waiting { ticks = 0; turn = turn }))) client_ticks (sent ∷ []) []
beat_follow config id next waiting turn sent some whole at sends =
    follow_by config id next waiting (Some (record waiting { ticks = 0; turn = turn })) client_ticks (sent ∷ []) [] (λ a is.
    let left : a.ticks % config.resend ≡ waiting.ticks = ap (λ (x : Asked). x.ticks) is in
    let zero_ticks = full a.ticks config.resend waiting.ticks some left whole in
    let ring : a.ring ≡ waiting.ring = ap (λ (x : Asked). x.ring) is in
    let tries : a.tries % length (acceptors_of (ring_at config.rings a.ring.0)) ≡ waiting.turn = ap (λ (x : Asked). x.tries) is in
    let turned : (a.tries + 1) % length (acceptors_of (ring_at config.rings a.ring.0)) ≡ turn =
    sym (mod-add-mod a.tries (length (acceptors_of (ring_at config.rings a.ring.0))) 1) ∙ ap (λ n. (n + 1) % length (acceptors_of (ring_at config.rings a.ring.0))) tries
    ∙ ap (λ (r : RingId). (waiting.turn + 1) % length (acceptors_of (ring_at config.rings r.0))) ring ∙ sym at in
    let again : Asked = record a { ticks = a.ticks + 1; tries = a.tries + 1 } in
    let same : reduced config again ≡ record (asked_of waiting) { ticks = 0; tries = turn } =
    ap (λ n. record (reduced config a) { ticks = n; tries = (a.tries + 1) % length (acceptors_of (ring_at config.rings a.ring.0)) }) zero_ticks
    ∙ ap (λ n. record (reduced config a) { ticks = 0; tries = n }) turned ∙ ap (λ (x : Asked). record x { ticks = 0; tries = turn }) is in (
      sends_it config (waits id next (record a { ticks = a.ticks + 1 })) again,
      beat_made config id next a zero_ticks,
      ap (λ (x : Asked). waits id next x) (sym same),
      sends (waits id next (record a { ticks = a.ticks + 1 })) again refl (ap (λ (x : Asked). x.seq) is) (ap (λ (x : Asked). x.command) is) ring turned,
      refl,
    ))

pub free_ticks : (config : Config) (id : ClientId) (next : ℕ) → Follows (core_of config id next None) (core_of config id next None) client_ticks [] []
unfolding client_ticks
free_ticks config id next = record {
  config = refl;
  client = λ c stands. rw (free_view config id next c stands) refl;
  frames = λ c stands. rw (free_view config id next c stands) refl;
  lines = λ c stands. rw (free_view config id next c stands) refl;
}

-- ---- replies

abbrev reply_rule : ℕ → PartitionId → List ℕ → Config → ClientView → ClientEffects
reply_rule seq partition bytes config c = replied config c seq partition bytes

pub free_replies : (config : Config) (id : ClientId) (next seq : ℕ) (partition : PartitionId) (bytes : List ℕ) →
    Follows (core_of config id next None) (core_of config id next None) (reply_rule seq partition bytes) [] []
unfolding replied
free_replies config id next seq partition bytes = record {
  config = refl;
  client = λ c stands. rw (free_view config id next c stands) refl;
  frames = λ c stands. rw (free_view config id next c stands) refl;
  lines = λ c stands. rw (free_view config id next c stands) refl;
}

pub other_number : (config : Config) (id : ClientId) (next : ℕ) (waiting : Waiting) (seq : ℕ) (partition : PartitionId) (bytes : List ℕ) → (waiting.seq == seq) ≡ false →
    Follows (core_of config id next (Some waiting)) (core_of config id next (Some waiting)) (reply_rule seq partition bytes) [] []
unfolding replied
other_number config id next waiting seq partition bytes other =
    dropped_follow config id next waiting (reply_rule seq partition bytes) (λ a is.
    let test : (a.seq == seq) ≡ false = ap (λ (x : Asked). x.seq == seq) is ∙ other in
    rw test refl)

pub no_partition : (config : Config) (id : ClientId) (next : ℕ) (waiting : Waiting) (seq : ℕ) (partition : PartitionId) (bytes : List ℕ) → partition_at config.partitions partition.0 ≡ None →
    Follows (core_of config id next (Some waiting)) (core_of config id next (Some waiting)) (reply_rule seq partition bytes) [] []
unfolding replied
no_partition config id next waiting seq partition bytes none =
    dropped_follow config id next waiting (reply_rule seq partition bytes) (λ a is. by_test a (a.seq == seq))
  where
    by_test : (a : Asked) (t : Bool) → (if t then replied_by config (waits id next a) a (partition_at config.partitions partition.0) bytes else idles (waits id next a)) ≡ idles (waits id next a)
    by_test a true = rw none refl
    by_test a false = refl

pub not_awaited : (config : Config) (id : ClientId) (next : ℕ) (waiting : Waiting) (seq : ℕ) (partition : PartitionId) (p : PartitionTable) (bytes : List ℕ) → partition_at config.partitions partition.0 ≡ Some p →
    (is_concerned waiting.command p && not (has_part waiting.parts p.id)) ≡ false →
    Follows (core_of config id next (Some waiting)) (core_of config id next (Some waiting)) (reply_rule seq partition bytes) [] []
unfolding replied
not_awaited config id next waiting seq partition p bytes found out =
    dropped_follow config id next waiting (reply_rule seq partition bytes) (λ a is.
    by_test a (ap (λ (x : Asked). is_concerned x.command p && not (has_part x.parts p.id)) is ∙ out) (a.seq == seq))
  where
    by_test : (a : Asked) → (is_concerned a.command p && not (has_part a.parts p.id)) ≡ false → (t : Bool) →
        (if t then replied_by config (waits id next a) a (partition_at config.partitions partition.0) bytes else idles (waits id next a)) ≡ idles (waits id next a)
    by_test a none true = rw (found, none) refl
    by_test a none false = refl

itself : (n : ℕ) → (n == n) ≡ true
itself n = grind arith

-- the reply of a partition that is waited for
awaited : (config : Config) (id : ClientId) (next : ℕ) (waiting : Waiting) (p : PartitionTable) (bytes : List ℕ) (reply : Reply) (a : Asked) → partition_at config.partitions p.id.0 ≡ Some p →
    is_concerned waiting.command p ≡ true → has_part waiting.parts p.id ≡ false → reply_of bytes ≡ Ok reply → reduced config a ≡ asked_of waiting →
    replied config (waits id next a) waiting.seq p.id bytes ≡ (if fits p waiting.command reply then gathered config (waits id next a) (record a { parts = with_part p.id reply waiting.parts }) else idles (waits id next a))
unfolding replied
awaited config id next waiting p bytes reply a found concerned first read is =
    let seq : a.seq ≡ waiting.seq = ap (λ (x : Asked). x.seq) is in
    let command : a.command ≡ waiting.command = ap (λ (x : Asked). x.command) is in
    let parts : a.parts ≡ waiting.parts = ap (λ (x : Asked). x.parts) is in
    let number : (a.seq == waiting.seq) ≡ true = ap (λ n. n == waiting.seq) seq ∙ itself waiting.seq in
    let test : (is_concerned a.command p && not (has_part a.parts p.id)) ≡ true = rw (command, parts, concerned, first) refl in
    rw (number, found, test, read, command, parts) refl

pub unfit_follow : (config : Config) (id : ClientId) (next : ℕ) (waiting : Waiting) (p : PartitionTable) (bytes : List ℕ) (reply : Reply) → partition_at config.partitions p.id.0 ≡ Some p →
    is_concerned waiting.command p ≡ true → has_part waiting.parts p.id ≡ false → reply_of bytes ≡ Ok reply → fits p waiting.command reply ≡ false →
    Follows (core_of config id next (Some waiting)) (core_of config id next (Some waiting)) (reply_rule waiting.seq p.id bytes) [] []
unfit_follow config id next waiting p bytes reply found concerned first read unfit =
    dropped_follow config id next waiting (reply_rule waiting.seq p.id bytes) (λ a is. awaited config id next waiting p bytes reply a found concerned first read is ∙ rw unfit refl)

pub gathered_follow : (config : Config) (id : ClientId) (next : ℕ) (waiting left : Waiting) (p : PartitionTable) (bytes : List ℕ) (reply : Reply) → partition_at config.partitions p.id.0 ≡ Some p →
    is_concerned waiting.command p ≡ true → has_part waiting.parts p.id ≡ false → reply_of bytes ≡ Ok reply → fits p waiting.command reply ≡ true →
    left ≡ record waiting { parts = with_part p.id reply waiting.parts } → have_all (concerned_of waiting.command config.partitions) (with_part p.id reply waiting.parts) ≡ false →
    Follows (core_of config id next (Some waiting)) (core_of config id next (Some left)) (reply_rule waiting.seq p.id bytes) [] []
gathered_follow config id next waiting left p bytes reply found concerned first read fit leaves some =
    follow_by config id next waiting (Some left) (reply_rule waiting.seq p.id bytes) [] [] (λ a is.
    let kept : Asked = record a { parts = with_part p.id reply waiting.parts } in
    let command : a.command ≡ waiting.command = ap (λ (x : Asked). x.command) is in
    let same : reduced config kept ≡ asked_of left = ap (λ (x : Asked). record x { parts = with_part p.id reply waiting.parts }) is ∙ sym (ap asked_of leaves) in
    (idles (waits id next kept), awaited config id next waiting p bytes reply a found concerned first read is ∙ rw (fit, command, some) refl, ap (λ (x : Asked). waits id next x) (sym same), refl, refl))

pub answered_follow : (config : Config) (id : ClientId) (next : ℕ) (waiting : Waiting) (p : PartitionTable) (bytes written : List ℕ) (reply : Reply) → partition_at config.partitions p.id.0 ≡ Some p →
    is_concerned waiting.command p ≡ true → has_part waiting.parts p.id ≡ false → reply_of bytes ≡ Ok reply → fits p waiting.command reply ≡ true →
    have_all (concerned_of waiting.command config.partitions) (with_part p.id reply waiting.parts) ≡ true →
    written ≡ reply_bytes (joined (map (λ (part : PartitionId × Reply). part.1) (with_part p.id reply waiting.parts))) →
    Follows (core_of config id next (Some waiting)) (core_of config id next None) (reply_rule waiting.seq p.id bytes) [] (Answer id waiting.seq written ∷ [])
answered_follow config id next waiting p bytes written reply found concerned first read fit all is_written =
    follow_by config id next waiting None (reply_rule waiting.seq p.id bytes) [] (Answer id waiting.seq written ∷ []) (λ a is.
    let kept : Asked = record a { parts = with_part p.id reply waiting.parts } in
    let command : a.command ≡ waiting.command = ap (λ (x : Asked). x.command) is in
    let seq : a.seq ≡ waiting.seq = ap (λ (x : Asked). x.seq) is in
    (answers (waits id next a) kept, awaited config id next waiting p bytes reply a found concerned first read is ∙ rw (fit, command, all) refl, refl, refl, rw (seq, is_written) refl))
