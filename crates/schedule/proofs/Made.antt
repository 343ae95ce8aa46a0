-- Each event of a generated schedule may be, and its line is short.
use Rattle.std.proofs.Common.{arith, lit<, lit≤, ◌≡◌, ◌<◌, ◌≤◌, ℕ, zero, suc, ◌+◌, ◌-◌, ◌*◌, ◌/◌, ◌%◌, ◌^◌, ◌==◌, nat_lt, Bool, true, false, List, [], ◌∷◌, ◌++◌, length, map, take, refl, sym, ap, ◌∙◌, Option, Some, None, codes, length-append, length-take}
use Rattle.std.specs.Prelude.{IfSome, IsTrue, is_ok, slice_get, slice_index, if◌then◌else◌}
use Rattle.std.specs.List.{filter, flat_map, range_with_len, AllByRecursion}
use Rattle.std.specs.Fmt.{decimal}
use Rattle.std.specs.Int.{byte_at, bytes_high_first}
use Rattle.std.proofs.lemmas.Fmt.{length-decimal-le}
use Rattle.hex.specs.Hex.{encode_lower, lower_digits}
use Rattle.hex.proofs.HexLemmas.{length-encode_with}
use Rattle.text_lines.specs.Text.{set_off, line_text, hex_text}
use Rattle.mrp_types.specs.declared.id.ClientId.{ClientId}
use Rattle.mrp_types.specs.declared.id.NodeId.{NodeId}
use Rattle.mrp_types.specs.declared.id.LogId.{LogId}
use Rattle.command_codec.specs.Fields.{u16_bytes, u32_bytes}
use Rattle.command_codec.specs.declared.command.Command.TheVariants.{Append, Insert}
use Rattle.command_codec.proofs.ReaderLaws.{wide16, wide32}
use Rattle.disk_model.specs.declared.area.Image.{Image}
use Rattle.disk_model.specs.declared.area.Image.TheVariants.{Old, New, Fill}
use Rattle.rand_core.specs.Pcg32Seed.{pcg32_seed}
use Rattle.rand_core.specs.Steps.{first_words}
use Rattle.rand_pcg.specs.Pcg.{pcg32, pcg32_of_seed}
use Rattle.mrp_config.specs.declared.tables.PartitionTable.{PartitionTable}
use Rattle.mrp_config.specs.Config.{Config, has_log}
use Rattle.mrp_config.specs.Walk.{is_among}
use Rattle.mrp_config.specs.Routing.{is_concerned, concerned_of, is_within, route_of}
use Rattle.mrp_config.specs.Valid.{IsValid, AreApart, AreAllApart, holders, numbers_of_logs, logs_of as lists_of_logs}
use Rattle.mrp_config.proofs.Keys.{each_key_has_one}
use Rattle.schedule.specs.declared.event.ScheduleEvent.{ScheduleEvent}
use Rattle.schedule.specs.declared.event.ScheduleEvent.TheVariants.{Ask, Flow, Lose, Deliver, TickAll, Crash, Restart, Fuse}
use Rattle.schedule.specs.Fields.{is_client, is_node, is_held}
use Rattle.schedule.specs.Spelling.{event_text, schedule_text, has_route, IsClient, IsNode, AreBytes, IsWithin, IsEvent, IsSchedule}
use Rattle.schedule.specs.declared.names.Names.{Names}
use Rattle.schedule.specs.Generating.{named_below, client_named, node_named, log_named, names_of, xth, event_of, asked_by, stop_of, image_of, event_by, events_by, opening, drawn_words, generated}

-- ---- lists

got : {A : Type 0} (P : A → Type 0) (items : List A) (i : ℕ) → AllByRecursion P items → IfSome (slice_get items i) P
got P [] i all = tt
got P (x ∷ xs) zero all = all.0
got P (x ∷ xs) (suc i) all = got P xs i all.1

abbrev pub AllNamed : {A : Type 0} → (A → Type 0) → (ℕ → A) → (ℕ → Bool) → ℕ → ℕ → Type 0
AllNamed P name test a n = AllByRecursion P (map name (filter test (range_with_len a n)))

by_test : {A : Type 0} (P : A → Type 0) (name : ℕ → A) (test : ℕ → Bool) (a n : ℕ) (t : Bool) → test a ≡ t → (test a ≡ true → P (name a)) → AllNamed P name test (a + 1) n →
    AllNamed P name test a (suc n)
by_test P name test a n true is first rest = rw is (first is, rest)
by_test P name test a n false is first rest = rw is rest

named_from : {A : Type 0} (P : A → Type 0) (name : ℕ → A) (test : ℕ → Bool) (a n end : ℕ) → a + n ≤ end → ((k : ℕ) → k < end → test k ≡ true → P (name k)) →
    AllNamed P name test a n
named_from P name test a zero end within each = tt
named_from P name test a (suc n) end within each =
    let inside : a + 1 + n ≤ end = omega arith in
    let low : a < end = omega arith in
    by_test P name test a n (test a) refl (each a low) (named_from P name test (a + 1) n end inside each)

pub all_named : {A : Type 0} (P : A → Type 0) (name : ℕ → A) (test : ℕ → Bool) (end : ℕ) → ((k : ℕ) → k < end → test k ≡ true → P (name k)) →
    AllByRecursion P (named_below name test end)
unfolding named_below
all_named P name test end each = named_from P name test 0 end end (omega arith) each

-- ---- which ring orders what is asked

one_routes : (ps : List PartitionTable) → length ps ≡ 1 → IsTrue (is_ok (route_of ps))
one_routes [] one = absurd (grind arith)
one_routes (p ∷ []) one = refl
one_routes (p ∷ q ∷ ps) one = absurd (grind arith)

among_logs : (logs : List LogId) (n : ℕ) → has_log logs n ≡ is_among n (numbers_of_logs logs)
among_logs [] n = refl
among_logs (log ∷ logs) n = ap (λ (t : Bool). if log.0 == n then true else t) (among_logs logs n)

same_number : (a b : ℕ) → (a == b) ≡ true → a ≡ b
same_number a b h = grind arith

apart_first : (xs ys : List ℕ) (y n : ℕ) (t : Bool) → (y == n) ≡ t → (is_among y xs ≡ false) → (is_among n ys ≡ true → is_among n xs ≡ false) → is_among n (y ∷ ys) ≡ true → is_among n xs ≡ false
apart_first xs ys y n true is free rest h = ap (λ k. is_among k xs) (sym (same_number y n is)) ∙ free
apart_first xs ys y n false is free rest h = rest (rw is at h)

apart_from : (xs ys : List ℕ) (n : ℕ) → AreApart xs ys → is_among n ys ≡ true → is_among n xs ≡ false
apart_from xs [] n apart h = absurd cc
apart_from xs (y ∷ ys) n apart h = apart_first xs ys y n (y == n) refl apart.0 (λ k. apart_from xs ys n apart.1 k) h

not_both : (own other : List LogId) (n : ℕ) (t : Bool) → has_log other n ≡ t → has_log own n ≡ true → AreApart (numbers_of_logs own) (numbers_of_logs other) → has_log other n ≡ false
not_both own other n false is has apart = is
not_both own other n true is has apart =
    let free : is_among n (numbers_of_logs own) ≡ false = apart_from (numbers_of_logs own) (numbers_of_logs other) n apart (sym (among_logs other n) ∙ is) in
    let there : is_among n (numbers_of_logs own) ≡ true = sym (among_logs own n) ∙ has in
    absurd cc

none_other : (own : List LogId) (log : LogId) (value : List ℕ) (ps : List PartitionTable) → has_log own log.0 ≡ true → AllByRecursion (AreApart (numbers_of_logs own)) (lists_of_logs ps) →
    concerned_of (Append log value) ps ≡ []
unfolding is_concerned
none_other own log value [] has apart = refl
none_other own log value (q ∷ ps) has apart =
    let free : has_log q.logs log.0 ≡ false = not_both own q.logs log.0 (has_log q.logs log.0) refl has apart.0 in
    rw free (none_other own log value ps has apart.1)

held_first : (log : LogId) (value : List ℕ) (p : PartitionTable) (ps : List PartitionTable) (t : Bool) → has_log p.logs log.0 ≡ t → AllByRecursion (AreApart (numbers_of_logs p.logs)) (lists_of_logs ps) →
    (is_held ps log.0 ≡ true → length (concerned_of (Append log value) ps) ≡ 1) → is_held (p ∷ ps) log.0 ≡ true → length (concerned_of (Append log value) (p ∷ ps)) ≡ 1
unfolding is_concerned
held_first log value p ps true is apart rest held = rw is (ap (λ (l : List PartitionTable). suc (length l)) (none_other p.logs log value ps is apart))
held_first log value p ps false is apart rest held = rw is (rest (rw is at held))

one_holds : (log : LogId) (value : List ℕ) (ps : List PartitionTable) → AreAllApart (lists_of_logs ps) → is_held ps log.0 ≡ true → length (concerned_of (Append log value) ps) ≡ 1
one_holds log value [] apart held = absurd cc
one_holds log value (p ∷ ps) apart held = held_first log value p ps (has_log p.logs log.0) refl apart.0 (λ h. one_holds log value ps apart.1 h) held

append_routed : (config : Config) (log : LogId) (value : List ℕ) → IsValid config → is_held config.partitions log.0 ≡ true → IsTrue (has_route config (Append log value))
append_routed config log value valid held = one_routes (concerned_of (Append log value) config.partitions) (one_holds log value config.partitions valid.partitions.logs held)

same_holders : (key value : List ℕ) (ps : List PartitionTable) → concerned_of (Insert key value) ps ≡ holders key ps
unfolding is_concerned
same_holders key value [] = refl
same_holders key value (p ∷ ps) = ap (λ (l : List PartitionTable). if is_within p.from p.to key then p ∷ l else l) (same_holders key value ps)

insert_routed : (config : Config) (key value : List ℕ) → IsValid config → IsTrue (has_route config (Insert key value))
insert_routed config key value valid =
    one_routes (concerned_of (Insert key value) config.partitions)
    (ap length (same_holders key value config.partitions) ∙ each_key_has_one key config.partitions valid.partitions.few.0 valid.partitions.ranges)

-- ---- bytes

byte_below : (i n : ℕ) → byte_at i n < 256
byte_below zero n = omega arith
byte_below (suc i) n = omega arith

high_bytes : (k n i : ℕ) → slice_index (bytes_high_first k n) i < 256
high_bytes zero n i = lit< tt
high_bytes (suc k) n zero = byte_below k n
high_bytes (suc k) n (suc i) = high_bytes k n i

key_bytes : (n : ℕ) → AreBytes 1 256 (u16_bytes n)
unfolding u16_bytes
key_bytes n = (high_bytes 2 n, (lit≤ tt, lit≤ tt))

value_bytes : (n : ℕ) → AreBytes 0 2048 (u32_bytes n)
unfolding u32_bytes
value_bytes n = (high_bytes 4 n, (lit≤ tt, lit≤ tt))

-- ---- how long a line is

abbrev pub spread : List (List ℕ) → ℕ
spread [] = 0
spread (word ∷ words) = (length word + 1) + spread words

flat_length : (words : List (List ℕ)) → length (flat_map (set_off 32) words) ≡ spread words
flat_length [] = refl
flat_length (word ∷ words) = let e = flat_length words in omega (arith, e, length-append word (flat_map (set_off 32) words))

line_length : (word : List ℕ) (words : List (List ℕ)) → length (line_text (word ∷ words)) ≡ spread (word ∷ words)
line_length word words =
    let e = flat_length words in
    omega (arith, e, length-append word (flat_map (set_off 32) words), length-append (word ++ flat_map (set_off 32) words) (10 ∷ []))

digits : (n : ℕ) → n < 2 ^ 64 → length (decimal n) ≤ 20
digits n small = length-decimal-le 20 n (lit< tt) (omega arith) small

hex_length : (bytes : List ℕ) → 1 ≤ length bytes → length (hex_text bytes) ≡ 2 * length bytes
hex_length [] some = absurd (grind arith)
hex_length (b ∷ rest) some = length-encode_with lower_digits (b ∷ rest)

short : (word : List ℕ) (words : List (List ℕ)) → spread (word ∷ words) ≤ 64 → length (line_text (word ∷ words)) ≤ 64
short word words few = let e = line_length word words in omega (arith, e, few)

-- ---- events

-- an event of a generated schedule: it may be, and its line has 64 bytes at most
abbrev pub IsMade : Config → ScheduleEvent → Type 0
IsMade config event = IsEvent config event × (length (event_text event) ≤ 64)

either : (P : ScheduleEvent → Type 0) (t : Bool) (x y : ScheduleEvent) → P x → P y → P (if t then x else y)
either P true x y first second = first
either P false x y first second = second

tick_made : (config : Config) → IsMade config TickAll
tick_made config = ((tt, refl), lit≤ tt)

made_of : {A : Type 0} (P : A → Type 0) (config : Config) (event : A → ScheduleEvent) (o : Option A) → IfSome o P → ((x : A) → P x → IsMade config (event x)) → IsMade config (event_of event o)
made_of P config event None is each = tick_made config
made_of P config event (Some x) is each = each x is

flow_made : (config : Config) (n : ℕ) → 1 ≤ n → n ≤ 1000 → IsMade config (Flow n)
flow_made config n some few =
    let d = digits n (omega arith) in
    (((some, omega arith), refl), short (codes "flow") (decimal n ∷ []) (omega (arith, d)))

lose_made : (config : Config) (n : ℕ) → 1 ≤ n → n ≤ 1000 → IsMade config (Lose n)
lose_made config n some few =
    let d = digits n (omega arith) in
    (((some, omega arith), refl), short (codes "lose") (decimal n ∷ []) (omega (arith, d)))

deliver_made : (config : Config) (n : ℕ) → n < 4096 → IsMade config (Deliver n)
deliver_made config n less =
    let d = digits n (omega arith) in
    ((omega arith, refl), short (codes "deliver") (decimal n ∷ []) (omega (arith, d)))

-- what a log has to be to be named
abbrev pub IsHeld : Config → LogId → Type 0
IsHeld config log = IsWithin 0 63 log.0 × (is_held config.partitions log.0 ≡ true)

append_made : (config : Config) (client : ClientId) (log : LogId) (a : ℕ) → IsValid config → IsClient config client.0 → IsHeld config log → IsMade config (Ask client (Append log (u32_bytes a)))
append_made config client log a valid is held =
    let c = digits client.0 (omega (arith, is.0.1)) in
    let l = digits log.0 (omega (arith, held.0.1)) in
    let wide : length (u32_bytes a) ≡ 4 = wide32.wide a in
    let h = hex_length (u32_bytes a) (omega arith) in (
      ((is, (held.0, value_bytes a)), append_routed config log (u32_bytes a) valid held.1),
      short (codes "ask") (decimal client.0 ∷ codes "append" ∷ decimal log.0 ∷ hex_text (u32_bytes a) ∷ []) (omega (arith, c, l, h, wide)),
    )

insert_made : (config : Config) (client : ClientId) (key a : ℕ) → IsValid config → IsClient config client.0 → IsMade config (Ask client (Insert (u16_bytes key) (u32_bytes a)))
insert_made config client key a valid is =
    let c = digits client.0 (omega (arith, is.0.1)) in
    let wide : length (u32_bytes a) ≡ 4 = wide32.wide a in
    let narrow : length (u16_bytes key) ≡ 2 = wide16.wide key in
    let h = hex_length (u32_bytes a) (omega arith) in
    let k = hex_length (u16_bytes key) (omega arith) in (
      ((is, (key_bytes key, value_bytes a)), insert_routed config (u16_bytes key) (u32_bytes a) valid),
      short (codes "ask") (decimal client.0 ∷ codes "insert" ∷ hex_text (u16_bytes key) ∷ hex_text (u32_bytes a) ∷ []) (omega (arith, c, h, k, wide, narrow)),
    )

crash_made : (config : Config) (node : NodeId) → IsNode config node.0 → IsMade config (Crash node)
crash_made config node is =
    let d = digits node.0 (omega (arith, is.0.1)) in
    ((is, refl), short (codes "crash") (decimal node.0 ∷ []) (omega (arith, d)))

fuse_made : (config : Config) (node : NodeId) (n : ℕ) → n ≤ 1000 → IsNode config node.0 → IsMade config (Fuse node n)
fuse_made config node n few is =
    let d = digits node.0 (omega (arith, is.0.1)) in
    let e = digits n (omega arith) in
    (((is, (omega arith, few)), refl), short (codes "fuse") (decimal node.0 ∷ decimal n ∷ []) (omega (arith, d, e)))

abbrev pub MadeOn : Config → NodeId → Image → Type 0
MadeOn config node image = IsMade config (Restart node image)

old_made : (config : Config) (node : NodeId) → IsNode config node.0 → MadeOn config node Old
old_made config node is =
    let d = digits node.0 (omega (arith, is.0.1)) in
    (((is, tt), refl), short (codes "restart") (decimal node.0 ∷ codes "old" ∷ []) (omega (arith, d)))

new_made : (config : Config) (node : NodeId) → IsNode config node.0 → MadeOn config node New
new_made config node is =
    let d = digits node.0 (omega (arith, is.0.1)) in
    (((is, tt), refl), short (codes "restart") (decimal node.0 ∷ codes "new" ∷ []) (omega (arith, d)))

fill_made : (config : Config) (node : NodeId) (keep : ℕ) → keep ≤ 1000 → IsNode config node.0 → MadeOn config node (Fill keep 127)
fill_made config node keep few is =
    let d = digits node.0 (omega (arith, is.0.1)) in
    let e = digits keep (omega arith) in
    let h : length (encode_lower (127 ∷ [])) ≡ 2 = length-encode_with lower_digits (127 ∷ []) in (
      ((is, ((omega arith, omega arith), lit< tt)), refl),
      short (codes "restart") (decimal node.0 ∷ codes "fill" ∷ decimal keep ∷ encode_lower (127 ∷ []) ∷ []) (omega (arith, d, e, h)),
    )

pick : (P : Image → Type 0) (t : Bool) (x y : Image) → P x → P y → P (if t then x else y)
pick P true x y first second = first
pick P false x y first second = second

restart_made : (config : Config) (a : ℕ) (node : NodeId) → IsNode config node.0 → MadeOn config node (image_of a)
restart_made config a node is =
    let fill : Image = Fill ((a / 1024) % 32) 127 in
    let second : Bool = (a / 256) % 3 == 1 in
    pick (MadeOn config node) ((a / 256) % 3 == 0) Old (if second then New else fill) (old_made config node is)
    (pick (MadeOn config node) second New fill (new_made config node is) (fill_made config node ((a / 1024) % 32) (omega arith) is))

stop_made : (config : Config) (a : ℕ) (node : NodeId) → IsNode config node.0 → IsMade config (stop_of a node)
stop_made config a node is = either (IsMade config) (nat_lt a (2 ^ 31)) (Crash node) (Fuse node ((a / 256) % 5)) (crash_made config node is) (fuse_made config node ((a / 256) % 5) (omega arith) is)

-- ---- names

pub record AreNames (config : Config) (names : Names) : Type 0 where
  pub clients : AllByRecursion (λ (c : ClientId). IsClient config c.0) names.clients
  pub nodes : AllByRecursion (λ (n : NodeId). IsNode config n.0) names.nodes
  pub logs : AllByRecursion (IsHeld config) names.logs

names_are : (config : Config) → AreNames config (names_of config)
names_are config = record {
  clients = all_named (λ (c : ClientId). IsClient config c.0) client_named (is_client config) 256 (λ k less is. ((omega arith, omega arith), is));
  nodes = all_named (λ (n : NodeId). IsNode config n.0) node_named (is_node config) 256 (λ k less is. ((omega arith, omega arith), is));
  logs = all_named (IsHeld config) log_named (is_held config.partitions) 64 (λ k less is. ((omega arith, omega arith), is));
}

asked_made : (config : Config) (names : Names) (a : ℕ) (client : ClientId) → IsValid config → AreNames config names → IsClient config client.0 → IsMade config (asked_by names a client)
unfolding asked_by
asked_made config names a client valid are is =
    let appended : LogId → ScheduleEvent = λ log. Ask client (Append log (u32_bytes a)) in
    either (IsMade config) ((a / 65536) % 2 == 0) (event_of appended (xth names.logs (a / 256))) (Ask client (Insert (u16_bytes (a % 65536)) (u32_bytes a)))
    (made_of (IsHeld config) config appended (xth names.logs (a / 256)) (got (IsHeld config) names.logs ((a / 256) % length names.logs) are.logs) (λ log held. append_made config client log a valid is held))
    (insert_made config client (a % 65536) a valid is)

event_made : (config : Config) (names : Names) (kind a : ℕ) → IsValid config → AreNames config names → IsMade config (event_by names kind a)
unfolding event_by
event_made config names kind a valid are =
    let P : ScheduleEvent → Type 0 = IsMade config in
    let asks : ScheduleEvent = event_of (asked_by names a) (xth names.clients a) in
    let stops : ScheduleEvent = event_of (stop_of a) (xth names.nodes a) in
    let restart : NodeId → ScheduleEvent = λ node. Restart node (image_of a) in
    let starts : ScheduleEvent = event_of restart (xth names.nodes a) in
    let from_14 : ScheduleEvent = if kind == 14 then stops else starts in
    let from_13 : ScheduleEvent = if kind == 13 then Deliver (a % 4096) else from_14 in
    let from_12 : ScheduleEvent = if kind == 12 then Lose (1 + a % 4) else from_13 in
    let from_9 : ScheduleEvent = if nat_lt kind 12 then asks else from_12 in
    let from_6 : ScheduleEvent = if nat_lt kind 9 then TickAll else from_9 in
    let node_is : NodeId → Type 0 = λ n. IsNode config n.0 in
    let client_is : ClientId → Type 0 = λ c. IsClient config c.0 in
    let asked : P asks = made_of client_is config (asked_by names a) (xth names.clients a) (got client_is names.clients (a % length names.clients) are.clients) (λ client is. asked_made config names a client valid are is) in
    let stopped : P stops = made_of node_is config (stop_of a) (xth names.nodes a) (got node_is names.nodes (a % length names.nodes) are.nodes) (λ node is. stop_made config a node is) in
    let started : P starts = made_of node_is config restart (xth names.nodes a) (got node_is names.nodes (a % length names.nodes) are.nodes) (λ node is. restart_made config a node is) in
    either P (nat_lt kind 6) (Flow (1 + a % 64)) from_6 (flow_made config (1 + a % 64) (omega arith) (omega arith))
    (either P (nat_lt kind 9) TickAll from_9 (tick_made config)
    (either P (nat_lt kind 12) asks from_12 asked
    (either P (kind == 12) (Lose (1 + a % 4)) from_13 (lose_made config (1 + a % 4) (omega arith) (omega arith))
    (either P (kind == 13) (Deliver (a % 4096)) from_14 (deliver_made config (a % 4096) (omega arith))
    (either P (kind == 14) stops starts stopped started)))))

-- ---- the whole

events_made : (config : Config) (names : Names) (words : List ℕ) → IsValid config → AreNames config names → AllByRecursion (IsMade config) (events_by names words)
unfolding events_by
events_made config names [] valid are = tt
events_made config names (kind ∷ []) valid are = tt
events_made config names (kind ∷ a ∷ words) valid are = (event_made config names (kind % 16) a valid are, events_made config names words valid are)

all_joined : (P : ScheduleEvent → Type 0) (xs ys : List ScheduleEvent) → AllByRecursion P xs → AllByRecursion P ys → AllByRecursion P (xs ++ ys)
all_joined P [] ys first second = second
all_joined P (x ∷ xs) ys first second = (first.0, all_joined P xs ys first.1 second)

all_taken : (P : ScheduleEvent → Type 0) (n : ℕ) (xs : List ScheduleEvent) → AllByRecursion P xs → AllByRecursion P (take n xs)
all_taken P zero xs all = tt
all_taken P (suc n) [] all = tt
all_taken P (suc n) (x ∷ xs) all = (all.0, all_taken P n xs all.1)

all_made : (config : Config) (seed events : ℕ) → IsValid config → AllByRecursion (IsMade config) (generated config seed events)
unfolding generated
all_made config seed events valid =
    let flow = flow_made config 1000 (lit≤ tt) (lit≤ tt) in
    all_joined (IsMade config) (take events opening) _ (all_taken (IsMade config) events opening (flow, (tick_made config, (flow, tt))))
    (events_made config (names_of config) _ valid (names_are config))

may_be : (config : Config) (events : List ScheduleEvent) → AllByRecursion (IsMade config) events → AllByRecursion (IsEvent config) events
may_be config [] made = tt
may_be config (event ∷ events) made = (made.0.0, may_be config events made.1)

text_short : (config : Config) (events : List ScheduleEvent) → AllByRecursion (IsMade config) events → length (schedule_text events) ≤ 64 * length events
text_short config [] made = lit≤ tt
text_short config (event ∷ events) made =
    let rest = text_short config events made.1 in
    omega (arith, rest, made.0.1, length-append (event_text event) (schedule_text events))

event_count : {S : Type 0} (step : S → ℕ × S) (names : Names) (m : ℕ) (g : S) → length (events_by names (first_words step (2 * m) g)) ≡ m
unfolding events_by first_words
event_count step names zero g = refl
event_count step names (suc m) g =
    let two : 2 * suc m ≡ suc (suc (2 * m)) = omega arith in
    ap (λ n. length (events_by names (first_words step n g))) two ∙ ap suc (event_count step names m (step (step g).1).1)

pub generated_count : (config : Config) (seed events : ℕ) → length (generated config seed events) ≡ events
unfolding generated drawn_words
generated_count config seed events =
    let rest = events_by (names_of config) (drawn_words seed (2 * (events - 3))) in
    let count : length rest ≡ events - 3 = event_count pcg32 (names_of config) (events - 3) (pcg32_of_seed (pcg32_seed 16 seed)) in
    omega (arith, count, length-append (take events opening) rest, length-take events opening)

pub is_schedule : (config : Config) → IsValid config → (seed events : ℕ) → events ≤ 1048576 → IsSchedule config (schedule_text (generated config seed events)) (generated config seed events)
is_schedule config valid seed events few =
    let made = all_made config seed events valid in
    let count = generated_count config seed events in
    let text = text_short config (generated config seed events) made in
    record {
      spelled = refl;
      each = may_be config (generated config seed events) made;
      few = omega (arith, count);
      short = omega (arith, count, text);
    }
