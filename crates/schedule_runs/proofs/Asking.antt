-- What a schedule asks is a command, and what it shows is a node of the deployment.
use Rattle.std.proofs.Common.{◌≡◌, ◌⊎◌, inl, inr, ℕ, ◌+◌, ◌<◌, ◌≤◌, Bool, true, false, true≢false, ◌&&◌, ◌||◌, List, [], ◌∷◌, ◌++◌, length, map, Option, Some, None, refl, sym, arith}
use Rattle.std.specs.Prelude.{◌==◌, nat_lt, nat_le, IsTrue, is_some}
use Rattle.std.specs.List.{AllByRecursion}
use Rattle.std.specs.Ordering.{nat_cmp, is_lt}
use Rattle.std.specs.Cmp.Lexicographic.{slice_cmp}
use Rattle.std.specs.declared.cmp.Ordering.{Ordering}
use Rattle.std.specs.declared.cmp.Ordering.TheVariants.{Less, Equal, Greater}
use Rattle.std.proofs.lemmas.Bool.{and_parts}
use Rattle.std.proofs.lemmas.Bool.Decides.{nat_tests}
use Rattle.hex.specs.Hex.{IsBytes}
use Rattle.mrp_types.specs.declared.id.LogId.{LogId}
use Rattle.mrp_config.specs.Config.{Config, node_at}
use Rattle.mrp_config.specs.Routing.{is_below}
use Rattle.mrp_config.specs.declared.tables.NodeTable.{NodeTable}
use Rattle.command_codec.specs.declared.command.Command.{Command}
use Rattle.command_codec.specs.declared.command.Command.TheVariants.{Append, Multi, ReadLog, TrimLog, Get, Scan, Update, Insert, Delete, Swap}
use Rattle.command_codec.specs.Fields.{u16_bytes, string16}
use Rattle.command_codec.specs.Spelling.{command_bytes}
use Rattle.command_codec.specs.Valid.{rises_from, IsCommand, HasNumbers}
use Rattle.schedule.specs.Spelling.{IsAsked, IsEvent}
use Rattle.state_laws.specs.States.{AreBytes as EachIsByte}
use Rattle.state_laws.proofs.Bytes.{bytes_each, both_are, u16_are, u64_are}
use Rattle.state_laws.proofs.Examples.{bytes_by}
use Rattle.protocol.specs.Client.{MayBeAsked}
use Rattle.world_model.specs.Events.{ScheduleEvent}
use Rattle.world_model.specs.Events as event
use Rattle.world_model.specs.Runs.{MayBeScheduled}
use Rattle.disk_runs.specs.Runs.{IsShown}

holds : (b : Bool) → IsTrue b → b ≡ true
holds b is = is

-- ---- logs

few_logs : (least : ℕ) (logs : List LogId) → least ≤ 64 → rises_from least logs ≡ true → length logs + least ≤ 64
few_logs least [] low rise = omega arith
few_logs least (log ∷ logs) low rise =
    let first = and_parts (nat_le least log.0) (nat_lt log.0 64 && rises_from (log.0 + 1) logs) rise in
    let second = and_parts (nat_lt log.0 64) (rises_from (log.0 + 1) logs) first.1 in
    let at : least ≤ log.0 = (let t = first.0 in grind (arith, nat_tests)) in
    let top : log.0 < 64 = (let t = second.0 in grind (arith, nat_tests)) in
    let more = few_logs (log.0 + 1) logs (omega arith) second.1 in
    omega arith

low_logs : (least : ℕ) (logs : List LogId) → rises_from least logs ≡ true → EachIsByte (map (λ (log : LogId). log.0) logs)
low_logs least [] rise = tt
low_logs least (log ∷ logs) rise =
    let first = and_parts (nat_le least log.0) (nat_lt log.0 64 && rises_from (log.0 + 1) logs) rise in
    let second = and_parts (nat_lt log.0 64) (rises_from (log.0 + 1) logs) first.1 in
    let top : log.0 < 64 = (let t = second.0 in grind (arith, nat_tests)) in
    (omega arith, low_logs (log.0 + 1) logs second.1)

-- ---- bytes

abbrev IsByte : ℕ → Type 0
IsByte b = b < 256

text_are : (bytes : List ℕ) → IsBytes bytes → EachIsByte (string16 bytes)
text_are bytes is = both_are IsByte (u16_bytes (length bytes)) bytes (u16_are (length bytes)) (bytes_each bytes is)

two_are : (a b : List ℕ) → IsBytes a → IsBytes b → EachIsByte (string16 a ++ string16 b)
two_are a b x y = both_are IsByte (string16 a) (string16 b) (text_are a x) (text_are b y)

-- ---- commands

less_than : (o : Ordering) → is_lt o ≡ true → o ≡ Less
less_than Less e = refl
less_than Equal e = absurd (true≢false (sym e))
less_than Greater e = absurd (true≢false (sym e))

second : (x y : Bool) → x ≡ false → (x || y) ≡ true → y ≡ true
second true y none e = absurd (true≢false none)
second false y none e = e

ends : (from to : List ℕ) → is_below from to ≡ true → (to ≡ []) ⊎ (slice_cmp nat_cmp from to ≡ Less)
ends from [] e = inl refl
ends from (b ∷ to) e =
    let some : (length (b ∷ to) == 0) ≡ false = grind (arith, nat_tests) in
    inr (less_than (slice_cmp nat_cmp from (b ∷ to)) (second (length (b ∷ to) == 0) (is_lt (slice_cmp nat_cmp from (b ∷ to))) some e))

is_command : (c : Command) → IsAsked c → IsCommand c
is_command (Append log value) a = let top = a.0.1 in (omega arith, a.1.1.1)
is_command (Multi logs value) a = let few = few_logs 0 logs (omega arith) (holds (rises_from 0 logs) a.0.1) in ((a.0.0, omega arith, a.0.1), a.1.1.1)
is_command (ReadLog log position) a = let top = a.0.1 in omega arith
is_command (TrimLog log position) a = let top = a.0.1 in omega arith
is_command (Get key) a = a.1
is_command (Scan from to) a = (a.0.0.1.1, a.0.1.1.1, ends from to (holds (is_below from to) a.1))
is_command (Update key value) a = (a.0.1, a.1.1.1)
is_command (Insert key value) a = (a.0.1, a.1.1.1)
is_command (Delete key) a = a.1
is_command (Swap key old new) a = (a.0.1, a.1.0.1.1, a.1.1.1.1)

has_numbers : (c : Command) → IsAsked c → HasNumbers c
has_numbers (Append log value) a = tt
has_numbers (Multi logs value) a = tt
has_numbers (ReadLog log position) a = a.1
has_numbers (TrimLog log position) a = a.1
has_numbers (Get key) a = tt
has_numbers (Scan from to) a = tt
has_numbers (Update key value) a = tt
has_numbers (Insert key value) a = tt
has_numbers (Delete key) a = tt
has_numbers (Swap key old new) a = tt

command_are : (c : Command) → IsAsked c → EachIsByte (command_bytes c)
command_are (Append log value) a = let top = a.0.1 in (omega arith, (omega arith, text_are value a.1.0))
command_are (Multi logs value) a =
    let rise = holds (rises_from 0 logs) a.0.1 in
    let few = few_logs 0 logs (omega arith) rise in
    (omega arith, (omega arith, both_are IsByte (map (λ (log : LogId). log.0) logs) (string16 value) (low_logs 0 logs rise) (text_are value a.1.0)))
command_are (ReadLog log position) a = let top = a.0.1 in (omega arith, (omega arith, u64_are position))
command_are (TrimLog log position) a = let top = a.0.1 in (omega arith, (omega arith, u64_are position))
command_are (Get key) a = (omega arith, text_are key a.0)
command_are (Scan from to) a = (omega arith, two_are from to a.0.0.0 a.0.1.0)
command_are (Update key value) a = (omega arith, two_are key value a.0.0 a.1.0)
command_are (Insert key value) a = (omega arith, two_are key value a.0.0 a.1.0)
command_are (Delete key) a = (omega arith, text_are key a.0)
command_are (Swap key old new) a = (omega arith, both_are IsByte (string16 key) (string16 old ++ string16 new) (text_are key a.0.0) (two_are old new a.1.0.0 a.1.1.0))

may_be_asked : (c : Command) → IsAsked c → MayBeAsked c
may_be_asked c a = record { valid = is_command c a; numbers = has_numbers c a; bytes = bytes_by (command_bytes c) (command_are c a) }

-- ---- events

there : (o : Option NodeTable) → IsTrue (is_some o) → (table : NodeTable) × (o ≡ Some table)
there None is = absurd (true≢false (sym is))
there (Some table) is = (table, refl)

module _ (config : Config) where
  may : (e : ScheduleEvent) → IsEvent config e → MayBeScheduled e
  may (event.Ask client command) is = may_be_asked command is.0.1
  may other is = tt

  shown : (e : ScheduleEvent) → IsEvent config e → IsShown config e
  shown (event.Show node) is = there (node_at config.nodes node.0) is.0.1
  shown other is = tt

  pub all_may : (events : List ScheduleEvent) → AllByRecursion (IsEvent config) events → AllByRecursion MayBeScheduled events
  all_may [] all = tt
  all_may (e ∷ events) all = (may e all.0, all_may events all.1)

  pub all_shown : (events : List ScheduleEvent) → AllByRecursion (IsEvent config) events → AllByRecursion (IsShown config) events
  all_shown [] all = tt
  all_shown (e ∷ events) all = (shown e all.0, all_shown events all.1)
