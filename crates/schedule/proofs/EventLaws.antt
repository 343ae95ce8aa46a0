-- An event is read as it is spelled, and what is read is spelled so.
use Rattle.std.proofs.Common.{lit<, ◌≡◌, ◌<◌, ℕ, List, [], ◌∷◌, ◌++◌, refl, ap, codes, Ok}
use Rattle.std.specs.List.{AllByRecursion}
use Rattle.std.specs.Fmt.{decimal}
use Rattle.hex.specs.Hex.{encode_lower}
use Rattle.text_lines.specs.declared.fault.TextFault.{TextFault}
use Rattle.text_lines.specs.declared.fault.TextFault.TheVariants.{Word, Range, Left}
use Rattle.mrp_types.specs.Reading.{both as both_readers, shown}
use Rattle.text_lines.specs.Words.{tested}
use Rattle.text_lines.proofs.Laws.{Lacks}
use Rattle.text_lines.proofs.WordLaws.{Words, Took, Entry, AreEntries, alone, spell_both, one_words, two, tested_words, IsTested, IsBoth, viewed_was, given_was, shown_read, keyed_was, all_read, all_was, none_low, lacks_low}
use Rattle.disk_model.specs.declared.area.Image.{Image}
use Rattle.disk_model.specs.declared.area.Image.TheVariants.{Old, New, Fill}
use Rattle.mrp_config.specs.Config.{Config}
use Rattle.schedule.specs.declared.event.ScheduleEvent.{ScheduleEvent}
use Rattle.schedule.specs.declared.event.ScheduleEvent.TheVariants.{Ask, Flow, Lose, Deliver, List as Shown, TickAll, TickNode, TickClient, Lead, Crash, Restart, Fuse, Fail, FailRead, Show}
use Rattle.schedule.specs.Fields.{is_client, is_node, can_lead}
use Rattle.schedule.specs.Spelling.{event_words, image_words, IsWithin, IsClient, IsNode, IsImage, IsWorded}
use Rattle.schedule.specs.Reading.{WordReader, within, client_word, node_word, byte_word, ask_at, flow_at, lose_at, deliver_at, list_at, ticks, tick_at, lead_at, crash_at, images, image_at, restart_at, calls_at, fuse_at, fail_at, failread_at, show_at, events_of_disks, events_of_nodes, kinds, event_at, event_in}
use Rattle.schedule.proofs.FieldLaws.{known_number, byte}
use Rattle.schedule.proofs.CommandLaws.{numbers, any_numbers, command_law}

-- ---- words

clients : (config : Config) → Words (client_word config) (alone decimal) (IsClient config)
clients config = one_words _ _ _ (known_number (is_client config)) Word

nodes : (config : Config) → Words (node_word config) (alone decimal) (IsNode config)
nodes config = one_words _ _ _ (known_number (is_node config)) Word

counts : Words (within 1 100000) (alone decimal) (IsWithin 1 100000)
counts = numbers 1 100000 (lit< tt)

abbrev pub byte_text : ℕ → List ℕ
byte_text b = encode_lower (b ∷ [])

bytes : Words byte_word (alone byte_text) (λ b. b < 256)
bytes = one_words _ _ _ byte Word

abbrev pub spell_two : ℕ × ℕ → List (List ℕ)
spell_two x = (decimal x.0 ∷ []) ++ (decimal x.1 ∷ [])

leads : (config : Config) → Words {E = TextFault} (tested Range (can_lead config) (both_readers (node_word config) (within 0 255))) spell_two (IsTested (can_lead config) (IsBoth (IsNode config) (IsWithin 0 255)))
leads config = tested_words Range (can_lead config) _ _ _ (two (nodes config) (numbers 0 255 (lit< tt)))

calls : (config : Config) → Words (calls_at config) (spell_both (alone decimal) (alone decimal)) (IsBoth (IsNode config) (IsWithin 0 1000))
unfolding calls_at
calls config = two (nodes config) (numbers 0 1000 (lit< tt))

-- ---- images

fills : Words {E = TextFault} (both_readers (within 0 1000000) byte_word) (spell_both (alone decimal) (alone byte_text)) (IsBoth (IsWithin 0 1000000) (λ b. b < 256))
fills = two (numbers 0 1000000 (lit< tt)) bytes

image_read : (image : Image) (rest : List (List ℕ)) → IsImage image → image_at (image_words image ++ rest) ≡ Ok (image, rest)
unfolding image_at
image_read Old rest is = refl
image_read New rest is = refl
image_read (Fill keep b) rest is = shown_read _ _ _ _ fills (keep, b) rest is

image_entries : AreEntries image_words IsImage images
image_entries = (
  given_was (codes "old" ∷ []) Old image_words IsImage refl tt,
  (
    given_was (codes "new" ∷ []) New image_words IsImage refl tt,
    (
      viewed_was (codes "fill" ∷ []) _ _ _ (λ x. Fill x.0 x.1) image_words IsImage fills (record { spelled = λ a. refl; is = λ a is. is }),
      tt,
    ),
  ),
)

image_was : (words : List (List ℕ)) (x : Image × List (List ℕ)) → image_at words ≡ Ok x → Took image_words IsImage words x
unfolding image_at
image_was words x h = keyed_was image_words IsImage Word images image_entries words x h

image_lacks : (byte : ℕ) → byte < 44 → (image : Image) → IsImage image → AllByRecursion (Lacks byte) (image_words image)
unfolding none_low
image_lacks byte low Old is = (lacks_low byte low (codes "old") refl, tt)
image_lacks byte low New is = (lacks_low byte low (codes "new") refl, tt)
image_lacks byte low (Fill keep b) is = (lacks_low byte low (codes "fill") refl, fills.lacks byte low (keep, b) is)

image_law : Words image_at image_words IsImage
image_law = record { read = image_read; was = image_was; lacks = image_lacks }

-- ---- what is spelled is read

event_read : (config : Config) (event : ScheduleEvent) (rest : List (List ℕ)) → IsWorded config event → event_at config (event_words event ++ rest) ≡ Ok (event, rest)
unfolding event_at events_of_nodes events_of_disks ask_at flow_at lose_at deliver_at list_at tick_at lead_at crash_at restart_at fuse_at fail_at failread_at show_at
event_read config (Ask client command) rest is = shown_read _ _ _ _ (two (clients config) command_law) (client.0, command) rest is
event_read config (Flow count) rest is = shown_read _ _ _ _ counts count rest is
event_read config (Lose count) rest is = shown_read _ _ _ _ counts count rest is
event_read config (Deliver frame) rest is = shown_read _ _ _ _ any_numbers frame rest is
event_read config (Shown frame) rest is = shown_read _ _ _ _ any_numbers frame rest is
event_read config TickAll rest is = refl
event_read config (TickNode node) rest is = shown_read _ _ _ _ (nodes config) node.0 rest is
event_read config (TickClient client) rest is = shown_read _ _ _ _ (clients config) client.0 rest is
event_read config (Lead node ring) rest is = shown_read _ _ _ _ (leads config) (node.0, ring.0) rest is
event_read config (Crash node) rest is = shown_read _ _ _ _ (nodes config) node.0 rest is
event_read config (Restart node image) rest is = shown_read _ _ _ _ (two (nodes config) image_law) (node.0, image) rest is
event_read config (Fuse node n) rest is = shown_read _ _ _ _ (calls config) (node.0, n) rest is
event_read config (Fail node n) rest is = shown_read _ _ _ _ (calls config) (node.0, n) rest is
event_read config (FailRead node n) rest is = shown_read _ _ _ _ (calls config) (node.0, n) rest is
event_read config (Show node) rest is = shown_read _ _ _ _ (nodes config) node.0 rest is

-- ---- what is read is spelled so

-- what is read behind keys is spelled with them
entry : (config : Config) {A : Type 0} (keys : List (List ℕ)) {fields : WordReader A} {spell : A → List (List ℕ)} {Is : A → Type 0} (view : A → ScheduleEvent) → Words fields spell Is
    → ((a : A) → keys ++ spell a ≡ event_words (view a)) → ((a : A) → Is a → IsWorded config (view a)) → Entry event_words (IsWorded config) keys (shown view fields)
entry config keys {fields = fields} {spell = spell} {Is = Is} view law spelled is =
    viewed_was keys fields spell Is view event_words (IsWorded config) law (record { spelled = spelled; is = is })

-- a tick, but for its first word
abbrev pub tick_words : ScheduleEvent → List (List ℕ)
tick_words TickAll = codes "all" ∷ []
tick_words (TickNode node) = codes "node" ∷ decimal node.0 ∷ []
tick_words (TickClient client) = codes "client" ∷ decimal client.0 ∷ []
tick_words other = []

abbrev pub IsTick : Config → ScheduleEvent → Type 0
IsTick config TickAll = Unit {0}
IsTick config (TickNode node) = IsNode config node.0
IsTick config (TickClient client) = IsClient config client.0
IsTick config other = ⊥

tick_entries : (config : Config) → AreEntries tick_words (IsTick config) (ticks config)
tick_entries config = (
  given_was (codes "all" ∷ []) TickAll tick_words (IsTick config) refl tt,
  (
    viewed_was (codes "node" ∷ []) _ _ _ (λ n. TickNode (record { 0 = n })) tick_words (IsTick config) (nodes config) (record { spelled = λ a. refl; is = λ a is. is }),
    (
      viewed_was (codes "client" ∷ []) _ _ _ (λ n. TickClient (record { 0 = n })) tick_words (IsTick config) (clients config) (record { spelled = λ a. refl; is = λ a is. is }),
      tt,
    ),
  ),
)

tick_took : (config : Config) (words : List (List ℕ)) (event : ScheduleEvent) (rest : List (List ℕ)) → Took tick_words (IsTick config) words (event, rest) →
    Took event_words (IsWorded config) (codes "tick" ∷ words) (event, rest)
tick_took config words TickAll rest took = record { spelled = ap (λ (ws : List (List ℕ)). codes "tick" ∷ ws) took.spelled; is = took.is }
tick_took config words (TickNode node) rest took = record { spelled = ap (λ (ws : List (List ℕ)). codes "tick" ∷ ws) took.spelled; is = took.is }
tick_took config words (TickClient client) rest took = record { spelled = ap (λ (ws : List (List ℕ)). codes "tick" ∷ ws) took.spelled; is = took.is }
tick_took config words (Ask client command) rest took = absurd took.is
tick_took config words (Flow count) rest took = absurd took.is
tick_took config words (Lose count) rest took = absurd took.is
tick_took config words (Deliver frame) rest took = absurd took.is
tick_took config words (Shown frame) rest took = absurd took.is
tick_took config words (Lead node ring) rest took = absurd took.is
tick_took config words (Crash node) rest took = absurd took.is
tick_took config words (Restart node image) rest took = absurd took.is
tick_took config words (Fuse node n) rest took = absurd took.is
tick_took config words (Fail node n) rest took = absurd took.is
tick_took config words (FailRead node n) rest took = absurd took.is
tick_took config words (Show node) rest took = absurd took.is

tick_entry : (config : Config) → Entry event_words (IsWorded config) (codes "tick" ∷ []) (tick_at config)
unfolding tick_at
tick_entry config words x h = tick_took config words x.0 x.1 (keyed_was tick_words (IsTick config) Word (ticks config) (tick_entries config) words x h)

disk_entries : (config : Config) → AreEntries event_words (IsWorded config) (events_of_disks config)
unfolding events_of_disks fuse_at fail_at failread_at show_at
disk_entries config = (
  entry config (codes "fuse" ∷ []) _ (calls config) (λ a. refl) (λ a is. is),
  (
    entry config (codes "fail" ∷ []) _ (calls config) (λ a. refl) (λ a is. is),
    (
      entry config (codes "failread" ∷ []) _ (calls config) (λ a. refl) (λ a is. is),
      (entry config (codes "show" ∷ []) _ (nodes config) (λ a. refl) (λ a is. is), tt),
    ),
  ),
)

node_entries : (config : Config) → AreEntries event_words (IsWorded config) (events_of_nodes config)
unfolding events_of_nodes lead_at crash_at restart_at
node_entries config = (
  tick_entry config,
  (
    entry config (codes "lead" ∷ []) _ (leads config) (λ a. refl) (λ a is. is),
    (
      entry config (codes "crash" ∷ []) _ (nodes config) (λ a. refl) (λ a is. is),
      (entry config (codes "restart" ∷ []) _ (two (nodes config) image_law) (λ a. refl) (λ a is. is), disk_entries config),
    ),
  ),
)

event_entries : (config : Config) → AreEntries event_words (IsWorded config) (kinds config)
unfolding ask_at flow_at lose_at deliver_at list_at
event_entries config = (
  entry config (codes "ask" ∷ []) _ (two (clients config) command_law) (λ a. refl) (λ a is. is),
  (
    entry config (codes "flow" ∷ []) _ counts (λ a. refl) (λ a is. is),
    (
      entry config (codes "lose" ∷ []) _ counts (λ a. refl) (λ a is. is),
      (
        entry config (codes "deliver" ∷ []) _ any_numbers (λ a. refl) (λ a is. is),
        (entry config (codes "list" ∷ []) _ any_numbers (λ a. refl) (λ a is. is), node_entries config),
      ),
    ),
  ),
)

event_took : (config : Config) (words : List (List ℕ)) (x : ScheduleEvent × List (List ℕ)) → event_at config words ≡ Ok x → Took event_words (IsWorded config) words x
unfolding event_at
event_took config words x h = keyed_was event_words (IsWorded config) Word (kinds config) (event_entries config) words x h

-- ---- no low byte

event_lacks : (config : Config) (byte : ℕ) → byte < 44 → (event : ScheduleEvent) → IsWorded config event → AllByRecursion (Lacks byte) (event_words event)
unfolding none_low
event_lacks config byte low (Ask client command) is = (lacks_low byte low (codes "ask") refl, (((clients config).lacks byte low client.0 is.0).0, command_law.lacks byte low command is.1))
event_lacks config byte low (Flow count) is = (lacks_low byte low (codes "flow") refl, counts.lacks byte low count is)
event_lacks config byte low (Lose count) is = (lacks_low byte low (codes "lose") refl, counts.lacks byte low count is)
event_lacks config byte low (Deliver frame) is = (lacks_low byte low (codes "deliver") refl, any_numbers.lacks byte low frame is)
event_lacks config byte low (Shown frame) is = (lacks_low byte low (codes "list") refl, any_numbers.lacks byte low frame is)
event_lacks config byte low TickAll is = (lacks_low byte low (codes "tick") refl, (lacks_low byte low (codes "all") refl, tt))
event_lacks config byte low (TickNode node) is = (lacks_low byte low (codes "tick") refl, (lacks_low byte low (codes "node") refl, (nodes config).lacks byte low node.0 is))
event_lacks config byte low (TickClient client) is = (lacks_low byte low (codes "tick") refl, (lacks_low byte low (codes "client") refl, (clients config).lacks byte low client.0 is))
event_lacks config byte low (Lead node ring) is = (lacks_low byte low (codes "lead") refl, (leads config).lacks byte low (node.0, ring.0) is)
event_lacks config byte low (Crash node) is = (lacks_low byte low (codes "crash") refl, (nodes config).lacks byte low node.0 is)
event_lacks config byte low (Restart node image) is = (lacks_low byte low (codes "restart") refl, (((nodes config).lacks byte low node.0 is.0).0, image_law.lacks byte low image is.1))
event_lacks config byte low (Fuse node n) is = (lacks_low byte low (codes "fuse") refl, (calls config).lacks byte low (node.0, n) is)
event_lacks config byte low (Fail node n) is = (lacks_low byte low (codes "fail") refl, (calls config).lacks byte low (node.0, n) is)
event_lacks config byte low (FailRead node n) is = (lacks_low byte low (codes "failread") refl, (calls config).lacks byte low (node.0, n) is)
event_lacks config byte low (Show node) is = (lacks_low byte low (codes "show") refl, (nodes config).lacks byte low node.0 is)

pub event_law : (config : Config) → Words (event_at config) event_words (IsWorded config)
event_law config = record { read = event_read config; was = event_took config; lacks = event_lacks config }

-- ---- all words

pub event_in_read : (config : Config) (event : ScheduleEvent) → IsWorded config event → event_in config (event_words event) ≡ Ok event
event_in_read config event is = all_read Left (event_at config) event_words (IsWorded config) (event_law config) event is

pub event_in_was : (config : Config) (words : List (List ℕ)) (event : ScheduleEvent) → event_in config words ≡ Ok event → (words ≡ event_words event) × IsWorded config event
event_in_was config words event h = all_was Left (event_at config) event_words (IsWorded config) (event_law config) words event h
