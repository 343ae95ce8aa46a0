-- Worked lines by hand, and lists of lines that are at fault.
use Rattle.std.specs.Prelude.{ℕ, ◌+◌, ◌-◌, ◌^◌, List, [], ◌∷◌, ◌++◌, length, map, replicate, take, drop, codes, Some, None}
use Rattle.mrp_types.specs.declared.id.NodeId.{NodeId}
use Rattle.mrp_types.specs.declared.id.Party.{Party}
use Rattle.mrp_types.specs.declared.id.Party.TheVariants as party
use Rattle.mrp_types.specs.declared.value.Entry.{Entry}
use Rattle.mrp_types.specs.declared.value.Value.{Value}
use Rattle.mrp_types.specs.declared.value.Value.TheVariants.{Skip, Batch}
use Rattle.command_codec.specs.declared.command.Command.TheVariants.{Append}
use Rattle.command_codec.specs.Spelling.{batch_bytes}
use Rattle.mrp_config.specs.Config.{Config}
use Rattle.mrp_config.specs.declared.tables.NodeTable.{NodeTable}
use Rattle.mrp_config.specs.declared.tables.ClientTable.{ClientTable}
use Rattle.mrp_config.specs.declared.tables.RingTable.{RingTable}
use Rattle.plain_model.specs.Rows.{ring, client, log, asked_by, hi, hi_reply, hi_state}
use Rattle.transcript.specs.declared.line.Cause.TheVariants.{Crash}
use Rattle.transcript.specs.declared.line.Line.{Line}
use Rattle.transcript.specs.declared.line.Line.TheVariants.{Learn, Deliver, Reply, Answer, Busy, Begin, Chose, Restore, Saved, Trim, Refuse, BallotLimit, InstanceLimit, AttemptLimit, Down, Up, State, Frame, End}
use Rattle.line_rules.specs.Scanners.{past}
use Rattle.line_rules.specs.Names.{Rule}
use Rattle.line_rules.specs.Names as rule
use Rattle.line_rules.specs.Conditions.{failures}
use Rattle.line_rules.specs.Verdict.{Verdict, Broken, verdict_after}

-- ---- a deployment

abbrev pub node : ℕ → NodeId
node n = record { 0 = n }

-- 127.0.0.1:7100 to :7102, and :7200 and :7201
abbrev pub address : ℕ → ℕ → List ℕ
address hundreds last = 49 ∷ 50 ∷ 55 ∷ 46 ∷ 48 ∷ 46 ∷ 48 ∷ 46 ∷ 49 ∷ 58 ∷ 55 ∷ hundreds ∷ 48 ∷ last ∷ []

abbrev pub node_of : ℕ → NodeTable
node_of n = record { id = node n; address = address 49 (48 + n) }

abbrev pub client_of : ℕ → ClientTable
client_of n = record { id = client n; address = address 50 (48 + n) }

abbrev pub ring_of : ℕ → RingTable
ring_of n = record { id = ring n; acceptors = node 0 ∷ node 1 ∷ node 2 ∷ []; m = 1 }

-- Three nodes, each an acceptor of the one ring and a replica of the one partition; two of them are either quorum.
abbrev pub three : Config
three = record {
  m = 1;
  lambda = 0;
  delta = 1;
  resend = 4;
  suspect = 16;
  attempt = 8;
  checkpoint = 2;
  trim = 8;
  window = 16;
  journal = 1048576;
  nodes = node_of 0 ∷ node_of 1 ∷ node_of 2 ∷ [];
  clients = client_of 0 ∷ client_of 1 ∷ [];
  rings = ring_of 0 ∷ [];
  partitions = (record { id = record { 0 = 0 }; replicas = node 0 ∷ node 1 ∷ node 2 ∷ []; rings = ring 0 ∷ []; home = ring 0; from = []; to = []; logs = log 0 ∷ []; trim_quorum = 2; recovery_quorum = 2 }) ∷ [];
}

-- the same with a second ring, to which no partition subscribes
abbrev pub spare : Config
spare = record three { rings = ring_of 0 ∷ ring_of 1 ∷ [] }

-- ---- lines of two coordinators

abbrev pub batch : List Entry → Value
batch es = Batch (batch_bytes es)

-- the value `ok` appended to log 0 as the first command of client 1, and the reply to it behind `hi`
abbrev pub ok : Entry
ok = asked_by 1 1 (Append (log 0) (codes "ok"))

abbrev pub ok_reply : List ℕ
ok_reply = 1 ∷ 1 ∷ 0 ∷ 0 ∷ 0 ∷ 0 ∷ 0 ∷ 0 ∷ 0 ∷ 0 ∷ 1 ∷ []

-- Node 2 proposes again what node 0 may have had decided, and the command of client 1 behind it.
abbrev pub two_coordinators : List Line
two_coordinators =
    Up (node 0) 1 ∷
    Begin (node 0) 1 1 (0 ∷ []) ∷
    Up (node 1) 1 ∷
    Begin (node 1) 1 1 (0 ∷ []) ∷
    Up (node 2) 1 ∷
    Begin (node 2) 1 1 (0 ∷ []) ∷
    Chose (node 0) 1 1 (0 ∷ []) (node 0) ∷
    Restore (node 0) (0 ∷ []) ∷
    Chose (node 1) 1 1 (0 ∷ []) (node 1) ∷
    Restore (node 1) (0 ∷ []) ∷
    Chose (node 2) 1 1 (0 ∷ []) (node 2) ∷
    Restore (node 2) (0 ∷ []) ∷
    Learn (node 1) (ring 0) 0 1 (batch (hi ∷ [])) ∷
    Deliver (node 1) (ring 0) 0 ∷
    Reply (node 1) (ring 0) 0 0 (client 0) 1 hi_reply ∷
    Learn (node 0) (ring 0) 0 1 (batch (hi ∷ [])) ∷
    Deliver (node 0) (ring 0) 0 ∷
    Reply (node 0) (ring 0) 0 0 (client 0) 1 hi_reply ∷
    Learn (node 0) (ring 0) 1 2 (batch (ok ∷ [])) ∷
    Deliver (node 0) (ring 0) 1 ∷
    Reply (node 0) (ring 0) 1 0 (client 1) 1 ok_reply ∷
    End 14 ∷
    []

-- the line of a number, counted from 1, replaced
abbrev pub with_line : ℕ → Line → List Line → List Line
with_line number line lines = take (number - 1) lines ++ line ∷ drop number lines

-- node 0 learns another value than node 1 did
abbrev pub other_value : List Line
other_value = with_line 16 (Learn (node 0) (ring 0) 0 1 (batch (ok ∷ []))) two_coordinators

-- ---- a longer run

-- Two replicas go on from nothing, and the third gets too few answers. They deliver a command, learn skips, save and trim. The
-- third crashes, recovers from another's checkpoint, and delivers over the skips a batch of a repeat and a new command.
abbrev pub a_run : List Line
a_run =
    Up (node 0) 1 ∷
    Begin (node 0) 1 1 (0 ∷ []) ∷
    Up (node 1) 1 ∷
    Begin (node 1) 1 1 (0 ∷ []) ∷
    Up (node 2) 1 ∷
    Begin (node 2) 1 1 (0 ∷ []) ∷
    Chose (node 0) 1 1 (0 ∷ []) (node 0) ∷
    Restore (node 0) (0 ∷ []) ∷
    Chose (node 1) 1 1 (0 ∷ []) (node 1) ∷
    Restore (node 1) (0 ∷ []) ∷
    Refuse (node 2) 1 1 1 2 ∷
    Begin (node 2) 1 2 (0 ∷ []) ∷
    Learn (node 0) (ring 0) 0 1 (batch (hi ∷ [])) ∷
    Deliver (node 0) (ring 0) 0 ∷
    Reply (node 0) (ring 0) 0 0 (client 0) 1 hi_reply ∷
    Learn (node 1) (ring 0) 0 1 (batch (hi ∷ [])) ∷
    Deliver (node 1) (ring 0) 0 ∷
    Reply (node 1) (ring 0) 0 0 (client 0) 1 hi_reply ∷
    Learn (node 1) (ring 0) 1 3 Skip ∷
    Answer (client 0) 1 hi_reply ∷
    Saved (node 0) (1 ∷ []) ∷
    Saved (node 1) (3 ∷ []) ∷
    Trim (node 0) (ring 0) 1 ∷
    State (node 0) (Some (record { tuple = 1 ∷ []; bytes = hi_state })) ∷
    Down (node 2) Crash ∷
    Up (node 2) 2 ∷
    Begin (node 2) 2 1 (0 ∷ []) ∷
    State (node 2) None ∷
    Chose (node 2) 2 1 (1 ∷ []) (node 0) ∷
    Restore (node 2) (1 ∷ []) ∷
    Busy (client 1) 1 ∷
    Learn (node 2) (ring 0) 3 4 (batch (hi ∷ ok ∷ [])) ∷
    Deliver (node 2) (ring 0) 3 ∷
    Reply (node 2) (ring 0) 3 0 (client 0) 1 hi_reply ∷
    Reply (node 2) (ring 0) 3 1 (client 1) 1 ok_reply ∷
    Frame 0 (Some (record { from = party.Node (node 0); to = party.Client (client 0); bytes = [] })) ∷
    End 20 ∷
    []

-- ---- two partitions

-- Node 0 and node 1 replicate the keys below m and log 0, node 2 the others and log 1; both partitions subscribe to both rings.
abbrev pub wide : Config
wide = record three {
  rings = ring_of 0 ∷ ring_of 1 ∷ [];
  partitions =
      (record { id = record { 0 = 0 }; replicas = node 0 ∷ node 1 ∷ []; rings = ring 0 ∷ ring 1 ∷ []; home = ring 0; from = []; to = codes "m"; logs = log 0 ∷ []; trim_quorum = 1; recovery_quorum = 2 }) ∷
      (record { id = record { 0 = 1 }; replicas = node 2 ∷ []; rings = ring 0 ∷ ring 1 ∷ []; home = ring 1; from = codes "m"; to = []; logs = log 1 ∷ []; trim_quorum = 1; recovery_quorum = 1 }) ∷ [];
}

-- A replica of each partition begins, one goes on from nothing, and it learns a skip on either ring.
abbrev pub wide_run : List Line
wide_run =
    Up (node 0) 1 ∷
    Begin (node 0) 1 1 (0 ∷ 0 ∷ []) ∷
    Chose (node 0) 1 1 (0 ∷ 0 ∷ []) (node 0) ∷
    Restore (node 0) (0 ∷ 0 ∷ []) ∷
    Up (node 2) 1 ∷
    Begin (node 2) 1 1 (0 ∷ 0 ∷ []) ∷
    Learn (node 0) (ring 0) 0 1 Skip ∷
    Learn (node 0) (ring 1) 0 1 Skip ∷
    Up (node 1) 1 ∷
    []

-- the state of the first partition before any command: no client; log 0, trimmed nowhere and empty; an empty table
abbrev pub no_state : List ℕ
no_state = 0 ∷ 0 ∷ 1 ∷ replicate 25 0

-- ---- lines at fault

-- a deployment, and faithful lines of it
pub record Setting : Type 0 where
  pub config : Config
  pub lines : List Line

abbrev pub of_a_run : Setting
of_a_run = record { config = spare; lines = a_run }

abbrev pub of_two : Setting
of_two = record { config = wide; lines = wide_run }

-- So many lines of a setting, some more, and a line which is the first at fault; and the conditions that it fails, each with its
-- rule and its number.
pub record Case : Type 0 where
  pub setting : Setting
  pub front : ℕ
  pub more : List Line
  pub line : Line
  pub fails : List (Rule × ℕ)

abbrev pub judged : Case → Verdict
judged x = verdict_after x.setting.config (past [] (take x.front x.setting.lines)) x.front (x.more ++ x.line ∷ [])

abbrev pub fault : Rule → Case → Verdict
fault name x = Broken (x.front + length x.more + 1) name

abbrev pub failed : Case → List (Rule × ℕ)
failed x = failures x.setting.config (past (past [] (take x.front x.setting.lines)) x.more) x.line

-- what the cases are judged, and what is wanted
abbrev pub are_judged : List Case → List (Verdict × List (Rule × ℕ))
are_judged cases = map (λ (x : Case). (judged x, failed x)) cases

abbrev pub are_faults : Rule → List Case → List (Verdict × List (Rule × ℕ))
are_faults name cases = map (λ (x : Case). (fault name x, x.fails)) cases

-- one line, behind so many lines of the run and some more, that fails these conditions
abbrev pub fails : List (Rule × ℕ) → ℕ → List Line → Line → Case
fails conditions front more line = record { setting = of_a_run; front = front; more = more; line = line; fails = conditions }

-- one that fails a single condition of a single rule
abbrev pub alone : Rule → ℕ → ℕ → List Line → Line → Case
alone name condition front more line = fails ((name, condition) ∷ []) front more line

-- the same in the deployment of two partitions
abbrev pub alone_of_two : Rule → ℕ → ℕ → List Line → Line → Case
alone_of_two name condition front more line = record { setting = of_two; front = front; more = more; line = line; fails = (name, condition) ∷ [] }

-- what the first command of client 9 or 1 is, on a log
abbrev pub asks : ℕ → ℕ → Value
asks number id = batch (asked_by number 1 (Append (log id) (codes "hi")) ∷ [])

-- A frame between two.
abbrev pub between : Party → Party → Line
between from to = Frame 0 (Some (record { from = from; to = to; bytes = [] }))

-- Each condition that a line can fail alone is failed alone by one. The others never are: the position of a ready node is a valid
-- tuple, and so is the tuple of a place; a ready node has told a tuple of each of its rings, so that a saved line with another
-- number of entries isn't past it; a reply that is owed is of a node and a ring that are there; a tuple that a replica told, or that
-- was chosen, is a valid one with an entry for each ring; and no partition subscribes to a ring that isn't there.

-- a node and a ring of another deployment, an empty range, one past the end, a batch for two instances, another value than the
-- book has, and one that it has for some instances of the range alone
abbrev pub faults_1 : List Case
faults_1 =
    alone rule.F1 1 12 [] (Learn (node 9) (ring 0) 0 1 Skip) ∷
    alone rule.F1 2 12 [] (Learn (node 0) (ring 9) 0 1 Skip) ∷
    alone rule.F1 3 12 [] (Learn (node 0) (ring 0) 1 1 Skip) ∷
    alone rule.F1 4 12 [] (Learn (node 0) (ring 0) 0 (2 ^ 40 + 1) Skip) ∷
    alone rule.F1 5 12 [] (Learn (node 0) (ring 0) 0 2 (batch (hi ∷ []))) ∷
    alone rule.F1 6 19 [] (Learn (node 0) (ring 0) 0 1 (batch (ok ∷ []))) ∷
    alone rule.F1 6 19 [] (Learn (node 0) (ring 0) 0 9 Skip) ∷ []

-- Deliveries: of a node that is no replica, of one that isn't ready, of what isn't learned, of a skip, on a ring to which the
-- partition doesn't subscribe, of what was delivered, past what isn't learned, and past a command. Checkpoints: of a node that is no
-- replica, of one that isn't ready, of two rings, of a tuple that no number of moves leaves, behind the position, both of what was
-- told and not, and past what isn't learned.
abbrev pub faults_2 : List Case
faults_2 =
    alone rule.F2 1 13 [] (Deliver (node 9) (ring 0) 0) ∷
    alone rule.F2 2 13 [] (Deliver (node 2) (ring 0) 0) ∷
    alone rule.F2 3 12 [] (Deliver (node 0) (ring 0) 0) ∷
    alone rule.F2 3 19 [] (Deliver (node 1) (ring 0) 1) ∷
    alone rule.F2 4 15 (Learn (node 0) (ring 1) 0 1 (batch (ok ∷ [])) ∷ []) (Deliver (node 0) (ring 1) 0) ∷
    alone rule.F2 7 15 [] (Deliver (node 0) (ring 0) 0) ∷
    alone rule.F2 8 15 (Learn (node 0) (ring 0) 2 3 (batch (ok ∷ [])) ∷ []) (Deliver (node 0) (ring 0) 2) ∷
    alone rule.F2 8 15 (Learn (node 0) (ring 0) 1 2 (batch (ok ∷ [])) ∷ Learn (node 0) (ring 0) 2 3 (batch (ok ∷ [])) ∷ []) (Deliver (node 0) (ring 0) 2) ∷
    alone rule.F2 1 12 [] (Saved (node 9) (0 ∷ [])) ∷
    alone rule.F2 2 12 (Learn (node 0) (ring 0) 0 1 Skip ∷ []) (Saved (node 2) (1 ∷ [])) ∷
    fails ((rule.F2, 3) ∷ (rule.F8, 1) ∷ []) 20 [] (Saved (node 0) (1 ∷ 1 ∷ [])) ∷
    alone_of_two rule.F2 5 9 [] (Saved (node 0) (0 ∷ 1 ∷ [])) ∷
    alone rule.F2 6 15
    (Learn (node 0) (ring 0) 1 2 (batch (ok ∷ [])) ∷ Deliver (node 0) (ring 0) 1 ∷ Reply (node 0) (ring 0) 1 0 (client 1) 1 ok_reply ∷ [])
    (Saved (node 0) (1 ∷ [])) ∷
    fails ((rule.F2, 6) ∷ (rule.F8, 1) ∷ []) 20 [] (Saved (node 0) (0 ∷ [])) ∷
    alone rule.F2 7 20 [] (Saved (node 0) (4 ∷ [])) ∷ []

-- Another reply, at another index, of another node, to another client, under another number, at another ring or instance; another
-- line while one is owed; a reply that isn't owed; and names of another deployment, among them that of a client whose command was
-- ordered.
abbrev pub faults_3 : List Case
faults_3 =
    alone rule.F3 1 14 [] (Reply (node 0) (ring 0) 0 0 (client 0) 1 ok_reply) ∷
    alone rule.F3 1 14 [] (Reply (node 0) (ring 0) 0 1 (client 0) 1 hi_reply) ∷
    alone rule.F3 1 14 [] (Reply (node 1) (ring 0) 0 0 (client 0) 1 hi_reply) ∷
    alone rule.F3 1 14 [] (Reply (node 0) (ring 0) 0 0 (client 1) 1 hi_reply) ∷
    alone rule.F3 1 14 [] (Reply (node 0) (ring 0) 0 0 (client 0) 2 hi_reply) ∷
    alone rule.F3 1 14 [] (Reply (node 0) (ring 1) 0 0 (client 0) 1 hi_reply) ∷
    alone rule.F3 1 14 [] (Reply (node 0) (ring 0) 1 0 (client 0) 1 hi_reply) ∷
    alone rule.F3 1 14 [] (Up (node 1) 2) ∷
    alone rule.F3 1 14 [] (Learn (node 1) (ring 0) 1 3 Skip) ∷
    alone rule.F3 1 15 [] (Reply (node 0) (ring 0) 0 0 (client 0) 1 hi_reply) ∷
    alone rule.F3 4 12 (Learn (node 0) (ring 0) 0 1 (asks 9 0) ∷ Deliver (node 0) (ring 0) 0 ∷ []) (Reply (node 0) (ring 0) 0 0 (client 9) 1 hi_reply) ∷
    alone rule.F3 2 30 [] (Busy (client 9) 1) ∷
    alone rule.F3 2 30 [] (Up (node 9) 1) ∷
    alone rule.F3 2 30 [] (Down (node 9) Crash) ∷
    alone rule.F3 2 30 [] (AttemptLimit (node 9)) ∷
    alone rule.F3 2 30 [] (BallotLimit (node 9) (ring 0)) ∷
    alone rule.F3 3 30 [] (BallotLimit (node 0) (ring 9)) ∷
    alone rule.F3 2 30 [] (InstanceLimit (node 9) (ring 0)) ∷
    alone rule.F3 3 30 [] (InstanceLimit (node 0) (ring 9)) ∷
    alone rule.F3 2 30 [] (between (party.Node (node 9)) (party.Client (client 0))) ∷
    alone rule.F3 3 30 [] (between (party.Node (node 0)) (party.Client (client 9))) ∷ []

-- With bytes: of a node that is no replica, of one that isn't ready, a tuple of two rings, one that no number of moves leaves, one
-- behind the position, one past a command, one past what isn't learned, and other bytes. Without: of a node of another deployment,
-- and of a ready one.
abbrev pub shown : ℕ → List ℕ → List ℕ → Line
shown n tuple bytes = State (node n) (Some (record { tuple = tuple; bytes = bytes }))

abbrev pub faults_4 : List Case
faults_4 =
    alone rule.F4 1 20 [] (shown 9 (1 ∷ []) hi_state) ∷
    alone rule.F4 2 12 [] (shown 2 (0 ∷ []) no_state) ∷
    alone rule.F4 3 20 [] (shown 0 (1 ∷ 1 ∷ []) hi_state) ∷
    alone_of_two rule.F4 5 9 [] (shown 0 (0 ∷ 1 ∷ []) no_state) ∷
    alone rule.F4 6 20 [] (shown 0 (0 ∷ []) no_state) ∷
    alone rule.F4 7 15 (Learn (node 0) (ring 0) 1 2 (batch []) ∷ []) (shown 0 (2 ∷ []) hi_state) ∷
    fails ((rule.F4, 7) ∷ (rule.F4, 8) ∷ []) 20 [] (shown 0 (4 ∷ []) hi_state) ∷
    alone rule.F4 8 20 [] (shown 0 (1 ∷ []) []) ∷
    alone rule.F4 1 20 [] (State (node 9) None) ∷
    alone rule.F4 2 20 [] (State (node 0) None) ∷ []

-- A client of another deployment, what isn't ordered, another reply, a number that wasn't asked, a command that concerns no
-- partition, one on a ring to which its partition doesn't subscribe, and one whose place stands behind what isn't learned.
abbrev pub faults_5 : List Case
faults_5 =
    alone rule.F5 1 12 (Learn (node 0) (ring 0) 0 1 (asks 9 0) ∷ []) (Answer (client 9) 1 hi_reply) ∷
    alone rule.F5 2 12 [] (Answer (client 0) 1 hi_reply) ∷
    alone rule.F5 2 19 [] (Answer (client 0) 1 ok_reply) ∷
    alone rule.F5 2 19 [] (Answer (client 0) 2 ok_reply) ∷
    alone rule.F5 2 12 (Learn (node 0) (ring 0) 0 1 (asks 1 9) ∷ []) (Answer (client 1) 1 hi_reply) ∷
    alone rule.F5 2 12 (Learn (node 0) (ring 1) 0 1 (batch (hi ∷ [])) ∷ []) (Answer (client 0) 1 hi_reply) ∷
    alone rule.F5 2 15 (Learn (node 0) (ring 0) 2 3 (batch (ok ∷ [])) ∷ []) (Answer (client 1) 1 ok_reply) ∷ []

-- Choices: of a node that is no replica, of another attempt, of another epoch, after a restore, not past a trim before the attempt,
-- of a replica of another partition, of a tuple that the other never told, of one that is no replica, and of two rings. Restores: of a
-- node that is no replica, of a ready node, with no choice, of another tuple, and after a crash.
abbrev pub faults_6 : List Case
faults_6 =
    alone rule.F6 1 6 [] (Chose (node 9) 1 1 (0 ∷ []) (node 0)) ∷
    alone rule.F6 4 6 [] (Chose (node 0) 1 2 (0 ∷ []) (node 0)) ∷
    alone rule.F6 4 6 [] (Chose (node 0) 2 1 (0 ∷ []) (node 0)) ∷
    alone rule.F6 4 8 [] (Chose (node 0) 1 1 (0 ∷ []) (node 0)) ∷
    alone rule.F6 5 28 [] (Chose (node 2) 2 1 (0 ∷ []) (node 0)) ∷
    alone_of_two rule.F6 6 6 [] (Chose (node 2) 1 1 (0 ∷ 0 ∷ []) (node 0)) ∷
    alone rule.F6 7 28 [] (Chose (node 2) 2 1 (1 ∷ []) (node 1)) ∷
    fails ((rule.F6, 6) ∷ (rule.F6, 7) ∷ []) 6 [] (Chose (node 0) 1 1 (0 ∷ []) (node 9)) ∷
    fails ((rule.F6, 2) ∷ (rule.F6, 7) ∷ []) 6 [] (Chose (node 0) 1 1 (0 ∷ 0 ∷ []) (node 0)) ∷
    alone rule.F6 1 7 [] (Restore (node 9) (0 ∷ [])) ∷
    alone rule.F6 4 8 [] (Restore (node 0) (0 ∷ [])) ∷
    alone rule.F6 5 6 [] (Restore (node 0) (0 ∷ [])) ∷
    alone rule.F6 5 7 [] (Restore (node 0) (1 ∷ [])) ∷
    alone rule.F6 5 29 (Down (node 2) Crash ∷ []) (Restore (node 2) (1 ∷ [])) ∷ []

-- A node and a ring of another deployment, a ring to which no partition subscribes; none saved, one of two, one of them not so far,
-- and one of two partitions.
abbrev pub faults_7 : List Case
faults_7 =
    alone rule.F7 1 22 [] (Trim (node 9) (ring 0) 1) ∷
    fails ((rule.F7, 2) ∷ (rule.F7, 3) ∷ []) 22 [] (Trim (node 0) (ring 9) 0) ∷
    alone rule.F7 3 22 [] (Trim (node 0) (ring 1) 0) ∷
    alone rule.F7 4 20 [] (Trim (node 0) (ring 0) 1) ∷
    alone rule.F7 4 21 [] (Trim (node 0) (ring 0) 1) ∷
    alone rule.F7 4 22 [] (Trim (node 0) (ring 0) 2) ∷
    alone_of_two rule.F7 4 9 (Saved (node 0) (1 ∷ 1 ∷ []) ∷ []) (Trim (node 0) (ring 0) 1) ∷ []

-- Attempts: of a node that is no replica, of two rings, before and after another, of a tuple that no number of moves leaves, behind
-- what was saved, of an epoch that isn't the last, of one that is down, of a number that was begun, and past what isn't learned. And
-- a checkpoint saved again.
abbrev pub faults_8 : List Case
faults_8 =
    alone rule.F8 1 26 [] (Begin (node 9) 2 1 (0 ∷ [])) ∷
    alone rule.F8 2 1 [] (Begin (node 0) 1 1 (0 ∷ 0 ∷ [])) ∷
    fails ((rule.F8, 2) ∷ (rule.F8, 4) ∷ []) 26 [] (Begin (node 2) 2 1 (0 ∷ 0 ∷ [])) ∷
    alone_of_two rule.F8 3 9 [] (Begin (node 1) 1 1 (0 ∷ 1 ∷ [])) ∷
    alone rule.F8 4 24 (Up (node 0) 2 ∷ []) (Begin (node 0) 2 1 (0 ∷ [])) ∷
    alone rule.F8 5 26 [] (Begin (node 2) 1 3 (0 ∷ [])) ∷
    alone rule.F8 5 25 [] (Begin (node 2) 1 3 (0 ∷ [])) ∷
    alone rule.F8 6 11 [] (Begin (node 2) 1 1 (0 ∷ [])) ∷
    alone rule.F8 7 26 [] (Begin (node 2) 2 1 (4 ∷ [])) ∷
    alone rule.F8 1 21 [] (Saved (node 0) (1 ∷ [])) ∷ []

-- A node that is no replica, another attempt, one that has chosen, one that is down, another quorum, and enough answers.
abbrev pub faults_9 : List Case
faults_9 =
    alone rule.F9 1 10 [] (Refuse (node 9) 1 1 1 2) ∷
    alone rule.F9 2 10 [] (Refuse (node 2) 1 2 1 2) ∷
    alone rule.F9 2 10 [] (Refuse (node 0) 1 1 1 2) ∷
    alone rule.F9 2 25 [] (Refuse (node 2) 1 2 1 2) ∷
    alone rule.F9 3 10 [] (Refuse (node 2) 1 1 1 3) ∷
    alone rule.F9 4 10 [] (Refuse (node 2) 1 1 2 2) ∷ []
