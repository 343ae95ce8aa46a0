-- The nine rules of faithful lines, F1 to F9. A list of lines is what a whole system prints; each line meets the rules with respect
-- to the lines that were printed before it, which stand with the latest first.
--
-- The words of the rules. The book has for a ring and an instance the value of the first learn line that covers it. A place is a
-- ring and an instance; the deployment has all places in one order, by round, ring and instance. A tuple of a partition has an
-- instance for each of its rings: the places below it are those of a lesser instance, and it is valid where these are the first n
-- places of the rings, for some n. A node is ready where the last of its up, down, begin and restore lines is a restore line, and
-- its position is then the tuple of that line, moved just past the place of each later deliver line. A node has told the tuples of
-- its begin and saved lines.
use Rattle.std.specs.Prelude.{◌≡◌, ℕ, ◌<◌, ◌≤◌, ◌⊎◌, true, List, [], ◌∷◌, Some, None, count_by}
use Rattle.std.specs.List.{AllByRecursion}
use Rattle.mrp_types.specs.declared.id.NodeId.{NodeId}
use Rattle.mrp_types.specs.declared.id.RingId.{RingId}
use Rattle.mrp_types.specs.declared.id.ClientId.{ClientId}
use Rattle.mrp_types.specs.declared.id.Party.{Party}
use Rattle.mrp_types.specs.declared.id.Party.TheVariants.{Node, Client}
use Rattle.mrp_types.specs.declared.id.TheConstants.{END}
use Rattle.mrp_types.specs.declared.place.Place.{Place}
use Rattle.mrp_types.specs.declared.value.Value.{Value}
use Rattle.mrp_types.specs.declared.value.Value.TheVariants.{Skip, Batch}
use Rattle.mrp_config.specs.Config.{Config, node_at, ring_at, client_at, has_node, has_ring, partition_of, subscribers_of}
use Rattle.mrp_config.specs.declared.tables.NodeTable.{NodeTable}
use Rattle.mrp_config.specs.declared.tables.RingTable.{RingTable}
use Rattle.mrp_config.specs.declared.tables.ClientTable.{ClientTable}
use Rattle.mrp_config.specs.declared.tables.PartitionTable.{PartitionTable}
use Rattle.plain_model.specs.Tuples.{round_sizes, next_place, is_tuple_of, is_at_or_after, instances, IsBelow, IsNotBelow}
use Rattle.plain_model.specs.Fold.{state_below, answer_of}
use Rattle.plain_model.specs.Lines.{IsWide}
use Rattle.transcript.specs.declared.line.ShownState.{ShownState}
use Rattle.transcript.specs.declared.line.Line.{Line}
use Rattle.transcript.specs.declared.line.Line.TheVariants.{Learn, Deliver, Reply, Answer, Busy, Begin, Chose, Restore, Saved, Trim, Refuse, BallotLimit, InstanceLimit, AttemptLimit, Down, Up, State, Frame}
use Rattle.line_rules.specs.Scanners.{Restored, life, up_epoch, attempting, unchosen, chosen, before_begin, told, begun, entry_of, Reaches, some_reaches, position, book, learned, past}
use Rattle.quorums.specs.Groups.{Has}
use Rattle.line_rules.specs.Owed.{owed}
use Rattle.line_rules.specs.Names.{Rule}
use Rattle.line_rules.specs.Names as rule

-- ---- words

-- the deployment has the node, the ring, the client
abbrev pub HasNode : Config → NodeId → Type 0
HasNode c node = (table : NodeTable) × (node_at c.nodes node.0 ≡ Some table)

abbrev pub HasRing : Config → RingId → Type 0
HasRing c ring = (table : RingTable) × (ring_at c.rings ring.0 ≡ Some table)

abbrev pub HasClient : Config → ClientId → Type 0
HasClient c client = (table : ClientTable) × (client_at c.clients client.0 ≡ Some table)

-- a value stands in the book
abbrev pub IsKnown : List Line → RingId → ℕ → Type 0
IsKnown before ring inst = (value : Value) × (book before ring inst ≡ Some value)

-- all places below a tuple do
abbrev pub AllKnown : List Line → List (RingId × ℕ) → Type 0
AllKnown before tuple = (place : Place) → IsBelow place tuple → IsKnown before place.ring place.inst

-- k' is reached from k by skips: both are valid tuples of these rings, k' is at or after k, and each place between is Skip
pub record BySkips (m : ℕ → ℕ) (rings : List RingId) (before : List Line) (k k' : List (RingId × ℕ)) : Type 0 where
  pub from : is_tuple_of m rings k ≡ true
  pub to : is_tuple_of m rings k' ≡ true
  pub after : is_at_or_after k' k ≡ true
  pub skips : (place : Place) → IsBelow place k' → IsNotBelow place k → book before place.ring place.inst ≡ Some Skip

-- a printed tuple is a valid one of a partition
pub record Fits (m : ℕ → ℕ) (p : PartitionTable) (printed : List ℕ) : Type 0 where
  pub tuple : List (RingId × ℕ)
  pub valid : is_tuple_of m p.rings tuple ≡ true
  pub shown : printed ≡ instances tuple

-- the first pair comes after the second
abbrev pub IsLater : ℕ × ℕ → ℕ × ℕ → Type 0
IsLater a b = (b.0 < a.0) ⊎ ((b.0 ≡ a.0) × (b.1 < a.1))

-- ---- F1: one value per ring and instance

-- A learn line has a range of instances that isn't empty, below the end of all instances, of one instance where it has a batch;
-- each instance of the range that is in the book has this value there.
pub record Learns (c : Config) (before : List Line) (node : NodeId) (ring : RingId) (lo hi : ℕ) (value : Value) : Type 0 where
  pub fits_node : HasNode c node
  pub fits_ring : HasRing c ring
  pub some : lo < hi
  pub low : hi ≤ END
  pub wide : IsWide value lo hi
  pub agrees : (inst : ℕ) (known : Value) → lo ≤ inst → inst < hi → book before ring inst ≡ Some known → known ≡ value

abbrev pub F1 : Config → List Line → Line → Type 0
F1 c before (Learn node ring lo hi value) = Learns c before node ring lo hi value
F1 c before other = Unit {0}

-- ---- F2: deliveries in the one order, none left out

-- A deliver line: the node is ready, the place holds a batch in the book, and the tuple whose next place it is is reached from the
-- node's position by skips.
pub record Delivers (c : Config) (before : List Line) (node : NodeId) (ring : RingId) (inst : ℕ) : Type 0 where
  pub partition : PartitionTable
  pub replica : partition_of c.partitions node ≡ Some partition
  pub ready : life node.0 before ≡ Some Restored
  pub batch : List ℕ
  pub holds : book before ring inst ≡ Some (Batch batch)
  pub tuple : List (RingId × ℕ)
  pub next : next_place (round_sizes c) tuple ≡ (ring, inst)
  pub reached : BySkips (round_sizes c) partition.rings before (position (round_sizes c) partition.rings node.0 before) tuple

-- A line that shows a tuple of a ready node: the tuple is reached from the node's position by skips.
pub record Stands (c : Config) (before : List Line) (node : NodeId) (printed : List ℕ) : Type 0 where
  pub partition : PartitionTable
  pub replica : partition_of c.partitions node ≡ Some partition
  pub ready : life node.0 before ≡ Some Restored
  pub tuple : List (RingId × ℕ)
  pub shown : printed ≡ instances tuple
  pub reached : BySkips (round_sizes c) partition.rings before (position (round_sizes c) partition.rings node.0 before) tuple

abbrev pub F2 : Config → List Line → Line → Type 0
F2 c before (Deliver node ring inst) = Delivers c before node ring inst
F2 c before (Saved node printed) = Stands c before node printed
F2 c before other = Unit {0}

-- ---- F3: replies are what the delivered entries get

-- A reply line is the next of those that are owed.
pub record Pays (c : Config) (before : List Line) (paid : Line) : Type 0 where
  pub rest : List Line
  pub next : owed c before ≡ paid ∷ rest

-- who sent a frame, or is to have it
abbrev pub HasParty : Config → Party → Type 0
HasParty c (Node node) = HasNode c node
HasParty c (Client client) = HasClient c client

-- The names of lines that no other rule speaks of fit the deployment.
abbrev pub NamesFit : Config → Line → Type 0
NamesFit c (Reply node ring inst index client seq reply) = HasNode c node × HasRing c ring × HasClient c client
NamesFit c (Busy client seq) = HasClient c client
NamesFit c (BallotLimit node ring) = HasNode c node × HasRing c ring
NamesFit c (InstanceLimit node ring) = HasNode c node × HasRing c ring
NamesFit c (AttemptLimit node) = HasNode c node
NamesFit c (Down node cause) = HasNode c node
NamesFit c (Up node epoch) = HasNode c node
NamesFit c (Frame number (Some shown)) = HasParty c shown.from × HasParty c shown.to
NamesFit c other = Unit {0}

-- No reply line stands but where it is owed, and no other line stands while one is owed.
abbrev pub IsInTurn : Config → List Line → Line → Type 0
IsInTurn c before (Reply node ring inst index client seq reply) = Pays c before (Reply node ring inst index client seq reply)
IsInTurn c before other = owed c before ≡ []

pub record F3 (c : Config) (before : List Line) (line : Line) : Type 0 where
  pub turn : IsInTurn c before line
  pub names : NamesFit c line

-- ---- F4: states follow from the book and the tuple alone

-- A state line with bytes: the node is ready, the tuple is reached from its position by skips, and the bytes are the written state
-- that the entries at the places below the tuple leave, all of which are in the book.
pub record Shows (c : Config) (before : List Line) (node : NodeId) (shown : ShownState) : Type 0 where
  pub stands : Stands c before node shown.tuple
  pub bytes : state_below (round_sizes c) (learned before) stands.partition stands.tuple ≡ Some shown.bytes

-- A state line without bytes: the node isn't ready.
pub record ShowsNone (c : Config) (before : List Line) (node : NodeId) : Type 0 where
  pub fits_node : HasNode c node
  pub closed : life node.0 before ≡ Some Restored → ⊥

abbrev pub F4 : Config → List Line → Line → Type 0
F4 c before (State node (Some shown)) = Shows c before node shown
F4 c before (State node None) = ShowsNone c before node
F4 c before other = Unit {0}

-- ---- F5: answers follow from the book alone

-- An answer line: some partition is concerned by the first entry of this client and number in the one order; each that is
-- subscribes to the ring of its place, has all its places before that one in the book, and replies to the entry; and the bytes are
-- these replies, joined.
pub record Answers (c : Config) (before : List Line) (client : ClientId) (seq : ℕ) (reply : List ℕ) : Type 0 where
  pub fits_client : HasClient c client
  pub answer : answer_of c (learned before) client seq ≡ Some reply

abbrev pub F5 : Config → List Line → Line → Type 0
F5 c before (Answer client seq reply) = Answers c before client seq reply
F5 c before other = Unit {0}

-- ---- F6: a recovery starts at or past all that was trimmed when it began

-- the entry of a trim line's ring reaches its instance
abbrev pub IsReached : List RingId → List ℕ → Line → Type 0
IsReached rings printed (Trim node ring inst) = has_ring rings ring.0 ≡ true → inst ≤ entry_of rings ring printed
IsReached rings printed other = Unit {0}

-- A chose line: epoch and attempt are those of the node's last begin line, no up, down or restore line of the node stands since,
-- the tuple reaches each trim line of its rings that stands before that begin line, and the other node is a replica of the
-- partition that has told exactly this tuple.
pub record Chooses (c : Config) (before : List Line) (node : NodeId) (epoch attempt : ℕ) (printed : List ℕ) (from : NodeId) : Type 0 where
  pub partition : PartitionTable
  pub replica : partition_of c.partitions node ≡ Some partition
  pub fits : Fits (round_sizes c) partition printed
  pub current : attempting node.0 before ≡ Some (Some (epoch, attempt))
  pub earlier : List Line
  pub begins : before_begin node.0 before ≡ Some earlier
  pub trims : AllByRecursion (IsReached partition.rings printed) earlier
  pub other : has_node partition.replicas from.0 ≡ true
  pub told : Has (told from.0 before) printed

-- A restore line: the node isn't ready, and the tuple is that of its last chose line, which stands after its last begin line, with
-- no up or down line of the node since.
pub record Restores (c : Config) (before : List Line) (node : NodeId) (printed : List ℕ) : Type 0 where
  pub partition : PartitionTable
  pub replica : partition_of c.partitions node ≡ Some partition
  pub fits : Fits (round_sizes c) partition printed
  pub recovering : life node.0 before ≡ Some Restored → ⊥
  pub choice : chosen node.0 before ≡ Some (Some printed)

abbrev pub F6 : Config → List Line → Line → Type 0
F6 c before (Chose node epoch attempt printed from) = Chooses c before node epoch attempt printed from
F6 c before (Restore node printed) = Restores c before node printed
F6 c before other = Unit {0}

-- ---- F7: only what a quorum of each partition has saved is trimmed

-- of a partition, its trim quorum of replicas have told an entry of the ring that reaches this
abbrev pub HaveTold : List Line → RingId → ℕ → PartitionTable → Type 0
HaveTold before ring inst p = p.trim_quorum ≤ count_by (λ (node : NodeId). some_reaches p.rings ring inst (told node.0 before)) p.replicas

-- some partition subscribes, and each that does has told
abbrev pub AllHaveTold : List Line → RingId → ℕ → List PartitionTable → Type 0
AllHaveTold before ring inst [] = ⊥
AllHaveTold before ring inst (p ∷ partitions) = AllByRecursion (HaveTold before ring inst) (p ∷ partitions)

-- A trim line.
pub record Trims (c : Config) (before : List Line) (node : NodeId) (ring : RingId) (inst : ℕ) : Type 0 where
  pub fits_node : HasNode c node
  pub fits_ring : HasRing c ring
  pub told : AllHaveTold before ring inst (subscribers_of c.partitions ring)

abbrev pub F7 : Config → List Line → Line → Type 0
F7 c before (Trim node ring inst) = Trims c before node ring inst
F7 c before other = Unit {0}

-- ---- F8: what a node tells never goes back

-- A begin line: the tuple is at or after each that the node told, the epoch is that of its last up line, after which no down line
-- of it stands, epoch and attempt come after those of each earlier begin line of the node, and the places below the tuple are in
-- the book.
pub record Begins (c : Config) (before : List Line) (node : NodeId) (epoch attempt : ℕ) (printed : List ℕ) : Type 0 where
  pub partition : PartitionTable
  pub replica : partition_of c.partitions node ≡ Some partition
  pub tuple : List (RingId × ℕ)
  pub valid : is_tuple_of (round_sizes c) partition.rings tuple ≡ true
  pub shown : printed ≡ instances tuple
  pub later : (earlier : List ℕ) → Has (told node.0 before) earlier → Reaches printed earlier
  pub up : up_epoch node.0 before ≡ Some (Some epoch)
  pub fresh : (other : ℕ × ℕ) → Has (begun node.0 before) other → IsLater (epoch, attempt) other
  pub known : AllKnown before tuple

-- A saved line: the tuple is after each that the node told.
abbrev pub IsSavedLater : List Line → NodeId → List ℕ → Type 0
IsSavedLater before node printed = (earlier : List ℕ) → Has (told node.0 before) earlier → Reaches printed earlier × (Reaches earlier printed → ⊥)

abbrev pub F8 : Config → List Line → Line → Type 0
F8 c before (Begin node epoch attempt printed) = Begins c before node epoch attempt printed
F8 c before (Saved node printed) = IsSavedLater before node printed
F8 c before other = Unit {0}

-- ---- F9: an attempt is refused only for want of answers

-- A refuse line: epoch and attempt are those of the node's last begin line, no up, down or chose line of the node stands since, the
-- number needed is the partition's recovery quorum, and fewer answered.
pub record Refuses (c : Config) (before : List Line) (node : NodeId) (epoch attempt answered needed : ℕ) : Type 0 where
  pub partition : PartitionTable
  pub replica : partition_of c.partitions node ≡ Some partition
  pub current : unchosen node.0 before ≡ Some (Some (epoch, attempt))
  pub quorum : needed ≡ partition.recovery_quorum
  pub few : answered < needed

abbrev pub F9 : Config → List Line → Line → Type 0
F9 c before (Refuse node epoch attempt answered needed) = Refuses c before node epoch attempt answered needed
F9 c before other = Unit {0}

-- ---- all of them

-- a rule by its name
abbrev pub Keeps : Rule → Config → List Line → Line → Type 0
Keeps rule.F1 c before line = F1 c before line
Keeps rule.F2 c before line = F2 c before line
Keeps rule.F3 c before line = F3 c before line
Keeps rule.F4 c before line = F4 c before line
Keeps rule.F5 c before line = F5 c before line
Keeps rule.F6 c before line = F6 c before line
Keeps rule.F7 c before line = F7 c before line
Keeps rule.F8 c before line = F8 c before line
Keeps rule.F9 c before line = F9 c before line

-- a line after those before it
abbrev pub IsFaithfulLine : Config → List Line → Line → Type 0
IsFaithfulLine c before line = (name : Rule) → Keeps name c before line

-- each line after those before it, with the latest first
abbrev pub AreFaithful : Config → List Line → Type 0
AreFaithful c [] = Unit {0}
AreFaithful c (line ∷ before) = IsFaithfulLine c before line × AreFaithful c before

-- lines in the order in which they were printed
abbrev pub IsFaithful : Config → List Line → Type 0
IsFaithful c lines = AreFaithful c (past [] lines)
