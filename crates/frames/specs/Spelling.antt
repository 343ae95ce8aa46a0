-- The one spelling of each frame.
use Rattle.std.specs.Prelude.{ℕ, ◌+◌, List, [], ◌∷◌, ◌++◌, length}
use Rattle.std.specs.List.{flat_map}
use Rattle.mrp_types.specs.declared.id.RingId.{RingId}
use Rattle.mrp_types.specs.declared.id.Party.{Party}
use Rattle.mrp_types.specs.declared.id.Party.TheVariants.{Node, Client}
use Rattle.mrp_types.specs.declared.value.Value.{Value}
use Rattle.mrp_types.specs.declared.voted.Voted.{Voted}
use Rattle.mrp_types.specs.declared.voted.Decided.{Decided}
use Rattle.command_codec.specs.Fields.{u16_bytes, u32_bytes, u64_bytes, string16}
use Rattle.command_codec.specs.Spelling.{value_bytes}
use Rattle.frames.specs.declared.body.Body.{Body}
use Rattle.frames.specs.declared.body.Body.TheVariants.{Submit, Prepare, Promise, Refuse, Accept, Decide, Fetch, Chosen, Trimmed, AskSafe, Safe, TrimTo, AskCheckpoint, HaveCheckpoint, AskPart, Part, Gone, Reply, Hello}
use Rattle.frames.specs.declared.frame.Frame.{Frame}

-- ---- parts

abbrev pub range_bytes : ℕ → ℕ → List ℕ
range_bytes lo hi = u64_bytes lo ++ u64_bytes hi

-- a value with its length
abbrev pub value_text : Value → List ℕ
value_text value = string16 (value_bytes value)

abbrev pub vote_bytes : Voted → List ℕ
vote_bytes v = range_bytes v.lo v.hi ++ (u64_bytes v.ballot ++ value_text v.value)

abbrev pub decided_bytes : Decided → List ℕ
decided_bytes d = range_bytes d.lo d.hi ++ value_text d.value

-- how many bytes a vote and a decided range take
abbrev pub vote_size : Voted → ℕ
vote_size v = 26 + length (value_bytes v.value)

abbrev pub decided_size : Decided → ℕ
decided_size d = 18 + length (value_bytes d.value)

abbrev pub votes_bytes : List Voted → List ℕ
votes_bytes votes = u16_bytes (length votes) ++ flat_map vote_bytes votes

abbrev pub ranges_bytes : List Decided → List ℕ
ranges_bytes ranges = u16_bytes (length ranges) ++ flat_map decided_bytes ranges

abbrev pub next_bytes : RingId × ℕ → List ℕ
next_bytes x = x.0.0 ∷ u64_bytes x.1

abbrev pub tuple_bytes : List (RingId × ℕ) → List ℕ
tuple_bytes pairs = length pairs ∷ flat_map next_bytes pairs

-- ---- frames

abbrev pub kind_of_body : Body → ℕ
kind_of_body (Submit ring hops client seq command) = 1
kind_of_body (Prepare ring ballot lo) = 2
kind_of_body (Promise ring ballot lo hi trim votes) = 3
kind_of_body (Refuse ring ballot promise) = 4
kind_of_body (Accept ring ballot lo hi mask value) = 5
kind_of_body (Decide ring lo hi left value) = 6
kind_of_body (Fetch ring lo) = 7
kind_of_body (Chosen ring ranges) = 8
kind_of_body (Trimmed ring inst) = 9
kind_of_body (AskSafe ring round) = 10
kind_of_body (Safe ring round inst) = 11
kind_of_body (TrimTo ring inst) = 12
kind_of_body (AskCheckpoint epoch attempt) = 13
kind_of_body (HaveCheckpoint epoch attempt tuple) = 14
kind_of_body (AskPart epoch attempt tuple offset) = 15
kind_of_body (Part epoch attempt tuple offset total bytes) = 16
kind_of_body (Gone epoch attempt asked newer) = 17
kind_of_body (Reply client seq partition reply) = 18
kind_of_body Hello = 19

-- the fields in order
abbrev pub body_bytes : Body → List ℕ
body_bytes (Submit ring hops client seq command) = ring.0 ∷ hops ∷ client.0 ∷ (u64_bytes seq ++ string16 command)
body_bytes (Prepare ring ballot lo) = ring.0 ∷ (u64_bytes ballot ++ u64_bytes lo)
body_bytes (Promise ring ballot lo hi trim votes) = ring.0 ∷ (u64_bytes ballot ++ (range_bytes lo hi ++ (u64_bytes trim ++ votes_bytes votes)))
body_bytes (Refuse ring ballot promise) = ring.0 ∷ (u64_bytes ballot ++ u64_bytes promise)
body_bytes (Accept ring ballot lo hi mask value) = ring.0 ∷ (u64_bytes ballot ++ (range_bytes lo hi ++ (mask ∷ value_text value)))
body_bytes (Decide ring lo hi left value) = ring.0 ∷ (range_bytes lo hi ++ (left ∷ value_text value))
body_bytes (Fetch ring lo) = ring.0 ∷ u64_bytes lo
body_bytes (Chosen ring ranges) = ring.0 ∷ ranges_bytes ranges
body_bytes (Trimmed ring inst) = ring.0 ∷ u64_bytes inst
body_bytes (AskSafe ring round) = ring.0 ∷ u64_bytes round
body_bytes (Safe ring round inst) = ring.0 ∷ (u64_bytes round ++ u64_bytes inst)
body_bytes (TrimTo ring inst) = ring.0 ∷ u64_bytes inst
body_bytes (AskCheckpoint epoch attempt) = u32_bytes epoch ++ u32_bytes attempt
body_bytes (HaveCheckpoint epoch attempt tuple) = u32_bytes epoch ++ (u32_bytes attempt ++ tuple_bytes tuple)
body_bytes (AskPart epoch attempt tuple offset) = u32_bytes epoch ++ (u32_bytes attempt ++ (tuple_bytes tuple ++ u64_bytes offset))
body_bytes (Part epoch attempt tuple offset total bytes) = u32_bytes epoch ++ (u32_bytes attempt ++ (tuple_bytes tuple ++ ((u64_bytes offset ++ u64_bytes total) ++ string16 bytes)))
body_bytes (Gone epoch attempt asked newer) = u32_bytes epoch ++ (u32_bytes attempt ++ (tuple_bytes asked ++ tuple_bytes newer))
body_bytes (Reply client seq partition reply) = client.0 ∷ (u64_bytes seq ++ (partition.0 ∷ string16 reply))
body_bytes Hello = []

-- whether a node or a client, and its number
abbrev pub party_bytes : Party → List ℕ
party_bytes (Node node) = 0 ∷ node.0 ∷ []
party_bytes (Client client) = 1 ∷ client.0 ∷ []

-- the magic, version 2, the kind, the sender and the body
abbrev pub frame_bytes : Frame → List ℕ
frame_bytes frame = 0x4d ∷ 0x52 ∷ 2 ∷ kind_of_body frame.body ∷ (party_bytes frame.from ++ body_bytes frame.body)
