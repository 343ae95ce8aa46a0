-- Which frames have a spelling.
use Rattle.std.specs.Prelude.{ℕ, ◌≡◌, ◌+◌, ◌-◌, ◌<◌, ◌≤◌, ◌^◌, min, true, false, List, [], ◌∷◌, length}
use Rattle.mrp_types.specs.declared.id.RingId.{RingId}
use Rattle.mrp_types.specs.declared.id.Party.{Party}
use Rattle.mrp_types.specs.declared.id.Party.TheVariants.{Node, Client}
use Rattle.mrp_types.specs.declared.value.Value.{Value}
use Rattle.mrp_types.specs.declared.voted.Voted.{Voted}
use Rattle.mrp_types.specs.declared.voted.Decided.{Decided}
use Rattle.mrp_types.specs.Tuples.{IsTuple}
use Rattle.mrp_types.specs.Values.{is_skip}
use Rattle.command_codec.specs.Parts.{IsSpelled}
use Rattle.frames.specs.declared.body.Body.{Body}
use Rattle.frames.specs.declared.body.Body.TheVariants.{Submit, Prepare, Promise, Refuse, Accept, Decide, Fetch, Chosen, Trimmed, AskSafe, Safe, TrimTo, AskCheckpoint, HaveCheckpoint, AskPart, Part, Gone, Reply, Hello}
use Rattle.frames.specs.declared.frame.Frame.{Frame}
use Rattle.frames.specs.declared.lists.Before.{Before}
use Rattle.frames.specs.Ranges.{nothing_before, after_vote, after_decided, may_skip}
use Rattle.frames.specs.Spelling.{frame_bytes}

-- ---- parts

abbrev pub IsRing : RingId → Type 0
IsRing ring = ring.0 < 16

abbrev pub IsBallot : ℕ → Type 0
IsBallot ballot = ballot < 2 ^ 48

abbrev pub IsInst : ℕ → Type 0
IsInst inst = inst < 2 ^ 40

-- a range that isn't empty and doesn't pass the end of all instances
abbrev pub IsRange : ℕ → ℕ → Type 0
IsRange lo hi = (lo < hi) × (hi ≤ 2 ^ 40)

-- a value that has a spelling; a batch stands for one instance
pub record IsValueOf (lo hi : ℕ) (value : Value) : Type 0 where
  pub spelled : IsSpelled value
  pub alone : is_skip value ≡ false → hi ≡ lo + 1

-- a range behind another: it begins at its end or later, and isn't one with it
pub record IsBehind (before : Before) (lo hi ballot : ℕ) (value : Value) : Type 0 where
  pub behind : before.end ≤ lo
  pub range : IsRange lo hi
  pub stands : IsValueOf lo hi value
  pub apart : is_skip value ≡ true → may_skip before lo ballot ≡ true

-- votes in order, without overlap, and maximal
abbrev pub AreVotes : Before → List Voted → Type 0
AreVotes before [] = Unit {0}
AreVotes before (v ∷ votes) = IsBehind before v.lo v.hi v.ballot v.value × IsBallot v.ballot × AreVotes (after_vote v) votes

-- decided ranges likewise
abbrev pub AreRanges : Before → List Decided → Type 0
AreRanges before [] = Unit {0}
AreRanges before (d ∷ ranges) = IsBehind before d.lo d.hi 0 d.value × AreRanges (after_decided d) ranges

-- ---- frames

abbrev pub IsBody : Body → Type 0
IsBody (Submit ring hops client seq command) = IsRing ring × (hops ≤ 1) × (1 ≤ seq) × (seq < 2 ^ 63) × (length command ≤ 4608)
IsBody (Prepare ring ballot lo) = IsRing ring × IsBallot ballot × IsInst lo
IsBody (Promise ring ballot lo hi trim votes) = IsRing ring × IsBallot ballot × IsRange lo hi × IsInst trim × (length votes ≤ 65535) × AreVotes nothing_before votes
IsBody (Refuse ring ballot promise) = IsRing ring × IsBallot ballot × IsBallot promise
IsBody (Accept ring ballot lo hi mask value) = IsRing ring × IsBallot ballot × IsRange lo hi × IsValueOf lo hi value
IsBody (Decide ring lo hi left value) = IsRing ring × IsRange lo hi × IsValueOf lo hi value
IsBody (Fetch ring lo) = IsRing ring × IsInst lo
IsBody (Chosen ring ranges) = IsRing ring × (1 ≤ length ranges) × (length ranges ≤ 65535) × AreRanges nothing_before ranges
IsBody (Trimmed ring inst) = IsRing ring × IsInst inst
IsBody (AskSafe ring round) = IsRing ring
IsBody (Safe ring round inst) = IsRing ring × IsInst inst
IsBody (TrimTo ring inst) = IsRing ring × IsInst inst
IsBody (AskCheckpoint epoch attempt) = Unit {0}
IsBody (HaveCheckpoint epoch attempt tuple) = IsTuple tuple
IsBody (AskPart epoch attempt tuple offset) = IsTuple tuple
IsBody (Part epoch attempt tuple offset total bytes) = IsTuple tuple × (1 ≤ length bytes) × (length bytes ≡ min 16384 (total - offset))
IsBody (Gone epoch attempt asked newer) = IsTuple asked × IsTuple newer
IsBody (Reply client seq partition reply) = length reply ≤ 16384
IsBody Hello = Unit {0}

-- a client sends commands alone, and none that was passed on
abbrev pub MaySend : Party → Body → Type 0
MaySend (Node node) body = node.0 < 32
MaySend (Client client) (Submit ring hops asked seq command) = hops ≡ 0
MaySend (Client client) other = ⊥

pub record IsFrame (frame : Frame) : Type 0 where
  pub from : MaySend frame.from frame.body
  pub body : IsBody frame.body
  pub short : length (frame_bytes frame) ≤ 32768

-- ---- numbers are below 2 ^ 32 and 2 ^ 64, as those of the code are

abbrev pub HasNumbers : Body → Type 0
HasNumbers (AskSafe ring round) = round < 2 ^ 64
HasNumbers (Safe ring round inst) = round < 2 ^ 64
HasNumbers (AskCheckpoint epoch attempt) = (epoch < 2 ^ 32) × (attempt < 2 ^ 32)
HasNumbers (HaveCheckpoint epoch attempt tuple) = (epoch < 2 ^ 32) × (attempt < 2 ^ 32)
HasNumbers (AskPart epoch attempt tuple offset) = (epoch < 2 ^ 32) × (attempt < 2 ^ 32) × (offset < 2 ^ 64)
HasNumbers (Part epoch attempt tuple offset total bytes) = (epoch < 2 ^ 32) × (attempt < 2 ^ 32) × (offset < 2 ^ 64) × (total < 2 ^ 64)
HasNumbers (Gone epoch attempt asked newer) = (epoch < 2 ^ 32) × (attempt < 2 ^ 32)
HasNumbers (Reply client seq partition reply) = seq < 2 ^ 64
HasNumbers other = Unit {0}

abbrev pub HasId : Party → Type 0
HasId (Node node) = Unit {0}
HasId (Client client) = client.0 < 256
