-- The lengths of what frames are made of.
use Rattle.std.proofs.Common.{lit<, arith, ◌≡◌, ℕ, ◌+◌, ◌-◌, ◌*◌, ◌^◌, ◌<◌, ◌≤◌, List, [], ◌∷◌, ◌++◌, length, length-append, refl, min}
use Rattle.std.specs.List.{flat_map, AllByRecursion}
use Rattle.std.proofs.lemmas.Grind.{common_steps}
use Rattle.mrp_types.specs.declared.id.RingId.{RingId}
use Rattle.mrp_types.specs.declared.id.Party.{Party}
use Rattle.mrp_types.specs.declared.id.Party.TheVariants.{Node, Client}
use Rattle.mrp_types.specs.Tuples.{IsTuple}
use Rattle.mrp_types.specs.declared.voted.Voted.{Voted}
use Rattle.mrp_types.specs.declared.voted.Decided.{Decided}
use Rattle.command_codec.specs.Fields.{u32_bytes, u64_bytes, string16}
use Rattle.command_codec.specs.Parts.{IsSpelled}
use Rattle.command_codec.specs.Spelling.{value_bytes}
use Rattle.command_codec.proofs.PartLaws.{value_short}
use Rattle.command_codec.proofs.Sizes.{length-u16_bytes, length-u64_bytes, length-string16}
use Rattle.frames.specs.declared.body.Body.{Body}
use Rattle.frames.specs.declared.body.Body.TheVariants.{Submit, Prepare, Promise, Refuse, Accept, Decide, Fetch, Chosen, Trimmed, AskSafe, Safe, TrimTo, AskCheckpoint, HaveCheckpoint, AskPart, Part, Gone, Reply, Hello}
use Rattle.frames.specs.declared.frame.Frame.{Frame}
use Rattle.frames.specs.declared.lists.Before.{Before}
use Rattle.frames.specs.Ranges.{nothing_before, after_vote, after_decided}
use Rattle.frames.specs.Spelling.{next_bytes, tuple_bytes, vote_bytes, decided_bytes, vote_size, decided_size, party_bytes, body_bytes, frame_bytes}
use Rattle.frames.specs.Valid.{AreVotes, AreRanges, IsBody}

-- ---- values

pub votes_spelled : (before : Before) (votes : List Voted) → AreVotes before votes → AllByRecursion (λ (v : Voted). IsSpelled v.value) votes
votes_spelled before [] are = tt
votes_spelled before (v ∷ votes) are = (are.0.stands.spelled, votes_spelled (after_vote v) votes are.2)

pub ranges_spelled : (before : Before) (ranges : List Decided) → AreRanges before ranges → AllByRecursion (λ (d : Decided). IsSpelled d.value) ranges
ranges_spelled before [] are = tt
ranges_spelled before (d ∷ ranges) are = (are.0.stands.spelled, ranges_spelled (after_decided d) ranges are.1)

-- ---- votes and decided ranges

-- a vote takes so many bytes
pub vote_length : (v : Voted) → length (vote_bytes v) ≡ vote_size v
vote_length v = grind (arith, common_steps, length-u64_bytes v.lo, length-u64_bytes v.hi, length-u64_bytes v.ballot, length-string16 (value_bytes v.value))

-- a decided range takes so many bytes
pub decided_length : (d : Decided) → length (decided_bytes d) ≡ decided_size d
decided_length d = grind (arith, common_steps, length-u64_bytes d.lo, length-u64_bytes d.hi, length-string16 (value_bytes d.value))

-- so many votes take at most so many bytes
votes_short : (before : Before) (votes : List Voted) → AreVotes before votes → length (flat_map vote_bytes votes) ≤ 8218 * length votes
votes_short before [] are = omega arith
votes_short before (v ∷ votes) are =
    grind (arith, length-append (vote_bytes v) (flat_map vote_bytes votes), vote_length v, value_short v.value are.0.stands.spelled, votes_short (after_vote v) votes are.2)

ranges_short : (before : Before) (ranges : List Decided) → AreRanges before ranges → length (flat_map decided_bytes ranges) ≤ 8210 * length ranges
ranges_short before [] are = omega arith
ranges_short before (d ∷ ranges) are =
    grind (arith, length-append (decided_bytes d) (flat_map decided_bytes ranges), decided_length d, value_short d.value are.0.stands.spelled, ranges_short (after_decided d) ranges are.1)

pub few_votes : (before : Before) (votes : List Voted) → AreVotes before votes → length votes ≤ 65535 → length (flat_map vote_bytes votes) < 2 ^ 32
few_votes before votes are few = omega (arith, votes_short before votes are, few)

pub few_ranges : (before : Before) (ranges : List Decided) → AreRanges before ranges → length ranges ≤ 65535 → length (flat_map decided_bytes ranges) < 2 ^ 32
few_ranges before ranges are few = omega (arith, ranges_short before ranges are, few)

-- ---- tuples

length-next_bytes : (x : RingId × ℕ) → length (next_bytes x) ≡ 9
length-next_bytes x = grind (arith, common_steps, length-u64_bytes x.1)

length-nexts : (pairs : List (RingId × ℕ)) → length (flat_map next_bytes pairs) ≡ 9 * length pairs
length-nexts [] = refl
length-nexts (x ∷ pairs) = grind (arith, length-append (next_bytes x) (flat_map next_bytes pairs), length-next_bytes x, length-nexts pairs)

pub tuple_length : (pairs : List (RingId × ℕ)) → length (tuple_bytes pairs) ≡ 1 + 9 * length pairs
tuple_length pairs = grind (arith, length-nexts pairs)

-- ---- bodies and frames

length-u32_bytes : (n : ℕ) → length (u32_bytes n) ≡ 4
unfolding u32_bytes
length-u32_bytes n = grind (arith, common_steps)

-- how many bytes a body takes
abbrev pub size_of : Body → ℕ
size_of (Submit ring hops client seq command) = 13 + length command
size_of (Prepare ring ballot lo) = 17
size_of (Promise ring ballot lo hi trim votes) = 35 + length (flat_map vote_bytes votes)
size_of (Refuse ring ballot promise) = 17
size_of (Accept ring ballot lo hi mask value) = 28 + length (value_bytes value)
size_of (Decide ring lo hi left value) = 20 + length (value_bytes value)
size_of (Fetch ring lo) = 9
size_of (Chosen ring ranges) = 3 + length (flat_map decided_bytes ranges)
size_of (Trimmed ring trim) = 9
size_of (AskSafe ring round) = 9
size_of (Safe ring round inst) = 17
size_of (TrimTo ring trim) = 9
size_of (AskCheckpoint epoch attempt) = 8
size_of (HaveCheckpoint epoch attempt tuple) = 8 + length (tuple_bytes tuple)
size_of (AskPart epoch attempt tuple offset) = 16 + length (tuple_bytes tuple)
size_of (Part epoch attempt tuple offset total bytes) = (26 + length (tuple_bytes tuple)) + length bytes
size_of (Gone epoch attempt asked newer) = (8 + length (tuple_bytes asked)) + length (tuple_bytes newer)
size_of (Reply client seq partition reply) = 12 + length reply
size_of Hello = 0

pub body_length : (body : Body) → length (body_bytes body) ≡ size_of body
body_length (Submit ring hops client seq command) = grind (arith, common_steps, length-u64_bytes seq, length-string16 command)
body_length (Prepare ring ballot lo) = grind (arith, common_steps, length-u64_bytes ballot, length-u64_bytes lo)
body_length (Promise ring ballot lo hi trim votes) =
    grind (arith, common_steps, length-u64_bytes ballot, length-u64_bytes lo, length-u64_bytes hi, length-u64_bytes trim, length-u16_bytes (length votes))
body_length (Refuse ring ballot promise) = grind (arith, common_steps, length-u64_bytes ballot, length-u64_bytes promise)
body_length (Accept ring ballot lo hi mask value) =
    grind (arith, common_steps, length-u64_bytes ballot, length-u64_bytes lo, length-u64_bytes hi, length-string16 (value_bytes value))
body_length (Decide ring lo hi left value) = grind (arith, common_steps, length-u64_bytes lo, length-u64_bytes hi, length-string16 (value_bytes value))
body_length (Fetch ring lo) = grind (arith, common_steps, length-u64_bytes lo)
body_length (Chosen ring ranges) = grind (arith, common_steps, length-u16_bytes (length ranges))
body_length (Trimmed ring trim) = grind (arith, common_steps, length-u64_bytes trim)
body_length (AskSafe ring round) = grind (arith, common_steps, length-u64_bytes round)
body_length (Safe ring round inst) = grind (arith, common_steps, length-u64_bytes round, length-u64_bytes inst)
body_length (TrimTo ring trim) = grind (arith, common_steps, length-u64_bytes trim)
body_length (AskCheckpoint epoch attempt) = grind (arith, common_steps, length-u32_bytes epoch, length-u32_bytes attempt)
body_length (HaveCheckpoint epoch attempt tuple) =
    grind (arith, length-append (u32_bytes epoch) (u32_bytes attempt ++ tuple_bytes tuple), length-append (u32_bytes attempt) (tuple_bytes tuple), length-u32_bytes epoch, length-u32_bytes attempt)
body_length (AskPart epoch attempt tuple offset) =
    grind (
      arith,
      length-append (u32_bytes epoch) (u32_bytes attempt ++ (tuple_bytes tuple ++ u64_bytes offset)),
      length-append (u32_bytes attempt) (tuple_bytes tuple ++ u64_bytes offset),
      length-append (tuple_bytes tuple) (u64_bytes offset),
      length-u32_bytes epoch,
      length-u32_bytes attempt,
      length-u64_bytes offset,
    )
body_length (Part epoch attempt tuple offset total bytes) =
    let last = (u64_bytes offset ++ u64_bytes total) ++ string16 bytes in
    grind (
      arith,
      length-append (u32_bytes epoch) (u32_bytes attempt ++ (tuple_bytes tuple ++ last)),
      length-append (u32_bytes attempt) (tuple_bytes tuple ++ last),
      length-append (tuple_bytes tuple) last,
      length-append (u64_bytes offset ++ u64_bytes total) (string16 bytes),
      length-append (u64_bytes offset) (u64_bytes total),
      length-u32_bytes epoch,
      length-u32_bytes attempt,
      length-u64_bytes offset,
      length-u64_bytes total,
      length-string16 bytes,
    )
body_length (Gone epoch attempt asked newer) =
    grind (
      arith,
      length-append (u32_bytes epoch) (u32_bytes attempt ++ (tuple_bytes asked ++ tuple_bytes newer)),
      length-append (u32_bytes attempt) (tuple_bytes asked ++ tuple_bytes newer),
      length-append (tuple_bytes asked) (tuple_bytes newer),
      length-u32_bytes epoch,
      length-u32_bytes attempt,
    )
body_length (Reply client seq partition reply) =
    grind (arith, length-append (u64_bytes seq) (partition.0 ∷ string16 reply), length-u64_bytes seq, length-string16 reply)
body_length Hello = refl

party_length : (from : Party) → length (party_bytes from) ≡ 2
party_length (Node node) = refl
party_length (Client client) = refl

-- the six bytes of a header, and the body
pub frame_length : (frame : Frame) → length (frame_bytes frame) ≡ 6 + length (body_bytes frame.body)
frame_length frame = grind (arith, length-append (party_bytes frame.from) (body_bytes frame.body), party_length frame.from)

tuple_short : (tuple : List (RingId × ℕ)) → IsTuple tuple → length (tuple_bytes tuple) ≤ 145
tuple_short tuple is = omega (arith, tuple_length tuple, is.few)

part_short : (n m : ℕ) → n ≡ min 16384 m → n ≤ 16384
part_short n m is = grind arith

-- no body has more bytes than the code can count
pub body_short : (body : Body) → IsBody body → length (body_bytes body) < 2 ^ 33
body_short body is = omega (arith, body_length body, counted body is)
  where
    counted : (body : Body) → IsBody body → size_of body < 2 ^ 33
    counted (Submit ring hops client seq command) is = omega (arith, is.4)
    counted (Prepare ring ballot lo) is = lit< tt
    counted (Promise ring ballot lo hi trim votes) is = omega (arith, few_votes nothing_before votes is.5 is.4)
    counted (Refuse ring ballot promise) is = lit< tt
    counted (Accept ring ballot lo hi mask value) is = omega (arith, value_short value is.3.spelled)
    counted (Decide ring lo hi left value) is = omega (arith, value_short value is.2.spelled)
    counted (Fetch ring lo) is = lit< tt
    counted (Chosen ring ranges) is = omega (arith, few_ranges nothing_before ranges is.3 is.2)
    counted (Trimmed ring trim) is = lit< tt
    counted (AskSafe ring round) is = lit< tt
    counted (Safe ring round inst) is = lit< tt
    counted (TrimTo ring trim) is = lit< tt
    counted (AskCheckpoint epoch attempt) is = lit< tt
    counted (HaveCheckpoint epoch attempt tuple) is = omega (arith, tuple_short tuple is)
    counted (AskPart epoch attempt tuple offset) is = omega (arith, tuple_short tuple is)
    counted (Part epoch attempt tuple offset total bytes) is = omega (arith, tuple_short tuple is.0, part_short (length bytes) (total - offset) is.2)
    counted (Gone epoch attempt asked newer) is = omega (arith, tuple_short asked is.0, tuple_short newer is.1)
    counted (Reply client seq partition reply) is = omega (arith, is)
    counted Hello is = lit< tt
