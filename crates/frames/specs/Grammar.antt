-- Reading of frames, field by field from the left.
use Rattle.std.specs.Prelude.{ℕ, ◌+◌, ◌-◌, ◌^◌, ◌==◌, ◌&&◌, if◌then◌else◌, min, max, nat_le, nat_lt, Bool, true, false, List, [], ◌∷◌, length, Result, Ok, Err}
use Rattle.std.specs.Int.{w16, w32, w64}
use Rattle.mrp_types.specs.declared.id.RingId.{RingId}
use Rattle.mrp_types.specs.declared.id.Party.{Party}
use Rattle.mrp_types.specs.declared.id.Party.TheVariants.{Node, Client}
use Rattle.mrp_types.specs.declared.value.Value.{Value}
use Rattle.mrp_types.specs.declared.voted.Voted.{Voted}
use Rattle.mrp_types.specs.declared.voted.Decided.{Decided}
use Rattle.command_codec.specs.declared.fault.CodecFault.{CodecFault}
use Rattle.command_codec.specs.declared.fault.CodecFault.TheVariants as fields
use Rattle.mrp_types.specs.Reading.{◌>>=◌, follow, both, nothing, shown, counted}
use Rattle.command_codec.specs.Reader.{Spot, start, Reader, byte_at, bytes_at, number_at, within, string_at, ended}
use Rattle.command_codec.specs.Parts.{ring_at, ballot_at, inst_at, range_at, range_from, is_one_of, value_at}
use Rattle.frames.specs.declared.body.Body.{Body}
use Rattle.frames.specs.declared.body.Body.TheVariants.{Submit, Prepare, Promise, Refuse, Accept, Decide, Fetch, Chosen, Trimmed, AskSafe, Safe, TrimTo, AskCheckpoint, HaveCheckpoint, AskPart, Part, Gone, Reply, Hello}
use Rattle.frames.specs.declared.frame.Frame.{Frame}
use Rattle.frames.specs.declared.fault.FrameFault.{FrameFault}
use Rattle.frames.specs.declared.fault.FrameFault.TheVariants.{TooLong, Short, BadMagic, BadVersion, BadKind, BadField, Left, Memory}
use Rattle.frames.specs.declared.lists.Before.{Before}
use Rattle.frames.specs.Ranges.{nothing_before, after_vote, after_decided, may_skip}

-- ---- lists

abbrev pub voted_of : (ℕ × ℕ) × (ℕ × Value) → Voted
voted_of x = record { lo = x.0.0; hi = x.0.1; ballot = x.1.0; value = x.1.1 }

-- a range, its ballot and its value, by the range before it
unfoldable pub vote_at : Before → Reader Voted
vote_at before = shown voted_of (follow (range_from before.end) (λ range. follow ballot_at (λ ballot. value_at (may_skip before range.0 ballot) (is_one_of range))))

-- any number of votes, in order and maximal
unfoldable pub votes_at : Reader (List Voted)
votes_at = counted (number_at w16) vote_at after_vote nothing_before

abbrev pub decided_of : (ℕ × ℕ) × Value → Decided
decided_of x = record { lo = x.0.0; hi = x.0.1; value = x.1 }

unfoldable pub decided_at : Before → Reader Decided
decided_at before = shown decided_of (follow (range_from before.end) (λ range. value_at (may_skip before range.0 0) (is_one_of range)))

-- one decided range at least, in order and maximal
unfoldable pub ranges_at : Reader (List Decided)
ranges_at = counted (within 1 65535 (number_at w16)) decided_at after_decided nothing_before

-- a ring of at least this number and below 16, and its next instance
abbrev pub next_at : ℕ → Reader (RingId × ℕ)
next_at least = both (shown (λ n. record { 0 = n }) (within least 15 byte_at)) (within 0 (2 ^ 40) (number_at w64))

abbrev pub after_ring : RingId × ℕ → ℕ
after_ring x = x.0.0 + 1

-- 1 to 16 rings that increase
unfoldable pub tuple_at : Reader (List (RingId × ℕ))
tuple_at = counted (within 1 16 byte_at) next_at after_ring 0

-- how many bytes of a checkpoint stand in a part
abbrev pub part_of : ℕ × ℕ → ℕ
part_of x = min 16384 (x.1 - x.0)

-- as many bytes as are there, and one at least
unfoldable pub part_bytes_at : ℕ × ℕ → Reader (List ℕ)
part_bytes_at x = string_at (max 1 (part_of x)) (part_of x)

-- ---- bodies

-- a command that a client sends was never passed on
abbrev pub most_hops : Bool → ℕ
most_hops client = if client then 0 else 1

unfoldable pub submit_at : Bool → Reader Body
submit_at client =
    shown (λ x. Submit x.0 x.1.0 (record { 0 = x.1.1.0 }) x.1.1.1.0 x.1.1.1.1)
    (both ring_at (both (within 0 (most_hops client) byte_at) (both byte_at (both (within 1 (2 ^ 63 - 1) (number_at w64)) (string_at 0 4608)))))

unfoldable pub prepare_at : Reader Body
prepare_at = shown (λ x. Prepare x.0 x.1.0 x.1.1) (both ring_at (both ballot_at inst_at))

unfoldable pub promise_at : Reader Body
promise_at = shown (λ x. Promise x.0 x.1.0 x.1.1.0.0 x.1.1.0.1 x.1.1.1.0 x.1.1.1.1) (both ring_at (both ballot_at (both range_at (both inst_at votes_at))))

unfoldable pub refuse_at : Reader Body
refuse_at = shown (λ x. Refuse x.0 x.1.0 x.1.1) (both ring_at (both ballot_at ballot_at))

unfoldable pub accept_at : Reader Body
accept_at =
    shown (λ x. Accept x.0 x.1.0 x.1.1.0.0 x.1.1.0.1 x.1.1.1.0 x.1.1.1.1)
    (both ring_at (both ballot_at (follow range_at (λ range. both byte_at (value_at true (is_one_of range))))))

unfoldable pub decide_at : Reader Body
decide_at = shown (λ x. Decide x.0 x.1.0.0 x.1.0.1 x.1.1.0 x.1.1.1) (both ring_at (follow range_at (λ range. both byte_at (value_at true (is_one_of range)))))

unfoldable pub fetch_at : Reader Body
fetch_at = shown (λ x. Fetch x.0 x.1) (both ring_at inst_at)

unfoldable pub chosen_at : Reader Body
chosen_at = shown (λ x. Chosen x.0 x.1) (both ring_at ranges_at)

unfoldable pub trimmed_at : Reader Body
trimmed_at = shown (λ x. Trimmed x.0 x.1) (both ring_at inst_at)

unfoldable pub ask_safe_at : Reader Body
ask_safe_at = shown (λ x. AskSafe x.0 x.1) (both ring_at (number_at w64))

unfoldable pub safe_at : Reader Body
safe_at = shown (λ x. Safe x.0 x.1.0 x.1.1) (both ring_at (both (number_at w64) inst_at))

unfoldable pub trim_to_at : Reader Body
trim_to_at = shown (λ x. TrimTo x.0 x.1) (both ring_at inst_at)

unfoldable pub ask_checkpoint_at : Reader Body
ask_checkpoint_at = shown (λ x. AskCheckpoint x.0 x.1) (both (number_at w32) (number_at w32))

unfoldable pub have_checkpoint_at : Reader Body
have_checkpoint_at = shown (λ x. HaveCheckpoint x.0 x.1.0 x.1.1) (both (number_at w32) (both (number_at w32) tuple_at))

unfoldable pub ask_part_at : Reader Body
ask_part_at = shown (λ x. AskPart x.0 x.1.0 x.1.1.0 x.1.1.1) (both (number_at w32) (both (number_at w32) (both tuple_at (number_at w64))))

unfoldable pub part_at : Reader Body
part_at =
    shown (λ x. Part x.0 x.1.0 x.1.1.0 x.1.1.1.0.0 x.1.1.1.0.1 x.1.1.1.1)
    (both (number_at w32) (both (number_at w32) (both tuple_at (follow (both (number_at w64) (number_at w64)) part_bytes_at))))

unfoldable pub gone_at : Reader Body
gone_at = shown (λ x. Gone x.0 x.1.0 x.1.1.0 x.1.1.1) (both (number_at w32) (both (number_at w32) (both tuple_at tuple_at)))

unfoldable pub reply_at : Reader Body
reply_at =
    shown (λ x. Reply (record { 0 = x.0 }) x.1.0 (record { 0 = x.1.1.0 }) x.1.1.1) (both byte_at (both (number_at w64) (both byte_at (string_at 0 16384))))

-- what follows a sender in a frame of a kind of 1 to 19
unfoldable pub body_of_kind : ℕ → Bool → Reader Body
body_of_kind kind client spot =
    if kind == 1 then submit_at client spot
    else if kind == 2 then prepare_at spot
    else if kind == 3 then promise_at spot
    else if kind == 4 then refuse_at spot
    else if kind == 5 then accept_at spot
    else if kind == 6 then decide_at spot
    else if kind == 7 then fetch_at spot
    else if kind == 8 then chosen_at spot
    else if kind == 9 then trimmed_at spot
    else if kind == 10 then ask_safe_at spot
    else if kind == 11 then safe_at spot
    else if kind == 12 then trim_to_at spot
    else if kind == 13 then ask_checkpoint_at spot
    else if kind == 14 then have_checkpoint_at spot
    else if kind == 15 then ask_part_at spot
    else if kind == 16 then part_at spot
    else if kind == 17 then gone_at spot
    else if kind == 18 then reply_at spot
    else nothing Hello spot

-- ---- senders

abbrev pub is_client : Party → Bool
is_client (Node node) = false
is_client (Client client) = true

-- only a Submit has a client as its sender
abbrev pub most_party : ℕ → ℕ
most_party kind = if kind == 1 then 1 else 0

-- nodes are below 32
abbrev pub most_id : ℕ → ℕ
most_id party = if party == 0 then 31 else 255

abbrev pub party_of : ℕ × ℕ → Party
party_of x = if x.0 == 0 then Node (record { 0 = x.1 }) else Client (record { 0 = x.1 })

unfoldable pub party_at : ℕ → Reader Party
party_at kind = shown party_of (follow (within 0 (most_party kind) byte_at) (λ party. within 0 (most_id party) byte_at))

-- ---- frames

-- the sender and the body of a kind
unfoldable pub frame_of_kind : ℕ → Reader Frame
frame_of_kind kind = shown (λ x. record { from = x.0; body = x.1 }) (follow (party_at kind) (λ from. body_of_kind kind (is_client from)))

-- a length past its limit is a field out of its range
abbrev pub fault_of : CodecFault → FrameFault
fault_of (fields.Short at) = Short at
fault_of (fields.BadKind at) = BadField at
fault_of (fields.BadField at) = BadField at
fault_of (fields.TooLong at) = BadField at
fault_of (fields.Left at) = Left at
fault_of fields.Memory = Memory

abbrev pub in_frame : {V : Type 0} → Result V CodecFault → Result V FrameFault
in_frame (Ok x) = Ok x
in_frame (Err fault) = Err (fault_of fault)

-- nothing to say where a test holds
abbrev pub unless : Bool → FrameFault → Result (Unit {0}) FrameFault
unless true fault = Ok tt
unless false fault = Err fault

abbrev pub is_magic : List ℕ → Bool
is_magic [] = false
is_magic (a ∷ []) = false
is_magic (a ∷ b ∷ rest) = (a == 0x4d) && (b == 0x52)

-- the magic, the version and the kind
unfoldable pub kind_at : Spot → Result (ℕ × Spot) FrameFault
kind_at spot = do
  magic ← in_frame (bytes_at 2 spot)
  ours ← unless (is_magic magic.0) BadMagic
  version ← in_frame (byte_at magic.1)
  known ← unless (version.0 == 2) (BadVersion version.0)
  kind ← in_frame (byte_at version.1)
  some ← unless (nat_le 1 kind.0 && nat_le kind.0 19) (BadKind kind.0)
  Ok kind

-- all of the bytes from a spot on
abbrev pub all_of : {V : Type 0} → Reader V → Spot → Result V CodecFault
all_of read spot = do
  value ← read spot
  ended value.0 value.1

-- the frame that the bytes spell, or the first fault
abbrev pub read_of : List ℕ → Result Frame FrameFault
read_of bytes = if nat_lt 32768 (length bytes) then Err TooLong else (do
  kind ← kind_at (start bytes)
  in_frame (all_of (frame_of_kind kind.0) kind.1))
