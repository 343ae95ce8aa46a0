-- A frame of which all is kept that is kept of frames has a spelling, in at most 32,768 bytes.
use Rattle.std.proofs.Common.{ℕ, ◌≡◌, ◌*◌, ◌≤◌, List, [], ◌∷◌, length, length-append, refl, arith}
use Rattle.std.specs.Prelude.{sum_by, flat_map}
use Rattle.std.proofs.lemmas.List.Sums.{sum_by-cons}
use Rattle.mrp_types.specs.declared.id.Party.{Party}
use Rattle.mrp_types.specs.declared.voted.Voted.{Voted}
use Rattle.mrp_types.specs.declared.voted.Decided.{Decided}
use Rattle.mrp_types.specs.Tuples.{IsTuple}
use Rattle.command_codec.proofs.PartLaws.{value_short}
use Rattle.frames.specs.declared.body.Body.{Body}
use Rattle.frames.specs.declared.body.Body.TheVariants as body
use Rattle.frames.specs.Spelling.{vote_bytes, decided_bytes, vote_size, decided_size, body_bytes, frame_bytes}
use Rattle.frames.specs.Valid.{IsBody}
use Rattle.frames.proofs.Lengths.{vote_length, decided_length, tuple_length, body_length, frame_length}
use Rattle.step_valid.specs.Valid.{BodyValid}
use Rattle.step_shape.specs.Shaped.{BodyFits}
use Rattle.world_shape.specs.Shape.{HasWidths, EpochIs}

-- the tuples of a frame are tuples
abbrev pub HasTuples : Body → Type 0
HasTuples (body.HaveCheckpoint epoch attempt tuple) = IsTuple tuple
HasTuples (body.AskPart epoch attempt tuple offset) = IsTuple tuple
HasTuples (body.Part epoch attempt tuple offset total bytes) = IsTuple tuple
HasTuples (body.Gone epoch attempt asked newer) = IsTuple asked × IsTuple newer
HasTuples other = Unit {0}

-- ---- pages

votes_take : (votes : List Voted) → length (flat_map vote_bytes votes) ≡ sum_by vote_size votes
votes_take [] = refl
votes_take (v ∷ votes) =
    let more = votes_take votes in
    let both = length-append (vote_bytes v) (flat_map vote_bytes votes) in
    let one = vote_length v in
    let sum = sum_by-cons vote_size v votes in
    omega arith

ranges_take : (ranges : List Decided) → length (flat_map decided_bytes ranges) ≡ sum_by decided_size ranges
ranges_take [] = refl
ranges_take (d ∷ ranges) =
    let more = ranges_take ranges in
    let both = length-append (decided_bytes d) (flat_map decided_bytes ranges) in
    let one = decided_length d in
    let sum = sum_by-cons decided_size d ranges in
    omega arith

few_votes : (votes : List Voted) → 26 * length votes ≤ sum_by vote_size votes
few_votes [] = omega arith
few_votes (v ∷ votes) = let more = few_votes votes in let sum = sum_by-cons vote_size v votes in omega arith

few_ranges : (ranges : List Decided) → 18 * length ranges ≤ sum_by decided_size ranges
few_ranges [] = omega arith
few_ranges (d ∷ ranges) = let more = few_ranges ranges in let sum = sum_by-cons decided_size d ranges in omega arith

-- ---- bodies

pub spelled_body : (fine : ℕ → Type 0) (b : Body) → BodyValid b → BodyFits fine b → HasTuples b → IsBody b
spelled_body fine (body.Submit r hops client seq command) v f t = (f.0, f.1, v.asked, v.numbered, v.short)
spelled_body fine (body.Prepare r ballot lo) v f t = (f.0, v, f.1)
spelled_body fine (body.Promise r ballot lo hi trim votes) v f t =
    let few = few_votes votes in let room = f.2.room in let top = v.1 in (f.0, v.3, (f.1, omega arith), v.0, omega arith, f.2.are)
spelled_body fine (body.Refuse r ballot promise) v f t = (f.0, f.1, f.2)
spelled_body fine (body.Accept r ballot lo hi mask value) v f t = let is = v.1 f.1 in (f.0, v.0, (f.1, is.end), record { spelled = is.value; alone = λ e. let one = is.alone e in omega arith })
spelled_body fine (body.Decide r lo hi left value) v f t = let is = v f.1 in let top = is.end in (f.0, (f.1, omega arith), record { spelled = is.value; alone = λ e. let one = is.alone e in omega arith })
spelled_body fine (body.Fetch r lo) v f t = (f.0, f.1)
spelled_body fine (body.Chosen r ranges) v f t = let few = few_ranges ranges in let room = f.1.room in (f.0, f.1.some, omega arith, f.1.are)
spelled_body fine (body.Trimmed r trim) v f t = (f, v)
spelled_body fine (body.AskSafe r round) v f t = f
spelled_body fine (body.Safe r round inst) v f t = (f, v)
spelled_body fine (body.TrimTo r trim) v f t = (f, v)
spelled_body fine (body.AskCheckpoint epoch attempt) v f t = tt
spelled_body fine (body.HaveCheckpoint epoch attempt tuple) v f t = t
spelled_body fine (body.AskPart epoch attempt tuple offset) v f t = t
spelled_body fine (body.Part epoch attempt tuple offset total bytes) v f t = (t, f.3, f.4)
spelled_body fine (body.Gone epoch attempt asked newer) v f t = t
spelled_body fine (body.Reply client seq partition reply) v f t = f.0
spelled_body fine body.Hello v f t = tt

-- a body of a page takes no more than its page
paged : (fine : ℕ → Type 0) (b : Body) → BodyValid b → BodyFits fine b → HasTuples b → length (body_bytes b) ≤ 32762
paged fine (body.Submit r hops client seq command) v f t = let short = v.short in omega (arith, body_length (body.Submit r hops client seq command), short)
paged fine (body.Prepare r ballot lo) v f t = omega (arith, body_length (body.Prepare r ballot lo))
paged fine (body.Promise r ballot lo hi trim votes) v f t = let room = f.2.room in omega (arith, body_length (body.Promise r ballot lo hi trim votes), votes_take votes, room)
paged fine (body.Refuse r ballot promise) v f t = omega (arith, body_length (body.Refuse r ballot promise))
paged fine (body.Accept r ballot lo hi mask value) v f t = let is = v.1 f.1 in omega (arith, body_length (body.Accept r ballot lo hi mask value), value_short value is.value)
paged fine (body.Decide r lo hi left value) v f t = let is = v f.1 in omega (arith, body_length (body.Decide r lo hi left value), value_short value is.value)
paged fine (body.Fetch r lo) v f t = omega (arith, body_length (body.Fetch r lo))
paged fine (body.Chosen r ranges) v f t = let room = f.1.room in omega (arith, body_length (body.Chosen r ranges), ranges_take ranges, room)
paged fine (body.Trimmed r trim) v f t = omega (arith, body_length (body.Trimmed r trim))
paged fine (body.AskSafe r round) v f t = omega (arith, body_length (body.AskSafe r round))
paged fine (body.Safe r round inst) v f t = omega (arith, body_length (body.Safe r round inst))
paged fine (body.TrimTo r trim) v f t = omega (arith, body_length (body.TrimTo r trim))
paged fine (body.AskCheckpoint epoch attempt) v f t = omega (arith, body_length (body.AskCheckpoint epoch attempt))
paged fine (body.HaveCheckpoint epoch attempt tuple) v f t = let few = t.few in omega (arith, body_length (body.HaveCheckpoint epoch attempt tuple), tuple_length tuple)
paged fine (body.AskPart epoch attempt tuple offset) v f t = let few = t.few in omega (arith, body_length (body.AskPart epoch attempt tuple offset), tuple_length tuple)
paged fine (body.Part epoch attempt tuple offset total bytes) v f t =
    let few = t.few in
    let size : length bytes ≤ 16384 = (let same = f.4 in grind arith) in
    omega (arith, body_length (body.Part epoch attempt tuple offset total bytes), tuple_length tuple, size)
paged fine (body.Gone epoch attempt asked newer) v f t = let one = t.0.few in let two = t.1.few in omega (arith, body_length (body.Gone epoch attempt asked newer), tuple_length asked, tuple_length newer)
paged fine (body.Reply client seq partition reply) v f t = let short = f.0 in omega (arith, body_length (body.Reply client seq partition reply), short)
paged fine body.Hello v f t = omega (arith, body_length body.Hello)

pub short_frame : (fine : ℕ → Type 0) (from : Party) (b : Body) → BodyValid b → BodyFits fine b → HasTuples b → length (frame_bytes (record { from = from; body = b })) ≤ 32768
short_frame fine from b v f t = omega (arith, frame_length (record { from = from; body = b }), paged fine b v f t)

-- ---- numbers

pub has_widths : (fine : ℕ → Type 0) (b : Body) → BodyFits fine b → HasWidths b
has_widths fine (body.AskCheckpoint epoch attempt) f = f.0
has_widths fine (body.HaveCheckpoint epoch attempt tuple) f = f.0
has_widths fine (body.AskPart epoch attempt tuple offset) f = (f.0, f.1)
has_widths fine (body.Part epoch attempt tuple offset total bytes) f = (f.0, f.1, f.2)
has_widths fine (body.Gone epoch attempt asked newer) f = f.0
has_widths fine (body.Reply client seq partition reply) f = f.1
has_widths fine (body.Submit r hops client seq command) f = tt
has_widths fine (body.Prepare r ballot lo) f = tt
has_widths fine (body.Promise r ballot lo hi trim votes) f = tt
has_widths fine (body.Refuse r ballot promise) f = tt
has_widths fine (body.Accept r ballot lo hi mask value) f = tt
has_widths fine (body.Decide r lo hi left value) f = tt
has_widths fine (body.Fetch r lo) f = tt
has_widths fine (body.Chosen r ranges) f = tt
has_widths fine (body.Trimmed r trim) f = tt
has_widths fine (body.AskSafe r round) f = tt
has_widths fine (body.Safe r round inst) f = tt
has_widths fine (body.TrimTo r trim) f = tt
has_widths fine body.Hello f = tt

-- ---- epochs

pub epoch_is : (fine : ℕ → Type 0) (b : Body) → BodyFits fine b → EpochIs fine b
epoch_is fine (body.AskCheckpoint epoch attempt) f = f.1
epoch_is fine (body.HaveCheckpoint epoch attempt tuple) f = f.1
epoch_is fine (body.AskPart epoch attempt tuple offset) f = f.2
epoch_is fine (body.Part epoch attempt tuple offset total bytes) f = f.5
epoch_is fine (body.Gone epoch attempt asked newer) f = f.1
epoch_is fine (body.Submit r hops client seq command) f = tt
epoch_is fine (body.Prepare r ballot lo) f = tt
epoch_is fine (body.Promise r ballot lo hi trim votes) f = tt
epoch_is fine (body.Refuse r ballot promise) f = tt
epoch_is fine (body.Accept r ballot lo hi mask value) f = tt
epoch_is fine (body.Decide r lo hi left value) f = tt
epoch_is fine (body.Fetch r lo) f = tt
epoch_is fine (body.Chosen r ranges) f = tt
epoch_is fine (body.Trimmed r trim) f = tt
epoch_is fine (body.AskSafe r round) f = tt
epoch_is fine (body.Safe r round inst) f = tt
epoch_is fine (body.TrimTo r trim) f = tt
epoch_is fine (body.Reply client seq partition reply) f = tt
epoch_is fine body.Hello f = tt
