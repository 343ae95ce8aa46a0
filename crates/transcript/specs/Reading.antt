-- Reading a line word by word from the left: the line, or its first fault.
use Rattle.std.specs.Prelude.{ℕ, ◌≡◌, ◌^◌, ◌==◌, Bool, true, false, if◌then◌else◌, List, [], ◌∷◌, codes, Option, Some, None, Result, Ok, Err}
use Rattle.std.specs.Result.{result_ok}
use Rattle.mrp_types.specs.declared.id.Party.{Party}
use Rattle.mrp_types.specs.declared.value.Value.{Value}
use Rattle.text_lines.specs.Split.{words_of}
use Rattle.mrp_types.specs.Reading.{◌>>=◌, both, shown, nothing}
use Rattle.transcript.specs.declared.fault.LineKind.{LineKind}
use Rattle.transcript.specs.declared.fault.LineFault.{LineFault}
use Rattle.transcript.specs.declared.fault.LineKind.TheVariants as kind
use Rattle.transcript.specs.declared.line.Line.{Line}
use Rattle.transcript.specs.declared.line.Line.TheVariants as line
use Rattle.transcript.specs.declared.line.Cause.{Cause}
use Rattle.transcript.specs.declared.line.Cause.TheVariants as cause
use Rattle.transcript.specs.declared.kinds.Limit.{Limit}
use Rattle.transcript.specs.declared.kinds.Limit.TheVariants as limit
use Rattle.transcript.specs.declared.line.ShownState.{ShownState}
use Rattle.transcript.specs.declared.line.ShownFrame.{ShownFrame}
use Rattle.transcript.specs.Fields.{number_of, tuple_of, party_of, bytes_of, value_of}
use Rattle.text_lines.specs.Words.{by_key}
use Rattle.transcript.specs.Words.{Reader, Fails, one, unless, end_at}

-- ---- fields

-- a number of a node, a ring or a client
abbrev pub id_at : Reader ℕ
id_at = one kind.Number (number_of 256)

-- any other number
abbrev pub count_at : Reader ℕ
count_at = one kind.Number (number_of (2 ^ 64))

abbrev pub tuple_at : Reader (List ℕ)
tuple_at = one kind.Number tuple_of

abbrev pub hex_at : Reader (List ℕ)
hex_at = one kind.Hex bytes_of

abbrev pub value_at : Reader Value
value_at = one kind.Hex value_of

abbrev pub party_at : Reader Party
party_at = one kind.Number party_of

-- ---- lines by their first word

unfoldable pub learn_at : Reader Line
learn_at = shown (λ x. line.Learn (record { 0 = x.0 }) (record { 0 = x.1.0 }) x.1.1.0 x.1.1.1.0 x.1.1.1.1)
    (both id_at (both id_at (both count_at (both count_at value_at))))

unfoldable pub deliver_at : Reader Line
deliver_at = shown (λ x. line.Deliver (record { 0 = x.0 }) (record { 0 = x.1.0 }) x.1.1) (both id_at (both id_at count_at))

unfoldable pub reply_at : Reader Line
reply_at = shown (λ x. line.Reply (record { 0 = x.0 }) (record { 0 = x.1.0 }) x.1.1.0 x.1.1.1.0 (record { 0 = x.1.1.1.1.0 }) x.1.1.1.1.1.0 x.1.1.1.1.1.1)
    (both id_at (both id_at (both count_at (both count_at (both id_at (both count_at hex_at))))))

unfoldable pub answer_at : Reader Line
answer_at = shown (λ x. line.Answer (record { 0 = x.0 }) x.1.0 x.1.1) (both id_at (both count_at hex_at))

unfoldable pub busy_at : Reader Line
busy_at = shown (λ x. line.Busy (record { 0 = x.0 }) x.1) (both id_at count_at)

unfoldable pub begin_at : Reader Line
begin_at = shown (λ x. line.Begin (record { 0 = x.0 }) x.1.0 x.1.1.0 x.1.1.1) (both id_at (both count_at (both count_at tuple_at)))

unfoldable pub chose_at : Reader Line
chose_at = shown (λ x. line.Chose (record { 0 = x.0 }) x.1.0 x.1.1.0 x.1.1.1.0 (record { 0 = x.1.1.1.1 }))
    (both id_at (both count_at (both count_at (both tuple_at id_at))))

unfoldable pub restore_at : Reader Line
restore_at = shown (λ x. line.Restore (record { 0 = x.0 }) x.1) (both id_at tuple_at)

unfoldable pub saved_at : Reader Line
saved_at = shown (λ x. line.Saved (record { 0 = x.0 }) x.1) (both id_at tuple_at)

unfoldable pub trim_at : Reader Line
trim_at = shown (λ x. line.Trim (record { 0 = x.0 }) (record { 0 = x.1.0 }) x.1.1) (both id_at (both id_at count_at))

unfoldable pub refuse_at : Reader Line
refuse_at = shown (λ x. line.Refuse (record { 0 = x.0 }) x.1.0 x.1.1.0 x.1.1.1.0 x.1.1.1.1) (both id_at (both count_at (both count_at (both count_at count_at))))

abbrev pub limit_line : ℕ × Limit → Line
limit_line (node, limit.Ballot ring) = line.BallotLimit (record { 0 = node }) (record { 0 = ring })
limit_line (node, limit.Instance ring) = line.InstanceLimit (record { 0 = node }) (record { 0 = ring })
limit_line (node, limit.Attempt) = line.AttemptLimit (record { 0 = node })

abbrev pub limits : List (List ℕ × Reader Limit)
limits = (codes "ballot", shown limit.Ballot id_at) ∷ (codes "instance", shown limit.Instance id_at) ∷ (codes "attempt", nothing limit.Attempt) ∷ []

unfoldable pub limit_of : Reader Limit
limit_of = by_key kind.Word limits

unfoldable pub limit_at : Reader Line
limit_at = shown limit_line (both id_at limit_of)

abbrev pub causes : List (List ℕ × Reader Cause)
causes = (codes "crash", nothing cause.Crash) ∷ (codes "disk", nothing cause.Disk) ∷ (codes "full", nothing cause.Full) ∷ []

unfoldable pub cause_at : Reader Cause
cause_at = by_key kind.Word causes

unfoldable pub down_at : Reader Line
down_at = shown (λ x. line.Down (record { 0 = x.0 }) x.1) (both id_at cause_at)

unfoldable pub up_at : Reader Line
up_at = shown (λ x. line.Up (record { 0 = x.0 }) x.1) (both id_at count_at)

-- `-`, or a tuple and bytes
unfoldable pub state_of : Reader (Option ShownState)
state_of = unless (codes "-") None (shown (λ x. Some (record { tuple = x.0; bytes = x.1 })) (both tuple_at hex_at))

unfoldable pub state_at : Reader Line
state_at = shown (λ x. line.State (record { 0 = x.0 }) x.1) (both id_at state_of)

-- `none`, or a sender, a receiver and bytes
unfoldable pub frame_of : Reader (Option ShownFrame)
frame_of = unless (codes "none") None (shown (λ x. Some (record { from = x.0; to = x.1.0; bytes = x.1.1 })) (both party_at (both party_at hex_at)))

unfoldable pub frame_at : Reader Line
frame_at = shown (λ x. line.Frame x.0 x.1) (both count_at frame_of)

unfoldable pub last_at : Reader Line
last_at = shown line.End count_at

-- the kinds of lines by their first word
unfoldable pub kinds_of_nodes : List (List ℕ × Reader Line)
kinds_of_nodes = (codes "limit", limit_at) ∷ (codes "down", down_at) ∷ (codes "up", up_at) ∷ (codes "state", state_at) ∷ (codes "frame", frame_at) ∷ []

unfoldable pub kinds_of_recovery : List (List ℕ × Reader Line)
kinds_of_recovery =
    (codes "begin", begin_at)
    ∷ (codes "chose", chose_at)
    ∷ (codes "restore", restore_at)
    ∷ (codes "saved", saved_at)
    ∷ (codes "trim", trim_at)
    ∷ (codes "refuse", refuse_at)
    ∷ kinds_of_nodes

abbrev pub kinds : List (List ℕ × Reader Line)
kinds =
    (codes "learn", learn_at)
    ∷ (codes "deliver", deliver_at)
    ∷ (codes "reply", reply_at)
    ∷ (codes "answer", answer_at)
    ∷ (codes "busy", busy_at)
    ∷ (codes "end", last_at)
    ∷ kinds_of_recovery

unfoldable pub kind_at : Reader Line
kind_at = by_key kind.Word kinds

-- the line of these words, all of the words
abbrev pub line_in : List (List ℕ) → Result Line LineKind
line_in words = do
  line ← kind_at words
  end ← end_at line.1
  Ok line.0

-- ---- bytes

-- a byte more at the front
abbrev pub onto_text : ℕ → List ℕ × Bool → List ℕ × Bool
onto_text b text = (b ∷ text.0, text.1)

-- the bytes without a line feed at their end, and whether one stood there
abbrev pub text_in : List ℕ → List ℕ × Bool
text_in [] = ([], false)
text_in (b ∷ []) = if b == 10 then ([], true) else (b ∷ [], false)
text_in (b ∷ c ∷ rest) = onto_text b (text_in (c ∷ rest))

-- the line of a text, and whether a line feed ends it
abbrev pub line_of_text : List ℕ × Bool → Result Line LineKind
line_of_text text = do
  line ← line_in (words_of text.0)
  if text.1 then Ok line else Err kind.Cut

-- the line that the bytes spell, all of the bytes, or the first fault from the left
abbrev pub line_at : List ℕ → Result Line LineKind
line_at bytes = line_of_text (text_in bytes)

-- the line that the bytes spell, where they spell one
abbrev pub line_of : List ℕ → Option Line
line_of bytes = result_ok (line_at bytes)

-- What reading a line of this number answers: the line, or its first fault, unless memory ran out.
abbrev pub Judges : Result Line LineKind → ℕ → Result Line LineFault → Type 0
Judges read number (Ok line) = read ≡ Ok line
Judges read number (Err fault) = (fault.line ≡ number) × Fails read fault.kind
