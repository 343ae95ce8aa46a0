-- A line is read as it is spelled, and what is read is spelled so.
use Rattle.std.proofs.Common.{arith, lit<, ◌≡◌, ◌<◌, ℕ, List, [], ◌∷◌, ◌++◌, Option, Some, None, refl, sym, ap, ◌∙◌, subst, ◌==◌, if◌then◌else◌, Bool, true, false, codes, Ok, Err, append-nil}
use Rattle.std.specs.Prelude.{Result}
use Rattle.std.specs.List.{AllByRecursion}
use Rattle.std.specs.Result.{result_ok}
use Rattle.std.specs.Fmt.{decimal}
use Rattle.hex.specs.Hex.{encode_lower}
use Rattle.mrp_types.proofs.TestLemmas.{some_is}
use Rattle.text_lines.specs.Split.{words_of}
use Rattle.text_lines.specs.Text.{joined}
use Rattle.mrp_types.specs.Reading.{◌>>=◌, both, shown}
use Rattle.text_lines.proofs.Inverse.{bound}
use Rattle.text_lines.proofs.Laws.{Lacks, words_of_joined, joined_words_of}
use Rattle.transcript.specs.declared.fault.LineKind.{LineKind}
use Rattle.transcript.specs.declared.fault.LineKind.TheVariants as kind
use Rattle.transcript.specs.declared.line.Line.{Line}
use Rattle.transcript.specs.declared.line.Line.TheVariants.{Learn, Deliver, Reply, Answer, Busy, Begin, Chose, Restore, Saved, Trim, Refuse, BallotLimit, InstanceLimit, AttemptLimit, Down, Up, State, Frame, End}
use Rattle.transcript.specs.declared.line.Cause.{Cause}
use Rattle.transcript.specs.declared.line.Cause.TheVariants.{Crash, Disk, Full}
use Rattle.transcript.specs.declared.kinds.Limit.{Limit}
use Rattle.transcript.specs.declared.kinds.Limit.TheVariants.{Ballot as OfBallot, Instance as OfInstance, Attempt as OfAttempt}
use Rattle.transcript.specs.declared.line.ShownState.{ShownState}
use Rattle.transcript.specs.declared.line.ShownFrame.{ShownFrame}
use Rattle.transcript.specs.Spelling.{value_text, tuple_text, party_text, cause_text, state_words, frame_words, line_words, line_bytes, IsId, IsCount, IsValue, AreBytes, AreInstances, IsParty, IsShownState, IsShownFrame, IsLine}
use Rattle.transcript.specs.Words.{Reader, end_at}
use Rattle.transcript.specs.Reading.{id_at, count_at, tuple_at, hex_at, value_at, party_at, learn_at, deliver_at, reply_at, answer_at, busy_at, begin_at, chose_at, restore_at, saved_at, trim_at, refuse_at, limit_line, limits, limit_of, limit_at, causes, cause_at, down_at, up_at, state_of, state_at, frame_of, frame_at, last_at, kinds_of_nodes, kinds_of_recovery, kinds, kind_at, line_in, onto_text, text_in, line_at, line_of}
use Rattle.transcript.proofs.FieldLaws.{id, count, tuple, tuple_is_no_dash, party, party_is_no_none, bytes, value}
use Rattle.text_lines.proofs.WordLaws.{Words, Took, Entry, AreEntries, alone, spell_both, IsBoth, two, viewed_was, given_was, keyed_was, none_low, lacks_low}
use Rattle.transcript.proofs.WordLaws.{done, done_is, one_words, unless_was}

-- ---- fields

ids : Words id_at (alone decimal) IsId
ids = one_words _ _ _ id kind.Number

counts : Words count_at (alone decimal) IsCount
counts = one_words _ _ _ count kind.Number

tuples : Words tuple_at (alone tuple_text) AreInstances
tuples = one_words _ _ _ tuple kind.Number

hexes : Words hex_at (alone encode_lower) AreBytes
hexes = one_words _ _ _ bytes kind.Hex

values : Words value_at (alone value_text) IsValue
values = one_words _ _ _ value kind.Hex

parties : Words party_at (alone party_text) IsParty
parties = one_words _ _ _ party kind.Number

-- ---- parts of lines

abbrev pub limit_words : Limit → List (List ℕ)
limit_words (OfBallot ring) = codes "ballot" ∷ decimal ring ∷ []
limit_words (OfInstance ring) = codes "instance" ∷ decimal ring ∷ []
limit_words OfAttempt = codes "attempt" ∷ []

abbrev pub IsLimit : Limit → Type 0
IsLimit (OfBallot ring) = IsId ring
IsLimit (OfInstance ring) = IsId ring
IsLimit OfAttempt = Unit {0}

limit_read : (limit : Limit) (rest : List (List ℕ)) → IsLimit limit → limit_of (limit_words limit ++ rest) ≡ Ok (limit, rest)
unfolding limit_of
limit_read (OfBallot ring) rest is = rw (ids.read ring rest is) refl
limit_read (OfInstance ring) rest is = rw (ids.read ring rest is) refl
limit_read OfAttempt rest is = refl

limit_entries : AreEntries limit_words IsLimit limits
limit_entries = (
  viewed_was (codes "ballot" ∷ []) id_at (alone decimal) IsId OfBallot limit_words IsLimit ids (record { spelled = λ n. refl; is = λ n is. is }),
  (
    viewed_was (codes "instance" ∷ []) id_at (alone decimal) IsId OfInstance limit_words IsLimit ids (record { spelled = λ n. refl; is = λ n is. is }),
    (given_was (codes "attempt" ∷ []) OfAttempt limit_words IsLimit refl tt, tt),
  ),
)

limit_lacks : (byte : ℕ) → byte < 44 → (limit : Limit) → IsLimit limit → AllByRecursion (Lacks byte) (limit_words limit)
unfolding none_low
limit_lacks byte low (OfBallot ring) is = (lacks_low byte low (codes "ballot") refl, ids.lacks byte low ring is)
limit_lacks byte low (OfInstance ring) is = (lacks_low byte low (codes "instance") refl, ids.lacks byte low ring is)
limit_lacks byte low OfAttempt is = (lacks_low byte low (codes "attempt") refl, tt)

limit_was : (words : List (List ℕ)) (x : Limit × List (List ℕ)) → limit_of words ≡ Ok x → Took limit_words IsLimit words x
unfolding limit_of
limit_was words x h = keyed_was limit_words IsLimit kind.Word limits limit_entries words x h

limit_law : Words limit_of limit_words IsLimit
limit_law = record { read = limit_read; was = limit_was; lacks = limit_lacks }

abbrev pub IsCause : Cause → Type 0
IsCause cause = Unit {0}

abbrev pub cause_words : Cause → List (List ℕ)
cause_words cause = cause_text cause ∷ []

cause_read : (cause : Cause) (rest : List (List ℕ)) → IsCause cause → cause_at (cause_words cause ++ rest) ≡ Ok (cause, rest)
unfolding cause_at
cause_read Crash rest is = refl
cause_read Disk rest is = refl
cause_read Full rest is = refl

cause_entries : AreEntries cause_words IsCause causes
cause_entries = (
  given_was (codes "crash" ∷ []) Crash cause_words IsCause refl tt,
  (given_was (codes "disk" ∷ []) Disk cause_words IsCause refl tt, (given_was (codes "full" ∷ []) Full cause_words IsCause refl tt, tt)),
)

cause_lacks : (byte : ℕ) → byte < 44 → (cause : Cause) → IsCause cause → AllByRecursion (Lacks byte) (cause_words cause)
unfolding none_low
cause_lacks byte low Crash is = (lacks_low byte low (codes "crash") refl, tt)
cause_lacks byte low Disk is = (lacks_low byte low (codes "disk") refl, tt)
cause_lacks byte low Full is = (lacks_low byte low (codes "full") refl, tt)

cause_was : (words : List (List ℕ)) (x : Cause × List (List ℕ)) → cause_at words ≡ Ok x → Took cause_words IsCause words x
unfolding cause_at
cause_was words x h = keyed_was cause_words IsCause kind.Word causes cause_entries words x h

cause_law : Words cause_at cause_words IsCause
cause_law = record { read = cause_read; was = cause_was; lacks = cause_lacks }

state_read : (shown : Option ShownState) (rest : List (List ℕ)) → IsShownState shown → state_of (state_words shown ++ rest) ≡ Ok (shown, rest)
unfolding state_of
state_read None rest is = refl
state_read (Some shown) rest is = rw (tuple_is_no_dash shown.tuple is.0, tuple.read shown.tuple is.0, bytes.read shown.bytes is.1) refl

state_was : (words : List (List ℕ)) (x : Option ShownState × List (List ℕ)) → state_of words ≡ Ok x → Took state_words IsShownState words x
unfolding state_of
state_was words x h = unless_was state_words IsShownState (codes "-") None _
    (given_was (codes "-" ∷ []) None state_words IsShownState refl tt)
    (viewed_was [] (both tuple_at hex_at) _ _ (λ y. Some (record { tuple = y.0; bytes = y.1 })) state_words IsShownState (two tuples hexes) (record { spelled = λ y. refl; is = λ y is. is }))
    words x h

state_lacks : (byte : ℕ) → byte < 44 → (shown : Option ShownState) → IsShownState shown → AllByRecursion (Lacks byte) (state_words shown)
unfolding none_low
state_lacks byte low None is = (lacks_low byte low (codes "-") refl, tt)
state_lacks byte low (Some shown) is = (tuple.lacks byte low shown.tuple is.0, (bytes.lacks byte low shown.bytes is.1, tt))

state_law : Words state_of state_words IsShownState
state_law = record { read = state_read; was = state_was; lacks = state_lacks }

frame_read : (shown : Option ShownFrame) (rest : List (List ℕ)) → IsShownFrame shown → frame_of (frame_words shown ++ rest) ≡ Ok (shown, rest)
unfolding frame_of
frame_read None rest is = refl
frame_read (Some shown) rest is = rw (party_is_no_none shown.from is.0, party.read shown.from is.0, party.read shown.to is.1.0, bytes.read shown.bytes is.1.1) refl

frame_was : (words : List (List ℕ)) (x : Option ShownFrame × List (List ℕ)) → frame_of words ≡ Ok x → Took frame_words IsShownFrame words x
unfolding frame_of
frame_was words x h = unless_was frame_words IsShownFrame (codes "none") None _
    (given_was (codes "none" ∷ []) None frame_words IsShownFrame refl tt)
    (viewed_was [] (both party_at (both party_at hex_at)) _ _ (λ y. Some (record { from = y.0; to = y.1.0; bytes = y.1.1 })) frame_words IsShownFrame (two parties (two parties hexes))
    (record { spelled = λ y. refl; is = λ y is. is }))
    words x h

frame_lacks : (byte : ℕ) → byte < 44 → (shown : Option ShownFrame) → IsShownFrame shown → AllByRecursion (Lacks byte) (frame_words shown)
unfolding none_low
frame_lacks byte low None is = (lacks_low byte low (codes "none") refl, tt)
frame_lacks byte low (Some shown) is = (party.lacks byte low shown.from is.0, (party.lacks byte low shown.to is.1.0, (bytes.lacks byte low shown.bytes is.1.1, tt)))

frame_law : Words frame_of frame_words IsShownFrame
frame_law = record { read = frame_read; was = frame_was; lacks = frame_lacks }

-- ---- the kinds

read_lines : {A : Type 0} (fields : Reader A) (view : A → Line) (spell : A → List (List ℕ)) (Is : A → Type 0) → Words fields spell Is → (a : A) → Is a → shown view fields (spell a) ≡ Ok (view a, [])
read_lines fields view spell Is law a is =
    let read : fields (spell a) ≡ Ok (a, []) = sym (ap fields (append-nil (spell a))) ∙ law.read a [] is in
    rw read refl

pub kind_read : (line : Line) → IsLine line → kind_at (line_words line) ≡ Ok (line, [])
unfolding kind_at kinds_of_recovery kinds_of_nodes learn_at deliver_at reply_at answer_at busy_at begin_at chose_at restore_at saved_at trim_at refuse_at limit_at down_at up_at state_at frame_at last_at
kind_read (Learn node ring lo hi decided) is = read_lines _ _ _ _ (two ids (two ids (two counts (two counts values)))) (node.0, (ring.0, (lo, (hi, decided)))) is
kind_read (Deliver node ring inst) is = read_lines _ _ _ _ (two ids (two ids counts)) (node.0, (ring.0, inst)) is
kind_read (Reply node ring inst index client seq reply) is =
    read_lines _ _ _ _ (two ids (two ids (two counts (two counts (two ids (two counts hexes)))))) (node.0, (ring.0, (inst, (index, (client.0, (seq, reply)))))) is
kind_read (Answer client seq reply) is = read_lines _ _ _ _ (two ids (two counts hexes)) (client.0, (seq, reply)) is
kind_read (Busy client seq) is = read_lines _ _ _ _ (two ids counts) (client.0, seq) is
kind_read (Begin node epoch attempt at) is = read_lines _ _ _ _ (two ids (two counts (two counts tuples))) (node.0, (epoch, (attempt, at))) is
kind_read (Chose node epoch attempt at from) is = read_lines _ _ _ _ (two ids (two counts (two counts (two tuples ids)))) (node.0, (epoch, (attempt, (at, from.0)))) is
kind_read (Restore node at) is = read_lines _ _ _ _ (two ids tuples) (node.0, at) is
kind_read (Saved node at) is = read_lines _ _ _ _ (two ids tuples) (node.0, at) is
kind_read (Trim node ring inst) is = read_lines _ _ _ _ (two ids (two ids counts)) (node.0, (ring.0, inst)) is
kind_read (Refuse node epoch attempt answered needed) is =
    read_lines _ _ _ _ (two ids (two counts (two counts (two counts counts)))) (node.0, (epoch, (attempt, (answered, needed)))) is
kind_read (BallotLimit node ring) is = read_lines _ _ _ _ (two ids limit_law) (node.0, OfBallot ring.0) is
kind_read (InstanceLimit node ring) is = read_lines _ _ _ _ (two ids limit_law) (node.0, OfInstance ring.0) is
kind_read (AttemptLimit node) is = read_lines _ _ _ _ (two ids limit_law) (node.0, OfAttempt) is
kind_read (Down node cause) is = read_lines _ _ _ _ (two ids cause_law) (node.0, cause) is
kind_read (Up node epoch) is = read_lines _ _ _ _ (two ids counts) (node.0, epoch) is
kind_read (State node found) is = read_lines _ _ _ _ (two ids state_law) (node.0, found) is
kind_read (Frame number found) is = read_lines _ _ _ _ (two counts frame_law) (number, found) is
kind_read (End events) is = read_lines _ _ _ _ counts events is

-- what is read behind a key is spelled with it
entry : {A : Type 0} (key : List ℕ) {fields : Reader A} {spell : A → List (List ℕ)} {Is : A → Type 0} (view : A → Line) → Words fields spell Is
    → ((a : A) → key ∷ spell a ≡ line_words (view a)) → ((a : A) → Is a → IsLine (view a)) → Entry line_words IsLine (key ∷ []) (shown view fields)
entry key {fields = fields} {spell = spell} {Is = Is} view law spelled is =
    viewed_was (key ∷ []) fields spell Is view line_words IsLine law (record { spelled = spelled; is = is })

limits_spelled : (a : ℕ × Limit) → codes "limit" ∷ spell_both (alone decimal) limit_words a ≡ line_words (limit_line a)
limits_spelled (node, OfBallot ring) = refl
limits_spelled (node, OfInstance ring) = refl
limits_spelled (node, OfAttempt) = refl

limits_are : (a : ℕ × Limit) → IsBoth IsId IsLimit a → IsLine (limit_line a)
limits_are (node, OfBallot ring) is = is
limits_are (node, OfInstance ring) is = is
limits_are (node, OfAttempt) is = is

node_entries : AreEntries line_words IsLine kinds_of_nodes
unfolding kinds_of_nodes limit_at down_at up_at state_at frame_at
node_entries = (
  entry (codes "limit") limit_line (two ids limit_law) limits_spelled limits_are,
  (
    entry (codes "down") _ (two ids cause_law) (λ a. refl) (λ a is. is),
    (
      entry (codes "up") _ (two ids counts) (λ a. refl) (λ a is. is),
      (
        entry (codes "state") _ (two ids state_law) (λ a. refl) (λ a is. is),
        (
          entry (codes "frame") _ (two counts frame_law) (λ a. refl) (λ a is. is),
          tt,
        ),
      ),
    ),
  ),
)

recovery_entries : AreEntries line_words IsLine kinds_of_recovery
unfolding kinds_of_recovery begin_at chose_at restore_at saved_at trim_at refuse_at
recovery_entries = (
  entry (codes "begin") _ (two ids (two counts (two counts tuples))) (λ a. refl) (λ a is. is),
  (
    entry (codes "chose") _ (two ids (two counts (two counts (two tuples ids)))) (λ a. refl) (λ a is. is),
    (
      entry (codes "restore") _ (two ids tuples) (λ a. refl) (λ a is. is),
      (
        entry (codes "saved") _ (two ids tuples) (λ a. refl) (λ a is. is),
        (
          entry (codes "trim") _ (two ids (two ids counts)) (λ a. refl) (λ a is. is),
          (
            entry (codes "refuse") _ (two ids (two counts (two counts (two counts counts)))) (λ a. refl) (λ a is. is),
            node_entries,
          ),
        ),
      ),
    ),
  ),
)

entries : AreEntries line_words IsLine kinds
unfolding learn_at deliver_at reply_at answer_at busy_at last_at
entries = (
  entry (codes "learn") _ (two ids (two ids (two counts (two counts values)))) (λ a. refl) (λ a is. is),
  (
    entry (codes "deliver") _ (two ids (two ids counts)) (λ a. refl) (λ a is. is),
    (
      entry (codes "reply") _ (two ids (two ids (two counts (two counts (two ids (two counts hexes)))))) (λ a. refl) (λ a is. is),
      (
        entry (codes "answer") _ (two ids (two counts hexes)) (λ a. refl) (λ a is. is),
        (
          entry (codes "busy") _ (two ids counts) (λ a. refl) (λ a is. is),
          (
            entry (codes "end") _ counts (λ a. refl) (λ a is. is),
            recovery_entries,
          ),
        ),
      ),
    ),
  ),
)

kind_was : (words : List (List ℕ)) (x : Line × List (List ℕ)) → kind_at words ≡ Ok x → Took line_words IsLine words x
unfolding kind_at
kind_was words x h = keyed_was line_words IsLine kind.Word kinds entries words x h

pub lacks : (byte : ℕ) → byte < 44 → (line : Line) → IsLine line → AllByRecursion (Lacks byte) (line_words line)
unfolding none_low
lacks byte low (Learn node ring lo hi decided) is = (lacks_low byte low (codes "learn") refl, (two ids (two ids (two counts (two counts values)))).lacks byte low (node.0, (ring.0, (lo, (hi, decided)))) is)
lacks byte low (Deliver node ring inst) is = (lacks_low byte low (codes "deliver") refl, (two ids (two ids counts)).lacks byte low (node.0, (ring.0, inst)) is)
lacks byte low (Reply node ring inst index client seq reply) is =
    (lacks_low byte low (codes "reply") refl, (two ids (two ids (two counts (two counts (two ids (two counts hexes)))))).lacks byte low (node.0, (ring.0, (inst, (index, (client.0, (seq, reply)))))) is)
lacks byte low (Answer client seq reply) is = (lacks_low byte low (codes "answer") refl, (two ids (two counts hexes)).lacks byte low (client.0, (seq, reply)) is)
lacks byte low (Busy client seq) is = (lacks_low byte low (codes "busy") refl, (two ids counts).lacks byte low (client.0, seq) is)
lacks byte low (Begin node epoch attempt at) is = (lacks_low byte low (codes "begin") refl, (two ids (two counts (two counts tuples))).lacks byte low (node.0, (epoch, (attempt, at))) is)
lacks byte low (Chose node epoch attempt at from) is = (lacks_low byte low (codes "chose") refl, (two ids (two counts (two counts (two tuples ids)))).lacks byte low (node.0, (epoch, (attempt, (at, from.0)))) is)
lacks byte low (Restore node at) is = (lacks_low byte low (codes "restore") refl, (two ids tuples).lacks byte low (node.0, at) is)
lacks byte low (Saved node at) is = (lacks_low byte low (codes "saved") refl, (two ids tuples).lacks byte low (node.0, at) is)
lacks byte low (Trim node ring inst) is = (lacks_low byte low (codes "trim") refl, (two ids (two ids counts)).lacks byte low (node.0, (ring.0, inst)) is)
lacks byte low (Refuse node epoch attempt answered needed) is =
    (lacks_low byte low (codes "refuse") refl, (two ids (two counts (two counts (two counts counts)))).lacks byte low (node.0, (epoch, (attempt, (answered, needed)))) is)
lacks byte low (BallotLimit node ring) is = (lacks_low byte low (codes "limit") refl, (two ids limit_law).lacks byte low (node.0, OfBallot ring.0) is)
lacks byte low (InstanceLimit node ring) is = (lacks_low byte low (codes "limit") refl, (two ids limit_law).lacks byte low (node.0, OfInstance ring.0) is)
lacks byte low (AttemptLimit node) is = (lacks_low byte low (codes "limit") refl, (two ids limit_law).lacks byte low (node.0, OfAttempt) is)
lacks byte low (Down node cause) is = (lacks_low byte low (codes "down") refl, (two ids cause_law).lacks byte low (node.0, cause) is)
lacks byte low (Up node epoch) is = (lacks_low byte low (codes "up") refl, (two ids counts).lacks byte low (node.0, epoch) is)
lacks byte low (State node found) is = (lacks_low byte low (codes "state") refl, (two ids state_law).lacks byte low (node.0, found) is)
lacks byte low (Frame number found) is = (lacks_low byte low (codes "frame") refl, (two counts frame_law).lacks byte low (number, found) is)
lacks byte low (End events) is = (lacks_low byte low (codes "end") refl, counts.lacks byte low events is)

-- ---- all words of a line

never_none : (line : Line) → IsLine line → line_words line ≡ [] → ⊥
unfolding kind_at
never_none line is none =
    let read = sym (kind_read line is) ∙ ap kind_at none in
    absurd (wrong read)
  where
    wrong : done {A = Line × List (List ℕ)} (line, []) ≡ Err kind.Word → ⊥
    wrong h = absurd cc

spelled_words : (line : Line) → IsLine line → words_of (joined (line_words line)) ≡ line_words line
spelled_words line is = by (line_words line) refl (lacks 32 (lit< tt) line is)
  where
    by : (words : List (List ℕ)) → line_words line ≡ words → AllByRecursion (Lacks 32) words → words_of (joined words) ≡ words
    by [] e all = absurd (never_none line is e)
    by (word ∷ words) e all = words_of_joined word words all

line_read : (line : Line) → IsLine line → line_in (line_words line) ≡ Ok line
line_read line is = rw (kind_read line is) refl

end_was : (words : List (List ℕ)) (x : Unit {0}) → end_at words ≡ Ok x → words ≡ []
end_was [] x h = refl
end_was (word ∷ words) x h = absurd cc

-- the words were those of the line, and the line may be
record Was (words : List (List ℕ)) (line : Line) : Type 0 where
  pub spelled : words ≡ line_words line
  pub is : IsLine line

line_was : (words : List (List ℕ)) (line : Line) → line_in words ≡ Ok line → Was words line
line_was words line h =
    let step = bound (kind_at words) (λ x. end_at x.1 >>= λ e. done x.0) line h in
    let x = step.0 in
    let ended = bound (end_at x.1) (λ e. done x.0) line step.2 in
    let took = kind_was words x step.1 in
    subst (λ (l : Line). Was words l) (done_is x.0 line ended.2) (record {
      spelled = took.spelled ∙ ap (λ (ws : List (List ℕ)). line_words x.0 ++ ws) (end_was x.1 ended.0 ended.1) ∙ append-nil (line_words x.0);
      is = took.is;
    })

-- ---- bytes

pub text_of_feed : (text : List ℕ) → text_in (text ++ 10 ∷ []) ≡ (text, true)
text_of_feed [] = refl
text_of_feed (b ∷ []) = refl
text_of_feed (b ∷ c ∷ rest) = ap (onto_text b) (text_of_feed (c ∷ rest))

pub text_of_other : (text : List ℕ) (last : ℕ) → (last ≡ 10 → ⊥) → text_in (text ++ last ∷ []) ≡ (text ++ last ∷ [], false)
text_of_other [] last apart = by (last == 10) refl
  where
    by : (t : Bool) → (last == 10) ≡ t → ◌≡◌ {A = List ℕ × Bool} (if t then ([], true) else (last ∷ [], false)) (last ∷ [], false)
    by true is = absurd (apart (grind (arith, is)))
    by false is = refl
text_of_other (b ∷ []) last apart = ap (onto_text b) (text_of_other [] last apart)
text_of_other (b ∷ c ∷ rest) last apart = ap (onto_text b) (text_of_other (c ∷ rest) last apart)

-- bytes are their text, and a line feed where one stood
abbrev pub whole_text : List ℕ × Bool → List ℕ
whole_text text = text.0 ++ (if text.1 then 10 ∷ [] else [])

feed_test : (b : ℕ) (feed : Bool) → (b == 10) ≡ feed → whole_text (if feed then ([], true) else (b ∷ [], false)) ≡ b ∷ []
feed_test b true is =
    let same : b ≡ 10 = grind arith in
    ap (λ (c : ℕ). c ∷ []) (sym same)
feed_test b false is = refl

feed_of_text : (bytes : List ℕ) → whole_text (text_in bytes) ≡ bytes
feed_of_text [] = refl
feed_of_text (b ∷ []) = feed_test b (b == 10) refl
feed_of_text (b ∷ c ∷ rest) = ap (λ (l : List ℕ). b ∷ l) (feed_of_text (c ∷ rest))

pub line_at_bytes : (line : Line) → IsLine line → line_at (line_bytes line) ≡ Ok line
line_at_bytes line is = rw (text_of_feed (joined (line_words line)), spelled_words line is, line_read line is) refl

-- the bytes were those of the line, and the line may be
pub record BytesWere (bytes : List ℕ) (line : Line) : Type 0 where
  pub spelled : bytes ≡ line_bytes line
  pub is : IsLine line

by_feed : (feed : Bool) (found line : Line) → (if feed then done found else Err kind.Cut) ≡ done line → (feed ≡ true) × (found ≡ line)
by_feed true found line h = (refl, done_is found line h)
by_feed false found line h = absurd cc

pub line_at_was : (bytes : List ℕ) (line : Line) → line_at bytes ≡ Ok line → BytesWere bytes line
line_at_was bytes line h =
    let text = text_in bytes in
    let one = bound (line_in (words_of text.0)) (λ found. if text.1 then done found else Err kind.Cut) line h in
    let feed = by_feed text.1 one.0 line one.2 in
    let was = line_was (words_of text.0) one.0 one.1 in
    let spelled : text.0 ≡ joined (line_words one.0) = sym (joined_words_of text.0) ∙ ap joined was.spelled in
    subst (λ (l : Line). BytesWere bytes l) feed.1 (record {
      spelled = sym (feed_of_text bytes) ∙ ap (λ (t : Bool). text.0 ++ (if t then 10 ∷ [] else [])) feed.0 ∙ ap (λ (l : List ℕ). l ++ 10 ∷ []) spelled;
      is = was.is;
    })

-- ---- where it doesn't matter which fault it is

result_was : (read : Result Line LineKind) (line : Line) → result_ok read ≡ Some line → read ≡ Ok line
result_was (Ok found) line h = cc
result_was (Err fault) line h = absurd (grind arith)

pub line_of_bytes : (line : Line) → IsLine line → line_of (line_bytes line) ≡ Some line
line_of_bytes line is = ap result_ok (line_at_bytes line is)

pub line_of_was : (bytes : List ℕ) (line : Line) → line_of bytes ≡ Some line → BytesWere bytes line
line_of_was bytes line h = line_at_was bytes line (result_was (line_at bytes) line h)

pub one_line : (line other : Line) → IsLine line → IsLine other → line_bytes line ≡ line_bytes other → line ≡ other
one_line line other is others same =
    some_is line other (sym (line_of_bytes line is) ∙ ap line_of same ∙ line_of_bytes other others)
