-- Reading words from the left: what is read and the words behind it, or the first fault.
use Rattle.std.specs.Prelude.{ℕ, ◌≡◌, ◌⊎◌, if◌then◌else◌, List, [], ◌∷◌, Option, Result, Ok, Err}
use Rattle.mrp_types.specs.Reading as reading
use Rattle.std.specs.Option.{ok_or}
use Rattle.mrp_types.specs.Reading.{◌>>=◌}
use Rattle.text_lines.specs.Reading.{word_or, is_first}
use Rattle.text_lines.specs.Words.{Reader as AnyReader, one as any_one}
use Rattle.transcript.specs.declared.fault.LineKind.{LineKind}
use Rattle.transcript.specs.declared.fault.LineKind.TheVariants.{Word, Left, Memory}

-- what is read of words, and the words behind it
abbrev pub Reader : Type 0 → Type 0
Reader V = AnyReader LineKind V

-- What a call read, seen by view, and what is left, are what reading gives.
abbrev pub Gives : {X Y W : Type 0} → (X → Y) → Result (Y × W) LineKind → Result X LineKind → W → Type 0
Gives view read result left = reading.Gives view read result left

-- The same, unless memory ran out.
abbrev pub Fails : {Y : Type 0} → Result Y LineKind → LineKind → Type 0
Fails read fault = reading.Fails Memory read fault

abbrev pub Reads : {X Y W : Type 0} → (X → Y) → Result (Y × W) LineKind → Result X LineKind → W → Type 0
Reads view read result left = reading.Reads Memory view read result left

-- the same of a call that leaves nothing
abbrev pub Says : {X Y : Type 0} → (X → Y) → Result Y LineKind → Result X LineKind → Type 0
Says view read result = reading.Says Memory view read result

-- the next word
abbrev pub word_at : Reader (List ℕ)
word_at words = word_or Word words

-- what the next word says, or this fault
abbrev pub one : {V : Type 0} → LineKind → (List ℕ → Option V) → Reader V
one kind says words = any_one Word (λ word. ok_or (says word) kind) words

-- one word stands for a value; any other is read on
abbrev pub unless : {A : Type 0} → List ℕ → A → Reader A → Reader A
unless key x other words = if is_first key words then (word_at words >>= λ word. Ok (x, word.1)) else other words

-- no word is left
abbrev pub end_at : List (List ℕ) → Result (Unit {0}) LineKind
end_at [] = Ok tt
end_at (word ∷ words) = Err Left
