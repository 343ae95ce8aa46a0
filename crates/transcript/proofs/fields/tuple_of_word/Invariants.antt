use Rattle.std.proofs.Common.{◌≡◌, ◌++◌, ◌+◌, ℕ, List, length}
use Rattle.std.specs.Option.{option_map}
use Rattle.text_lines.specs.Split.{pieces_of}
use Rattle.transcript.specs.Fields.{numbers_of}
use Rattle.transcript.proofs.fields.tuple_of_word.Given as goal

-- the numbers so far and those of the pieces left are all of them
abbrev pub invariant-loop-turn : goal.invariant-loop-turn
invariant-loop-turn l = record {
  rest : option_map (λ (ns : List ℕ). l.tuple ++ ns) (numbers_of l.pieces) ≡ numbers_of (pieces_of 44 l.word);
  count : l._turn + length l.pieces ≡ length (pieces_of 44 l.word);
}
