-- The first worked frame, and faults of it, by computing.
use Rattle.std.proofs.Common.{◌≡◌, refl, ℕ, List, [], ◌∷◌, ◌++◌, Err, take}
use Rattle.frames.specs.declared.fault.FrameFault.TheVariants.{Short, BadVersion, BadField, Left, BadKind}
use Rattle.command_codec.specs.Reader.{bytes_at, number_at, within, length_at, string_that, string_at}
use Rattle.command_codec.specs.Parts.{value_at}
use Rattle.command_codec.specs.Grammar.{batch_at, entry_at}
use Rattle.frames.specs.Grammar.{read_of, kind_at, frame_of_kind, party_at, body_of_kind, decide_at}

abbrev batch : List ℕ
batch = 1 ∷ 0 ∷ 1 ∷ 0 ∷ 0 ∷ 0 ∷ 0 ∷ 0 ∷ 0 ∷ 0 ∷ 0 ∷ 1 ∷ 0 ∷ 6 ∷ 1 ∷ 0 ∷ 0 ∷ 2 ∷ 0x68 ∷ 0x69 ∷ []

abbrev header : List ℕ
header = 0x4d ∷ 0x52 ∷ 2 ∷ 6 ∷ 0 ∷ 0 ∷ []

abbrev decided : ℕ → List ℕ
decided hi = 0 ∷ 0 ∷ 0 ∷ 0 ∷ 0 ∷ 0 ∷ 0 ∷ 0 ∷ 0 ∷ 0 ∷ 0 ∷ 0 ∷ 0 ∷ 0 ∷ 0 ∷ 0 ∷ hi ∷ 1 ∷ 0 ∷ []

no_bytes : read_of ([]) ≡ Err (Short 0)
unfolding kind_at bytes_at
no_bytes = refl

older_version : read_of (0x4d ∷ 0x52 ∷ 1 ∷ []) ≡ Err (BadVersion 1)
unfolding kind_at bytes_at
older_version = refl

no_kind : read_of (0x4d ∷ 0x52 ∷ 2 ∷ 20 ∷ []) ≡ Err (BadKind 20)
unfolding kind_at bytes_at
no_kind = refl

empty_range : read_of (header ++ decided 0 ++ 20 ∷ batch) ≡ Err (BadField 15)
unfolding kind_at bytes_at frame_of_kind party_at body_of_kind decide_at number_at within
empty_range = refl

one_byte_less : read_of (header ++ decided 1 ++ 20 ∷ take 19 batch) ≡ Err (Short 26)
unfolding kind_at bytes_at frame_of_kind party_at body_of_kind decide_at number_at within length_at value_at string_that
one_byte_less = refl

one_byte_more : read_of (header ++ decided 1 ++ 20 ∷ batch ++ 0 ∷ []) ≡ Err (Left 46)
unfolding kind_at bytes_at frame_of_kind party_at body_of_kind decide_at number_at within length_at value_at string_that batch_at entry_at string_at
one_byte_more = refl
