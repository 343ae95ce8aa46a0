-- The fields that commands, batches and frames are made of. Numbers are big-endian.
use Rattle.std.specs.Prelude.{ℕ, List, ◌++◌, length}
use Rattle.std.specs.Int.{w16, w32, w64, to_be_bytes}

unfoldable pub u16_bytes : ℕ → List ℕ
u16_bytes n = to_be_bytes w16 n

unfoldable pub u32_bytes : ℕ → List ℕ
u32_bytes n = to_be_bytes w32 n

unfoldable pub u64_bytes : ℕ → List ℕ
u64_bytes n = to_be_bytes w64 n

-- a length of two bytes, and that many bytes
abbrev pub string16 : List ℕ → List ℕ
string16 bytes = u16_bytes (length bytes) ++ bytes
