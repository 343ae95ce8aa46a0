-- The table that bytes are, by what reading them told.
use Rattle.std.proofs.Common.{◌≡◌, ℕ, ◌≤◌, List, length, Some, None, Ok, Err, refl, inl, inr, le-ltb}
use Rattle.std.specs.Str.{IsUtf8, is_utf8}
use Rattle.std.proofs.lemmas.Bool.{cases_Bool}
use Rattle.std.proofs.lemmas.Str.{IsUtf8-from_is_utf8, is_utf8-from_IsUtf8}
use Rattle.toml.specs.Data.{Members}
use Rattle.toml.specs.Parse.{parse_document}
use Rattle.config_walk.specs.declared.fault.ConfigFault.TheVariants.{NotToml}
use Rattle.mrp_config.specs.Walk.{table_of}

pub is_table : (bytes : List ℕ) (t : Members) → length bytes ≤ 1048576 → IsUtf8 bytes → parse_document bytes ≡ Some t → table_of bytes ≡ Ok t
is_table bytes t short utf8 read = rw (le-ltb 1048576 (length bytes) short, is_utf8-from_IsUtf8 bytes utf8, read) refl

pub no_table : (bytes : List ℕ) → length bytes ≤ 1048576 → (IsUtf8 bytes → parse_document bytes ≡ None) → table_of bytes ≡ Err NotToml
no_table bytes short none = elim (cases_Bool (is_utf8 bytes)) [
  | inl is ↦ rw (le-ltb 1048576 (length bytes) short, is, none (IsUtf8-from_is_utf8 bytes is)) refl
  | inr not_so ↦ rw (le-ltb 1048576 (length bytes) short, not_so) refl
]
