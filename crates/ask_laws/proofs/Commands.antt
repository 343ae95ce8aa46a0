-- What is spelled of bytes is of bytes.
use Rattle.std.proofs.Common.{◌<◌, ℕ, suc, List, [], ◌∷◌, length, arith, subst, sym}
use Rattle.std.specs.List.{AllByRecursion, flat_map}
use Rattle.std.proofs.lemmas.List.Concat.{flat_map-cons}
use Rattle.hex.specs.Hex.{IsBytes}
use Rattle.mrp_types.specs.declared.value.Entry.{Entry}
use Rattle.command_codec.specs.Fields.{u16_bytes, u64_bytes, string16}
use Rattle.command_codec.specs.Spelling.{entry_bytes, batch_bytes}
use Rattle.state_laws.specs.States.{AreBytes}
use Rattle.state_laws.proofs.Bytes.{bytes_each, u16_are, u64_are}
use Rattle.state_laws.proofs.Examples.{bytes_by}
use Rattle.ask_laws.proofs.Lists.{appended}

-- an entry of a client of one byte, whose command is of bytes
pub record IsOfBytes (e : Entry) : Type 0 where
  pub client : e.client.0 < 256
  pub command : IsBytes e.command

entry_are : (e : Entry) → IsOfBytes e → AreBytes (entry_bytes e)
entry_are e is = (
  is.client,
  appended (λ (b : ℕ). b < 256) (u64_bytes e.seq) (string16 e.command) (u64_are e.seq)
      (appended (λ (b : ℕ). b < 256) (u16_bytes (length e.command)) e.command (u16_are (length e.command)) (bytes_each e.command is.command)),
)

entries_are : (es : List Entry) → AllByRecursion IsOfBytes es → AreBytes (flat_map entry_bytes es)
entries_are [] all = tt
entries_are (e ∷ es) all =
    subst (λ (bytes : List ℕ). AreBytes bytes) (sym (flat_map-cons entry_bytes e es))
    (appended (λ (b : ℕ). b < 256) (entry_bytes e) (flat_map entry_bytes es) (entry_are e all.0) (entries_are es all.1))

pub batch_are : (es : List Entry) → AllByRecursion IsOfBytes es → IsBytes (batch_bytes es)
batch_are es all =
    bytes_by (batch_bytes es)
    (omega arith, appended (λ (b : ℕ). b < 256) (u16_bytes (length es)) (flat_map entry_bytes es) (u16_are (length es)) (entries_are es all))
