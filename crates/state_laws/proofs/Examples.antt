-- An entry and a partition of which the laws speak.
use Rattle.std.proofs.Common.{arith, ◌<◌, ℕ, zero, suc, List, [], ◌∷◌, get_or}
use Rattle.std.specs.List.{AllByRecursion}
use Rattle.command_codec.specs.Fields.{u16_bytes}
use Rattle.plain_model.specs.Rows.{alone, hi}
use Rattle.state_laws.specs.States.{IsGiven, HasFewLogs}

pub bytes_by : (bytes : List ℕ) → AllByRecursion (λ (b : ℕ). b < 256) bytes → (i : ℕ) → get_or bytes i 0 < 256
bytes_by [] each i = omega arith
bytes_by (b ∷ bytes) each zero = each.0
bytes_by (b ∷ bytes) each (suc i) = bytes_by bytes each.1 i

pub an_example : HasFewLogs alone × IsGiven hi
unfolding u16_bytes
an_example = (
  record { few = omega arith; low = (omega arith, tt) },
  record { client = omega arith; asked = omega arith; numbered = omega arith; bytes = bytes_by hi.command (omega arith, (omega arith, (omega arith, (omega arith, (omega arith, (omega arith, tt)))))) },
)
