-- The steps that close and open the gate of an area, and what they leave of it at each moment.
use Rattle.std.specs.Prelude.{◌≡◌, ◌≢◌, ◌⊎◌, ℕ, ◌+◌, ◌<◌, ◌≤◌, min, max, false, List, [], ◌∷◌, ◌++◌, length, take, slice_index}
use Rattle.disk_model.specs.declared.area.Area.{Area}
use Rattle.disk_model.specs.declared.areas.Areas.{Areas}
use Rattle.disk_model.specs.declared.call.Call.{Call}
use Rattle.disk_model.specs.Areas.{bytes_of, same}
use Rattle.disk_model.specs.Calls.{Told, on, area_bytes}
use Rattle.disk_model.specs.Steps.{Step, Put, Shrink, Flush, written}
use Rattle.gate_area.specs.declared.pair.Pair.{Pair}
use Rattle.gate_area.specs.declared.pair.Pair.TheVariants.{Check}
use Rattle.gate_area.specs.declared.pair.Head.TheVariants.{Closed}
use Rattle.gate_area.specs.Standing.{pair_of, second_of, stands, head_of}

-- what retiring leaves of a file when it is done: 1 to 16 bytes of which the first isn't 1
pub record IsRetired (file : List ℕ) : Type 0 where
  pub some : 0 < length file
  pub short : length file ≤ 16
  pub shut : slice_index file 0 ≢ 1

-- cut to at most 16 bytes, keep, close the gate, keep
abbrev pub retire_steps : ℕ → List Step
retire_steps len = Shrink (min 16 len) ∷ Flush ∷ Put 0 (0 ∷ []) ∷ Flush ∷ []

-- write behind the gate, keep, open it, keep
abbrev pub gate_steps : ℕ → List ℕ → List Step
gate_steps gate body = Put (gate + 1) body ∷ Flush ∷ Put gate (1 ∷ []) ∷ Flush ∷ []

abbrev pub retire_calls : Area → Told → List Call
retire_calls area t = on area (retire_steps (length (area_bytes area t)))

abbrev pub gate_calls : Area → ℕ → List ℕ → List Call
gate_calls area gate body = on area (gate_steps gate body)

-- the file with the body behind its gate, and the gate open
abbrev pub opened : ℕ → List ℕ → List ℕ → List ℕ
opened gate body file = written gate (1 ∷ []) (written (gate + 1) body file)

-- What steps that open a gate leave of a file: all of it, or the front up to the gate, which isn't open.
pub record IsShut (gate : ℕ) (body file image : List ℕ) : Type 0 where
  pub no_longer : length image ≤ max (length file) (gate + 1 + length body)
  pub within : gate < length image
  pub front : take gate image ≡ take gate file
  pub shut : slice_index image gate ≢ 1

abbrev pub OpenOrShut : ℕ → List ℕ → List ℕ → List ℕ → Type 0
OpenOrShut gate body file image = IsShut gate body file image ⊎ (image ≡ opened gate body file)

-- What retiring leaves of a file: the front that it had, behind which some bytes stand, or at most 16 bytes.
pub record HasFront (file image : List ℕ) : Type 0 where
  pub longer : 17 ≤ length image
  pub no_longer : length image ≤ length file
  pub front : take 16 image ≡ take 16 file

pub record IsShort (file image : List ℕ) : Type 0 where
  pub short : length image ≤ 16
  pub none : length image ≡ 0 → length file ≡ 0

abbrev pub FrontOrShort : List ℕ → List ℕ → Type 0
FrontOrShort file image = HasFront file image ⊎ IsShort file image

-- the other areas are as they were
abbrev pub OthersStay : Area → Areas → Areas → Type 0
OthersStay area before image = (b : Area) → same b area ≡ false → bytes_of b image ≡ bytes_of b before

-- the pair of the area stands for what it stood for, or for what it stands for afterwards
abbrev pub StandsAsEither : Pair → Areas → Areas → Areas → Type 0
StandsAsEither pair before after image = (stands pair image ≡ stands pair before) ⊎ (stands pair image ≡ stands pair after)

-- what a crash leaves while an area is retired
pub record RetireLeaves (area : Area) (before after image : Areas) : Type 0 where
  pub others : OthersStay area before image
  pub file : FrontOrShort (bytes_of area before) (bytes_of area image)
  pub pair : StandsAsEither (pair_of area) before after image

-- A first area of the journal that holds more than a fresh journal and isn't open is damaged, where the second
-- doesn't count either. So such an area is only founded beside one that counts.
abbrev pub IsFoundable : Area → ℕ → Areas → Type 0
IsFoundable area size before = (size ≤ 16) ⊎ ((area ≡ second_of (pair_of area)) ⊎ ((pair_of area ≡ Check) ⊎ (head_of (pair_of area) (bytes_of (second_of (pair_of area)) before) ≢ Closed)))

-- what a crash leaves while an area is founded
pub record FoundLeaves (area : Area) (body : List ℕ) (before after image : Areas) : Type 0 where
  pub others : OthersStay area before image
  pub file : OpenOrShut 0 body (bytes_of area before) (bytes_of area image)
  pub pair : IsFoundable area (length body) before → StandsAsEither (pair_of area) before after image

-- an area is retired and founded with these bytes behind its gate
abbrev pub renew_calls : Area → List ℕ → Told → List Call
renew_calls area body t = retire_calls area t ++ gate_calls area 0 body

-- a file with some bytes of which the first isn't 1, no longer than one with a body behind it
pub record IsClosed (size : ℕ) (image : List ℕ) : Type 0 where
  pub some : 0 < length image
  pub no_longer : length image ≤ 1 + size
  pub shut : slice_index image 0 ≢ 1

-- What a crash leaves while an area is retired and founded: the others as they were, and of this one what
-- retiring leaves, too few bytes or a gate that isn't open, or the whole body behind an open gate.
pub record RenewLeaves (area : Area) (body : List ℕ) (before image : Areas) : Type 0 where
  pub others : OthersStay area before image
  pub file : FrontOrShort (bytes_of area before) (bytes_of area image) ⊎ (IsClosed (length body) (bytes_of area image) ⊎ (bytes_of area image ≡ 1 ∷ body))
