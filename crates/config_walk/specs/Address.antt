-- Texts of addresses: a dotted IPv4 address, a colon and a port.
use Rattle.std.specs.Prelude.{ℕ, ◌≡◌, ◌<◌, ◌^◌, ◌==◌, nat_lt, ◌&&◌, ◌||◌, Bool, false, if◌then◌else◌, List, [], ◌∷◌, ◌++◌, length, drop, decimal, slice_index, Option, Some, None}
use Rattle.std.specs.Net.Reader.{read_number}

-- the second step, where the first gave something
infixl 10 ◌>>=◌
abbrev pub ◌>>=◌ : {A B : Type 0} → Option A → (A → Option B) → Option B
None >>= f = None
(Some x) >>= f = f x

-- What stands behind a number of this range, in decimal without leading zeros: read_number gives the value of the
-- digits in front, and how many they are.
unfoldable pub past_number : ℕ → ℕ → List ℕ → Option (List ℕ)
past_number least most text = do
  n ← read_number 10 most text
  if nat_lt n.0 least || (nat_lt 1 n.1 && (slice_index text 0 == 48)) then None else Some (drop n.1 text)

-- what stands behind this byte
abbrev pub past_byte : ℕ → List ℕ → Option (List ℕ)
past_byte byte [] = None
past_byte byte (b ∷ rest) = if b == byte then Some rest else None

-- what stands behind a part of 0 to 255 and this byte
abbrev pub past_part : ℕ → List ℕ → Option (List ℕ)
past_part byte text = do
  rest ← past_number 0 255 text
  past_byte byte rest

abbrev pub is_end : Option (List ℕ) → Bool
is_end None = false
is_end (Some rest) = length rest == 0

-- four parts of 0 to 255 with dots between, and a colon
unfoldable pub past_ip : List ℕ → Option (List ℕ)
past_ip text = do
  second ← past_part 46 text
  third ← past_part 46 second
  fourth ← past_part 46 third
  past_part 58 fourth

-- and then a port of 1 to 65,535
abbrev pub is_address : List ℕ → Bool
is_address text = is_end (past_ip text >>= past_number 1 65535)

-- The text a.b.c.d:port of four bytes and a port above 0, each in decimal without leading zeros.
pub record IsAddress (text : List ℕ) : Type 0 where
  pub a : ℕ
  pub b : ℕ
  pub c : ℕ
  pub d : ℕ
  pub port : ℕ
  pub bytes : (a < 256) × (b < 256) × (c < 256) × (d < 256)
  pub above : 0 < port
  pub short : port < 2 ^ 16
  pub spelled : text ≡ decimal a ++ 46 ∷ (decimal b ++ 46 ∷ (decimal c ++ 46 ∷ (decimal d ++ 58 ∷ decimal port)))
