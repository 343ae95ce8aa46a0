-- Reading from the left, over any kind of place and of fault: what is read and the place behind it, or the first fault.
use Rattle.std.specs.Prelude.{ℕ, zero, suc, ◌≡◌, ◌⊎◌, List, [], ◌∷◌, Result, Ok, Err}

-- what is read at a place, and the place behind it
abbrev pub Reader : Type 0 → Type 0 → Type 0 → Type 0
Reader P E V = P → Result (V × P) E

-- the second step, where the first found no fault
infixl 10 ◌>>=◌
abbrev pub ◌>>=◌ : {A B E : Type 0} → Result A E → (A → Result B E) → Result B E
(Ok x) >>= f = f x
(Err e) >>= f = Err e

-- ---- what a call answers

-- What a call read, seen by view, and what is left, are what reading gives.
abbrev pub Gives : {X Y W E : Type 0} → (X → Y) → Result (Y × W) E → Result X E → W → Type 0
Gives view read (Ok x) left = read ≡ Ok (view x, left)
Gives view read (Err fault) left = read ≡ Err fault

-- the fault is that of reading, or want of memory
abbrev pub Fails : {Y E : Type 0} → E → Result Y E → E → Type 0
Fails memory read fault = (fault ≡ memory) ⊎ (read ≡ Err fault)

-- What a call read, seen by view, and what is left, are what reading gives, unless memory ran out.
abbrev pub Reads : {X Y W E : Type 0} → E → (X → Y) → Result (Y × W) E → Result X E → W → Type 0
Reads memory view read (Ok x) left = read ≡ Ok (view x, left)
Reads memory view read (Err fault) left = Fails memory read fault

-- the same of a call that leaves nothing
abbrev pub Says : {X Y E : Type 0} → E → (X → Y) → Result Y E → Result X E → Type 0
Says memory view read (Ok x) = read ≡ Ok (view x)
Says memory view read (Err fault) = Fails memory read fault

-- ---- several readers

-- one after the other, the second by what the first gave
abbrev pub follow : {P E A B : Type 0} → Reader P E A → (A → Reader P E B) → Reader P E (A × B)
follow first second place = do
  a ← first place
  b ← second a.0 a.1
  Ok ((a.0, b.0), b.1)

-- one after the other
abbrev pub both : {P E A B : Type 0} → Reader P E A → Reader P E B → Reader P E (A × B)
both first second = follow first (λ _. second)

-- nothing is read
abbrev pub nothing : {P E V : Type 0} → V → Reader P E V
nothing value place = Ok (value, place)

-- what stands for what was read
abbrev pub shown : {P E A B : Type 0} → (A → B) → Reader P E A → Reader P E B
shown made read place = do
  a ← read place
  Ok (made a.0, a.1)

-- so many, each read by what the one before it left to ask
abbrev pub chain : {P E S V : Type 0} → (S → Reader P E V) → (V → S) → ℕ → S → Reader P E (List V)
chain read next zero asked place = Ok ([], place)
chain read next (suc count) asked place = do
  first ← read asked place
  others ← chain read next count (next first.0) first.1
  Ok (first.0 ∷ others.0, others.1)

-- a count, and so many
abbrev pub counted : {P E S V : Type 0} → Reader P E ℕ → (S → Reader P E V) → (V → S) → S → Reader P E (List V)
counted count read next asked place = do
  number ← count place
  chain read next number.0 asked number.1

-- so many of one kind
abbrev pub each : {P E V : Type 0} → Reader P E V → ℕ → Reader P E (List V)
each read count = chain {S = ℕ} (λ _. read) (λ _. 0) count 0

-- a count, and so many of one kind
abbrev pub many : {P E V : Type 0} → Reader P E ℕ → Reader P E V → Reader P E (List V)
many count read = counted {S = ℕ} count (λ _. read) (λ _. 0) 0
