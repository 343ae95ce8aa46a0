-- The rules of a ring, for a world and for what comes after it.
use Rattle.std.specs.Prelude.{◌≡◌, ◌⊎◌, ℕ, ◌<◌, ◌≤◌, true, Some}
use Rattle.quorums.specs.Groups.{Has}
use Rattle.ring_safety.specs.Faces.{Vote, Proposal, Promise, Face, rank}
use Rattle.ring_safety.specs.Deeds.{IsProposed, Backing}
use Rattle.ring_safety.specs.Worlds.{World, durables, IsFaceOf, Chosen}

-- a face keeps a promise: its promise is at least that ballot, what was told was cast, in no ballot above it, and at each
-- instance of the page that is not below the trim told, it casts no vote of a lower ballot that is above the vote told
pub record KeepsPromise {V : Type 0} (f : Face V) (p : Promise V) : Type 0 where
  pub promised : p.ballot ≤ f.promise
  pub told : (i : ℕ) (vote : Vote V) → p.told i ≡ Some vote → Has f.casts (record { ballot = vote.ballot; instance = i; value = vote.value })
  pub not_above : (i : ℕ) (vote : Vote V) → p.told i ≡ Some vote → vote.ballot ≤ p.ballot
  pub outdone : (c : Proposal V) → Has f.casts c → c.ballot < p.ballot → p.low ≤ c.instance → c.instance < p.high → p.trim ≤ c.instance
      → c.ballot < rank (p.told c.instance)

-- Promise: each face keeps the promises made in it, and those that its node had sent by the earlier world
pub record PromiseRule {V : Type 0} (early late : World V) : Type 0 where
  pub made : (a : ℕ) (f : Face V) → IsFaceOf late a f → (p : Promise V) → Has f.promises p → KeepsPromise f p
  pub sent : (a : ℕ) (f : Face V) → IsFaceOf late a f → (p : Promise V) → Has (early a).durable.promises p → KeepsPromise f p

-- a held vote was cast, in no ballot above the promise, where nothing was let go
pub record IsHeld {V : Type 0} (f : Face V) (i : ℕ) (vote : Vote V) : Type 0 where
  pub cast : Has f.casts (record { ballot = vote.ballot; instance = i; value = vote.value })
  pub promised : vote.ballot ≤ f.promise
  pub untrimmed : f.trim ≤ i

-- a face keeps a cast vote: its promise is at least that ballot, the instance is below its trim, or it holds a vote there of
-- that ballot or a higher one, and of that very ballot it holds no other value
pub record KeepsVote {V : Type 0} (f : Face V) (c : Proposal V) : Type 0 where
  pub promised : c.ballot ≤ f.promise
  pub kept : (c.instance < f.trim) ⊎ (c.ballot < rank (f.votes c.instance))
  pub same : (vote : Vote V) → f.votes c.instance ≡ Some vote → vote.ballot ≡ c.ballot → vote.value ≡ c.value

-- Vote: held votes were cast, cast votes were proposed, and each face keeps the votes cast in it and those that its node had
-- cast durably by the earlier world
pub record VoteRule {V : Type 0} (n : ℕ) (early late : World V) : Type 0 where
  pub held : (a : ℕ) (f : Face V) → IsFaceOf late a f → (i : ℕ) (vote : Vote V) → f.votes i ≡ Some vote → IsHeld f i vote
  pub proposed : (a : ℕ) (f : Face V) → IsFaceOf late a f → (c : Proposal V) → Has f.casts c → IsProposed n (durables late) f c
  pub kept : (a : ℕ) (f : Face V) → IsFaceOf late a f → (c : Proposal V) → Has f.casts c → KeepsVote f c
  pub cast : (a : ℕ) (f : Face V) → IsFaceOf late a f → (c : Proposal V) → Has (early a).durable.casts c → KeepsVote f c

-- a proposal's backing, whose promises tell at its instance only votes of lower ballots
pub record Backed {V : Type 0} (n : ℕ) (faces : ℕ → Face V) (a : ℕ) (f : Face V) (p : Proposal V) : Type 0 where
  pub backing : Backing n faces a f p
  pub lower : (k : ℕ) → k < n → backing.members k ≡ true → rank ((backing.promise k).told p.instance) ≤ p.ballot

-- Propose: in one ballot and instance all proposals, of all faces of all nodes, have one value, and each is backed
pub record ProposeRule {V : Type 0} (n : ℕ) (w : World V) : Type 0 where
  pub one : (a : ℕ) (f : Face V) → IsFaceOf w a f → (b : ℕ) (g : Face V) → IsFaceOf w b g → (p q : Proposal V) → Has f.proposals p → Has g.proposals q
      → p.ballot ≡ q.ballot → p.instance ≡ q.instance → p.value ≡ q.value
  pub backed : (a : ℕ) (f : Face V) → IsFaceOf w a f → (p : Proposal V) → Has f.proposals p → Backed n (durables w) a f p

-- Choose: where a value is chosen by the earlier world, each proposal there of that ballot or a higher one, in any face of the
-- later world, is for that value
abbrev pub ChooseRule : {V : Type 0} → ℕ → World V → World V → Type 0
ChooseRule {V} n early late = (c : Proposal V) → Chosen n (durables early) c → (a : ℕ) (f : Face V) → IsFaceOf late a f → (p : Proposal V) → Has f.proposals p
    → p.instance ≡ c.instance → c.ballot ≤ p.ballot → p.value ≡ c.value

-- One value: what is chosen by the earlier world and what is chosen in the later one, at one instance, are equal
abbrev pub OneValueRule : {V : Type 0} → ℕ → World V → World V → Type 0
OneValueRule {V} n early late = (c d : Proposal V) → Chosen n (durables early) c → Chosen n (durables late) d → c.instance ≡ d.instance → c.value ≡ d.value

-- a later face has said all that an earlier one said, and its promise and trim are no lower
pub record Grows {V : Type 0} (f g : Face V) : Type 0 where
  pub promise : f.promise ≤ g.promise
  pub trim : f.trim ≤ g.trim
  pub promises : (p : Promise V) → Has f.promises p → Has g.promises p
  pub proposals : (p : Proposal V) → Has f.proposals p → Has g.proposals p
  pub casts : (p : Proposal V) → Has f.casts p → Has g.casts p

-- Stays: each face of a later world has grown from the durable face of the earlier one, and what was chosen is chosen
pub record StaysRule {V : Type 0} (n : ℕ) (early late : World V) : Type 0 where
  pub grown : (a : ℕ) (f : Face V) → IsFaceOf late a f → Grows (early a).durable f
  pub chosen : (c : Proposal V) → Chosen n (durables early) c → Chosen n (durables late) c
