-- What an acceptor of a ring holds, and what it has ever said. Acceptors are numbered from 0, instances and ballots are
-- numbers, values are of any type V.
use Rattle.std.specs.Prelude.{ℕ, suc, ◌%◌, cond, ◌&&◌, nat_eq, nat_lt, nat_le, List, [], Option, Some, None}

-- a vote for a value in a ballot
pub record Vote (V : Type 0) : Type 0 where
  pub ballot : ℕ
  pub value : V

-- a value at an instance in a ballot: proposed there, or cast there as a vote
pub record Proposal (V : Type 0) : Type 0 where
  pub ballot : ℕ
  pub instance : ℕ
  pub value : V

-- a promise of a ballot for one page of instances, from low up to high: the acceptor's trim at that time, and the vote
-- that it told at each instance of the page
pub record Promise (V : Type 0) : Type 0 where
  pub ballot : ℕ
  pub low : ℕ
  pub high : ℕ
  pub trim : ℕ
  pub told : ℕ → Option (Vote V)

-- The last ballot that an acceptor started, and the first instance at which it may still propose there. It need not propose
-- any more, or at each instance: a leader may stop or leave instances out, and a face says nothing of it.
pub record Lead : Type 0 where
  pub ballot : ℕ
  pub next : ℕ

-- one state that an acceptor may be in, with all that it ever said on the way there
pub record Face (V : Type 0) : Type 0 where
  -- it takes no part in a ballot below this one
  pub promise : ℕ
  -- it has let go what stands below this instance
  pub trim : ℕ
  -- its last vote at each instance
  pub votes : ℕ → Option (Vote V)
  -- the ballot that it leads, if it has started one
  pub leads : Option Lead
  -- the promises that it made, its own starts among them
  pub promises : List (Promise V)
  -- the values that it proposed
  pub proposals : List (Proposal V)
  -- the votes that it cast
  pub casts : List (Proposal V)

-- an acceptor that has done nothing
abbrev pub blank : {V : Type 0} → Face V
blank = record { promise = 0; trim = 0; votes = λ i. None; leads = None; promises = []; proposals = []; casts = [] }

-- how high a vote is: one more than its ballot, and 0 where there is none
abbrev pub rank : {V : Type 0} → Option (Vote V) → ℕ
rank None = 0
rank (Some vote) = suc vote.ballot

-- the acceptor that owns a ballot
abbrev pub owner : ℕ → ℕ → ℕ
owner n ballot = ballot % n

-- votes after a vote at an instance
abbrev pub voted : {V : Type 0} → (ℕ → Option (Vote V)) → ℕ → Vote V → ℕ → Option (Vote V)
voted votes instance vote i = cond (nat_eq i instance) (Some vote) (votes i)

-- votes after those below an instance are gone
abbrev pub trimmed : {V : Type 0} → (ℕ → Option (Vote V)) → ℕ → ℕ → Option (Vote V)
trimmed votes to i = cond (nat_lt i to) None (votes i)

-- the votes of a page alone
abbrev pub page : {V : Type 0} → (ℕ → Option (Vote V)) → ℕ → ℕ → ℕ → Option (Vote V)
page votes low high i = cond (nat_le low i && nat_lt i high) (votes i) None
