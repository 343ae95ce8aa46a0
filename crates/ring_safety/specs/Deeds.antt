-- The deeds of an acceptor: what each does to a face, and when it may be done.
use Rattle.std.specs.Prelude.{◌≡◌, ◌⊎◌, ℕ, suc, ◌<◌, ◌≤◌, Bool, true, List, [], ◌∷◌, Option, Some, None}
use Rattle.quorums.specs.Groups.{Has, IsMajority}
use Rattle.ring_safety.specs.Faces.{Vote, Proposal, Promise, Face, rank, owner, voted, trimmed, page}

pub data Deed (V : Type 0) : Type 0 where
  -- to promise a ballot, and tell the votes of one page
  Promises : (ballot low high : ℕ) → Deed V
  -- to start a ballot of its own, up to an instance: a promise to itself, with all that it holds
  Starts : (ballot high : ℕ) → Deed V
  -- to propose a value, and vote for it
  Proposes : (ballot instance : ℕ) → (value : V) → Deed V
  -- to vote for a proposal
  Votes : (ballot instance : ℕ) → (value : V) → Deed V
  -- to let go what stands below an instance
  Trims : (to : ℕ) → Deed V

-- the face after a deed
abbrev pub done : {V : Type 0} → Deed V → Face V → Face V
done (Promises ballot low high) f = record f {
  promise = ballot;
  promises = record { ballot = ballot; low = low; high = high; trim = f.trim; told = page f.votes low high } ∷ f.promises;
}
done (Starts ballot high) f = record f {
  promise = ballot;
  leads = Some (record { ballot = ballot; next = f.trim });
  promises = record { ballot = ballot; low = f.trim; high = high; trim = f.trim; told = page f.votes f.trim high } ∷ f.promises;
}
done (Proposes ballot instance value) f = record f {
  votes = voted f.votes instance (record { ballot = ballot; value = value });
  leads = Some (record { ballot = ballot; next = suc instance });
  proposals = record { ballot = ballot; instance = instance; value = value } ∷ f.proposals;
  casts = record { ballot = ballot; instance = instance; value = value } ∷ f.casts;
}
done (Votes ballot instance value) f = record f {
  promise = ballot;
  votes = voted f.votes instance (record { ballot = ballot; value = value });
  casts = record { ballot = ballot; instance = instance; value = value } ∷ f.casts;
}
done (Trims to) f = record f { trim = to; votes = trimmed f.votes to }

-- What a node with the face f knows: what the durable faces of all acceptors say, and what f itself says.

-- the value was proposed, by the owner of the ballot or in this face itself
abbrev pub IsProposed : {V : Type 0} → ℕ → (ℕ → Face V) → Face V → Proposal V → Type 0
IsProposed n faces f p = Has (faces (owner n p.ballot)).proposals p ⊎ Has f.proposals p

-- acceptor k made the promise; it may be the node a itself
abbrev pub IsPromised : {V : Type 0} → (ℕ → Face V) → ℕ → Face V → ℕ → Promise V → Type 0
IsPromised faces a f k p = Has (faces k).promises p ⊎ ((k ≡ a) × Has f.promises p)

-- no member of the group told a vote
abbrev pub IsFree : {V : Type 0} → ℕ → (ℕ → Bool) → (ℕ → Option (Vote V)) → Type 0
IsFree n members told = (k : ℕ) → k < n → members k ≡ true → told k ≡ None

-- a member of the group told a vote for the value, and no member one of a higher ballot
pub record IsHighest {V : Type 0} (n : ℕ) (members : ℕ → Bool) (told : ℕ → Option (Vote V)) (value : V) : Type 0 where
  pub member : ℕ
  pub below : member < n
  pub is_member : members member ≡ true
  pub vote : Vote V
  pub tells : told member ≡ Some vote
  pub highest : (k : ℕ) → k < n → members k ≡ true → rank (told k) ≤ rank (told member)
  pub same : value ≡ vote.value

-- which value may be proposed on what a group told: any where none told a vote, else that of the highest vote
abbrev pub IsDue : {V : Type 0} → ℕ → (ℕ → Bool) → (ℕ → Option (Vote V)) → V → Type 0
IsDue n members told value = IsFree n members told ⊎ IsHighest n members told value

-- a promise serves a proposal: it is of its ballot, its page holds the instance, and nothing was let go there
pub record Serves {V : Type 0} (p : Promise V) (ballot instance : ℕ) : Type 0 where
  pub of_ballot : p.ballot ≡ ballot
  pub from_low : p.low ≤ instance
  pub to_high : instance < p.high
  pub untrimmed : p.trim ≤ instance

-- what a proposal rests on: a majority, a promise of each member that serves it, and a value that is due by them
pub record Backing {V : Type 0} (n : ℕ) (faces : ℕ → Face V) (a : ℕ) (f : Face V) (p : Proposal V) : Type 0 where
  pub members : ℕ → Bool
  pub promise : ℕ → Promise V
  pub majority : IsMajority n members
  pub made : (k : ℕ) → k < n → members k ≡ true → IsPromised faces a f k (promise k)
  pub serves : (k : ℕ) → k < n → members k ≡ true → Serves (promise k) p.ballot p.instance
  pub due : IsDue n members (λ k. (promise k).told p.instance) p.value

-- when a value may be proposed: by the leader of the ballot that promised none higher, at an instance where it has not
-- proposed yet and let nothing go, on a backing
pub record MayPropose {V : Type 0} (n : ℕ) (faces : ℕ → Face V) (a : ℕ) (f : Face V) (p : Proposal V) : Type 0 where
  pub next : ℕ
  pub leads : f.leads ≡ Some (record { ballot = p.ballot; next = next })
  pub promised : f.promise ≡ p.ballot
  pub unproposed : next ≤ p.instance
  pub untrimmed : f.trim ≤ p.instance
  pub backing : Backing n faces a f p

-- when a vote may be cast: for what was proposed, in no ballot below the promise, and where nothing was let go
pub record MayVote {V : Type 0} (n : ℕ) (faces : ℕ → Face V) (f : Face V) (p : Proposal V) : Type 0 where
  pub proposed : IsProposed n faces f p
  pub promised : f.promise ≤ p.ballot
  pub untrimmed : f.trim ≤ p.instance

-- when a ballot may be started: by its owner, above the promise
pub record MayStart {V : Type 0} (n a : ℕ) (f : Face V) (ballot : ℕ) : Type 0 where
  pub owned : owner n ballot ≡ a
  pub above : f.promise < ballot

-- whether a ring's node a, with this face, may do a deed, where these are the durable faces of the n acceptors
abbrev pub May : {V : Type 0} → ℕ → (ℕ → Face V) → ℕ → Face V → Deed V → Type 0
May n faces a f (Promises ballot low high) = f.promise ≤ ballot
May n faces a f (Starts ballot high) = MayStart n a f ballot
May n faces a f (Proposes ballot instance value) = MayPropose n faces a f (record { ballot = ballot; instance = instance; value = value })
May n faces a f (Votes ballot instance value) = MayVote n faces f (record { ballot = ballot; instance = instance; value = value })
May n faces a f (Trims to) = f.trim ≤ to

-- several deeds in turn
abbrev pub all_done : {V : Type 0} → List (Deed V) → Face V → Face V
all_done [] f = f
all_done (d ∷ ds) f = all_done ds (done d f)

-- each deed may be done when its turn comes
abbrev pub MayAll : {V : Type 0} → ℕ → (ℕ → Face V) → ℕ → Face V → List (Deed V) → Type 0
MayAll n faces a f [] = Unit {0}
MayAll n faces a f (d ∷ ds) = May n faces a f d × MayAll n faces a (done d f) ds
