-- The invariant of one face of one node, in a world whose durable faces are given, and of a whole world. That of a face speaks
-- of no other face but for what durable faces say, so a crash, which drops a face or promotes one, costs it nothing.
use Rattle.std.specs.Prelude.{◌≡◌, ℕ, ◌<◌, ◌≤◌, Some}
use Rattle.quorums.specs.Groups.{Has}
use Rattle.ring_safety.specs.Faces.{Vote, Proposal, Promise, Lead, Face, rank, owner}
use Rattle.ring_safety.specs.Deeds.{IsProposed}
use Rattle.ring_safety.specs.Worlds.{World, durables}
use Rattle.ring_safety.specs.Rules.{Grows, Backed}

pub record Local {V : Type 0} (n : ℕ) (faces : ℕ → Face V) (a : ℕ) (f : Face V) : Type 0 where
  -- it has grown from the durable face
  pub grown : Grows (faces a) f
  -- a held vote was cast, in no ballot above the promise, where nothing was let go
  pub held_cast : (i : ℕ) (v : Vote V) → f.votes i ≡ Some v → Has f.casts (record { ballot = v.ballot; instance = i; value = v.value })
  pub held_promised : (i : ℕ) (v : Vote V) → f.votes i ≡ Some v → v.ballot ≤ f.promise
  pub held_untrimmed : (i : ℕ) (v : Vote V) → f.votes i ≡ Some v → f.trim ≤ i
  -- a cast vote is of no ballot above the promise, and a vote as high is held there, or the instance was let go
  pub cast_promised : (c : Proposal V) → Has f.casts c → c.ballot ≤ f.promise
  pub kept : (c : Proposal V) → Has f.casts c → f.trim ≤ c.instance → c.ballot < rank (f.votes c.instance)
  -- what a promise told was cast, in no ballot above it, and no cast of a lower ballot on its page is above what it told
  pub promised : (p : Promise V) → Has f.promises p → p.ballot ≤ f.promise
  pub told_cast : (p : Promise V) → Has f.promises p → (i : ℕ) (v : Vote V) → p.told i ≡ Some v → Has f.casts (record { ballot = v.ballot; instance = i; value = v.value })
  pub told_promised : (p : Promise V) → Has f.promises p → (i : ℕ) (v : Vote V) → p.told i ≡ Some v → v.ballot ≤ p.ballot
  pub outdone : (p : Promise V) → Has f.promises p → (c : Proposal V) → Has f.casts c → c.ballot < p.ballot → p.low ≤ c.instance → c.instance < p.high
      → p.trim ≤ c.instance → c.ballot < rank (p.told c.instance)
  -- a cast vote was proposed
  pub proposed : (c : Proposal V) → Has f.casts c → IsProposed n faces f c
  -- it proposes in ballots that it owns, not above its promise, and one value in each ballot and instance
  pub owned : (p : Proposal V) → Has f.proposals p → owner n p.ballot ≡ a
  pub proposal_promised : (p : Proposal V) → Has f.proposals p → p.ballot ≤ f.promise
  -- it votes for each value that it proposes
  pub proposal_cast : (p : Proposal V) → Has f.proposals p → Has f.casts p
  pub one_value : (p : Proposal V) → Has f.proposals p → (q : Proposal V) → Has f.proposals q → p.ballot ≡ q.ballot → p.instance ≡ q.instance → p.value ≡ q.value
  -- it leads a ballot that it owns, not above its promise, and has proposed nothing there from its next instance on
  pub leads_owned : (l : Lead) → f.leads ≡ Some l → owner n l.ballot ≡ a
  pub leads_promised : (l : Lead) → f.leads ≡ Some l → l.ballot ≤ f.promise
  pub leads_next : (l : Lead) → f.leads ≡ Some l → (p : Proposal V) → Has f.proposals p → p.ballot ≡ l.ballot → p.instance < l.next
  -- each proposal is backed
  pub backed : (p : Proposal V) → Has f.proposals p → Backed n faces a f p

-- both faces of each node keep the invariant
pub record Sound {V : Type 0} (n : ℕ) (w : World V) : Type 0 where
  pub durable : (a : ℕ) → Local n (durables w) a (w a).durable
  pub pending : (a : ℕ) → Local n (durables w) a (w a).pending
