-- What stays so as faces grow.
use Rattle.std.proofs.Common.{◌≡◌, ℕ, ◌<◌, ◌≤◌, List, [], ◌∷◌, ◌++◌, ◌∙◌, arith, ◌⊎◌, inl, inr}
use Rattle.std.specs.List.{AllByRecursion}
use Rattle.quorums.specs.Groups.{Has}
use Rattle.ring_safety.proofs.Local.{Grows-refl}
use Rattle.mrp_types.specs.declared.id.RingId.{RingId}
use Rattle.mrp_types.specs.declared.id.NodeId.{NodeId}
use Rattle.mrp_types.specs.declared.id.Party.{Party}
use Rattle.mrp_types.specs.declared.id.Party.TheVariants.{Node, Client}
use Rattle.mrp_types.specs.declared.value.Value.{Value}
use Rattle.mrp_types.specs.declared.voted.Voted.{Voted}
use Rattle.mrp_types.specs.declared.voted.Decided.{Decided}
use Rattle.vote_state.specs.declared.cast.Cast.{Cast}
use Rattle.frames.specs.declared.body.Body.{Body}
use Rattle.frames.specs.declared.body.Body.TheVariants as body
use Rattle.frames.specs.declared.sent.Sent.{Sent}
use Rattle.ring_reach.specs.Reach.{proposal}
use Rattle.protocol.specs.Parts.{Ring, Campaign, Role, Idle, Active, Learner}
use Rattle.vote_state.specs.declared.change.Change.{Change}
use Rattle.vote_state.specs.declared.change.Change.TheVariants as change
use Rattle.protocol.specs.Lines.{Line, Learn}
use Rattle.ring_safety.specs.Faces.{Promise, Proposal, Face, owner}
use Rattle.ring_safety.specs.Worlds.{Chosen}
use Rattle.ring_safety.specs.Rules.{Grows}
use Rattle.ring_tables.specs.Ties.{acceptors, IsChosen, IsRangeChosen, Reports, IsOutstanding, CampaignTies, RoleTies, LearnerTies, PromiseSaid, AcceptSaid, BodySaid, SaidBy, IsSaid, IsTold, IsRecorded, IsVotedIn, AreRecorded, IsToldIn, AreTold}
use Rattle.quorums.proofs.Each.{mapped, appended}

pub IsOutstanding-more : (f g : Face Value) (ballot : ℕ) (range : Decided) → Grows f g → IsOutstanding f ballot f.trim range → IsOutstanding g ballot g.trim range
IsOutstanding-more f g ballot range grows o =
    let trim : f.trim ≤ g.trim = grows.trim in
    record {
      proposed = λ i x y. grows.proposals (proposal ballot i range.value) (o.proposed i (omega arith) y);
      cast = λ i x y. grows.casts (proposal ballot i range.value) (o.cast i (omega arith) y);
      ended = o.ended;
    }

pub PromiseSaid-more : (f g : Face Value) (ballot lo hi trim : ℕ) (votes : List Voted) → Grows f g → PromiseSaid f ballot lo hi trim votes → PromiseSaid g ballot lo hi trim votes
PromiseSaid-more f g ballot lo hi trim votes grows s = record {
  promise = s.promise;
  made = grows.promises s.promise s.made;
  of_ballot = s.of_ballot;
  low = s.low;
  high = s.high;
  trimmed = s.trimmed;
  told = s.told;
  paged = s.paged;
  ordered = s.ordered;
  ended = s.ended;
}

module _ (n : ℕ) (old new : ℕ → Face Value) (more : (k : ℕ) → Grows (old k) (new k)) where
  pub Chosen-more : (p : Proposal Value) → Chosen n old p → Chosen n new p
  Chosen-more p c = record { members = c.members; majority = c.majority; cast = λ k lt is. (more k).casts p (c.cast k lt is) }

  pub IsChosen-more : (i : ℕ) (value : Value) → IsChosen n old i value → IsChosen n new i value
  IsChosen-more i value c = record { ballot = c.ballot; chosen = Chosen-more (proposal c.ballot i value) c.chosen }

  pub IsRangeChosen-more : (range : Decided) → IsRangeChosen n old range → IsRangeChosen n new range
  IsRangeChosen-more range c = λ i x y. IsChosen-more i range.value (c i x y)

  pub LearnerTies-more : (learner : Learner) → LearnerTies n old learner → LearnerTies n new learner
  LearnerTies-more learner l = record { ordered = l.ordered; chosen = λ i value e. IsChosen-more i value (l.chosen i value e) }

  pub Reports-more : (low high ballot : ℕ) (covered : List ℕ) (reports : List (ℕ × Cast)) → low ≤ high → Reports n old low ballot covered reports → Reports n new high ballot covered reports
  Reports-more low high ballot covered reports le r = record {
    page = r.page;
    made = λ k i lt from to. (more k).promises (r.page k i) (r.made k i lt (omega arith) to);
    serves = λ k i lt from to. r.serves k i lt (omega arith) to;
    told = λ k i lt from to. r.told k i lt (omega arith) to;
    reported = λ i cast from e. r.reported i cast (omega arith) e;
  }

  pub CampaignTies-more : (f g : Face Value) (campaign : Campaign) → Grows f g → g.leads ≡ f.leads → g.promise ≡ f.promise → CampaignTies n old f campaign → CampaignTies n new g campaign
  CampaignTies-more f g campaign grows leads promise c = record {
    next = c.next;
    leads = leads ∙ c.leads;
    passed = c.passed;
    promised = promise ∙ c.promised;
    reports = Reports-more f.trim g.trim campaign.ballot campaign.covered campaign.reports grows.trim c.reports;
    outstanding = mapped (IsOutstanding f campaign.ballot f.trim) (IsOutstanding g campaign.ballot g.trim) (λ range. IsOutstanding-more f g campaign.ballot range grows) campaign.outstanding c.outstanding;
    sized = c.sized;
    ended = λ k. let low = c.ended k in let trim = grows.trim in omega arith;
    ordered = c.ordered;
  }

  pub RoleTies-more : (f g : Face Value) (role : Role) → Grows f g → g.leads ≡ f.leads → g.promise ≡ f.promise → RoleTies n old f role → RoleTies n new g role
  RoleTies-more f g Idle grows leads promise c = tt
  RoleTies-more f g (Active campaign) grows leads promise c = CampaignTies-more f g campaign grows leads promise c

  pub AcceptSaid-more : (ballot lo hi mask : ℕ) (value : Value) → AcceptSaid n old ballot lo hi mask value → AcceptSaid n new ballot lo hi mask value
  AcceptSaid-more ballot lo hi mask value s = record {
    proposed = λ i x y. (more (owner n ballot)).proposals (proposal ballot i value) (s.proposed i x y);
    member = s.member;
    cast = λ k i is x y. (more k).casts (proposal ballot i value) (s.cast k i is x y);
    ended = s.ended;
  }

module _ (ring : Ring) (old new : ℕ → Face Value) (more : (k : ℕ) → Grows (old k) (new k)) where
  pub BodySaid-more : (from : NodeId) (b : Body) → BodySaid ring old from b → BodySaid ring new from b
  BodySaid-more from (body.Promise r ballot lo hi trim votes) s = λ e k at. PromiseSaid-more (old k) (new k) ballot lo hi trim votes (more k) (s e k at)
  BodySaid-more from (body.Accept r ballot lo hi mask value) s = λ e. AcceptSaid-more (acceptors ring) old new more ballot lo hi mask value (s e)
  BodySaid-more from (body.Decide r lo hi left value) s = λ e. IsRangeChosen-more (acceptors ring) old new more (record { lo = lo; hi = hi; value = value }) (s e)
  BodySaid-more from (body.Chosen r ranges) s =
      λ e. mapped (IsRangeChosen (acceptors ring) old) (IsRangeChosen (acceptors ring) new) (IsRangeChosen-more (acceptors ring) old new more) ranges (s e)
  BodySaid-more from other s = tt

  pub SaidBy-more : (from : Party) (b : Body) → SaidBy ring old from b → SaidBy ring new from b
  SaidBy-more (Node from) b s = BodySaid-more from b s
  SaidBy-more (Client from) b s = tt

  pub all_said_more : (frames : List Sent) → AllByRecursion (IsSaid ring old) frames → AllByRecursion (IsSaid ring new) frames
  all_said_more frames s = mapped (IsSaid ring old) (IsSaid ring new) (λ sent. SaidBy-more sent.frame.from sent.frame.body) frames s

  pub IsTold-more : (line : Line) → IsTold ring old line → IsTold ring new line
  IsTold-more (Learn node r lo hi value) s = λ e. IsRangeChosen-more (acceptors ring) old new more (record { lo = lo; hi = hi; value = value }) (s e)
  IsTold-more other s = tt

  pub all_told_more : (lines : List Line) → AllByRecursion (IsTold ring old) lines → AllByRecursion (IsTold ring new) lines
  all_told_more lines s = mapped (IsTold ring old) (IsTold ring new) IsTold-more lines s

pub IsRecorded-more : (ring : Ring) (f g : Face Value) → Grows f g → (c : Change) → IsRecorded ring.id f c → IsRecorded ring.id g c
IsRecorded-more ring f g grows (change.Promise r ballot) s = λ e. let low = s e in let up = grows.promise in omega arith
IsRecorded-more ring f g grows (change.Vote r vote) s = λ e i x y. grows.casts (proposal vote.ballot i vote.value) (s e i x y)
IsRecorded-more ring f g grows (change.Trim r inst) s = λ e. let low = s e in let up = grows.trim in omega arith
IsRecorded-more ring f g grows other s = tt

pub all_recorded_more : (ring : Ring) (f g : Face Value) → Grows f g → (cs : List Change) → AllByRecursion (IsRecorded ring.id f) cs → AllByRecursion (IsRecorded ring.id g) cs
all_recorded_more ring f g grows cs s = mapped (IsRecorded ring.id f) (IsRecorded ring.id g) (IsRecorded-more ring f g grows) cs s

-- ---- votes that were recorded

has_first : {T : Type 0} (xs ys : List T) (x : T) → Has xs x → Has (xs ++ ys) x
has_first [] ys x h = absurd h
has_first (y ∷ xs) ys x (inl e) = inl e
has_first (y ∷ xs) ys x (inr h) = inr (has_first xs ys x h)

pub has_second : {T : Type 0} (xs ys : List T) (x : T) → Has ys x → Has (xs ++ ys) x
has_second [] ys x h = h
has_second (y ∷ xs) ys x h = inr (has_second xs ys x h)

voted_first : (id : RingId) (xs ys : List Change) (c : Proposal Value) → IsVotedIn id xs c → IsVotedIn id (xs ++ ys) c
voted_first id xs ys c v = record {
  vote = v.vote;
  there = has_first xs ys (change.Vote id v.vote) v.there;
  of_ballot = v.of_ballot;
  from = v.from;
  to = v.to;
  of_value = v.of_value;
}

voted_second : (id : RingId) (xs ys : List Change) (c : Proposal Value) → IsVotedIn id ys c → IsVotedIn id (xs ++ ys) c
voted_second id xs ys c v = record {
  vote = v.vote;
  there = has_second xs ys (change.Vote id v.vote) v.there;
  of_ballot = v.of_ballot;
  from = v.from;
  to = v.to;
  of_value = v.of_value;
}

pub none_recorded : (id : RingId) (f : Face Value) → AreRecorded id f f []
none_recorded id f = record { stand = tt; voted = λ c h. inl h }

-- the face goes on, and casts no vote that it hadn't cast
pub recorded_on : (ring : Ring) (start f g : Face Value) (cs : List Change) → Grows f g → ((c : Proposal Value) → Has g.casts c → Has f.casts c) → AreRecorded ring.id start f cs
    → AreRecorded ring.id start g cs
recorded_on ring start f g cs grows same r = record { stand = all_recorded_more ring f g grows cs r.stand; voted = λ c h. r.voted c (same c h) }

-- and with more changes
pub recorded_both : (ring : Ring) (start f g : Face Value) (xs ys : List Change) → Grows f g → AreRecorded ring.id start f xs → AreRecorded ring.id f g ys
    → AreRecorded ring.id start g (xs ++ ys)
recorded_both ring start f g xs ys grows r s = record {
  stand = appended (IsRecorded ring.id g) xs ys (all_recorded_more ring f g grows xs r.stand) s.stand;
  voted = λ c h. go c (s.voted c h);
}
  where
    early : (c : Proposal Value) → Has start.casts c ⊎ IsVotedIn ring.id xs c → Has start.casts c ⊎ IsVotedIn ring.id (xs ++ ys) c
    early c (inl h) = inl h
    early c (inr v) = inr (voted_first ring.id xs ys c v)

    go : (c : Proposal Value) → Has f.casts c ⊎ IsVotedIn ring.id ys c → Has start.casts c ⊎ IsVotedIn ring.id (xs ++ ys) c
    go c (inl h) = early c (r.voted c h)
    go c (inr v) = inr (voted_second ring.id xs ys c v)

-- changes of other rings record no vote of this one, and take none away
pub recorded_apart : (ring : Ring) (start f : Face Value) (xs ys : List Change) → AllByRecursion (IsRecorded ring.id f) ys → AreRecorded ring.id start f xs
    → AreRecorded ring.id start f (xs ++ ys)
recorded_apart ring start f xs ys stand r =
    recorded_both ring start f f xs ys (Grows-refl f) r (record { stand = stand; voted = λ c h. inl h })

-- ---- promises that were sent

pub told_first : (ring : Ring) (xs ys : List Sent) (p : Promise Value) → IsToldIn ring xs p → IsToldIn ring (xs ++ ys) p
told_first ring xs ys p t = record { sent = t.sent; there = has_first xs ys t.sent t.there; by = t.by; votes = t.votes; same = t.same; tells = t.tells }

told_second : (ring : Ring) (xs ys : List Sent) (p : Promise Value) → IsToldIn ring ys p → IsToldIn ring (xs ++ ys) p
told_second ring xs ys p t = record { sent = t.sent; there = has_second xs ys t.sent t.there; by = t.by; votes = t.votes; same = t.same; tells = t.tells }

-- more is sent
pub told_through : (ring : Ring) (a : ℕ) (start f : Face Value) (xs ys : List Sent) → ((p : Promise Value) → IsToldIn ring xs p → IsToldIn ring ys p) → AreTold ring a start f xs
    → AreTold ring a start f ys
told_through ring a start f xs ys more t p h lt = elim (t p h lt) [ inl old ↦ inl old | inr new ↦ inr (elim new [ inl own ↦ inl own | inr told ↦ inr (more p told) ]) ]

pub told_more : (ring : Ring) (a : ℕ) (start f : Face Value) (xs ys : List Sent) → AreTold ring a start f xs → AreTold ring a start f (xs ++ ys)
told_more ring a start f xs ys t = told_through ring a start f xs (xs ++ ys) (told_first ring xs ys) t

-- the face goes on, by promises of own ballots at most
pub told_on : (ring : Ring) (a : ℕ) (start f g : Face Value) (frames : List Sent)
    → ((p : Promise Value) → Has g.promises p → p.low < p.high → Has f.promises p ⊎ (owner (acceptors ring) p.ballot ≡ a)) → AreTold ring a start f frames → AreTold ring a start g frames
told_on ring a start f g frames new t p h lt = elim (new p h lt) [ inl old ↦ t p old lt | inr own ↦ inr (inl own) ]

pub told_both : (ring : Ring) (a : ℕ) (start f g : Face Value) (xs ys : List Sent) → AreTold ring a start f xs → AreTold ring a f g ys → AreTold ring a start g (xs ++ ys)
told_both ring a start f g xs ys s t p h lt = elim (t p h lt) [
  | inl old ↦ told_more ring a start f xs ys s p old lt
  | inr new ↦ inr (elim new [ inl own ↦ inl own | inr told ↦ inr (told_second ring xs ys p told) ])
]
