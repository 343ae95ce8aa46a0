-- What is said of lines is said of more lines.
use Rattle.std.proofs.Common.{◌≡◌, ℕ, inl, inr, Bool, true, false, List, [], ◌∷◌, ◌++◌, Option, Some, None, refl, sym, ◌∙◌, subst, le_trans}
use Rattle.std.specs.Prelude.{if◌then◌else◌}
use Rattle.mrp_types.specs.declared.id.NodeId.{NodeId}
use Rattle.mrp_types.specs.declared.id.RingId.{RingId}
use Rattle.mrp_types.specs.declared.id.Party.{Party}
use Rattle.mrp_types.specs.declared.id.Party.TheVariants.{Node, Client}
use Rattle.mrp_types.specs.declared.value.Value.TheVariants.{Skip}
use Rattle.mrp_config.specs.Config.{Config, subscribers_of}
use Rattle.mrp_config.specs.declared.tables.PartitionTable.{PartitionTable}
use Rattle.frames.specs.declared.body.Body.{Body}
use Rattle.frames.specs.declared.body.Body.TheVariants.{AskCheckpoint, HaveCheckpoint, AskPart, Part as PartFrame, Gone, Safe, Promise, Trimmed, TrimTo}
use Rattle.frames.specs.declared.sent.Sent.{Sent}
use Rattle.quorums.specs.Groups.{Has}
use Rattle.checkpoint.specs.Checkpoints.{Checkpoint}
use Rattle.protocol.specs.Lines.{Line}
use Rattle.protocol.specs.Parts.{Round}
use Rattle.protocol.specs.Node.{RingPart, Service, Stage, Recovering, Ready, Choice}
use Rattle.plain_model.specs.Tuples.{round_sizes, instances}
use Rattle.faithful.specs.Scanners.{touches, life, up_epoch, attempting, before_begin, told, begun, mark_of, epoch_told, attempt_told, open_told, choice_told, lines_before, lines_before_this, tuples_told, attempts_told, some_reaches}
use Rattle.faithful.specs.Rules.{AllKnown, BySkips, AllHaveTold, HaveTold}
use Rattle.recovery_lines.specs.Ties.{TellsKnown, KnownLines, IsAnswer, IsSafe, TellsSafe, TellsTuple, BodySaid, PartySaid, IsSaid, RoundLines, CurrentLines, PartLines, KeptLines, OwnLines, AnswerLines, AttemptLines, ChosenLines, StageLines, ServiceLines, ReplicaLines, newest_of, IsCovered, PartTold}
use Rattle.faithful.proofs.Growing.{has_split, last_quiet, all_quiet, all_more, first_more, book_more, position_quiet}
use Rattle.faithful.proofs.Quorum.{some_reaches_is, is_some_reaches, count_le}
use Rattle.quorums.proofs.Each.{mapped}

module _ (c : Config) (l : Line) (lines : List Line) where
  pub AllKnown-more : (tuple : List (RingId × ℕ)) → AllKnown lines tuple → AllKnown (l ∷ lines) tuple
  AllKnown-more tuple all place below = let k = all place below in (k.0, book_more l lines place.ring place.inst k.0 k.1)

  pub BySkips-more : (m : ℕ → ℕ) (rings : List RingId) (k k' : List (RingId × ℕ)) → BySkips m rings lines k k' → BySkips m rings (l ∷ lines) k k'
  BySkips-more m rings k k' s = record {
    from = s.from;
    to = s.to;
    after = s.after;
    skips = λ place below not. book_more l lines place.ring place.inst Skip (s.skips place below not);
  }

  pub IsAnswer-more : (x e n r : ℕ) (printed : List ℕ) → IsAnswer lines x e n r printed → IsAnswer (l ∷ lines) x e n r printed
  IsAnswer-more x e n r printed a = record {
    before = a.before;
    begins = first_more (lines_before_this e n) x l lines a.before a.begins;
    tells = all_more tuples_told r l lines printed a.tells;
    reaches = a.reaches;
  }

  pub some_more : (rings : List RingId) (ring : RingId) (inst r : ℕ) → some_reaches rings ring inst (told r lines) ≡ true → some_reaches rings ring inst (told r (l ∷ lines)) ≡ true
  some_more rings ring inst r e =
      let s = some_reaches_is rings ring inst (told r lines) e in
      is_some_reaches rings ring inst (told r (l ∷ lines)) (record { tuple = s.tuple; there = all_more tuples_told r l lines s.tuple s.there; reaches = s.reaches })

  pub IsSafe-more : (ring : RingId) (answer : NodeId × ℕ) → IsSafe c lines ring answer → IsSafe c (l ∷ lines) ring answer
  IsSafe-more ring answer s p has h = elim (s p has h) [
    | inl e ↦ inl e
    | inr e ↦ inr (some_more p.rings ring answer.1 answer.0.0 e)
  ]

  TellsSafe-more : (ring : RingId) (answer : NodeId × ℕ) → TellsSafe c lines ring answer → TellsSafe c (l ∷ lines) ring answer
  TellsSafe-more ring answer s = record {
    partition = s.partition;
    subscribes = s.subscribes;
    replica = s.replica;
    told = elim s.told [
      | inl e ↦ inl e
      | inr e ↦ inr (some_more s.partition.rings ring answer.1 answer.0.0 e)
    ];
  }

  TellsTuple-more : (x : NodeId) (tuple : List (RingId × ℕ)) → TellsTuple c lines x tuple → TellsTuple c (l ∷ lines) x tuple
  TellsTuple-more x tuple t = record { partition = t.partition; replica = t.replica; valid = t.valid; told = all_more tuples_told x.0 l lines _ t.told }

  HaveTold-more : (ring : RingId) (inst : ℕ) (p : PartitionTable) → HaveTold lines ring inst p → HaveTold (l ∷ lines) ring inst p
  HaveTold-more ring inst p h =
      le_trans h (count_le (λ (n : NodeId). some_reaches p.rings ring inst (told n.0 lines)) (λ (n : NodeId). some_reaches p.rings ring inst (told n.0 (l ∷ lines))) (λ n e. some_more p.rings ring inst n.0 e) p.replicas)

  pub AllHaveTold-more : (ring : RingId) (inst : ℕ) (ps : List PartitionTable) → AllHaveTold lines ring inst ps → AllHaveTold (l ∷ lines) ring inst ps
  AllHaveTold-more ring inst [] h = h
  AllHaveTold-more ring inst (p ∷ ps) h = mapped (HaveTold lines ring inst) (HaveTold (l ∷ lines) ring inst) (HaveTold-more ring inst) (p ∷ ps) h

  pub IsCovered-more : (ring : RingId) (inst : ℕ) → IsCovered c lines ring inst → IsCovered c (l ∷ lines) ring inst
  IsCovered-more ring inst (inl none) = inl none
  IsCovered-more ring inst (inr all) = inr (AllHaveTold-more ring inst (subscribers_of c.partitions ring) all)

  pub BodySaid-more : (from to : NodeId) (body : Body) → BodySaid c lines from to body → BodySaid c (l ∷ lines) from to body
  BodySaid-more from to (AskCheckpoint e n) s = (s.0, first_more (lines_before_this e n) from.0 l lines s.0 s.1)
  BodySaid-more from to (HaveCheckpoint e n tuple) s = (IsAnswer-more to.0 e n from.0 _ s.0, TellsTuple-more from tuple s.1)
  BodySaid-more from to (AskPart e n tuple offset) s = TellsTuple-more to tuple s
  BodySaid-more from to (PartFrame e n tuple offset total bytes) s = TellsTuple-more from tuple s
  BodySaid-more from to (Gone e n asked newer) s = (s.0, (TellsTuple-more from asked s.1.0, TellsTuple-more from newer s.1.1))
  BodySaid-more from to (Safe ring round inst) s = TellsSafe-more ring (from, inst) s
  BodySaid-more from to (Promise ring ballot lo hi trim votes) s = IsCovered-more ring trim s
  BodySaid-more from to (Trimmed ring trim) s = IsCovered-more ring trim s
  BodySaid-more from to (TrimTo ring trim) s = IsCovered-more ring trim s
  BodySaid-more from to other s = s

  pub KnownLines-more : TellsKnown c lines l → KnownLines c lines → KnownLines c (l ∷ lines)
  KnownLines-more tells known r p k replica valid h = AllKnown-more k (go (touches r.0 l) refl h)
    where
      go : (b : Bool) → touches r.0 l ≡ b → Has (if b then tuples_told l ++ told r.0 lines else told r.0 lines) (instances k) → AllKnown lines k
      go false e h = known r p k replica valid h
      go true e h = elim (has_split (tuples_told l) (told r.0 lines) (instances k) h) [
        | inl new ↦ tells r p k e replica valid new
        | inr old ↦ known r p k replica valid old
      ]

  pub IsSaid-more : (sent : Sent) → IsSaid c lines sent → IsSaid c (l ∷ lines) sent
  IsSaid-more sent s = go sent.frame.from sent.to s
    where
      go : (from to : Party) → PartySaid c lines from to sent.frame.body → PartySaid c (l ∷ lines) from to sent.frame.body
      go (Node from) (Node to) s = BodySaid-more from to sent.frame.body s
      go (Node from) (Client to) s = tt
      go (Client from) to s = tt

  pub RoundLines-more : (ring : RingId) (answers : List (NodeId × ℕ)) → RoundLines c lines ring answers → RoundLines c (l ∷ lines) ring answers
  RoundLines-more ring answers r = record { different = r.different; safe = mapped (IsSafe c lines ring) (IsSafe c (l ∷ lines) ring) (IsSafe-more ring) answers r.safe }

  pub CurrentLines-more : (ring : RingId) (current : Option Round) → CurrentLines c lines ring current → CurrentLines c (l ∷ lines) ring current
  CurrentLines-more ring None r = tt
  CurrentLines-more ring (Some round) r = RoundLines-more ring round.answers r

  pub PartTold-more : (p : RingPart) → PartTold c lines p → PartTold c (l ∷ lines) p
  PartTold-more p t = record { round = CurrentLines-more p.ring.id p.part.rounds.current t.round; trim = IsCovered-more p.ring.id p.part.kept.trim t.trim }

  pub PartLines-more : (p : RingPart) → PartLines lines p → PartLines (l ∷ lines) p
  PartLines-more p t = record { ordered = t.ordered; booked = λ inst value e. book_more l lines p.ring.id inst value (t.booked inst value e) }

-- ---- lines that leave a node's life as it was

-- the begin and saved lines are the same, and the up line
pub record SameOwn (x : ℕ) (l : Line) (lines : List Line) : Type 0 where
  pub tells : told x (l ∷ lines) ≡ told x lines
  pub begins : begun x (l ∷ lines) ≡ begun x lines
  pub up : up_epoch x (l ∷ lines) ≡ up_epoch x lines

-- and the attempt is
pub record SameAttempt (x : ℕ) (l : Line) (lines : List Line) : Type 0 where
  pub current : attempting x (l ∷ lines) ≡ attempting x lines
  pub life : life x (l ∷ lines) ≡ life x lines
  pub begins : before_begin x (l ∷ lines) ≡ before_begin x lines

pub quiet_own : (x : ℕ) (l : Line) (lines : List Line) → touches x l ≡ false → SameOwn x l lines
quiet_own x l lines quiet = record {
  tells = all_quiet x l lines tuples_told quiet;
  begins = all_quiet x l lines attempts_told quiet;
  up = last_quiet x l lines epoch_told quiet;
}

pub quiet_attempt : (x : ℕ) (l : Line) (lines : List Line) → touches x l ≡ false → SameAttempt x l lines
quiet_attempt x l lines quiet = record {
  current = last_quiet x l lines attempt_told quiet;
  life = last_quiet x l lines mark_of quiet;
  begins = last_quiet x l lines lines_before quiet;
}

module _ (c : Config) (l : Line) (lines : List Line) (x : NodeId) (epoch : ℕ) (newest : Option Checkpoint) (p : PartitionTable) where
  pub KeptLines-same : SameOwn x.0 l lines → KeptLines c lines x epoch p newest → KeptLines c (l ∷ lines) x epoch p newest
  KeptLines-same s k = record {
    older = λ other h. k.older other (subst (λ (ts : List (ℕ × ℕ)). Has ts other) s.begins h);
    valid = k.valid;
    known = AllKnown-more c l lines _ k.known;
    reaches = λ earlier h. k.reaches earlier (subst (λ (ts : List (List ℕ)). Has ts earlier) s.tells h);
  }

  pub OwnLines-same : (attempts : ℕ) → SameOwn x.0 l lines → OwnLines c lines x epoch newest p attempts → OwnLines c (l ∷ lines) x epoch newest p attempts
  OwnLines-same attempts s o = record {
    replica = o.replica;
    kept = KeptLines-same s o.kept;
    up = s.up ∙ o.up;
    counted = λ other h. o.counted other (subst (λ (ts : List (ℕ × ℕ)). Has ts other) s.begins h);
  }

  pub told_same : SameOwn x.0 l lines → Has (told x.0 lines) (newest_of p newest) → Has (told x.0 (l ∷ lines)) (newest_of p newest)
  told_same s h = all_more tuples_told x.0 l lines _ h

  pub AnswerLines-more : (number : ℕ) (answer : NodeId × List (RingId × ℕ)) → AnswerLines c lines x epoch newest p number answer → AnswerLines c (l ∷ lines) x epoch newest p number answer
  AnswerLines-more number answer a = record { replica = a.replica; valid = a.valid; said = IsAnswer-more c l lines x.0 epoch number answer.0.0 _ a.said; own = a.own }

  pub AttemptLines-same : (number : ℕ) (answers : List (NodeId × List (RingId × ℕ))) → SameAttempt x.0 l lines → AttemptLines c lines x epoch newest p number answers
      → AttemptLines c (l ∷ lines) x epoch newest p number answers
  AttemptLines-same number answers s a = record {
    current = s.current ∙ a.current;
    begun = s.life ∙ a.begun;
    earlier = a.earlier;
    begins = s.begins ∙ a.begins;
    first = first_more (lines_before_this epoch number) x.0 l lines a.earlier a.first;
    faithful = a.faithful;
    different = a.different;
    heard = a.heard;
    answered = mapped (AnswerLines c lines x epoch newest p number) (AnswerLines c (l ∷ lines) x epoch newest p number) (AnswerLines-more number) answers a.answered;
  }

  -- a line that isn't of the node's life changes nothing
  pub StageLines-quiet : (stage : Stage) → touches x.0 l ≡ false → StageLines c lines x epoch newest p stage → StageLines c (l ∷ lines) x epoch newest p stage
  StageLines-quiet (Recovering attempt) quiet s = (AttemptLines-same attempt.number attempt.answers (quiet_attempt x.0 l lines quiet) s.0, go attempt.choice s.1)
    where
      go : (choice : Option Choice) → ChosenLines c lines x epoch p attempt.number attempt.answers choice → ChosenLines c (l ∷ lines) x epoch p attempt.number attempt.answers choice
      go None t = (last_quiet x.0 l lines open_told quiet ∙ t.0, t.1)
      go (Some choice) t = record {
        replica = t.replica;
        valid = t.valid;
        told = all_more tuples_told choice.from.0 l lines _ t.told;
        chosen = last_quiet x.0 l lines choice_told quiet ∙ t.chosen;
        enough = t.enough;
        reaches = t.reaches;
      }
  StageLines-quiet (Ready standing) quiet s = record {
    ready = last_quiet x.0 l lines mark_of quiet ∙ s.ready;
    valid = s.valid;
    known = AllKnown-more c l lines standing.tuple s.known;
    reached = subst (λ (k : List (RingId × ℕ)). BySkips (round_sizes c) p.rings (l ∷ lines) k standing.tuple)
        (sym (position_quiet (round_sizes c) p.rings x.0 l lines quiet)) (BySkips-more c l lines (round_sizes c) p.rings _ standing.tuple s.reached);
    after = s.after;
    later = s.later;
  }

pub ServiceLines-quiet : (c : Config) (l : Line) (lines : List Line) (x : NodeId) (epoch : ℕ) (newest : Option Checkpoint) (service : Service) → touches x.0 l ≡ false
    → ServiceLines c lines x epoch newest service → ServiceLines c (l ∷ lines) x epoch newest service
ServiceLines-quiet c l lines x epoch newest service quiet s = record {
  own = OwnLines-same c l lines x epoch newest service.partition service.attempts (quiet_own x.0 l lines quiet) s.own;
  told = told_same c l lines x epoch newest service.partition (quiet_own x.0 l lines quiet) s.told;
  stage = StageLines-quiet c l lines x epoch newest service.partition service.stage quiet s.stage;
}

pub ReplicaLines-quiet : (c : Config) (l : Line) (lines : List Line) (x : NodeId) (epoch : ℕ) (newest : Option Checkpoint) (service : Option Service) → touches x.0 l ≡ false
    → ReplicaLines c lines x epoch newest service → ReplicaLines c (l ∷ lines) x epoch newest service
ReplicaLines-quiet c l lines x epoch newest None quiet s = s
ReplicaLines-quiet c l lines x epoch newest (Some service) quiet s = ServiceLines-quiet c l lines x epoch newest service quiet s
