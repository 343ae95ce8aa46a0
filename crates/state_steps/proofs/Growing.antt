-- What is said of states and replies stays so as lines are added.
use Rattle.std.proofs.Common.{◌≡◌, ℕ, inl, inr, List, [], ◌∷◌, ◌++◌, Option, Some, None, refl, sym, ◌∙◌, ap, subst, append-nil}
use Rattle.std.specs.Prelude.{option_map}
use Rattle.std.specs.List.{AllByRecursion}
use Rattle.mrp_types.specs.declared.id.NodeId.{NodeId}
use Rattle.mrp_types.specs.declared.id.RingId.{RingId}
use Rattle.mrp_types.specs.declared.id.Party.{Party}
use Rattle.mrp_types.specs.declared.id.Party.TheVariants.{Node, Client}
use Rattle.mrp_types.specs.declared.value.Entry.{Entry}
use Rattle.mrp_types.specs.Book.{Learning}
use Rattle.mrp_config.specs.Config.{Config, partition_of}
use Rattle.mrp_config.specs.declared.tables.PartitionTable.{PartitionTable}
use Rattle.frames.specs.declared.body.Body.{Body}
use Rattle.frames.specs.declared.body.Body.TheVariants.{Part as PartFrame, Reply}
use Rattle.frames.specs.declared.sent.Sent.{Sent}
use Rattle.checkpoint.specs.Checkpoints.{Checkpoint}
use Rattle.plain_model.specs.StateBytes.{state_bytes}
use Rattle.plain_model.specs.Tuples.{round_sizes}
use Rattle.plain_model.specs.Fold.{entries_below, replica_after, state_below}
use Rattle.plain_model.proofs.Known.{below_more}
use Rattle.plain_model.specs.Replicas.{Replica}
use Rattle.protocol.specs.Lines.{Line, Learn}
use Rattle.protocol.specs.Node.{Choice, Stage, Recovering, Ready, Service, RingPart}
use Rattle.line_rules.specs.Scanners.{past, learned}
use Rattle.line_rules.proofs.Growing.{book_more}
use Rattle.recovery_lines.specs.Ties.{PartLines}
use Rattle.recovery_lines.proofs.More.{PartLines-more}
use Rattle.quorums.proofs.Each.{mapped}
use Rattle.state_steps.specs.Folded.{IsStateAt, AreBytesAt, IsFrontAt, AreGathered, IsPartAt, IsFoldReply, BodyFolded, PartyFolded, SentFolded}
use Rattle.state_steps.specs.States.{IsCheckpointAt, NewestAt, ChoiceAt, StageAt, ServiceAt, ReplicaAt}

-- ---- what is learned is only added to

pub learned_more : (l : Line) (lines : List Line) → (more : List Learning) × (learned (l ∷ lines) ≡ learned lines ++ more)
learned_more (Learn node ring lo hi value) lines = (record { ring = ring; lo = lo; hi = hi; value = value } ∷ [], refl)
learned_more other lines = ([], sym (append-nil (learned lines)))

pub below_line : (m : ℕ → ℕ) (l : Line) (lines : List Line) (tuple : List (RingId × ℕ)) (es : List Entry) → entries_below m (learned lines) tuple ≡ Some es → entries_below m (learned (l ∷ lines)) tuple ≡ Some es
below_line m l lines tuple es e =
    let more = learned_more l lines in
    subst (λ (known : List Learning). entries_below m known tuple ≡ Some es) (sym more.1) (below_more m (learned lines) more.0 tuple es e)

-- ---- bytes of a state by its entries

pub record Below (c : Config) (lines : List Line) (p : PartitionTable) (tuple : List (RingId × ℕ)) (bytes : List ℕ) : Type 0 where
  pub entries : List Entry
  pub below : entries_below (round_sizes c) (learned lines) tuple ≡ Some entries
  pub bytes_are : state_bytes (replica_after p entries) ≡ bytes

pub bytes_below : (c : Config) (lines : List Line) (p : PartitionTable) (tuple : List (RingId × ℕ)) (bytes : List ℕ) → AreBytesAt c lines p tuple bytes → Below c lines p tuple bytes
bytes_below c lines p tuple bytes e = go (entries_below (round_sizes c) (learned lines) tuple) refl e
  where
    some_same : (xs ys : List ℕ) → Some xs ≡ Some ys → xs ≡ ys
    some_same xs ys f = cc

    go : (o : Option (List Entry)) → entries_below (round_sizes c) (learned lines) tuple ≡ o → option_map (λ (es : List Entry). state_bytes (replica_after p es)) o ≡ Some bytes → Below c lines p tuple bytes
    go None f g = absurd (cc)
    go (Some es) f g = record { entries = es; below = f; bytes_are = some_same (state_bytes (replica_after p es)) bytes g }

pub below_bytes : (c : Config) (lines : List Line) (p : PartitionTable) (tuple : List (RingId × ℕ)) (es : List Entry) → entries_below (round_sizes c) (learned lines) tuple ≡ Some es
    → AreBytesAt c lines p tuple (state_bytes (replica_after p es))
below_bytes c lines p tuple es e = ap (λ (o : Option (List Entry)). option_map (λ (ys : List Entry). state_bytes (replica_after p ys)) o) e

-- one state at a tuple
pub one_state : (c : Config) (lines : List Line) (p : PartitionTable) (tuple : List (RingId × ℕ)) (a b : List ℕ) → AreBytesAt c lines p tuple a → AreBytesAt c lines p tuple b → a ≡ b
one_state c lines p tuple a b e f = some_same a b (sym e ∙ f)
  where
    some_same : (xs ys : List ℕ) → Some xs ≡ Some ys → xs ≡ ys
    some_same xs ys g = cc

-- ---- one line more

module _ (c : Config) (l : Line) (lines : List Line) where
  pub bytes_more : (p : PartitionTable) (tuple : List (RingId × ℕ)) (bytes : List ℕ) → AreBytesAt c lines p tuple bytes → AreBytesAt c (l ∷ lines) p tuple bytes
  bytes_more p tuple bytes e =
      let b = bytes_below c lines p tuple bytes e in
      below_bytes c (l ∷ lines) p tuple b.entries (below_line (round_sizes c) l lines tuple b.entries b.below) ∙ ap (λ (xs : List ℕ). Some xs) b.bytes_are

  pub state_more : (p : PartitionTable) (tuple : List (RingId × ℕ)) (replica : Replica) → IsStateAt c lines p tuple replica → IsStateAt c (l ∷ lines) p tuple replica
  state_more p tuple replica s = record { entries = s.entries; below = below_line (round_sizes c) l lines tuple s.entries s.below; same = s.same }

  pub checkpoint_more : (p : PartitionTable) (newest : Checkpoint) → IsCheckpointAt c lines p newest → IsCheckpointAt c (l ∷ lines) p newest
  checkpoint_more p newest k = record { valid = k.valid; entries = k.entries; below = below_line (round_sizes c) l lines newest.tuple k.entries k.below; bytes = k.bytes; read = k.read }

  pub newest_more : (p : Option PartitionTable) (newest : Option Checkpoint) → NewestAt c lines p newest → NewestAt c (l ∷ lines) p newest
  newest_more (Some p) (Some newest) k = checkpoint_more p newest k
  newest_more (Some p) None k = tt
  newest_more None newest k = tt

  gathered_more : (p : PartitionTable) (tuple : List (RingId × ℕ)) (bytes : List ℕ) → AreGathered c lines p tuple bytes → AreGathered c (l ∷ lines) p tuple bytes
  gathered_more p tuple bytes (inl none) = inl none
  gathered_more p tuple bytes (inr front) = inr (record { rest = front.rest; whole = bytes_more p tuple (bytes ++ front.rest) front.whole })

  pub choice_more : (p : PartitionTable) (choice : Option Choice) → ChoiceAt c lines p choice → ChoiceAt c (l ∷ lines) p choice
  choice_more p None k = tt
  choice_more p (Some choice) k = gathered_more p choice.tuple choice.bytes k

  pub stage_more : (p : PartitionTable) (stage : Stage) → StageAt c lines p stage → StageAt c (l ∷ lines) p stage
  stage_more p (Recovering attempt) k = choice_more p attempt.choice k
  stage_more p (Ready standing) k = (k.0, state_more p standing.tuple standing.replica k.1)

  pub replica_more : (x : NodeId) (service : Option Service) → ReplicaAt c lines x service → ReplicaAt c (l ∷ lines) x service
  replica_more x None k = tt
  replica_more x (Some service) k = record { replica = k.replica; stage = stage_more service.partition service.stage k.stage }

  part_more : (from : NodeId) (tuple : List (RingId × ℕ)) (offset total : ℕ) (bytes : List ℕ) → IsPartAt c lines from tuple offset total bytes → IsPartAt c (l ∷ lines) from tuple offset total bytes
  part_more from tuple offset total bytes k = record {
    partition = k.partition;
    replica = k.replica;
    state = k.state;
    whole = bytes_more k.partition tuple k.state k.whole;
    total_is = k.total_is;
    within = k.within;
    part = k.part;
  }

  body_more : (from : NodeId) (body : Body) → BodyFolded c lines from body → BodyFolded c (l ∷ lines) from body
  body_more from (PartFrame epoch attempt tuple offset total bytes) k = part_more from tuple offset total bytes k
  body_more from (Reply client seq partition reply) k = record {
    partition = k.partition;
    replica = k.replica;
    named = k.named;
    place = k.place;
    subscribed = k.subscribed;
    batch = k.batch;
    holds = book_more l lines k.place.ring k.place.inst _ k.holds;
    below = k.below;
    known = below_line (round_sizes c) l lines _ k.below k.known;
    front = k.front;
    entry = k.entry;
    rest = k.rest;
    there = k.there;
    asker = k.asker;
    number = k.number;
    reply = k.reply;
    replied = k.replied;
    spelled = k.spelled;
  }
  body_more from other k = tt

  party_more : (from : Party) (body : Body) → PartyFolded c lines from body → PartyFolded c (l ∷ lines) from body
  party_more (Node from) body k = body_more from body k
  party_more (Client from) body k = tt

  pub sent_more : (sent : Sent) → SentFolded c lines sent → SentFolded c (l ∷ lines) sent
  sent_more sent k = party_more sent.frame.from sent.frame.body k

-- ---- many more

pub many_more : (P : List Line → Type 0) → ((l : Line) (lines : List Line) → P lines → P (l ∷ lines)) → (new lines : List Line) → P lines → P (past lines new)
many_more P step [] lines p = p
many_more P step (l ∷ new) lines p = many_more P step new (l ∷ lines) (step l lines p)

module _ (c : Config) (new lines : List Line) where
  pub sents_past : (frames : List Sent) → AllByRecursion (SentFolded c lines) frames → AllByRecursion (SentFolded c (past lines new)) frames
  sents_past frames all = many_more (λ (ls : List Line). AllByRecursion (SentFolded c ls) frames) (λ l ls p. mapped (SentFolded c ls) (SentFolded c (l ∷ ls)) (sent_more c l ls) frames p) new lines all

  pub parts_past : (parts : List RingPart) → AllByRecursion (PartLines lines) parts → AllByRecursion (PartLines (past lines new)) parts
  parts_past parts all = many_more (λ (ls : List Line). AllByRecursion (PartLines ls) parts) (λ l ls p. mapped (PartLines ls) (PartLines (l ∷ ls)) (PartLines-more c l ls) parts p) new lines all

  pub replica_past : (x : NodeId) (service : Option Service) → ReplicaAt c lines x service → ReplicaAt c (past lines new) x service
  replica_past x service k = many_more (λ (ls : List Line). ReplicaAt c ls x service) (λ l ls p. replica_more c l ls x service p) new lines k

  pub newest_past : (p : Option PartitionTable) (newest : Option Checkpoint) → NewestAt c lines p newest → NewestAt c (past lines new) p newest
  newest_past p newest k = many_more (λ (ls : List Line). NewestAt c ls p newest) (λ l ls q. newest_more c l ls p newest q) new lines k
