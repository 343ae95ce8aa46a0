-- The laws of states and replies in every run.
use Rattle.std.proofs.Common.{◌≡◌, ℕ, inl, inr, List, [], ◌∷◌, ◌++◌, Option, Some, None, refl, sym, ◌∙◌, ap, subst, append-nil}
use Rattle.std.specs.List.{AllByRecursion}
use Rattle.mrp_types.specs.declared.id.NodeId.{NodeId}
use Rattle.mrp_types.specs.declared.id.ClientId.{ClientId}
use Rattle.mrp_types.specs.declared.id.PartitionId.{PartitionId}
use Rattle.mrp_types.specs.declared.id.RingId.{RingId}
use Rattle.mrp_types.specs.declared.id.Party.{Party}
use Rattle.mrp_types.specs.declared.id.Party.TheVariants.{Node, Client}
use Rattle.mrp_types.specs.declared.value.Entry.{Entry}
use Rattle.mrp_config.specs.Config.{Config, partition_of}
use Rattle.mrp_config.specs.Valid.{IsValid}
use Rattle.mrp_config.specs.declared.tables.PartitionTable.{PartitionTable}
use Rattle.frames.specs.declared.body.Body.{Body}
use Rattle.frames.specs.declared.body.Body.TheVariants.{Part as PartFrame, Reply}
use Rattle.frames.specs.declared.sent.Sent.{Sent}
use Rattle.checkpoint.specs.Checkpoints.{Checkpoint}
use Rattle.quorums.specs.Groups.{Has}
use Rattle.plain_model.specs.Tuples.{round_sizes}
use Rattle.plain_model.specs.Fold.{entries_below, replica_after}
use Rattle.plain_model.specs.Replicas.{Replica}
use Rattle.protocol.specs.Lines.{Line}
use Rattle.protocol.specs.Node.{Attempt, Choice, Ready, Recovering, Service, Stage, Standing, View}
use Rattle.bare_world.specs.Worlds.{Possible, Host, Up, Down, World, Happening, nothing, happens, possible_of}
use Rattle.bare_world.specs.Runs.{run, MayRun}
use Rattle.bare_world.proofs.Onward.{run_both}
use Rattle.line_rules.specs.Owed.{owed}
use Rattle.line_rules.specs.Rules.{IsInTurn}
use Rattle.line_rules.specs.Scanners.{past, learned}
use Rattle.faithful.proofs.Growing.{past_more}
use Rattle.faithful.proofs.Quorum.{all_has}
use Rattle.ask_laws.specs.Asks.{asked_in, IsAsked}
use Rattle.ask_laws.specs.Carried.{PartyCarries, SentCarries}
use Rattle.ask_laws.proofs.Worlds.{all_keep}
use Rattle.quiet_rules.specs.Quiet.{AreInTurn, OwnNamesFit}
use Rattle.line_runs.specs.Invariant.{node, latest_first}
use Rattle.line_runs.specs.Laws.{IsRun, lines_of, host_of, IsPossible}
use Rattle.line_runs.proofs.Runs.{run_adds}
use Rattle.state_steps.specs.Folded.{IsStateAt, AreGathered, PartyFolded, SentFolded}
use Rattle.state_steps.specs.States.{IsCheckpointAt, NewestAt, ChoiceAt, StageAt, ServiceAt, ReplicaAt}
use Rattle.state_steps.proofs.Growing.{many_more, state_more}
use Rattle.state_runs.specs.Invariant.{PossibleAt, UpAt, HostAt, StatesAt}
use Rattle.state_runs.specs.Laws.{SentReply, SentPart, Serves, IsReady, HasChosen}
use Rattle.state_runs.proofs.Runs.{run_states}

-- ---- lines

turns_before : (c : Config) (new lines : List Line) → AreInTurn c (past lines new) → AreInTurn c lines
turns_before c [] lines turns = turns
turns_before c (l ∷ new) lines turns = (turns_before c new (l ∷ lines) turns).1

all_before : (P : Line → Type 0) (new lines : List Line) → AllByRecursion P (past lines new) → AllByRecursion P lines
all_before P [] lines all = all
all_before P (l ∷ new) lines all = (all_before P new (l ∷ lines) all).1

module _ (c : Config) (hs : List Happening) (r : IsRun c hs) (before after : List Line) (l : Line) (at : lines_of c hs ≡ before ++ l ∷ after) where
  split : latest_first (lines_of c hs) ≡ past (l ∷ past [] before) after
  split = ap (λ (ls : List Line). past [] ls) at ∙ past_more [] before (l ∷ after)

  pub line_in_turn : IsInTurn c (latest_first before) l
  line_in_turn = (turns_before c after (l ∷ past [] before) (subst (λ (ls : List Line). AreInTurn c ls) split (run_states c hs r).paid.turns)).0

  pub line_named : OwnNamesFit c l
  line_named = (all_before (OwnNamesFit c) after (l ∷ past [] before) (subst (λ (ls : List Line). AllByRecursion (OwnNamesFit c) ls) split (run_states c hs r).names)).0

pub all_paid : (c : Config) (hs : List Happening) → IsRun c hs → owed c (latest_first (lines_of c hs)) ≡ []
all_paid c hs r = (run_states c hs r).paid.paid

-- ---- a run

module _ (c : Config) (hs : List Happening) (r : IsRun c hs) where
  abbrev so_far : List Line
  so_far = past [] (run c hs nothing).lines

  -- ---- frames

  folded_as : (sent : Sent) (body : Body) → Has (run c hs nothing).frames sent → sent.frame.body ≡ body → PartyFolded c so_far sent.frame.from body
  folded_as sent body has same =
      subst (λ (b : Body). PartyFolded c so_far sent.frame.from b) same (all_has (SentFolded c so_far) (run c hs nothing).frames sent (run_states c hs r).frames has)

  carried_as : (sent : Sent) (body : Body) → Has (run c hs nothing).frames sent → sent.frame.body ≡ body → PartyCarries (IsAsked c (asked_in c hs)) (IsValid c) sent.frame.from body
  carried_as sent body has same =
      subst (λ (b : Body). PartyCarries (IsAsked c (asked_in c hs)) (IsValid c) sent.frame.from b) same
      (all_has (SentCarries (IsAsked c (asked_in c hs)) (IsValid c)) (run c hs nothing).frames sent (all_keep c hs r.may).carried.frames has)

  pub sent_reply : (sent : Sent) (client : ClientId) (seq : ℕ) (partition : PartitionId) (bytes : List ℕ) → Has (run c hs nothing).frames sent → sent.frame.body ≡ Reply client seq partition bytes
      → SentReply c so_far sent client seq partition bytes
  sent_reply sent client seq partition bytes has same =
      go sent.frame.from refl (folded_as sent (Reply client seq partition bytes) has same) (carried_as sent (Reply client seq partition bytes) has same)
    where
      go : (from : Party) → sent.frame.from ≡ from → PartyFolded c so_far from (Reply client seq partition bytes) → PartyCarries (IsAsked c (asked_in c hs)) (IsValid c) from (Reply client seq partition bytes)
          → SentReply c so_far sent client seq partition bytes
      go (Node from) e folded carries = record { from = from; by = e; folded = folded }
      go (Client from) e folded carries = absurd carries

  pub sent_part : (sent : Sent) (epoch attempt : ℕ) (tuple : List (RingId × ℕ)) (offset total : ℕ) (bytes : List ℕ) → Has (run c hs nothing).frames sent → sent.frame.body ≡ PartFrame epoch attempt tuple offset total bytes
      → SentPart c so_far sent tuple offset total bytes
  sent_part sent epoch attempt tuple offset total bytes has same =
      go sent.frame.from refl (folded_as sent (PartFrame epoch attempt tuple offset total bytes) has same) (carried_as sent (PartFrame epoch attempt tuple offset total bytes) has same)
    where
      go : (from : Party) → sent.frame.from ≡ from → PartyFolded c so_far from (PartFrame epoch attempt tuple offset total bytes)
          → PartyCarries (IsAsked c (asked_in c hs)) (IsValid c) from (PartFrame epoch attempt tuple offset total bytes) → SentPart c so_far sent tuple offset total bytes
      go (Node from) e folded carries = record { from = from; by = e; part = folded }
      go (Client from) e folded carries = absurd carries

  -- ---- disks

  possible_at : (n : ℕ) (s : Possible) → IsPossible (host_of c hs n) s → PossibleAt c so_far n s
  possible_at n s is = go (host_of c hs n) ((run_states c hs r).hosts n) is
    where
      go : (host : Host) → HostAt c so_far n host → IsPossible host s → PossibleAt c so_far n s
      go (Up view) u e = subst (λ (q : Possible). PossibleAt c so_far n q) (sym e) u.newest
      go (Down durable pending) d (inl e) = subst (λ (q : Possible). PossibleAt c so_far n q) (sym e) d.0
      go (Down durable pending) d (inr e) = subst (λ (q : Possible). PossibleAt c so_far n q) (sym e) d.1

  pub checkpoint_at : (n : ℕ) (s : Possible) (p : PartitionTable) (newest : Checkpoint) → IsPossible (host_of c hs n) s → partition_of c.partitions (node n) ≡ Some p → s.newest ≡ Some newest → IsCheckpointAt c so_far p newest
  checkpoint_at n s p newest is there same =
      subst (λ (o : Option Checkpoint). NewestAt c so_far (Some p) o) same (subst (λ (o : Option PartitionTable). NewestAt c so_far o s.newest) there (possible_at n s is))

  -- ---- replicas

  served_at : (n : ℕ) (p : PartitionTable) (service : Service) → Serves c hs n p service → StageAt c so_far p service.stage
  served_at n p service s =
      let u : UpAt c so_far n s.view = subst (λ (host : Host). HostAt c so_far n host) s.up ((run_states c hs r).hosts n) in
      let at : ServiceAt c so_far (node n) service = subst (λ (o : Option Service). ReplicaAt c so_far (node n) o) s.there u.replica in
      subst (λ (q : PartitionTable). StageAt c so_far q service.stage) s.partition at.stage

  pub ready_at : (n : ℕ) (p : PartitionTable) (standing : Standing) → IsReady c hs n p standing → IsStateAt c so_far p standing.tuple standing.replica
  ready_at n p standing is = (subst (λ (stage : Stage). StageAt c so_far p stage) is.ready (served_at n p is.service is.serves)).1

  pub gathered_at : (n : ℕ) (p : PartitionTable) (choice : Choice) → HasChosen c hs n p choice → AreGathered c so_far p choice.tuple choice.bytes
  gathered_at n p choice is =
      let at : ChoiceAt c so_far p is.attempt.choice = subst (λ (stage : Stage). StageAt c so_far p stage) is.recovers (served_at n p is.service is.serves) in
      subst (λ (o : Option Choice). ChoiceAt c so_far p o) is.chosen at

-- ---- two replicas

-- one replica at a tuple
one_replica : (c : Config) (lines : List Line) (p : PartitionTable) (tuple : List (RingId × ℕ)) (a b : Replica) → IsStateAt c lines p tuple a → IsStateAt c lines p tuple b → a ≡ b
one_replica c lines p tuple a b s t = s.same ∙ ap (λ (es : List Entry). replica_after p es) (some_same s.entries t.entries (sym s.below ∙ t.below)) ∙ sym t.same
  where
    some_same : (xs ys : List Entry) → Some xs ≡ Some ys → xs ≡ ys
    some_same xs ys e = cc

first_may : (c : Config) (first second : List Happening) (w : World) → MayRun c w (first ++ second) → MayRun c w first
first_may c [] second w may = tt
first_may c (h ∷ first) second w may = (may.0, first_may c first second (happens c h w) may.1)

pub replicas_alike : (c : Config) (first second : List Happening) → IsRun c (first ++ second) → (n m : ℕ) (p : PartitionTable) (one other : Standing) → IsReady c first n p one → IsReady c (first ++ second) m p other
    → one.tuple ≡ other.tuple → one.replica ≡ other.replica
replicas_alike c first second r n m p one other is was same =
    one_replica c (past [] (run c (first ++ second) nothing).lines) p other.tuple one.replica other.replica
    (subst (λ (k : List (RingId × ℕ)). IsStateAt c (past [] (run c (first ++ second) nothing).lines) p k one.replica) same later) (ready_at c (first ++ second) r m p other was)
  where
    early : IsStateAt c (past [] (run c first nothing).lines) p one.tuple one.replica
    early = ready_at c first (record { valid = r.valid; may = first_may c first second nothing r.may }) n p one is

    later : IsStateAt c (past [] (run c (first ++ second) nothing).lines) p one.tuple one.replica
    later =
        let grown = run_adds c second (run c first nothing) in
        subst (λ (ls : List Line). IsStateAt c ls p one.tuple one.replica)
        (sym (ap (λ (ls : List Line). past [] ls) (ap (λ (w : World). w.lines) (run_both c nothing first second) ∙ grown.1) ∙ past_more [] (run c first nothing).lines grown.0))
        (many_more (λ (ls : List Line). IsStateAt c ls p one.tuple one.replica) (λ l ls s. state_more c l ls p one.tuple one.replica s) grown.0 (past [] (run c first nothing).lines) early)
