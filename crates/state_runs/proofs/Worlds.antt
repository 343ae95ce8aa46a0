-- A step of one node, well or stopped, lines of clients, and what they leave of all nodes.
use Rattle.std.proofs.Common.{◌≡◌, ℕ, Bool, true, false, List, [], ◌∷◌, ◌++◌, Option, Some, None, refl, sym, subst}
use Rattle.std.specs.Prelude.{◌==◌, if◌then◌else◌}
use Rattle.std.specs.List.{AllByRecursion}
use Rattle.mrp_types.specs.declared.id.NodeId.{NodeId}
use Rattle.mrp_config.specs.Config.{Config, partition_of}
use Rattle.mrp_config.specs.declared.tables.PartitionTable.{PartitionTable}
use Rattle.frames.specs.declared.sent.Sent.{Sent}
use Rattle.plain_model.proofs.TupleOrder.{same_number}
use Rattle.protocol.specs.Lines.{Line, Cause}
use Rattle.protocol.specs.Lines as line
use Rattle.protocol.specs.Node.{Stepped}
use Rattle.bare_world.specs.Worlds.{Possible, Host, Up, Down, World, nothing}
use Rattle.line_rules.specs.Rules.{HasNode}
use Rattle.line_rules.specs.Scanners.{past}
use Rattle.quorums.proofs.Each.{appended}
use Rattle.quiet_rules.specs.Quiet.{OwesNothing, OwnNamesFit}
use Rattle.line_runs.specs.Invariant.{node}
use Rattle.state_steps.specs.Folded.{SentFolded}
use Rattle.state_steps.specs.States.{NewestAt, ReplicaAt, StepAt}
use Rattle.state_steps.proofs.Growing.{sents_past, replica_past, newest_past}
use Rattle.state_steps.proofs.Words.{paid_still, paid_past}
use Rattle.state_runs.specs.Invariant.{PossibleAt, UpAt, HostAt, StatesAt, KeepsStates}

-- what nodes keep stays so, whoever prints
host_past : (c : Config) (lines new : List Line) (n : ℕ) (host : Host) → HostAt c lines n host → HostAt c (past lines new) n host
host_past c lines new n (Up view) h = record {
  there = h.there;
  replica = replica_past c new lines (node n) view.service h.replica;
  newest = newest_past c new lines (partition_of c.partitions (node n)) view.checkpoints.newest h.newest;
}
host_past c lines new n (Down durable pending) h = (
  newest_past c new lines (partition_of c.partitions (node n)) durable.newest h.0,
  newest_past c new lines (partition_of c.partitions (node n)) pending.newest h.1,
)

pub all_past : (P : Line → Type 0) (new lines : List Line) → AllByRecursion P new → AllByRecursion P lines → AllByRecursion P (past lines new)
all_past P [] lines all before = before
all_past P (l ∷ new) lines all before = all_past P new (l ∷ lines) all.1 (all.0, before)

-- one node is put
hosts_put : (c : Config) (lines : List Line) (x : ℕ) (host : Host) (hosts : ℕ → Host) → HostAt c lines x host → ((n : ℕ) → HostAt c lines n (hosts n)) → (n : ℕ) → HostAt c lines n (if n == x then host else hosts n)
hosts_put c lines x host hosts here others n = go (n == x) refl
  where
    go : (b : Bool) → (n == x) ≡ b → HostAt c lines n (if b then host else hosts n)
    go true e = subst (λ (k : ℕ). HostAt c lines k host) (sym (same_number n x e)) here
    go false e = others n

module _ (c : Config) (lines : List Line) (w v : World) where
  -- a step that ended well, or an opening with its up line: `first` are the lines before its own
  pub stepped_states : (x : ℕ) (first : List Line) (effects : Stepped) → v.frames ≡ w.frames ++ effects.frames → v.hosts ≡ (λ n. if n == x then Up effects.view else w.hosts n) → HasNode c (node x) → effects.view.id ≡ node x
      → AllByRecursion (OwnNamesFit c) first → StatesAt c lines w → StepAt c (past lines first) effects → StatesAt c (past (past lines first) effects.lines) v
  stepped_states x first effects fs hs there id names kept s = record {
    paid = s.paid;
    names = all_past (OwnNamesFit c) effects.lines (past lines first) s.names (all_past (OwnNamesFit c) first lines names kept.names);
    frames = subst (λ (ss : List Sent). AllByRecursion (SentFolded c (past (past lines first) effects.lines)) ss) (sym fs)
        (appended (SentFolded c (past (past lines first) effects.lines)) w.frames effects.frames (sents_past c effects.lines (past lines first) w.frames (sents_past c first lines w.frames kept.frames)) s.frames);
    hosts = subst (λ (f : ℕ → Host). (n : ℕ) → HostAt c (past (past lines first) effects.lines) n (f n)) (sym hs)
        (hosts_put c (past (past lines first) effects.lines) x (Up effects.view) w.hosts here
        (λ n. host_past c (past lines first) effects.lines n (w.hosts n) (host_past c lines first n (w.hosts n) (kept.hosts n))));
  }
    where
      here : UpAt c (past (past lines first) effects.lines) x effects.view
      here = record {
        there = there;
        replica = subst (λ (y : NodeId). ReplicaAt c (past (past lines first) effects.lines) y effects.view.service) id s.replica;
        newest = newest_past c effects.lines (past lines first) (partition_of c.partitions (node x)) effects.view.checkpoints.newest
            (subst (λ (y : NodeId). NewestAt c (past lines first) (partition_of c.partitions y) effects.view.checkpoints.newest) id s.newest);
      }

  -- a node goes down: its disk may stand for two states
  pub down_states : (x : ℕ) (cause : Cause) (durable pending : Possible) → v.frames ≡ w.frames → v.hosts ≡ (λ n. if n == x then Down durable pending else w.hosts n) → HasNode c (node x) → StatesAt c lines w
      → PossibleAt c lines x durable → PossibleAt c lines x pending → StatesAt c (line.Down (node x) cause ∷ lines) v
  down_states x cause durable pending fs hs there kept first second = record {
    paid = paid_still c (line.Down (node x) cause) lines tt kept.paid;
    names = (there, kept.names);
    frames = subst (λ (ss : List Sent). AllByRecursion (SentFolded c (line.Down (node x) cause ∷ lines)) ss) (sym fs) (sents_past c (line.Down (node x) cause ∷ []) lines w.frames kept.frames);
    hosts = subst (λ (f : ℕ → Host). (n : ℕ) → HostAt c (line.Down (node x) cause ∷ lines) n (f n)) (sym hs)
        (hosts_put c (line.Down (node x) cause ∷ lines) x (Down durable pending) w.hosts (host_past c lines (line.Down (node x) cause ∷ []) x (Down durable pending) (first, second))
        (λ n. host_past c lines (line.Down (node x) cause ∷ []) n (w.hosts n) (kept.hosts n)));
  }

  -- lines that owe nothing, and frames that are the fold's, beside the nodes
  pub still_states : (new : List Line) (frames : List Sent) → v.frames ≡ w.frames ++ frames → v.hosts ≡ w.hosts → AllByRecursion OwesNothing new → AllByRecursion (OwnNamesFit c) new
      → AllByRecursion (SentFolded c (past lines new)) frames → StatesAt c lines w → StatesAt c (past lines new) v
  still_states new frames fs hs owe names said kept = record {
    paid = paid_past c new lines owe kept.paid;
    names = all_past (OwnNamesFit c) new lines names kept.names;
    frames = subst (λ (ss : List Sent). AllByRecursion (SentFolded c (past lines new)) ss) (sym fs) (appended (SentFolded c (past lines new)) w.frames frames (sents_past c new lines w.frames kept.frames) said);
    hosts = subst (λ (f : ℕ → Host). (n : ℕ) → HostAt c (past lines new) n (f n)) (sym hs) (λ n. host_past c lines new n (w.hosts n) (kept.hosts n));
  }

-- no node has opened yet
pub first_states : (c : Config) → KeepsStates c nothing
first_states c = record { paid = record { turns = tt; paid = refl }; names = tt; frames = tt; hosts = λ n. (none (partition_of c.partitions (node n)), none (partition_of c.partitions (node n))) }
  where
    none : (p : Option PartitionTable) → NewestAt c [] p None
    none None = tt
    none (Some p) = tt
