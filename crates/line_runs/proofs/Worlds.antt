-- A step of one node, well or stopped, and the other nodes.
use Rattle.protocol.specs.Parts.{Ring}
use Rattle.std.proofs.Common.{◌≡◌, ℕ, Bool, true, false, List, [], ◌∷◌, ◌++◌, Option, Some, None, refl, sym, ◌∙◌, subst, arith, true≢false, suc}
use Rattle.std.specs.Prelude.{◌==◌, if◌then◌else◌}
use Rattle.std.specs.List.{AllByRecursion}
use Rattle.std.proofs.lemmas.Bool.Decides.{nat_tests}
use Rattle.mrp_config.specs.Config.{Config, partition_of}
use Rattle.mrp_config.specs.declared.tables.PartitionTable.{PartitionTable}
use Rattle.frames.specs.declared.sent.Sent.{Sent}
use Rattle.vote_state.specs.State.{trim_at, State}
use Rattle.protocol.specs.Lines.{Line, Cause}
use Rattle.protocol.specs.Lines as line
use Rattle.protocol.specs.Node.{Stepped, RingPart}
use Rattle.bare_world.specs.Worlds.{Possible, Host, Up, Down, World}
use Rattle.faithful.specs.Scanners.{past}
use Rattle.recovery_lines.specs.Ties.{AreRight, AreCovered, PartTold, PartLines, IsOf, IsSaid, StepLines, IsPlaced, KnownLines}
use Rattle.recovery_lines.proofs.More.{IsCovered-more, PartLines-more, PartTold-more, KnownLines-more}
use Rattle.recovery_lines.proofs.Merging.{IsStill, many}
use Rattle.recovery_lines.proofs.Printing.{differ}
use Rattle.recovery_lines.proofs.Saving.{kept_down}
use Rattle.step_lines.specs.Effects.{KeptFor, LeftTold}
use Rattle.step_lines.proofs.Composing.{all_many, frames_still, others_replica, others_kept}
use Rattle.line_runs.specs.Invariant.{node, PossibleLines, UpLines, HostLines, TiedTo}
use Rattle.quorums.proofs.Each.{mapped, appended}

pub same_num : (i j : ℕ) → (i == j) ≡ true → i ≡ j
same_num i j e = grind (arith, nat_tests)

pub other_num : (i j : ℕ) → (i == j) ≡ false → j ≡ i → ⊥
other_num i j e same = grind (arith, nat_tests)

-- what says nothing of a node's life is said after any lines
module _ (c : Config) (new lines : List Line) where
  pub covered_past : (s : State) → AreCovered c lines s → AreCovered c (past lines new) s
  covered_past s h = all_many (λ (ls : List Line). AreCovered c ls s) (λ l ls p ring. IsCovered-more c l ls ring (trim_at s ring) (p ring)) new lines h

  pub told_past : (parts : List RingPart) → AllByRecursion (PartTold c lines) parts → AllByRecursion (PartTold c (past lines new)) parts
  told_past parts h = all_many (λ (ls : List Line). AllByRecursion (PartTold c ls) parts) (λ l ls p. mapped (PartTold c ls) (PartTold c (l ∷ ls)) (PartTold-more c l ls) parts p) new lines h

  pub parts_past : (parts : List RingPart) → AllByRecursion (PartLines lines) parts → AllByRecursion (PartLines (past lines new)) parts
  parts_past parts h = all_many (λ (ls : List Line). AllByRecursion (PartLines ls) parts) (λ l ls p. mapped (PartLines ls) (PartLines (l ∷ ls)) (PartLines-more c l ls) parts p) new lines h

module _ (c : Config) (x : ℕ) (lines new : List Line) (own : AllByRecursion (IsOf (node x)) new) where
  -- the others, through the lines of one node
  pub others_host : (n : ℕ) → (x ≡ n → ⊥) → (host : Host) → HostLines c lines n host → HostLines c (past lines new) n host
  others_host n ne (Up view) u = record {
    id = u.id;
    placed = u.placed;
    told = told_past c new lines view.parts u.told;
    covered = covered_past c new lines view.journal.state u.covered;
    parts = parts_past c new lines view.parts u.parts;
    replica = others_replica c (node x) (node n) view.journal.state.epoch view.checkpoints.newest view.service new lines ne own u.replica;
  }
  others_host n ne (Down durable pending) d = (possible durable d.0, possible pending d.1)
    where
      possible : (s : Possible) → PossibleLines c lines n s → PossibleLines c (past lines new) n s
      possible s h = record { kept = go (partition_of c.partitions (node n)) h.kept; covered = covered_past c new lines s.state h.covered }
        where
          go : (o : Option PartitionTable) → KeptFor c lines (node n) s.state.epoch s.newest o → KeptFor c (past lines new) (node n) s.state.epoch s.newest o
          go None k = tt
          go (Some p) k = others_kept c (node x) (node n) s.state.epoch p s.newest new lines ne own k

  -- and the node itself
  pub hosts_after : (host : Host) (hosts : ℕ → Host) → ((n : ℕ) → HostLines c lines n (hosts n)) → HostLines c (past lines new) x host → (n : ℕ) → HostLines c (past lines new) n (if n == x then host else hosts n)
  hosts_after host hosts before here n = go (n == x) refl
    where
      go : (b : Bool) → (n == x) ≡ b → HostLines c (past lines new) n (if b then host else hosts n)
      go true e = subst (λ (k : ℕ). HostLines c (past lines new) k host) (sym (same_num n x e)) here
      go false e = others_host n (other_num n x e) (hosts n) (before n)

-- a step that ended well, or an opening with its up line: `first` are the lines before its own
pub stepped_world : (c : Config) (lines : List Line) (w v : World) (x : ℕ) (first new : List Line) (effects : Stepped) → v.frames ≡ w.frames ++ effects.frames → v.hosts ≡ (λ n. if n == x then Up effects.view else w.hosts n)
    → AllByRecursion (IsOf (node x)) first → TiedTo c lines w → (rings : List Ring) → AllByRecursion (IsPlaced c (node x)) rings → LeftTold c (past lines first) (node x) rings effects → StepLines c (past lines first) new (node x) effects → TiedTo c new v
stepped_world c lines w v x first new effects fs hs own ties rings placed left s =
    subst (λ (ls : List Line). TiedTo c ls v) s.printed (record {
      right = now.right;
      known = now.known;
      frames = subst (λ (ss : List Sent). AllByRecursion (IsSaid c (past (past lines first) effects.lines)) ss) (sym fs)
          (appended (IsSaid c (past (past lines first) effects.lines)) w.frames effects.frames (frames_still c effects.lines (past lines first) w.frames (frames_still c first lines w.frames ties.frames)) now.frames);
      hosts = subst (λ (f : ℕ → Host). (n : ℕ) → HostLines c (past (past lines first) effects.lines) n (f n)) (sym hs) (λ n. go n (n == x) refl);
    })
  where
    now : StepLines c (past lines first) (past (past lines first) effects.lines) (node x) effects
    now = subst (λ (ls : List Line). StepLines c (past lines first) ls (node x) effects) (sym s.printed) s

    here : UpLines c (past (past lines first) effects.lines) x effects.view
    here = record {
      id = left.id;
      placed = subst (λ (rs : List Ring). AllByRecursion (IsPlaced c (node x)) rs) (sym left.rings_stay) placed;
      told = told_past c effects.lines (past lines first) effects.view.parts left.parts;
      covered = covered_past c effects.lines (past lines first) effects.view.journal.state left.covered;
      parts = now.parts;
      replica = now.replica;
    }

    go : (n : ℕ) (b : Bool) → (n == x) ≡ b → HostLines c (past (past lines first) effects.lines) n (if b then Up effects.view else w.hosts n)
    go n true e = subst (λ (k : ℕ). HostLines c (past (past lines first) effects.lines) k (Up effects.view)) (sym (same_num n x e)) here
    go n false e = others_host c x (past lines first) effects.lines now.own n (other_num n x e) (w.hosts n) (others_host c x lines first own n (other_num n x e) (w.hosts n) (ties.hosts n))

-- A node goes down: its disk may stand for two states, each of which was one before the line.
pub down_world : (c : Config) (lines : List Line) (w v : World) (x : ℕ) (cause : Cause) (durable pending : Possible) → v.frames ≡ w.frames → v.hosts ≡ (λ n. if n == x then Down durable pending else w.hosts n)
    → TiedTo c lines w → PossibleLines c lines x durable → PossibleLines c lines x pending → TiedTo c (line.Down (node x) cause ∷ lines) v
down_world c lines w v x cause durable pending fs hs ties first second = record {
  right = (tt, ties.right);
  known = KnownLines-more c (line.Down (node x) cause) lines (λ r p k e replica fits h. absurd h) ties.known;
  frames = subst (λ (ss : List Sent). AllByRecursion (IsSaid c (line.Down (node x) cause ∷ lines)) ss) (sym fs) (frames_still c (line.Down (node x) cause ∷ []) lines w.frames ties.frames);
  hosts = subst (λ (f : ℕ → Host). (n : ℕ) → HostLines c (line.Down (node x) cause ∷ lines) n (f n)) (sym hs)
      (hosts_after c x lines (line.Down (node x) cause ∷ []) ((λ other ne. differ x other ne), tt) (Down durable pending) w.hosts ties.hosts (goes durable first, goes pending second));
}
  where
    goes : (s : Possible) → PossibleLines c lines x s → PossibleLines c (line.Down (node x) cause ∷ lines) x s
    goes s h = record { kept = go (partition_of c.partitions (node x)) h.kept; covered = covered_past c (line.Down (node x) cause ∷ []) lines s.state h.covered }
      where
        go : (o : Option PartitionTable) → KeptFor c lines (node x) s.state.epoch s.newest o → KeptFor c (line.Down (node x) cause ∷ lines) (node x) s.state.epoch s.newest o
        go None k = tt
        go (Some p) k = kept_down c lines (node x) cause s.state.epoch p s.newest k

-- lines of no node's life, and frames that say nothing
pub still_world : (c : Config) (lines : List Line) (w v : World) (new : List Line) (frames : List Sent) → v.frames ≡ w.frames ++ frames → v.hosts ≡ w.hosts → AllByRecursion (IsStill c) new
    → ((ls : List Line) → AllByRecursion (IsSaid c ls) frames) → TiedTo c lines w → TiedTo c (past lines new) v
still_world c lines w v new frames fs hs still said ties = record {
  right = many c (AreRight c) (λ l ls s f. (s.1 ls, f)) new lines still ties.right;
  known = many c (KnownLines c) (λ l ls s k. KnownLines-more c l ls (λ r p t e replica fits h. absurd (true≢false (sym e ∙ s.0 r.0))) k) new lines still ties.known;
  frames = subst (λ (ss : List Sent). AllByRecursion (IsSaid c (past lines new)) ss) (sym fs) (appended (IsSaid c (past lines new)) w.frames frames (frames_still c new lines w.frames ties.frames) (said (past lines new)));
  hosts = subst (λ (f : ℕ → Host). (n : ℕ) → HostLines c (past lines new) n (f n)) (sym hs) (λ n. go n (w.hosts n) (ties.hosts n));
}
  where
    go : (n : ℕ) (host : Host) → HostLines c lines n host → HostLines c (past lines new) n host
    go n host h = others_host c (suc n) lines new (mapped (IsStill c) (IsOf (node (suc n))) (λ l s other ne. s.0 other) new still) n (λ e. omega arith) host h
