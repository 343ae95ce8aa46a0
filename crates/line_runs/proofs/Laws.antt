-- The laws of every run.
use Rattle.frames.proofs.BodyLaws.{}
use Rattle.recovery_lines.proofs.More.{}
use Rattle.range_map.proofs.CutLemmas.{}
use Rattle.transcript.proofs.LineLaws.{}
use Rattle.plain_model.proofs.TupleAt.{by_number}
use Rattle.std.proofs.Common.{◌≡◌, ℕ, ◌<◌, ◌≤◌, ◌⊎◌, inl, inr, Bool, true, false, List, [], ◌∷◌, ◌++◌, Option, Some, None, refl, sym, ◌∙◌, ap, subst, arith, le_trans}
use Rattle.std.specs.Prelude.{◌==◌, nat_lt, nat_le, ◌&&◌, if◌then◌else◌}
use Rattle.std.specs.List.{AllByRecursion}
use Rattle.std.proofs.lemmas.Bool.Decides.{nat_tests}
use Rattle.mrp_types.specs.declared.id.NodeId.{NodeId}
use Rattle.mrp_types.specs.declared.id.RingId.{RingId}
use Rattle.mrp_types.specs.declared.id.Party.{Party}
use Rattle.mrp_types.specs.declared.id.Party.TheVariants.{Node}
use Rattle.mrp_types.specs.declared.value.Value.{Value}
use Rattle.mrp_config.specs.Config.{Config, partition_of}
use Rattle.mrp_config.specs.declared.tables.PartitionTable.{PartitionTable}
use Rattle.frames.specs.declared.body.Body.{Body}
use Rattle.frames.specs.declared.body.Body.TheVariants.{Promise, Trimmed, TrimTo}
use Rattle.frames.specs.declared.sent.Sent.{Sent}
use Rattle.plain_model.proofs.TupleOrder.{split_and}
use Rattle.quorums.specs.Groups.{Has}
use Rattle.protocol.specs.Lines.{Line, Learn, Begin, Chose, Restore, Trim, Down as WentDown, Up as WentUp}
use Rattle.protocol.specs.Node.{View, Service, Stage, Ready, Standing}
use Rattle.bare_world.specs.Worlds.{Possible, Host, Up, Down, Happening, nothing, World}
use Rattle.bare_world.specs.Runs.{run}
use Rattle.faithful.specs.Scanners.{past, touches, or_else, chosen, choice_told, before_begin, lines_before, told, book, learned_by, entry_of, some_reaches}
use Rattle.faithful.specs.Rules.{Restores, IsReached, IsFaithfulLine}
use Rattle.faithful.proofs.Growing.{past_more}
use Rattle.faithful.proofs.Quorum.{all_has, some_reaches_is, entry_reaches}
use Rattle.recovery_lines.specs.Ties.{IsRightLine, AreRight, IsCovered, ReachesCovered, KeptLines, BodySaid, PartySaid, IsSaid, ReplicaLines, ServiceLines, StageLines, ReadyLines, newest_of}
use Rattle.recovery_lines.proofs.Right.{right_line}
use Rattle.step_lines.specs.Effects.{Agrees, AllAgree, KeptFor}
use Rattle.step_lines.proofs.Ending.{kept_for}
use Rattle.line_runs.specs.Invariant.{node, latest_first, PossibleLines, UpLines, HostLines, WorldLines}
use Rattle.line_runs.specs.Laws.{HaveOneValue, IsRun, lines_of, host_of, IsPossible, trim_told, NodeSent, KeepsTold, StartsPast}
use Rattle.ring_runs.specs.Histories.{at_first}
use Rattle.ring_runs.specs.Lines.{LearnLinesKeepF1}
use Rattle.ring_runs.proofs.Whole.{world_of}
use Rattle.ring_runs.proofs.Faithful.{faithful}
use Rattle.line_runs.proofs.Agreeing.{turn_is_enough}
use Rattle.line_runs.proofs.Starting.{first_world}
use Rattle.line_runs.proofs.Runs.{run_kept}
use Rattle.line_runs.proofs.Fitting.{valid_fits}

-- ---- one value of all learn lines is what each learn line's agreement with the book is

-- a value of the book is that of a learn line
pub record LearnedLine (lines : List Line) (ring : RingId) (inst : ℕ) (value : Value) : Type 0 where
  pub by_node : NodeId
  pub lo : ℕ
  pub hi : ℕ
  pub there : Has lines (Learn by_node ring lo hi value)
  pub from : lo ≤ inst
  pub to : inst < hi

pub book_line : (lines : List Line) (ring : RingId) (inst : ℕ) (value : Value) → book lines ring inst ≡ Some value → LearnedLine lines ring inst value
book_line [] ring inst value e = absurd (cc)
book_line (l ∷ lines) ring inst value e = by_book (book lines ring inst) refl e (λ f. book_line lines ring inst value f)
  where
    same_num : (i j : ℕ) → (i == j) ≡ true → i ≡ j
    same_num i j t = grind (arith, nat_tests)

    low : (i j : ℕ) → nat_le i j ≡ true → i ≤ j
    low i j t = grind (arith, nat_tests)

    high : (i j : ℕ) → nat_lt i j ≡ true → i < j
    high i j t = grind (arith, nat_tests)

    by_line : (k : Line) → learned_by ring inst k ≡ Some value → LearnedLine (k ∷ lines) ring inst value
    by_line (Learn n other lo hi v) f = go ((other.0 == ring.0) && (nat_le lo inst && nat_lt inst hi)) refl f
      where
        go : (b : Bool) → ((other.0 == ring.0) && (nat_le lo inst && nat_lt inst hi)) ≡ b → (if b then Some v else None) ≡ Some value → LearnedLine (Learn n other lo hi v ∷ lines) ring inst value
        go false t f = absurd (cc)
        go true t f =
            let s = split_and (other.0 == ring.0) (nat_le lo inst && nat_lt inst hi) t in
            let u = split_and (nat_le lo inst) (nat_lt inst hi) s.1 in
            let number : other ≡ ring = by_number other ring (same_num other.0 ring.0 s.0) in
            let same : v ≡ value = cc in
            record { by_node = n; lo = lo; hi = hi; there = inl (cc); from = low lo inst u.0; to = high inst hi u.1 }
    by_line other f = absurd (cc)

    by_book : (o : Option Value) → book lines ring inst ≡ o → or_else o (learned_by ring inst l) ≡ Some value → (book lines ring inst ≡ Some value → LearnedLine lines ring inst value) → LearnedLine (l ∷ lines) ring inst value
    by_book None f g rest = by_line l g
    by_book (Some v) f g rest = let r = rest (f ∙ g) in record { by_node = r.by_node; lo = r.lo; hi = r.hi; there = inr r.there; from = r.from; to = r.to }

one_agrees : (lines : List Line) → HaveOneValue lines → AllAgree lines
one_agrees [] one = tt
one_agrees (l ∷ lines) one = (by_line l one, one_agrees lines (λ m n ring lo hi lo' hi' inst v w h k a b d e. one m n ring lo hi lo' hi' inst v w (inr h) (inr k) a b d e))
  where
    by_line : (k : Line) → HaveOneValue (k ∷ lines) → Agrees lines k
    by_line (Learn m ring lo hi value) all = λ inst known from to e.
        let r = book_line lines ring inst known e in
        all r.by_node m ring r.lo r.hi lo hi inst known value (inr r.there) (inl refl) r.from r.to from to
    by_line other all = tt

has_past : (new before : List Line) (l : Line) → Has (past before new) l → Has new l ⊎ Has before l
has_past [] before l h = inr h
has_past (k ∷ new) before l h = elim (has_past new (k ∷ before) l h) [
  | inl there ↦ inl (inr there)
  | inr (inl e) ↦ inl (inl e)
  | inr (inr there) ↦ inr there
]

pub in_order : (lines : List Line) (l : Line) → Has (past [] lines) l → Has lines l
in_order lines l h = elim (has_past lines [] l h) [
  | inl there ↦ there
  | inr none ↦ absurd none
]

turned : (lines : List Line) → HaveOneValue lines → HaveOneValue (past [] lines)
turned lines one m n ring lo hi lo' hi' inst v w h k a b d e = one m n ring lo hi lo' hi' inst v w (in_order lines _ h) (in_order lines _ k) a b d e

-- ---- every run

pub one_value : (c : Config) (hs : List Happening) → IsRun c hs → HaveOneValue (lines_of c hs)
one_value c hs r =
    let f : LearnLinesKeepF1 c (lines_of c hs) = subst (λ (w : World). LearnLinesKeepF1 c w.lines) (world_of c at_first hs) (faithful c r.valid hs r.may) in
    turn_is_enough (lines_of c hs) (λ before after n ring lo hi value e m low high earlier h inst a b d g. (f before after n ring lo hi value e).agrees m low high earlier h inst a b d g)

pub run_lines : (c : Config) (hs : List Happening) → IsRun c hs → WorldLines c (run c hs nothing)
run_lines c hs r = run_kept c (valid_fits c r.valid) hs nothing (first_world c) r.may (one_agrees (past [] (lines_of c hs)) (turned (lines_of c hs) (one_value c hs r)))

right_before : (c : Config) (new lines : List Line) → AreRight c (past lines new) → AreRight c lines
right_before c [] lines f = f
right_before c (l ∷ new) lines f = (right_before c new (l ∷ lines) f).1

pub right_then : (c : Config) (hs : List Happening) → IsRun c hs → (before after : List Line) → lines_of c hs ≡ before ++ after → AreRight c (latest_first before)
right_then c hs r before after e =
    right_before c after (past [] before) (subst (λ (ls : List Line). AreRight c ls) (ap (λ (ls : List Line). past [] ls) e ∙ past_more [] before after) (run_lines c hs r).right)

-- each line is faithful to those before it
pub line_holds : (c : Config) (hs : List Happening) → IsRun c hs → (before after : List Line) (l : Line) → lines_of c hs ≡ before ++ l ∷ after → IsFaithfulLine c (latest_first before) l
line_holds c hs r before after l e =
    right_line c (past [] before) l
    (right_before c after (l ∷ past [] before) (subst (λ (ls : List Line). AreRight c ls) (ap (λ (ls : List Line). past [] ls) e ∙ past_more [] before (l ∷ after)) (run_lines c hs r).right)).0

-- ---- a choice stands past the trims before its begin line, and past all that is covered there

record ChosenPast (c : Config) (lines : List Line) (x : ℕ) (t : List ℕ) (begun : Option (List Line)) : Type 0 where
  partition : PartitionTable
  replica : partition_of c.partitions (node x) ≡ Some partition
  earlier : List Line
  begins : begun ≡ Some earlier
  trims : AllByRecursion (IsReached partition.rings t) earlier
  covered : ReachesCovered c earlier partition.rings t

chosen_past : (c : Config) (x : ℕ) (t : List ℕ) (lines : List Line) → AreRight c lines → chosen x lines ≡ Some (Some t) → ChosenPast c lines x t (before_begin x lines)
chosen_past c x t [] f e = absurd (cc)
chosen_past c x t (l ∷ lines) f e = by_touch (touches x l) refl e (λ g. chosen_past c x t lines f.1 g)
  where
    same_num : (i j : ℕ) → (i == j) ≡ true → i ≡ j
    same_num i j q = grind (arith, nat_tests)

    by_line : (k : Line) → touches x k ≡ true → IsRightLine c lines k → or_else (choice_told lines k) (chosen x lines) ≡ Some (Some t) → (chosen x lines ≡ Some (Some t) → ChosenPast c lines x t (before_begin x lines))
        → ChosenPast c (k ∷ lines) x t (or_else (lines_before lines k) (before_begin x lines))
    by_line (Chose n epoch attempt tuple from) q h g rest =
        let same : n.0 ≡ x = same_num n.0 x q in
        let printed : tuple ≡ t = cc in
        record {
          partition = h.0.partition;
          replica = subst (λ (k : ℕ). partition_of c.partitions (node k) ≡ Some h.0.partition) same h.0.replica;
          earlier = h.0.earlier;
          begins = subst (λ (k : ℕ). before_begin k lines ≡ Some h.0.earlier) same h.0.begins;
          trims = subst (λ (u : List ℕ). AllByRecursion (IsReached h.0.partition.rings u) h.0.earlier) printed h.0.trims;
          covered = subst (λ (u : List ℕ). ReachesCovered c h.0.earlier h.0.partition.rings u) printed h.1;
        }
    by_line (Begin n epoch attempt tuple) q h g rest = absurd (cc)
    by_line (WentUp n epoch) q h g rest = absurd (cc)
    by_line (WentDown n cause) q h g rest = absurd (cc)
    by_line other q h g rest = let r = rest g in record { partition = r.partition; replica = r.replica; earlier = r.earlier; begins = r.begins; trims = r.trims; covered = r.covered }

    by_touch : (b : Bool) → touches x l ≡ b → (if b then or_else (choice_told lines l) (chosen x lines) else chosen x lines) ≡ Some (Some t)
        → (chosen x lines ≡ Some (Some t) → ChosenPast c lines x t (before_begin x lines)) → ChosenPast c (l ∷ lines) x t (if b then or_else (lines_before lines l) (before_begin x lines) else before_begin x lines)
    by_touch true q g rest = by_line l q f.0 g rest
    by_touch false q g rest = let r = rest g in record { partition = r.partition; replica = r.replica; earlier = r.earlier; begins = r.begins; trims = r.trims; covered = r.covered }

pub recovery_past : (c : Config) (hs : List Happening) → IsRun c hs → (before after : List Line) (x : NodeId) (printed : List ℕ) → lines_of c hs ≡ before ++ Restore x printed ∷ after → StartsPast c (latest_first before) x printed
recovery_past c hs r before after x printed e =
    let rule : Restores c (latest_first before) x printed = line_holds c hs r before after (Restore x printed) e in
    let p = chosen_past c x.0 printed (latest_first before) (right_then c hs r before (Restore x printed ∷ after) e) rule.choice in
    record {
      partition = p.partition;
      replica = p.replica;
      earlier = p.earlier;
      begins = p.begins;
      trims = λ m ring inst h has. all_has (IsReached p.partition.rings printed) p.earlier (Trim m ring inst) p.trims h has;
      covered = p.covered;
    }

-- ---- possible states

pub possible_lines : (c : Config) (hs : List Happening) → IsRun c hs → (n : ℕ) (s : Possible) → IsPossible (host_of c hs n) s → PossibleLines c (latest_first (lines_of c hs)) n s
possible_lines c hs r n s is = go (host_of c hs n) ((run_lines c hs r).hosts n) is
  where
    go : (host : Host) → HostLines c (past [] (lines_of c hs)) n host → IsPossible host s → PossibleLines c (past [] (lines_of c hs)) n s
    go (Up view) u e = subst (λ (q : Possible). PossibleLines c (past [] (lines_of c hs)) n q) (sym e)
        (record { kept = kept_for c (past [] (lines_of c hs)) (node n) view.journal.state.epoch view.checkpoints.newest view.service u.replica; covered = u.covered })
    go (Down durable pending) d (inl e) = subst (λ (q : Possible). PossibleLines c (past [] (lines_of c hs)) n q) (sym e) d.0
    go (Down durable pending) d (inr e) = subst (λ (q : Possible). PossibleLines c (past [] (lines_of c hs)) n q) (sym e) d.1

pub told_kept : (c : Config) (hs : List Happening) → IsRun c hs → (n : ℕ) (s : Possible) (p : PartitionTable) → IsPossible (host_of c hs n) s → partition_of c.partitions (node n) ≡ Some p → KeepsTold c (latest_first (lines_of c hs)) n p s
told_kept c hs r n s p is there =
    let k : KeptLines c (past [] (lines_of c hs)) (node n) s.state.epoch p s.newest =
    subst (λ (o : Option PartitionTable). KeptFor c (past [] (lines_of c hs)) (node n) s.state.epoch s.newest o) there (possible_lines c hs r n s is).kept in
    record { valid = k.valid; known = k.known; reaches = k.reaches }

pub safe_stays : (c : Config) (hs : List Happening) → IsRun c hs → (n : ℕ) (s : Possible) (p : PartitionTable) (ring : RingId) (inst : ℕ) → IsPossible (host_of c hs n) s → partition_of c.partitions (node n) ≡ Some p
    → some_reaches p.rings ring inst (told n (latest_first (lines_of c hs))) ≡ true → inst ≤ entry_of p.rings ring (newest_of p s.newest)
safe_stays c hs r n s p ring inst is there e =
    let k = told_kept c hs r n s p is there in
    let t = some_reaches_is p.rings ring inst (told n (past [] (lines_of c hs))) e in
    le_trans t.reaches (entry_reaches p.rings ring (newest_of p s.newest) t.tuple (k.reaches t.tuple t.there))

-- ---- frames

pub body_said : (c : Config) (hs : List Happening) → IsRun c hs → (sent : Sent) (from to : NodeId) (body : Body) → Has (run c hs nothing).frames sent → NodeSent sent from to body → BodySaid c (latest_first (lines_of c hs)) from to body
body_said c hs r sent from to body has is =
    let s : IsSaid c (past [] (lines_of c hs)) sent = all_has (IsSaid c (past [] (lines_of c hs))) (run c hs nothing).frames sent (run_lines c hs r).frames has in
    subst (λ (b : Body). BodySaid c (past [] (lines_of c hs)) from to b) is.same
    (subst (λ (q : Party). PartySaid c (past [] (lines_of c hs)) (Node from) q sent.frame.body) is.to_node (subst (λ (q : Party). PartySaid c (past [] (lines_of c hs)) q sent.to sent.frame.body) is.from_node s))

pub frame_covered : (c : Config) (hs : List Happening) → IsRun c hs → (sent : Sent) (from to : NodeId) (body : Body) (ring : RingId) (trim : ℕ) → Has (run c hs nothing).frames sent → NodeSent sent from to body
    → trim_told body ≡ Some (ring, trim) → IsCovered c (latest_first (lines_of c hs)) ring trim
frame_covered c hs r sent from to body ring trim has is e = go body (body_said c hs r sent from to body has is) e
  where
    pair : (a b : RingId × ℕ) → Some a ≡ Some b → a ≡ b
    pair a b e = cc

    at : (a : RingId × ℕ) → Some a ≡ Some (ring, trim) → IsCovered c (past [] (lines_of c hs)) a.0 a.1 → IsCovered c (past [] (lines_of c hs)) ring trim
    at a e h = subst (λ (q : RingId × ℕ). IsCovered c (past [] (lines_of c hs)) q.0 q.1) (pair a (ring, trim) e) h

    go : (b : Body) → BodySaid c (past [] (lines_of c hs)) from to b → trim_told b ≡ Some (ring, trim) → IsCovered c (past [] (lines_of c hs)) ring trim
    go (Promise other ballot lo hi t votes) h e = at (other, t) e h
    go (Trimmed other t) h e = at (other, t) e h
    go (TrimTo other t) h e = at (other, t) e h
    go other h e = absurd (cc)

-- ---- ready replicas

-- what is so of a replica that is up
pub service_lines : (c : Config) (hs : List Happening) → IsRun c hs → (n : ℕ) (view : View) (service : Service) → host_of c hs n ≡ Up view → view.service ≡ Some service
    → ServiceLines c (latest_first (lines_of c hs)) (node n) view.journal.state.epoch view.checkpoints.newest service
service_lines c hs r n view service up there =
    let u : UpLines c (past [] (lines_of c hs)) n view = subst (λ (host : Host). HostLines c (past [] (lines_of c hs)) n host) up ((run_lines c hs r).hosts n) in
    subst (λ (o : Option Service). ReplicaLines c (past [] (lines_of c hs)) (node n) view.journal.state.epoch view.checkpoints.newest o) there u.replica

pub ready_lines : (c : Config) (hs : List Happening) → IsRun c hs → (n : ℕ) (view : View) (service : Service) (standing : Standing) → host_of c hs n ≡ Up view → view.service ≡ Some service → service.stage ≡ Ready standing
    → ReadyLines c (latest_first (lines_of c hs)) (node n) view.checkpoints.newest service.partition standing.tuple standing.delivered
ready_lines c hs r n view service standing up there is =
    subst (λ (st : Stage). StageLines c (past [] (lines_of c hs)) (node n) view.journal.state.epoch view.checkpoints.newest service.partition st) is (service_lines c hs r n view service up there).stage
