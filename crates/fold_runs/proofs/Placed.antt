-- Each reply line stands for the entry at its index of its place; so two of one partition and one place are one.
use Rattle.std.proofs.Common.{arith, ◌≡◌, ℕ, suc, ◌+◌, List, [], ◌∷◌, ◌++◌, length, Option, Some, None, refl, sym, ◌∙◌, ap, subst, append_assoc, append-nil}
use Rattle.std.specs.Prelude.{drop}
use Rattle.std.specs.List.{AllByRecursion}
use Rattle.std.proofs.lemmas.List.{length-append}
use Rattle.mrp_types.specs.declared.id.ClientId.{ClientId}
use Rattle.mrp_types.specs.declared.id.NodeId.{NodeId}
use Rattle.mrp_types.specs.declared.id.RingId.{RingId}
use Rattle.mrp_types.specs.declared.place.Place.{Place}
use Rattle.mrp_types.specs.declared.value.Entry.{Entry}
use Rattle.mrp_types.specs.declared.value.Value.{Value}
use Rattle.mrp_types.specs.Book.{Learning, book_of}
use Rattle.command_codec.specs.declared.reply.Reply.{Reply as Answered}
use Rattle.command_codec.specs.Replies.{reply_bytes}
use Rattle.mrp_config.specs.Config.{Config, partition_of}
use Rattle.mrp_config.specs.declared.tables.PartitionTable.{PartitionTable}
use Rattle.quorums.specs.Groups.{Has}
use Rattle.quorums.proofs.Each.{appended, mapped}
use Rattle.plain_model.specs.Tuples.{round_sizes, tuple_at}
use Rattle.plain_model.specs.Fold.{entries_below, entries_of_value, known_entries, place_with, reply_to}
use Rattle.plain_model.proofs.Fronts.{book_of-more}
use Rattle.protocol.specs.Lines.{Line, Deliver, Reply}
use Rattle.bare_world.specs.Worlds.{Happening, nothing}
use Rattle.bare_world.specs.Runs.{run}
use Rattle.line_rules.specs.Owed.{owed, owed_by, replies_after, replies_of, reply_line, reply_lines}
use Rattle.line_rules.specs.Rules.{IsInTurn}
use Rattle.line_rules.specs.Scanners.{learned, past}
use Rattle.quiet_rules.specs.Quiet.{AreInTurn}
use Rattle.faithful.proofs.Quorum.{all_has}
use Rattle.line_runs.specs.Laws.{IsRun, lines_of}
use Rattle.state_steps.proofs.Growing.{below_line, learned_more}
use Rattle.state_runs.proofs.Runs.{run_states}
use Rattle.fold_runs.specs.Placed.{IsPlaced, IsReplyAt, IsReplyOf}

-- ---- one line more

module _ (c : Config) (l : Line) (lines : List Line) where
  at_more : (p : PartitionTable) (place : Place) (index : ℕ) (client : ClientId) (seq : ℕ) (bytes : List ℕ) → IsReplyAt c lines p place index client seq bytes → IsReplyAt c (l ∷ lines) p place index client seq bytes
  at_more p place index client seq bytes r = record {
    value = r.value;
    holds = subst (λ (known : List Learning). book_of known place.ring place.inst ≡ Some r.value) (sym (learned_more l lines).1)
        (book_of-more (learned lines) (learned_more l lines).0 place.ring place.inst r.value r.holds);
    below = r.below;
    known = below_line (round_sizes c) l lines (tuple_at (round_sizes c) p.rings place) r.below r.known;
    front = r.front;
    entry = r.entry;
    rest = r.rest;
    there = r.there;
    at = r.at;
    asker = r.asker;
    number = r.number;
    reply = r.reply;
    replied = r.replied;
    spelled = r.spelled;
  }

  placed_more : (k : Line) → IsPlaced c lines k → IsPlaced c (l ∷ lines) k
  placed_more (Reply node ring inst index client seq bytes) r =
      record { partition = r.partition; replica = r.replica; given = at_more r.partition (place_with ring inst) index client seq bytes r.given }
  placed_more other r = tt

-- ---- what a delivery owes

module _ (c : Config) (lines : List Line) (node : NodeId) (ring : RingId) (inst : ℕ) where
  abbrev place : Place
  place = place_with ring inst

  module _ (p : PartitionTable) (replica : partition_of c.partitions node ≡ Some p) (value : Value) (holds : book_of (learned lines) ring inst ≡ Some value) (below : List Entry)
      (known : entries_below (round_sizes c) (learned lines) (tuple_at (round_sizes c) p.rings place) ≡ Some below) where
    line_placed : (front : List Entry) (e : Entry) (rest : List Entry) → entries_of_value value ≡ front ++ e ∷ rest → (o : Option Answered) → reply_to p (below ++ front) e ≡ o
        → AllByRecursion (IsPlaced c lines) (reply_line node place (length front) e o)
    line_placed front e rest there None replied = tt
    line_placed front e rest there (Some reply) replied = (
      record {
        partition = p;
        replica = replica;
        given = record {
          value = value;
          holds = holds;
          below = below;
          known = known;
          front = front;
          entry = e;
          rest = rest;
          there = there;
          at = refl;
          asker = refl;
          number = refl;
          reply = reply;
          replied = replied;
          spelled = refl;
        };
      },
      tt,
    )

    longer : (front : List Entry) (e : Entry) → length (front ++ e ∷ []) ≡ suc (length front)
    longer front e = length-append front (e ∷ []) ∙ grind arith

    lines_placed : (front es : List Entry) → entries_of_value value ≡ front ++ es → AllByRecursion (IsPlaced c lines) (reply_lines p node place (below ++ front) (length front) es)
    lines_placed front [] there = tt
    lines_placed front (e ∷ es) there =
        appended (IsPlaced c lines) (reply_line node place (length front) e (reply_to p (below ++ front) e)) (reply_lines p node place ((below ++ front) ++ e ∷ []) (suc (length front)) es)
        (line_placed front e es there (reply_to p (below ++ front) e) refl)
        (subst (λ (before : List Entry). AllByRecursion (IsPlaced c lines) (reply_lines p node place before (suc (length front)) es)) (sym (append_assoc below front (e ∷ [])))
        (subst (λ (index : ℕ). AllByRecursion (IsPlaced c lines) (reply_lines p node place (below ++ (front ++ e ∷ [])) index es)) (longer front e)
        (lines_placed (front ++ e ∷ []) es (there ∙ sym (append_assoc front (e ∷ []) es)))))

  module _ (p : PartitionTable) (replica : partition_of c.partitions node ≡ Some p) where
    after_placed : (below : List Entry) → entries_below (round_sizes c) (learned lines) (tuple_at (round_sizes c) p.rings place) ≡ Some below → (o : Option Value) → book_of (learned lines) ring inst ≡ o
        → AllByRecursion (IsPlaced c lines) (reply_lines p node place below 0 (known_entries o))
    after_placed below known None e = tt
    after_placed below known (Some value) e =
        subst (λ (before : List Entry). AllByRecursion (IsPlaced c lines) (reply_lines p node place before 0 (entries_of_value value))) (append-nil below)
        (lines_placed p replica value e below known [] (entries_of_value value) refl)

    below_placed : (o : Option (List Entry)) → entries_below (round_sizes c) (learned lines) (tuple_at (round_sizes c) p.rings place) ≡ o
        → AllByRecursion (IsPlaced c lines) (replies_after p node place o (known_entries (book_of (learned lines) ring inst)))
    below_placed None e = tt
    below_placed (Some below) e = after_placed below e (book_of (learned lines) ring inst) refl

  delivery_placed : AllByRecursion (IsPlaced c lines) (owed_by c lines node place)
  delivery_placed = by (partition_of c.partitions node) refl
    where
      by : (o : Option PartitionTable) → partition_of c.partitions node ≡ o → AllByRecursion (IsPlaced c lines) (replies_of (round_sizes c) (learned lines) node place o)
      by None e = tt
      by (Some p) e = below_placed p e (entries_below (round_sizes c) (learned lines) (tuple_at (round_sizes c) p.rings place)) refl

-- ---- what is owed, and what was paid

module _ (c : Config) where
  rest_placed : (lines ls : List Line) → AllByRecursion (IsPlaced c lines) ls → AllByRecursion (IsPlaced c lines) (drop 1 ls)
  rest_placed lines [] all = tt
  rest_placed lines (l ∷ ls) all = all.1

  more_placed : (l : Line) (lines ls : List Line) → AllByRecursion (IsPlaced c lines) ls → AllByRecursion (IsPlaced c (l ∷ lines)) ls
  more_placed l lines ls all = mapped (IsPlaced c lines) (IsPlaced c (l ∷ lines)) (placed_more c l lines) ls all

  owed_placed : (lines : List Line) → AllByRecursion (IsPlaced c lines) (owed c lines)
  owed_placed [] = tt
  owed_placed (l ∷ lines) = more_placed l lines (owed c (l ∷ lines)) (by l (owed_placed lines))
    where
      by : (k : Line) → AllByRecursion (IsPlaced c lines) (owed c lines) → AllByRecursion (IsPlaced c lines) (owed c (k ∷ lines))
      by (Deliver node ring inst) later = delivery_placed c lines node ring inst
      by (Reply node ring inst index client seq bytes) later = rest_placed lines (owed c lines) later
      by other later = later

  turn_placed : (lines : List Line) (l : Line) → IsInTurn c lines l → IsPlaced c lines l
  turn_placed lines (Reply node ring inst index client seq bytes) pays = (subst (λ (ls : List Line). AllByRecursion (IsPlaced c lines) ls) pays.next (owed_placed lines)).0
  turn_placed lines other pays = tt

  turns_placed : (lines : List Line) → AreInTurn c lines → AllByRecursion (IsPlaced c lines) lines
  turns_placed [] turns = tt
  turns_placed (l ∷ lines) turns = (placed_more c l lines l (turn_placed lines l turns.0), more_placed l lines lines (turns_placed lines turns.1))

all_new : (P : Line → Type 0) (new lines : List Line) → AllByRecursion P (past lines new) → AllByRecursion P new × AllByRecursion P lines
all_new P [] lines all = (tt, all)
all_new P (l ∷ new) lines all =
    let later = all_new P new (l ∷ lines) all in
    ((later.1.0, later.0), later.1.1)

-- ---- one place, one reply

some_is : {T : Type 0} (x y : T) (o : Option T) → o ≡ Some x → o ≡ Some y → x ≡ y
some_is x y o e f = cc

-- lists that are equal have equal fronts of a length, and equal entries behind them
record SameThere (front other : List Entry) (e d : Entry) : Type 0 where
  fronts : front ≡ other
  entries : e ≡ d

same_there : (front other : List Entry) (e d : Entry) (rest left : List Entry) → length front ≡ length other → front ++ e ∷ rest ≡ other ++ d ∷ left → SameThere front other e d
same_there [] [] e d rest left long same = record { fronts = refl; entries = cc }
same_there [] (y ∷ other) e d rest left long same = absurd (grind arith)
same_there (x ∷ front) [] e d rest left long same = absurd (grind arith)
same_there (x ∷ front) (y ∷ other) e d rest left long same =
    let heads : x ≡ y = cc in
    let tails : front ++ e ∷ rest ≡ other ++ d ∷ left = cc in
    let lengths : length front ≡ length other = grind arith in
    let later = same_there front other e d rest left lengths tails in
    record { fronts = ap (λ (z : Entry). z ∷ front) heads ∙ ap (λ (zs : List Entry). y ∷ zs) later.fronts; entries = later.entries }

module _ (c : Config) (lines : List Line) (p : PartitionTable) (place : Place) (index : ℕ) (client client' : ClientId) (seq seq' : ℕ) (bytes bytes' : List ℕ)
    (a : IsReplyAt c lines p place index client seq bytes) (b : IsReplyAt c lines p place index client' seq' bytes') where
  one_value : a.value ≡ b.value
  one_value = some_is a.value b.value (book_of (learned lines) place.ring place.inst) a.holds b.holds

  one_below : a.below ≡ b.below
  one_below = some_is a.below b.below (entries_below (round_sizes c) (learned lines) (tuple_at (round_sizes c) p.rings place)) a.known b.known

  one_there : SameThere a.front b.front a.entry b.entry
  one_there = same_there a.front b.front a.entry b.entry a.rest b.rest (a.at ∙ sym b.at) (sym a.there ∙ ap entries_of_value one_value ∙ b.there)

  same_replied : reply_to p (a.below ++ a.front) a.entry ≡ reply_to p (b.below ++ b.front) b.entry
  same_replied =
      ap (λ (es : List Entry). reply_to p (es ++ a.front) a.entry) one_below ∙ ap (λ (es : List Entry). reply_to p (b.below ++ es) a.entry) one_there.fronts
      ∙ ap (λ (e : Entry). reply_to p (b.below ++ b.front) e) one_there.entries

  one_answered : a.reply ≡ b.reply
  one_answered = some_is a.reply b.reply (reply_to p (a.below ++ a.front) a.entry) a.replied (same_replied ∙ b.replied)

  one_reply : (client ≡ client') × (seq ≡ seq') × (bytes ≡ bytes')
  one_reply = (
    a.asker ∙ ap (λ (e : Entry). e.client) one_there.entries ∙ sym b.asker,
    a.number ∙ ap (λ (e : Entry). e.seq) one_there.entries ∙ sym b.number,
    a.spelled ∙ ap reply_bytes one_answered ∙ sym b.spelled,
  )

-- ---- every run

module _ (c : Config) (hs : List Happening) (r : IsRun c hs) where
  all_placed : (l : Line) → Has (lines_of c hs) l → IsPlaced c (past [] (run c hs nothing).lines) l
  all_placed l has =
      all_has (IsPlaced c (past [] (run c hs nothing).lines)) (run c hs nothing).lines l
      (all_new (IsPlaced c (past [] (run c hs nothing).lines)) (run c hs nothing).lines [] (turns_placed c (past [] (run c hs nothing).lines) (run_states c hs r).paid.turns)).0 has

  pub place_alone : (x y : NodeId) (ring : RingId) (inst index : ℕ) (client client' : ClientId) (seq seq' : ℕ) (reply reply' : List ℕ) → Has (lines_of c hs) (Reply x ring inst index client seq reply)
      → Has (lines_of c hs) (Reply y ring inst index client' seq' reply') → partition_of c.partitions x ≡ partition_of c.partitions y → (client ≡ client') × (seq ≡ seq') × (reply ≡ reply')
  place_alone x y ring inst index client client' seq seq' reply reply' first second same =
      one_reply c (past [] (run c hs nothing).lines) a.partition (place_with ring inst) index client client' seq seq' reply reply' a.given
      (subst (λ (p : PartitionTable). IsReplyAt c (past [] (run c hs nothing).lines) p (place_with ring inst) index client' seq' reply') (sym one_partition) b.given)
    where
      a : IsReplyOf c (past [] (run c hs nothing).lines) x (place_with ring inst) index client seq reply
      a = all_placed (Reply x ring inst index client seq reply) first

      b : IsReplyOf c (past [] (run c hs nothing).lines) y (place_with ring inst) index client' seq' reply'
      b = all_placed (Reply y ring inst index client' seq' reply') second

      one_partition : a.partition ≡ b.partition
      one_partition = some_is a.partition b.partition (partition_of c.partitions x) a.replica (same ∙ b.replica)
