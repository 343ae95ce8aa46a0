-- The merge: what is delivered is followed by the reply lines that it owes, and the replica goes on as the fold does.
use Rattle.std.proofs.Common.{◌≡◌, ℕ, zero, suc, ◌+◌, ◌^◌, ◌<◌, List, [], ◌∷◌, ◌++◌, map, Option, Some, None, refl, sym, ◌∙◌, ap, subst, arith, append-nil, append_assoc, true, false}
use Rattle.std.specs.Prelude.{length, drop}
use Rattle.std.specs.List.{AllByRecursion}
use Rattle.mrp_types.specs.declared.id.NodeId.{NodeId}
use Rattle.mrp_types.specs.declared.id.RingId.{RingId}
use Rattle.mrp_types.specs.declared.place.Place.{Place}
use Rattle.mrp_types.specs.declared.value.Value.{Value}
use Rattle.mrp_types.specs.declared.value.Value.TheVariants.{Skip, Batch}
use Rattle.mrp_types.specs.declared.value.Entry.{Entry}
use Rattle.mrp_types.specs.Book.{Learning, book_of}
use Rattle.command_codec.specs.declared.reply.Reply.{Reply as Answered}
use Rattle.command_codec.specs.Replies.{reply_bytes}
use Rattle.mrp_config.specs.Config.{Config, has_ring, partition_of}
use Rattle.mrp_config.specs.Valid.{IncreasesFrom, numbers_of_rings}
use Rattle.mrp_config.specs.declared.tables.PartitionTable.{PartitionTable}
use Rattle.frames.specs.declared.sent.Sent.{Sent}
use Rattle.state_laws.specs.Spoken.{replied, replies_listed}
use Rattle.state_laws.proofs.Batches.{batch-follows}
use Rattle.plain_model.specs.Replicas.{AppliedAll, Replica, applies, entries_of_batch}
use Rattle.plain_model.specs.Tuples.{round_sizes, next_place, past as past_tuple_of, is_tuple_of, tuple_at, place_of as place_from}
use Rattle.plain_model.specs.Fold.{both_known, entries_known, entries_in_book, entries_below, entries_of_value, entries_at_place, known_entries, place_with, replica_after, reply_to}
use Rattle.protocol.specs.Lines.{Line, Deliver, Reply as ReplyLine}
use Rattle.protocol.specs.Node.{StepSoFar, Service, Stage, Recovering, Ready, Standing, with_stage, prints}
use Rattle.protocol.specs.Merging.{value_at_place, place_of, reply_line, reply_frame, skipped, passed_batch, delivers_applied, takes_place, merges_place, merges_stage, merges_service, merges_up_to, merges}
use Rattle.line_rules.specs.Scanners.{past, book, learned}
use Rattle.line_rules.specs.Owed.{owed, owed_by, replies_of, replies_after, reply_lines}
use Rattle.line_rules.specs.Owed as owing
use Rattle.line_rules.specs.Rules.{IsInTurn}
use Rattle.line_rules.proofs.Growing.{past_more, book_more}
use Rattle.line_rules.proofs.Ranges.{book_learned}
use Rattle.line_rules.proofs.Decided.{next_in}
use Rattle.tuple_laws.proofs.Below.{below-past}
use Rattle.tuple_laws.proofs.NextPlaces.{at-next}
use Rattle.faithful.proofs.Ordering.{rings_fit}
use Rattle.faithful.proofs.Moving.{past_tuple}
use Rattle.recovery_lines.proofs.Merging.{booked_at}
use Rattle.quiet_rules.specs.Quiet.{AreInTurn, AllPaid, OwnNamesFit}
use Rattle.quorums.proofs.Each.{appended}
use Rattle.state_steps.specs.Folded.{IsStateAt, IsFoldReply, SentFolded}
use Rattle.state_steps.specs.States.{HasLimits, IsLimited, ReplicaAt, StageAt, ActAt, AfterAt}
use Rattle.state_steps.proofs.Growing.{sents_past, parts_past, replica_past}
use Rattle.state_steps.proofs.Words.{act_stage}

-- ---- entries

both_is : (xs ys : Option (List Entry)) (a b : List Entry) → xs ≡ Some a → ys ≡ Some b → both_known xs ys ≡ Some (a ++ b)
both_is xs ys a b e f = rw e (rw f refl)

-- below the next tuple are the entries below this one and those at its next place
pub below_next : (m : ℕ → ℕ) (known : List Learning) (rings : List RingId) (k : List (RingId × ℕ)) (es more : List Entry) → IncreasesFrom 0 (numbers_of_rings rings) → 0 < length rings → is_tuple_of m rings k ≡ true
    → entries_below m known k ≡ Some es → entries_known known (next_place m k) ≡ Some more → entries_below m known (past_tuple_of m k) ≡ Some (es ++ more)
below_next m known [] k es more rise some is below here = absurd (omega (arith, some))
below_next m known (ring ∷ rings) k es more rise some is below here =
    below-past m known ring rings k rise is ∙ both_is (entries_below m known k) (entries_known known (next_place m k)) es more below here

entries_there : (lines : List Line) (ring : RingId) (inst : ℕ) (value : Value) → book lines ring inst ≡ Some value → entries_known (learned lines) (ring, inst) ≡ Some (entries_of_value value)
entries_there lines ring inst value e = ap entries_in_book (sym (book_learned lines ring inst) ∙ e)

-- ---- the lines that are owed are those that are printed

owed_are : (p : PartitionTable) (x : NodeId) (place : RingId × ℕ) (before : List Entry) (index : ℕ) (es : List Entry)
    → reply_lines p x (place_with place.0 place.1) before index es ≡ map (reply_line x place) (replies_listed p index before es)
owed_are p x place before index [] = refl
owed_are p x place before index (e ∷ es) = go (reply_to p before e) (owed_are p x place (before ++ e ∷ []) (suc index) es)
  where
    go : (o : Option Answered) → reply_lines p x (place_with place.0 place.1) (before ++ e ∷ []) (suc index) es ≡ map (reply_line x place) (replies_listed p (suc index) (before ++ e ∷ []) es)
        → owing.reply_line x (place_with place.0 place.1) index e o ++ reply_lines p x (place_with place.0 place.1) (before ++ e ∷ []) (suc index) es
        ≡ map (reply_line x place) (replied index e o ++ replies_listed p (suc index) (before ++ e ∷ []) es)
    go None later = later
    go (Some reply) later = ap (λ (ls : List Line). ReplyLine x place.0 place.1 index e.client e.seq (reply_bytes reply) ∷ ls) later

-- what is owed is paid line by line
paid_in_turn : (c : Config) (x : NodeId) (place : RingId × ℕ) (replies : List (ℕ × Entry × List ℕ)) (lines : List Line) → AreInTurn c lines → owed c lines ≡ map (reply_line x place) replies
    → AllPaid c (past lines (map (reply_line x place) replies))
paid_in_turn c x place [] lines turns owes = record { turns = turns; paid = owes }
paid_in_turn c x place (r ∷ replies) lines turns owes =
    paid_in_turn c x place replies (reply_line x place r ∷ lines) (record { rest = map (reply_line x place) replies; next = owes }, turns) (ap (λ (ls : List Line). drop 1 ls) owes)

module _ (c : Config) (limited : IsLimited c) (before : List Line) where
  -- ---- a batch

  module _ (service : Service) (standing : Standing) (batch : List ℕ) (a : StepSoFar) (lines : List Line) (at : ActAt c before lines a)
      (replica : partition_of c.partitions a.view.id ≡ Some service.partition) (valid : is_tuple_of (round_sizes c) service.partition.rings standing.tuple ≡ true) (es : List Entry)
      (below : entries_below (round_sizes c) (learned lines) standing.tuple ≡ Some es) (holds : book lines (place_of c standing).0 (place_of c standing).1 ≡ Some (Batch batch)) where
    limits : HasLimits service.partition
    limits = limited.partitions a.view.id service.partition replica

    abbrev l : Line
    l = Deliver a.view.id (next_place (round_sizes c) standing.tuple).0 (next_place (round_sizes c) standing.tuple).1

    abbrev listed : List (ℕ × Entry × List ℕ)
    listed = replies_listed service.partition 0 es (entries_of_batch batch)

    abbrev new : List Line
    new = map (reply_line a.view.id (next_place (round_sizes c) standing.tuple)) (replies_listed service.partition 0 es (entries_of_batch batch))

    at_place : tuple_at (round_sizes c) service.partition.rings (place_with (next_place (round_sizes c) standing.tuple).0 (next_place (round_sizes c) standing.tuple).1) ≡ standing.tuple
    at_place = at-next (round_sizes c) service.partition.rings standing.tuple limited.rounds valid

    there : entries_at_place (learned lines) (place_with (next_place (round_sizes c) standing.tuple).0 (next_place (round_sizes c) standing.tuple).1) ≡ entries_of_batch batch
    there = ap known_entries (sym (book_learned lines (next_place (round_sizes c) standing.tuple).0 (next_place (round_sizes c) standing.tuple).1) ∙ holds)

    owes : owed_by c lines a.view.id (place_with (next_place (round_sizes c) standing.tuple).0 (next_place (round_sizes c) standing.tuple).1)
        ≡ map (reply_line a.view.id (next_place (round_sizes c) standing.tuple)) (replies_listed service.partition 0 es (entries_of_batch batch))
    owes =
        ap (λ (o : Option PartitionTable). replies_of (round_sizes c) (learned lines) a.view.id (place_with (next_place (round_sizes c) standing.tuple).0 (next_place (round_sizes c) standing.tuple).1) o) replica
        ∙ ap (λ (t : List (RingId × ℕ)). replies_after service.partition a.view.id (place_with (next_place (round_sizes c) standing.tuple).0 (next_place (round_sizes c) standing.tuple).1)
        (entries_below (round_sizes c) (learned lines) t) (entries_at_place (learned lines) (place_with (next_place (round_sizes c) standing.tuple).0 (next_place (round_sizes c) standing.tuple).1))) at_place
        ∙ ap (λ (o : Option (List Entry)). replies_after service.partition a.view.id (place_with (next_place (round_sizes c) standing.tuple).0 (next_place (round_sizes c) standing.tuple).1) o
        (entries_at_place (learned lines) (place_with (next_place (round_sizes c) standing.tuple).0 (next_place (round_sizes c) standing.tuple).1))) below
        ∙ ap (λ (ys : List Entry). reply_lines service.partition a.view.id (place_with (next_place (round_sizes c) standing.tuple).0 (next_place (round_sizes c) standing.tuple).1) es 0 ys) there
        ∙ owed_are service.partition a.view.id (next_place (round_sizes c) standing.tuple) es 0 (entries_of_batch batch)

    -- each reply is the fold's
    replies_folded : (front rest : List Entry) (index : ℕ) → entries_of_batch batch ≡ front ++ rest
        → AllByRecursion (SentFolded c lines) (map (reply_frame a.view.id service) (replies_listed service.partition index (es ++ front) rest))
    replies_folded front [] index whole = tt
    replies_folded front (e ∷ rest) index whole = go (reply_to service.partition (es ++ front) e) refl
        (subst (λ (ys : List Entry). AllByRecursion (SentFolded c lines) (map (reply_frame a.view.id service) (replies_listed service.partition (suc index) ys rest))) (sym (append_assoc es front (e ∷ [])))
        (replies_folded (front ++ e ∷ []) rest (suc index) (whole ∙ sym (append_assoc front (e ∷ []) rest))))
      where
        go : (o : Option Answered) → reply_to service.partition (es ++ front) e ≡ o
            → AllByRecursion (SentFolded c lines) (map (reply_frame a.view.id service) (replies_listed service.partition (suc index) ((es ++ front) ++ e ∷ []) rest))
            → AllByRecursion (SentFolded c lines) (map (reply_frame a.view.id service) (replied index e o ++ replies_listed service.partition (suc index) ((es ++ front) ++ e ∷ []) rest))
        go None f later = later
        go (Some reply) f later = (
          record {
            partition = service.partition;
            replica = replica;
            named = refl;
            place = place_with (next_place (round_sizes c) standing.tuple).0 (next_place (round_sizes c) standing.tuple).1;
            subscribed = next_in (round_sizes c) service.partition.rings standing.tuple (let some : 0 < length service.partition.rings = limits.some in omega arith) (rings_fit (round_sizes c) service.partition.rings standing.tuple valid);
            batch = batch;
            holds = holds;
            below = es;
            known = ap (λ (t : List (RingId × ℕ)). entries_below (round_sizes c) (learned lines) t) at_place ∙ below;
            front = front;
            entry = e;
            rest = rest;
            there = whole;
            asker = refl;
            number = refl;
            reply = reply;
            replied = f;
            spelled = refl;
          },
          later,
        )

    batch_folded : AfterAt c before (delivers_applied c service standing (next_place (round_sizes c) standing.tuple) (record { replica = replica_after service.partition (es ++ entries_of_batch batch); replies = replies_listed service.partition 0 es (entries_of_batch batch) }) a)
    batch_folded = record {
      lines = past (l ∷ lines) new;
      at = record {
        printed = past_more before (a.lines ++ l ∷ []) new ∙ ap (λ (ls : List Line). past ls new) (past_more before a.lines (l ∷ []) ∙ ap (λ (ls : List Line). l ∷ ls) at.printed);
        fits = at.fits;
        placed = at.placed;
        paid = paid_in_turn c a.view.id (next_place (round_sizes c) standing.tuple) listed (l ∷ lines) (at.paid.paid, at.paid.turns) owes;
        names = appended (OwnNamesFit c) (a.lines ++ l ∷ []) new (appended (OwnNamesFit c) a.lines (l ∷ []) at.names (tt, tt)) (named listed);
        frames = sents_past c new (l ∷ lines) a.frames (sents_past c (l ∷ []) lines a.frames at.frames);
        replies = appended (SentFolded c (past (l ∷ lines) new)) a.replies (map (reply_frame a.view.id service) listed) (sents_past c new (l ∷ lines) a.replies (sents_past c (l ∷ []) lines a.replies at.replies))
            (sents_past c new (l ∷ lines) (map (reply_frame a.view.id service) listed) (sents_past c (l ∷ []) lines (map (reply_frame a.view.id service) listed)
            (subst (λ (ys : List Entry). AllByRecursion (SentFolded c lines) (map (reply_frame a.view.id service) (replies_listed service.partition 0 ys (entries_of_batch batch)))) (append-nil es) (replies_folded [] (entries_of_batch batch) 0 refl))));
        parts = parts_past c new (l ∷ lines) a.view.parts (parts_past c (l ∷ []) lines a.view.parts at.parts);
        replica = replica_past c new (l ∷ lines) a.view.id (Some (record service { stage = stage })) (replica_past c (l ∷ []) lines a.view.id (Some (record service { stage = stage })) (record {
          replica = replica;
          stage = (
            past_tuple (round_sizes c) service.partition.rings standing.tuple valid,
            record {
              entries = es ++ entries_of_batch batch;
              below = below_next (round_sizes c) (learned lines) service.partition.rings standing.tuple es (entries_of_batch batch) limits.rising limits.some valid below
                  (entries_there lines (next_place (round_sizes c) standing.tuple).0 (next_place (round_sizes c) standing.tuple).1 (Batch batch) holds);
              same = refl;
            },
          );
        }));
        newest = at.newest;
      };
    }
      where
        stage : Stage
        stage = Ready (record (passed_batch c standing) { replica = replica_after service.partition (es ++ entries_of_batch batch) })

        named : (rs : List (ℕ × Entry × List ℕ)) → AllByRecursion (OwnNamesFit c) (map (reply_line a.view.id (next_place (round_sizes c) standing.tuple)) rs)
        named [] = tt
        named (r ∷ rs) = (tt, named rs)

  -- ---- a place

  place_folded : (service : Service) (standing : Standing) (value : Value) (a : StepSoFar) (lines : List Line) → ActAt c before lines a → partition_of c.partitions a.view.id ≡ Some service.partition
      → StageAt c lines service.partition (Ready standing) → book lines (place_of c standing).0 (place_of c standing).1 ≡ Some value → AfterAt c before (takes_place c service standing (place_of c standing) value a)
  place_folded service standing Skip a lines at replica stage e =
      let limits : HasLimits service.partition = limited.partitions a.view.id service.partition replica in
      record {
        lines = lines;
        at = act_stage c before lines a at service (Ready (skipped c standing)) (record {
          replica = replica;
          stage = (
            past_tuple (round_sizes c) service.partition.rings standing.tuple stage.0,
            record {
              entries = stage.1.entries;
              below = below_next (round_sizes c) (learned lines) service.partition.rings standing.tuple stage.1.entries [] limits.rising limits.some stage.0 stage.1.below
                  (entries_there lines (place_of c standing).0 (place_of c standing).1 Skip e) ∙ ap (λ (ys : List Entry). Some ys) (append-nil stage.1.entries);
              same = stage.1.same;
            },
          );
        });
      }
  place_folded service standing (Batch batch) a lines at replica stage e =
      subst (λ (applied : AppliedAll). AfterAt c before (delivers_applied c service standing (place_of c standing) applied a))
      (sym (ap (λ (r : Replica). applies service.partition r (entries_of_batch batch)) stage.1.same ∙ batch-follows service.partition stage.1.entries (entries_of_batch batch)))
      (batch_folded service standing batch a lines at replica stage.0 stage.1.entries stage.1.below e)

  -- ---- place after place

  merging_folded : (most : ℕ) (a : StepSoFar) (lines : List Line) → ActAt c before lines a → AfterAt c before (merges_up_to most c a)
  merging_folded zero a lines at = record { lines = lines; at = at }
  merging_folded (suc most) a lines at = by_service a.view.service at.replica (λ b ls t. merging_folded most b ls t)
    where
      as_it_was : AfterAt c before a
      as_it_was = record { lines = lines; at = at }

      by_value : (service : Service) (standing : Standing) (value : Option Value) → value_at_place a.view (place_of c standing) ≡ value → partition_of c.partitions a.view.id ≡ Some service.partition
          → StageAt c lines service.partition (Ready standing) → ((b : StepSoFar) (ls : List Line) → ActAt c before ls b → AfterAt c before (merges_up_to most c b))
          → AfterAt c before (merges_place (merges_up_to most c) c service standing (place_of c standing) value a)
      by_value service standing None e r stage rest = as_it_was
      by_value service standing (Some value) e r stage rest =
          let one = place_folded service standing value a lines at r stage (booked_at c lines a.view.parts (place_of c standing).0 (place_of c standing).1 value at.parts e) in
          rest (takes_place c service standing (place_of c standing) value a) one.lines one.at

      by_stage : (service : Service) (stage : Stage) → partition_of c.partitions a.view.id ≡ Some service.partition → StageAt c lines service.partition stage
          → ((b : StepSoFar) (ls : List Line) → ActAt c before ls b → AfterAt c before (merges_up_to most c b)) → AfterAt c before (merges_stage (merges_up_to most c) c service stage a)
      by_stage service (Recovering attempt) r stage rest = as_it_was
      by_stage service (Ready standing) r stage rest = by_value service standing (value_at_place a.view (place_of c standing)) refl r stage rest

      by_service : (service : Option Service) → ReplicaAt c lines a.view.id service → ((b : StepSoFar) (ls : List Line) → ActAt c before ls b → AfterAt c before (merges_up_to most c b))
          → AfterAt c before (merges_service (merges_up_to most c) c service a)
      by_service None r rest = as_it_was
      by_service (Some service) r rest = by_stage service service.stage r.replica r.stage rest

  pub merged : (a : StepSoFar) (lines : List Line) → ActAt c before lines a → AfterAt c before (merges c a)
  unfolding merges
  merged a lines at = merging_folded (2 ^ 44 + 1) a lines at
