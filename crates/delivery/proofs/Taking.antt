-- The entries of a batch, one after another.
use Rattle.std.proofs.Common.{◌≡◌, ℕ, suc, ◌+◌, ◌<◌, add-one, List, [], ◌∷◌, ◌++◌, map, length, drop, get_or, refl, sym, ap, subst, ◌∙◌}
use Rattle.std.specs.Prelude.{Option, Some, None}
use Rattle.std.proofs.Math.Seq.{drop-cons}
use Rattle.std.proofs.lemmas.List.{append-nil, append_assoc, map-append}
use Rattle.mrp_types.specs.declared.value.Entry.{Entry}
use Rattle.mrp_config.specs.declared.tables.PartitionTable.{PartitionTable}
use Rattle.frames.specs.declared.sent.Sent.{Sent}
use Rattle.plain_model.specs.Replicas.{Replica, Applied, AppliedAll, apply, applies_from, noted}
use Rattle.replica_state.specs.Held.{Held}
use Rattle.protocol.specs.Lines.{Line}
use Rattle.protocol.specs.Merging.{reply_line}
use Rattle.delivery.specs.declared.batch.Delivery.{Delivery}
use Rattle.delivery.specs.Told.{Told, pair_of, reply_sent}

-- an entry that gets a reply, by its index
abbrev pub Replied : Type 0
Replied = ℕ × Entry × List ℕ

-- what is left to do
abbrev pub rest : PartitionTable → ℕ → Replica → List Entry → AppliedAll
rest p index r es = applies_from p index (record { replica = r; replies = [] }) es

abbrev behind : List Replied → AppliedAll → AppliedAll
behind before done = record { replica = done.replica; replies = before ++ done.replies }

noted_behind : (index : ℕ) (e : Entry) (before : List Replied) (o : Option (List ℕ)) → noted index e before o ≡ before ++ noted index e [] o
noted_behind index e before None = sym (append-nil before)
noted_behind index e before (Some reply) = refl

-- replies stand behind those that were there
all_behind : (p : PartitionTable) (index : ℕ) (r : Replica) (before : List Replied) (es : List Entry) →
    applies_from p index (record { replica = r; replies = before }) es ≡ behind before (rest p index r es)
all_behind p index r before [] = ap (λ (l : List Replied). let done : AppliedAll = record { replica = r; replies = l } in done) (sym (append-nil before))
all_behind p index r before (e ∷ es) =
    by (apply p r e) (all_behind p (suc index) (apply p r e).replica (noted index e before (apply p r e).reply) es)
    (all_behind p (suc index) (apply p r e).replica (noted index e [] (apply p r e).reply) es)
  where
    by : (applied : Applied) → applies_from p (suc index) (record { replica = applied.replica; replies = noted index e before applied.reply }) es
        ≡ behind (noted index e before applied.reply) (rest p (suc index) applied.replica es)
        → applies_from p (suc index) (record { replica = applied.replica; replies = noted index e [] applied.reply }) es ≡ behind (noted index e [] applied.reply) (rest p (suc index) applied.replica es)
        → applies_from p (suc index) (record { replica = applied.replica; replies = noted index e before applied.reply }) es
        ≡ behind before (applies_from p (suc index) (record { replica = applied.replica; replies = noted index e [] applied.reply }) es)
    by applied one other =
        one
        ∙ ap (λ (l : List Replied). behind l (rest p (suc index) applied.replica es)) (noted_behind index e before applied.reply)
        ∙ ap (λ (l : List Replied). let done : AppliedAll = record { replica = (rest p (suc index) applied.replica es).replica; replies = l } in done)
        (append_assoc before (noted index e [] applied.reply) (rest p (suc index) applied.replica es).replies)
        ∙ ap (λ (done : AppliedAll). behind before done) (sym other)

-- one entry, and then the others
pub one_and_rest : (p : PartitionTable) (index : ℕ) (r : Replica) (e : Entry) (es : List Entry) →
    rest p index r (e ∷ es) ≡ behind (noted index e [] (apply p r e).reply) (rest p (suc index) (apply p r e).replica es)
one_and_rest p index r e es = all_behind p (suc index) (apply p r e).replica (noted index e [] (apply p r e).reply) es

-- What was done so far, and what is left, make the whole.
pub record Goes (at : Delivery) (p : PartitionTable) (old now : Replica) (index : ℕ) (es : List Entry) (old_lines now_lines : List Line) (old_sent now_sent : List Sent) : Type 0 where
  pub state : (rest p index now (drop index es)).replica ≡ (rest p 0 old es).replica
  pub lines : now_lines ++ map (reply_line at.own (pair_of at.place)) (rest p index now (drop index es)).replies
      ≡ old_lines ++ map (reply_line at.own (pair_of at.place)) (rest p 0 old es).replies
  pub sent : now_sent ++ map (reply_sent at.own at.partition) (rest p index now (drop index es)).replies ≡ old_sent ++ map (reply_sent at.own at.partition) (rest p 0 old es).replies

told_on : (X : Type 0) (f : Replied → X) (xs ys : List Replied) (old new all : List X) → new ≡ old ++ map f xs → old ++ map f (xs ++ ys) ≡ all → new ++ map f ys ≡ all
told_on X f xs ys old new all is whole =
    ap (λ (l : List X). l ++ map f ys) is ∙ append_assoc old (map f xs) (map f ys) ∙ ap (λ (l : List X). old ++ l) (sym (map-append f xs ys)) ∙ whole

pub goes_on : (at : Delivery) (p : PartitionTable) (old now next : Replica) (index : ℕ) (e : Entry) (es : List Entry) (old_lines lines new_lines : List Line) (old_sent sent new_sent : List Sent) →
    index < length es → get_or es index e ≡ e → next ≡ (apply p now e).replica → Told at (noted index e [] (apply p now e).reply) lines new_lines sent new_sent →
    Goes at p old now index es old_lines lines old_sent sent → Goes at p old next (suc index) es old_lines new_lines old_sent new_sent
goes_on at p old now next index e es old_lines lines new_lines old_sent sent new_sent inside there is told goes = record {
  state = ap (λ (d : AppliedAll). d.replica) (sym whole) ∙ goes.state;
  lines = told_on Line (reply_line at.own (pair_of at.place)) (noted index e [] (apply p now e).reply) left.replies lines new_lines _ told.lines
      (ap (λ (d : AppliedAll). lines ++ map (reply_line at.own (pair_of at.place)) d.replies) (sym whole) ∙ goes.lines);
  sent = told_on Sent (reply_sent at.own at.partition) (noted index e [] (apply p now e).reply) left.replies sent new_sent _ told.sent
      (ap (λ (d : AppliedAll). sent ++ map (reply_sent at.own at.partition) d.replies) (sym whole) ∙ goes.sent);
}
  where
    left : AppliedAll
    left = rest p (suc index) next (drop (suc index) es)

    whole : rest p index now (drop index es) ≡ behind (noted index e [] (apply p now e).reply) left
    whole =
        ap (λ (l : List Entry). rest p index now l) (drop-cons es index e inside ∙ ap (λ (x : Entry). x ∷ drop (suc index) es) there)
        ∙ one_and_rest p index now e (drop (suc index) es)
        ∙ ap (λ (r : Replica). behind (noted index e [] (apply p now e).reply) (rest p (suc index) r (drop (suc index) es))) (sym is)

-- the same, by a state of the same partition
pub goes_there : (at : Delivery) (p : PartitionTable) (old : Replica) (now next : Held) (index : ℕ) (e : Entry) (es : List Entry) (old_lines lines new_lines : List Line) (old_sent sent new_sent : List Sent) →
    now.partition ≡ p → index < length es → e ≡ get_or es index e → next ≡ record { partition = now.partition; replica = (apply now.partition now.replica e).replica } →
    Told at (noted index e [] (apply now.partition now.replica e).reply) lines new_lines sent new_sent →
    Goes at p old now.replica index es old_lines lines old_sent sent → Goes at p old next.replica (index + 1) es old_lines new_lines old_sent new_sent
goes_there at p old now next index e es old_lines lines new_lines old_sent sent new_sent same inside there is told goes =
    rw add-one
    (goes_on at p old now.replica next.replica index e es old_lines lines new_lines old_sent sent new_sent inside (sym there)
    (ap (λ (h : Held). h.replica) is ∙ ap (λ (q : PartitionTable). (apply q now.replica e).replica) same)
    (subst (λ (q : PartitionTable). Told at (noted index e [] (apply q now.replica e).reply) lines new_lines sent new_sent) same told) goes)
