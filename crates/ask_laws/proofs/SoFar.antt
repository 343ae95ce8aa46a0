-- A rule of a ring was made, and what it decides is learned: a step on its way carries what was there and what came.
use Rattle.std.proofs.Common.{◌≡◌, ℕ, zero, suc, ◌+◌, ◌^◌, Bool, true, false, List, [], ◌∷◌, ◌++◌, map, Option, Some, None, refl, subst, sym}
use Rattle.std.specs.Prelude.{◌==◌, nat_eq, nat_lt, if◌then◌else◌}
use Rattle.range_map.specs.Entries.{value_at}
use Rattle.std.specs.List.{AllByRecursion}
use Rattle.mrp_types.specs.declared.id.NodeId.{NodeId}
use Rattle.mrp_types.specs.declared.id.RingId.{RingId}
use Rattle.mrp_types.specs.declared.value.Entry.{Entry}
use Rattle.mrp_types.specs.declared.value.Value.{Value}
use Rattle.mrp_types.specs.declared.value.Value.TheVariants.{Skip, Batch}
use Rattle.mrp_types.specs.declared.voted.Decided.{Decided}
use Rattle.mrp_types.specs.Entries.{IsEntry}
use Rattle.mrp_config.specs.Config.{Config}
use Rattle.frames.specs.declared.sent.Sent.{Sent}
use Rattle.hex.specs.Hex.{IsBytes}
use Rattle.mrp_types.specs.declared.id.TheConstants.{END}
use Rattle.plain_model.specs.Replicas.{applies, entries_of_batch}
use Rattle.state_laws.specs.States.{HasFewLogs, IsSound}
use Rattle.state_laws.proofs.Bytes.{sound_from}
use Rattle.state_laws.proofs.Given.{batch_given}
use Rattle.plain_model.proofs.TupleOrder.{same_number}
use Rattle.protocol.specs.Lines.{Line, Deliver, Learn}
use Rattle.protocol.specs.Parts.{Ring, Part, Effects}
use Rattle.protocol.specs.Effects.{no_effects}
use Rattle.protocol.specs.Learner.{value_in, learns}
use Rattle.protocol.specs.Merging.{value_of_part, skipped, passed_batch, replying}
use Rattle.protocol.specs.Node.{View}
use Rattle.protocol.specs.Proposing.{proposes}
use Rattle.protocol.specs.Node.{StepSoFar, RingPart, Service, Stage, Recovering, Ready, Standing, part_in, part_at, with_part_in, with_part, with_stage, prints, sends_all}
use Rattle.protocol.specs.Merging.{reply_line, reply_frame, value_at_place, place_of, takes_place, merges_place, merges_stage, merges_service, merges_up_to, merges}
use Rattle.protocol.specs.Learning.{with_effects, Queued, queued, proposes_then, by_news, learns_one, then_learns, learns_up_to, applies_effects}
use Rattle.ask_laws.specs.Carried.{StageKeeps, ReplicaKeeps, HeldCarry, ValueCarries, RangesCarry, PartCarries, RingPartCarries, ChangeCarries, LineCarries, SentCarries, EffectsCarry, ActCarries}
use Rattle.ask_laws.proofs.Commands.{IsOfBytes, batch_are}
use Rattle.ask_laws.proofs.Lists.{appended, mapped}
use Rattle.ask_laws.proofs.Acceptor.{none_made}
use Rattle.ask_laws.proofs.Proposing.{proposes_made}
use Rattle.ask_laws.proofs.Coordinating.{learns_carry}

module _ (Is : ℕ → Entry → Type 0) (Valid : Type 0) where
  -- ---- parts

  -- the part that is found is of this ring
  abbrev pub FoundCarries : RingId → Option RingPart → Type 0
  FoundCarries id None = Unit {0}
  FoundCarries id (Some p) = (p.ring.id.0 ≡ id.0) × RingPartCarries Is p

  pub part_found : (id : RingId) (parts : List RingPart) → AllByRecursion (RingPartCarries Is) parts → FoundCarries id (part_in parts id)
  part_found id [] all = tt
  part_found id (p ∷ parts) all = by (p.ring.id.0 == id.0) refl (part_found id parts all.1)
    where
      by : (t : Bool) → (p.ring.id.0 == id.0) ≡ t → FoundCarries id (part_in parts id) → FoundCarries id (if t then Some p else part_in parts id)
      by true e later = (same_number p.ring.id.0 id.0 e, all.0)
      by false e later = later

  part_put : (id : RingId) (part : Part) (parts : List RingPart) → PartCarries Is id.0 part → AllByRecursion (RingPartCarries Is) parts → AllByRecursion (RingPartCarries Is) (with_part_in id part parts)
  part_put id part [] is all = tt
  part_put id part (p ∷ parts) is all = by (p.ring.id.0 == id.0) refl (part_put id part parts is all.1)
    where
      by : (t : Bool) → (p.ring.id.0 == id.0) ≡ t → AllByRecursion (RingPartCarries Is) (with_part_in id part parts)
          → AllByRecursion (RingPartCarries Is) (if t then record p { part = part } ∷ parts else p ∷ with_part_in id part parts)
      by true e later = (subst (λ (n : ℕ). PartCarries Is n part) (sym (same_number p.ring.id.0 id.0 e)) is, all.1)
      by false e later = (all.0, later)

  -- ---- a step goes on

  pub put_act : (ring : Ring) (part : Part) (a : StepSoFar) → PartCarries Is ring.id.0 part → ActCarries Is Valid a → ActCarries Is Valid (with_part ring part a)
  put_act ring part a is c = record {
    view = record { state = c.view.state; parts = part_put ring.id part a.view.parts is c.view.parts; replica = c.view.replica; newest = c.view.newest };
    changes = c.changes;
    frames = c.frames;
    replies = c.replies;
    lines = c.lines;
  }

  pub prints_act : (lines : List Line) (a : StepSoFar) → AllByRecursion (LineCarries Is) lines → ActCarries Is Valid a → ActCarries Is Valid (prints lines a)
  prints_act lines a is c = record { view = c.view; changes = c.changes; frames = c.frames; replies = c.replies; lines = appended (LineCarries Is) a.lines lines c.lines is }

  pub sends_act : (frames : List Sent) (a : StepSoFar) → AllByRecursion (SentCarries Is Valid) frames → ActCarries Is Valid a → ActCarries Is Valid (sends_all frames a)
  sends_act frames a is c = record { view = c.view; changes = c.changes; frames = appended (SentCarries Is Valid) a.frames frames c.frames is; replies = c.replies; lines = c.lines }

  pub stage_act : (service : Service) (stage : Stage) (a : StepSoFar) → (Valid → HasFewLogs service.partition) → (Valid → StageKeeps service.partition stage) → ActCarries Is Valid a → ActCarries Is Valid (with_stage service stage a)
  stage_act service stage a logs keeps c = record { view = record { state = c.view.state; parts = c.view.parts; replica = λ few. record { logs = logs few; stage = keeps few }; newest = c.view.newest }; changes = c.changes; frames = c.frames; replies = c.replies; lines = c.lines }

  effects_act : (ring : Ring) (effects : Effects) (a : StepSoFar) → EffectsCarry Is Valid ring.id.0 effects → ActCarries Is Valid a → ActCarries Is Valid (with_effects ring effects a)
  effects_act ring effects a d c = record {
    view = record { state = c.view.state; parts = part_put ring.id effects.part a.view.parts d.part c.view.parts; replica = c.view.replica; newest = c.view.newest };
    changes = appended (ChangeCarries Is) a.changes effects.changes c.changes d.changes;
    frames = appended (SentCarries Is Valid) a.frames effects.frames c.frames d.frames;
    replies = c.replies;
    lines = appended (LineCarries Is) a.lines effects.lines c.lines d.lines;
  }

  -- ---- the merge

  replies_carry : (node : NodeId) (service : Service) (replied : List (ℕ × Entry × List ℕ)) → AllByRecursion (SentCarries Is Valid) (map (reply_frame node service) replied)
  replies_carry node service [] = tt
  replies_carry node service (r ∷ rs) = (tt, replies_carry node service rs)

  reply_lines_carry : (node : NodeId) (place : RingId × ℕ) (replied : List (ℕ × Entry × List ℕ)) → AllByRecursion (LineCarries Is) (map (reply_line node place) replied)
  reply_lines_carry node place [] = tt
  reply_lines_carry node place (r ∷ rs) = (tt, reply_lines_carry node place rs)

  -- what is learned at a place carries
  abbrev ValueOrNone : ℕ → Option Value → Type 0
  ValueOrNone r None = Unit {0}
  ValueOrNone r (Some value) = ValueCarries Is r value

  held_at : (r inst : ℕ) (held : List (ℕ × Value)) → HeldCarry Is r held → ValueOrNone r (value_at inst held)
  held_at r inst [] all = tt
  held_at r inst (e ∷ held) all = by (nat_eq inst e.0) (held_at r inst held all.1)
    where
      by : (t : Bool) → ValueOrNone r (value_at inst held) → ValueOrNone r (if t then Some e.1 else value_at inst held)
      by true later = all.0
      by false later = later

  place_carries : (view : View) → AllByRecursion (RingPartCarries Is) view.parts → (place : RingId × ℕ) → ValueOrNone place.0.0 (value_at_place view place)
  place_carries view all place = by (part_at view place.0) (part_found place.0 view.parts all)
    where
      by : (o : Option RingPart) → FoundCarries place.0 o → ValueOrNone place.0.0 (value_of_part o place.1)
      by None found = tt
      by (Some p) found = by_end (nat_lt place.1 END)
        where
          by_end : (t : Bool) → ValueOrNone place.0.0 (if t then value_in p.part.learner place.1 else None)
          by_end true = subst (λ (r : ℕ). ValueOrNone r (value_in p.part.learner place.1)) found.0 (held_at p.ring.id.0 place.1 p.part.learner.held found.1.held)
          by_end false = tt

  -- batches of entries that are given
  module _ (given : Valid → (r : ℕ) (e : Entry) → Is r e → IsOfBytes e) where
    batch_bytes_are : Valid → (r : ℕ) (batch : List ℕ) → ValueCarries Is r (Batch batch) → IsBytes batch
    batch_bytes_are few r batch is = subst (λ (bytes : List ℕ). IsBytes bytes) (sym is.spelled) (batch_are is.entries (mapped (Is r) IsOfBytes (given few r) is.entries is.each))

    takes_act : (config : Config) (service : Service) (standing : Standing) (place : RingId × ℕ) (value : Value) (a : StepSoFar) → (Valid → HasFewLogs service.partition) → (Valid → IsSound service.partition standing.replica)
        → ValueCarries Is place.0.0 value → ActCarries Is Valid a → ActCarries Is Valid (takes_place config service standing place value a)
    takes_act config service standing place Skip a logs sound is c = stage_act service (Ready (skipped config standing)) a logs sound c
    takes_act config service standing place (Batch batch) a logs sound is c =
        let applied = applies service.partition standing.replica (entries_of_batch batch) in
        stage_act service (Ready (record (passed_batch config standing) { replica = applied.replica })) (replying service place applied.replies (prints (Deliver a.view.id place.0 place.1 ∷ []) a)) logs
        (λ few. sound_from service.partition 0 (record { replica = standing.replica; replies = [] }) (entries_of_batch batch) (logs few) (batch_given batch (batch_bytes_are few place.0.0 batch is)) (sound few))
        (record {
          view = c.view;
          changes = c.changes;
          frames = c.frames;
          replies = appended (SentCarries Is Valid) a.replies (map (reply_frame a.view.id service) applied.replies) c.replies (replies_carry a.view.id service applied.replies);
          lines = appended (LineCarries Is) (a.lines ++ Deliver a.view.id place.0 place.1 ∷ []) (map (reply_line a.view.id place) applied.replies)
              (appended (LineCarries Is) a.lines (Deliver a.view.id place.0 place.1 ∷ []) c.lines (tt, tt)) (reply_lines_carry a.view.id place applied.replies);
        })

    merges_carry : (most : ℕ) (config : Config) (a : StepSoFar) → ActCarries Is Valid a → ActCarries Is Valid (merges_up_to most config a)
    merges_carry zero config a c = c
    merges_carry (suc most) config a c = by_service a.view.service c.view.replica (λ b is. merges_carry most config b is)
      where
        by_value : (service : Service) (standing : Standing) (place : RingId × ℕ) (v : Option Value) → (Valid → HasFewLogs service.partition) → (Valid → IsSound service.partition standing.replica) → ValueOrNone place.0.0 v
            → ((b : StepSoFar) → ActCarries Is Valid b → ActCarries Is Valid (merges_up_to most config b)) → ActCarries Is Valid (merges_place (merges_up_to most config) config service standing place v a)
        by_value service standing place None logs sound is rest = c
        by_value service standing place (Some value) logs sound is rest = rest (takes_place config service standing place value a) (takes_act config service standing place value a logs sound is c)

        by_stage : (service : Service) (stage : Stage) → (Valid → HasFewLogs service.partition) → (Valid → StageKeeps service.partition stage) → ((b : StepSoFar) → ActCarries Is Valid b → ActCarries Is Valid (merges_up_to most config b))
            → ActCarries Is Valid (merges_stage (merges_up_to most config) config service stage a)
        by_stage service (Recovering attempt) logs keeps rest = c
        by_stage service (Ready standing) logs keeps rest =
            by_value service standing (place_of config standing) (value_at_place a.view (place_of config standing)) logs keeps (place_carries a.view c.view.parts (place_of config standing)) rest

        by_service : (o : Option Service) → (Valid → ReplicaKeeps o) → ((b : StepSoFar) → ActCarries Is Valid b → ActCarries Is Valid (merges_up_to most config b)) → ActCarries Is Valid (merges_service (merges_up_to most config) config o a)
        by_service None keeps rest = c
        by_service (Some service) keeps rest = by_stage service service.stage (λ few. (keeps few).logs) (λ few. (keeps few).stage) rest

    pub merges_act : (config : Config) (a : StepSoFar) → ActCarries Is Valid a → ActCarries Is Valid (merges config a)
    unfolding merges
    merges_act config a c = merges_carry (2 ^ 44 + 1) config a c

-- ---- learning

module _ (Is : ℕ → Entry → Type 0) (Valid : Type 0) (valid : (r : ℕ) (e : Entry) → Is r e → IsEntry e) (given : Valid → (r : ℕ) (e : Entry) → Is r e → IsOfBytes e) (config : Config) (ring : Ring) where
  record QueueCarries (q : Queued) : Type 0 where
    so_far : ActCarries Is Valid q.so_far
    ranges : RangesCarry Is ring.id.0 q.ranges

  queued_carry : (later : List Decided) (effects : Effects) (a : StepSoFar) → RangesCarry Is ring.id.0 later → EffectsCarry Is Valid ring.id.0 effects → ActCarries Is Valid a → QueueCarries (queued ring later effects a)
  queued_carry later effects a ranges d c = record {
    so_far = effects_act Is Valid ring effects a d c;
    ranges = appended (λ (x : Decided). ValueCarries Is ring.id.0 x.value) later effects.learned ranges d.learned;
  }

  proposes_carry : (later : List Decided) (o : Option RingPart) (a : StepSoFar) → FoundCarries Is Valid ring.id o → RangesCarry Is ring.id.0 later → ActCarries Is Valid a → QueueCarries (proposes_then ring later o a)
  proposes_carry later None a found ranges c = record { so_far = c; ranges = ranges }
  proposes_carry later (Some p) a found ranges c =
      queued_carry later (proposes ring a.view.link p.part) a ranges
      (proposes_made Is Valid valid ring a.view.link (no_effects p.part) (none_made Is Valid ring p.part (subst (λ (n : ℕ). PartCarries Is n p.part) found.0 found.1))) c

  news_carry : (range : Decided) (later : List Decided) (news : Bool) (a : StepSoFar) → ValueCarries Is ring.id.0 range.value → RangesCarry Is ring.id.0 later → ActCarries Is Valid a
      → QueueCarries (by_news config ring range later news a)
  news_carry range later false a is ranges c = record { so_far = c; ranges = ranges }
  news_carry range later true a is ranges c =
      let now : StepSoFar = merges config (prints (Learn a.view.id ring.id range.lo range.hi range.value ∷ []) a) in
      let carried = merges_act Is Valid given config (prints (Learn a.view.id ring.id range.lo range.hi range.value ∷ []) a) (prints_act Is Valid (Learn a.view.id ring.id range.lo range.hi range.value ∷ []) a (is, tt) c) in
      proposes_carry later (part_at now.view ring.id) now (part_found Is Valid ring.id now.view.parts carried.view.parts) ranges carried

  one_carries : (range : Decided) (later : List Decided) (o : Option RingPart) (a : StepSoFar) → FoundCarries Is Valid ring.id o → ValueCarries Is ring.id.0 range.value
      → RangesCarry Is ring.id.0 later → ActCarries Is Valid a
      → QueueCarries (learns_one config ring range later o a)
  one_carries range later None a found is ranges c = record { so_far = c; ranges = ranges }
  one_carries range later (Some p) a found is ranges c =
      let taken = learns ring p.part range in
      news_carry range later taken.news (with_part ring taken.part a) is ranges
      (put_act Is Valid ring taken.part a (learns_carry Is Valid valid ring p.part range is (subst (λ (n : ℕ). PartCarries Is n p.part) found.0 found.1)) c)

  loop_carries : (most : ℕ) (q : Queued) → QueueCarries q → ActCarries Is Valid (learns_up_to most config ring q)
  loop_carries zero q c = c.so_far
  loop_carries (suc most) q c = by q.ranges c.ranges (λ next is. loop_carries most next is)
    where
      by : (ranges : List Decided) → RangesCarry Is ring.id.0 ranges → ((next : Queued) → QueueCarries next → ActCarries Is Valid (learns_up_to most config ring next))
          → ActCarries Is Valid (then_learns (learns_up_to most config ring) config ring q ranges)
      by [] all rest = c.so_far
      by (range ∷ later) all rest =
          rest (learns_one config ring range later (part_at q.so_far.view ring.id) q.so_far)
          (one_carries range later (part_at q.so_far.view ring.id) q.so_far (part_found Is Valid ring.id q.so_far.view.parts c.so_far.view.parts) all.0 all.1 c.so_far)

  pub applies_effects_act : (effects : Effects) (a : StepSoFar) → EffectsCarry Is Valid ring.id.0 effects → ActCarries Is Valid a → ActCarries Is Valid (applies_effects config ring effects a)
  unfolding applies_effects
  applies_effects_act effects a d c = loop_carries (2 ^ 44) (queued ring [] effects a) (queued_carry [] effects a tt d c)
