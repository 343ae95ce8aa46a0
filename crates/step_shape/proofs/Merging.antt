-- A ready replica takes what was learned: each reply that it sends is short.
use Rattle.std.proofs.Common.{◌≡◌, ℕ, zero, suc, ◌+◌, ◌<◌, ◌^◌, Bool, true, false, List, [], ◌∷◌, map, Option, Some, None, sym, ap, subst, arith}
use Rattle.std.specs.Prelude.{nat_eq, nat_lt, if◌then◌else◌}
use Rattle.std.specs.List.{AllByRecursion}
use Rattle.mrp_types.specs.declared.id.NodeId.{NodeId}
use Rattle.mrp_types.specs.declared.id.RingId.{RingId}
use Rattle.mrp_types.specs.declared.id.TheConstants.{END}
use Rattle.mrp_types.specs.declared.id.Party.TheVariants.{Node}
use Rattle.mrp_types.specs.declared.value.Entry.{Entry}
use Rattle.mrp_types.specs.declared.value.Value.{Value}
use Rattle.mrp_types.specs.declared.value.Value.TheVariants.{Skip, Batch}
use Rattle.hex.specs.Hex.{IsBytes}
use Rattle.mrp_config.specs.Config.{Config}
use Rattle.mrp_config.specs.declared.tables.PartitionTable.{PartitionTable}
use Rattle.frames.specs.declared.sent.Sent.{Sent}
use Rattle.range_map.specs.Entries.{value_at}
use Rattle.vote_state.specs.Valid.{IsRing}
use Rattle.vote_state.proofs.StateLemmas.{append_all}
use Rattle.plain_model.specs.Replicas.{AppliedAll, noted, with_applied, apply, applies_from, applies, entries_of_batch}
use Rattle.state_laws.specs.Spoken.{IsReplyText}
use Rattle.state_laws.specs.States.{AreGiven, HasFewLogs, IsSound}
use Rattle.state_laws.proofs.Bytes.{sound_from}
use Rattle.state_laws.proofs.Given.{batch_given}
use Rattle.state_laws.proofs.Steps.{AreTexts, texts_from}
use Rattle.protocol.specs.Lines.{Line, Deliver}
use Rattle.protocol.specs.Learner.{value_in}
use Rattle.protocol.specs.Node.{StepSoFar, View, RingPart, Service, Stage, Recovering, Ready, Standing, part_at, with_stage, prints, sends_all}
use Rattle.protocol.specs.Merging.{reply_frame, replying, value_of_part, value_at_place, place_of, skipped, passed_batch, takes_place, merges_place, merges_stage, merges_service, merges_up_to, merges}
use Rattle.ask_laws.specs.Carried.{StageKeeps, ReplicaKeeps, NewestKeeps, HeldCarry, ValueCarries, RingPartCarries}
use Rattle.ask_laws.proofs.Commands.{IsOfBytes, batch_are}
use Rattle.ask_laws.proofs.SoFar.{FoundCarries, part_found}
use Rattle.quorums.proofs.Each.{mapped}
use Rattle.step_shape.specs.Shaped.{SentFits, ServiceFits, ReplicaFits, SoFarFits}

-- ---- replies

-- a reply of so many bytes at most, to an entry with a number that fits
pub record IsShortReply (r : ℕ × Entry × List ℕ) : Type 0 where
  pub text : IsReplyText r.2
  pub numbered : r.1.seq < 2 ^ 64

abbrev IsNumbered : ℕ × Entry × List ℕ → Type 0
IsNumbered r = r.1.seq < 2 ^ 64

noted_numbered : (index : ℕ) (e : Entry) (replies : List (ℕ × Entry × List ℕ)) (o : Option (List ℕ)) → e.seq < 2 ^ 64 → AllByRecursion IsNumbered replies → AllByRecursion IsNumbered (noted index e replies o)
noted_numbered index e replies None lt are = are
noted_numbered index e replies (Some text) lt are = append_all IsNumbered replies ((index, e, text) ∷ []) are (lt, tt)

numbered_from : (p : PartitionTable) (index : ℕ) (done : AppliedAll) (es : List Entry) → AreGiven es → AllByRecursion IsNumbered done.replies → AllByRecursion IsNumbered (applies_from p index done es).replies
numbered_from p index done [] given are = are
numbered_from p index done (e ∷ es) given are =
    let most = given.0.numbered in
    numbered_from p (suc index) (with_applied index e done.replies (apply p done.replica e)) es given.1 (noted_numbered index e done.replies (apply p done.replica e).reply (omega arith) are)

both : (replies : List (ℕ × Entry × List ℕ)) → AreTexts replies → AllByRecursion IsNumbered replies → AllByRecursion IsShortReply replies
both [] t n = tt
both (r ∷ rs) t n = (record { text = t.0; numbered = n.0 }, both rs t.1 n.1)

-- ---- a step on its way

-- a part of a ring that this node is a member of
pub record IsMine (id : NodeId) (p : RingPart) : Type 0 where
  pub number : IsRing p.ring.id
  pub own : p.ring.own ≡ id

-- what the rules of a replica need of a step on its way
pub record Ground (Is : ℕ → Entry → Type 0) (fine : ℕ → Type 0) (id : NodeId) (a : StepSoFar) : Type 0 where
  pub own : a.view.id ≡ id
  pub mine : AllByRecursion (IsMine id) a.view.parts
  pub parts : AllByRecursion (RingPartCarries Is) a.view.parts
  pub newest : NewestKeeps a.view.checkpoints.newest
  pub replica : ReplicaKeeps a.view.service
  pub fits : SoFarFits fine id a

module _ (Is : ℕ → Entry → Type 0) (given : (r : ℕ) (e : Entry) → Is r e → IsOfBytes e) (fine : ℕ → Type 0) (id : NodeId) where
  abbrev pub Grounded : StepSoFar → Type 0
  Grounded a = Ground Is fine id a

  pub prints_ground : (lines : List Line) (a : StepSoFar) → Grounded a → Grounded (prints lines a)
  prints_ground lines a g = record { own = g.own; mine = g.mine; parts = g.parts; newest = g.newest; replica = g.replica; fits = record { view = g.fits.view; frames = g.fits.frames; replies = g.fits.replies; epoch = g.fits.epoch } }

  pub sends_ground : (frames : List Sent) (a : StepSoFar) → AllByRecursion (SentFits fine id) frames → Grounded a → Grounded (sends_all frames a)
  sends_ground frames a are g = record {
    own = g.own;
    mine = g.mine;
    parts = g.parts;
    newest = g.newest;
    replica = g.replica;
    fits = record { view = g.fits.view; frames = append_all (SentFits fine id) a.frames frames g.fits.frames are; replies = g.fits.replies; epoch = g.fits.epoch };
  }

  pub stage_ground : (service : Service) (stage : Stage) (a : StepSoFar) → HasFewLogs service.partition → StageKeeps service.partition stage → ServiceFits (record service { stage = stage }) → Grounded a
      → Grounded (with_stage service stage a)
  stage_ground service stage a logs keeps fits g = record {
    own = g.own;
    mine = g.mine;
    parts = g.parts;
    newest = g.newest;
    replica = record { logs = logs; stage = keeps };
    fits = record { view = record { parts = g.fits.view.parts; replica = fits; newest = g.fits.view.newest }; frames = g.fits.frames; replies = g.fits.replies; epoch = g.fits.epoch };
  }

  -- ---- what is learned at a place

  abbrev ValueOrNone : ℕ → Option Value → Type 0
  ValueOrNone r None = Unit {0}
  ValueOrNone r (Some value) = ValueCarries Is r value

  held_at : (r inst : ℕ) (held : List (ℕ × Value)) → HeldCarry Is r held → ValueOrNone r (value_at inst held)
  held_at r inst [] all = tt
  held_at r inst (e ∷ held) all = by (nat_eq inst e.0) (held_at r inst held all.1)
    where
      by : (t : Bool) → ValueOrNone r (value_at inst held) → ValueOrNone r (if t then Some e.1 else value_at inst held)
      by true later = all.0
      by false later = later

  place_carries : (view : View) → AllByRecursion (RingPartCarries Is) view.parts → (place : RingId × ℕ) → ValueOrNone place.0.0 (value_at_place view place)
  place_carries view all place = by (part_at view place.0) (part_found Is (Unit {0}) place.0 view.parts all)
    where
      by : (o : Option RingPart) → FoundCarries Is (Unit {0}) place.0 o → ValueOrNone place.0.0 (value_of_part o place.1)
      by None found = tt
      by (Some p) found = by_end (nat_lt place.1 END)
        where
          by_end : (t : Bool) → ValueOrNone place.0.0 (if t then value_in p.part.learner place.1 else None)
          by_end true = subst (λ (r : ℕ). ValueOrNone r (value_in p.part.learner place.1)) found.0 (held_at p.ring.id.0 place.1 p.part.learner.held found.1.held)
          by_end false = tt

  batch_bytes_are : (r : ℕ) (batch : List ℕ) → ValueCarries Is r (Batch batch) → IsBytes batch
  batch_bytes_are r batch is = subst (λ (bytes : List ℕ). IsBytes bytes) (sym is.spelled) (batch_are is.entries (mapped (Is r) IsOfBytes (given r) is.entries is.each))

  replies_fit : (node : NodeId) (service : Service) (replied : List (ℕ × Entry × List ℕ)) → node ≡ id → AllByRecursion IsShortReply replied → AllByRecursion (SentFits fine id) (map (reply_frame node service) replied)
  replies_fit node service [] own are = tt
  replies_fit node service (r ∷ rs) own are = (record { from = ap (λ (n : NodeId). Node n) own; to = tt; fits = (are.0.text.short, are.0.numbered) }, replies_fit node service rs own are.1)

  takes_ground : (config : Config) (service : Service) (standing : Standing) (place : RingId × ℕ) (value : Value) (a : StepSoFar) → HasFewLogs service.partition → IsSound service.partition standing.replica → ServiceFits service
      → ValueCarries Is place.0.0 value → Grounded a → Grounded (takes_place config service standing place value a)
  takes_ground config service standing place Skip a logs sound fits is g =
      stage_ground service (Ready (skipped config standing)) a logs sound (record { attempts = fits.attempts; rings = fits.rings; stage = tt }) g
  takes_ground config service standing place (Batch batch) a logs sound fits is g =
      let entries : List Entry = entries_of_batch batch in
      let are : AreGiven entries = batch_given batch (batch_bytes_are place.0.0 batch is) in
      let applied = applies service.partition standing.replica entries in
      let texts = texts_from service.partition 0 (record { replica = standing.replica; replies = [] }) entries logs are sound.state tt in
      let numbers = numbered_from service.partition 0 (record { replica = standing.replica; replies = [] }) entries are tt in
      stage_ground service (Ready (record (passed_batch config standing) { replica = applied.replica })) (replying service place applied.replies (prints (Deliver a.view.id place.0 place.1 ∷ []) a)) logs
      (sound_from service.partition 0 (record { replica = standing.replica; replies = [] }) entries logs are sound)
      (record { attempts = fits.attempts; rings = fits.rings; stage = tt })
      (record {
        own = g.own;
        mine = g.mine;
        parts = g.parts;
        newest = g.newest;
        replica = g.replica;
        fits = record {
          view = g.fits.view;
          frames = g.fits.frames;
          replies = append_all (SentFits fine id) a.replies (map (reply_frame a.view.id service) applied.replies) g.fits.replies (replies_fit a.view.id service applied.replies g.own (both applied.replies texts numbers));
          epoch = g.fits.epoch;
        };
      })

  merges_grounded : (most : ℕ) (config : Config) (a : StepSoFar) → Grounded a → Grounded (merges_up_to most config a)
  merges_grounded zero config a g = g
  merges_grounded (suc most) config a g = by_service a.view.service g.replica g.fits.view.replica (λ b is. merges_grounded most config b is)
    where
      by_value : (service : Service) (standing : Standing) (place : RingId × ℕ) (v : Option Value) → HasFewLogs service.partition → IsSound service.partition standing.replica → ServiceFits service → ValueOrNone place.0.0 v
          → ((b : StepSoFar) → Grounded b → Grounded (merges_up_to most config b)) → Grounded (merges_place (merges_up_to most config) config service standing place v a)
      by_value service standing place None logs sound fits is rest = g
      by_value service standing place (Some value) logs sound fits is rest = rest (takes_place config service standing place value a) (takes_ground config service standing place value a logs sound fits is g)

      by_stage : (service : Service) (stage : Stage) → HasFewLogs service.partition → StageKeeps service.partition stage → ServiceFits service → ((b : StepSoFar) → Grounded b → Grounded (merges_up_to most config b))
          → Grounded (merges_stage (merges_up_to most config) config service stage a)
      by_stage service (Recovering attempt) logs keeps fits rest = g
      by_stage service (Ready standing) logs keeps fits rest =
          by_value service standing (place_of config standing) (value_at_place a.view (place_of config standing)) logs keeps fits (place_carries a.view g.parts (place_of config standing)) rest

      by_service : (o : Option Service) → ReplicaKeeps o → ReplicaFits o → ((b : StepSoFar) → Grounded b → Grounded (merges_up_to most config b)) → Grounded (merges_service (merges_up_to most config) config o a)
      by_service None keeps fits rest = g
      by_service (Some service) keeps fits rest = by_stage service service.stage keeps.logs keeps.stage fits rest

  pub merges_ground : (config : Config) (a : StepSoFar) → Grounded a → Grounded (merges config a)
  unfolding merges
  merges_ground config a g = merges_grounded (2 ^ 44 + 1) config a g
