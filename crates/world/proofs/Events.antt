-- The turns of a flow, and frames that are delivered.
use Rattle.std.proofs.Common.{arith, ◌≡◌, ◌<◌, ◌≤◌, ℕ, ◌+◌, ◌-◌, zero, suc, List, [], ◌∷◌, ◌++◌, length, get_or, Option, Some, None, refl, sym, ap, ◌∙◌, append_assoc, append-nil, true}
use Rattle.mrp_types.specs.declared.id.RingId.{RingId}
use Rattle.mrp_types.specs.declared.id.ClientId.{ClientId}
use Rattle.mrp_types.specs.declared.value.Value.{Value}
use Rattle.frames.specs.declared.body.Body.{Body}
use Rattle.frames.specs.declared.body.Body.TheVariants.{Submit, Prepare, Promise, Refuse, Accept, Decide, Fetch, Chosen, Trimmed, AskSafe, Safe, TrimTo, AskCheckpoint, HaveCheckpoint, AskPart, Part, Gone, Reply, Hello}
use Rattle.std.specs.Prelude.{slice_get, is_some}
use Rattle.std.specs.Option.{option_map}
use Rattle.transcript.specs.declared.line.Line.{Line}
use Rattle.frames.specs.declared.sent.Sent.{Sent}
use Rattle.world.specs.declared.seat.Seat.{Seat}
use Rattle.world.specs.Ring.{seat_at}
use Rattle.world.specs.System.{World, Outcome, quiet, flows, moves_on, delivers, handles}

-- ---- a flow

one_left : (count turn : ℕ) → turn < count → count - turn ≡ suc (count - (turn + 1))
one_left count turn more = omega (arith, more)

pub flows_turn : (count turn : ℕ) (w : World) → turn < count →
    flows (count - turn) w ≡ moves_on (flows (count - (turn + 1))) w (slice_get w.frames w.cursor)
flows_turn count turn w more = rw (one_left count turn more) refl

-- what was done by now, and what is left to do, after a turn
pub record Flows (count turn : ℕ) (w first : World) (printed before : List Line) : Type 0 where
  pub world : (flows (count - turn) w).world ≡ (flows count first).world
  pub lines : printed ++ (flows (count - turn) w).lines ≡ before ++ (flows count first).lines

-- where a frame was found at the cursor
found : (o : Option Sent) (cursor number : ℕ) → Some number ≡ option_map (λ _. cursor) o → (number ≡ cursor) × (is_some o ≡ true)
found None cursor number is = absurd cc
found (Some sent) cursor number is = (cc, refl)

pub none_found : (o : Option Sent) (cursor : ℕ) → None ≡ option_map (λ _. cursor) o → o ≡ None
none_found None cursor is = refl
none_found (Some sent) cursor is = absurd cc

moved : (rest : World → Outcome) (w : World) (o : Option Sent) → is_some o ≡ true →
    moves_on rest w o ≡ (record {
      world = (rest (delivers (record w { cursor = w.cursor + 1 }) o).world).world;
      lines = (delivers (record w { cursor = w.cursor + 1 }) o).lines ++ (rest (delivers (record w { cursor = w.cursor + 1 }) o).world).lines;
    })
moved rest w None there = absurd cc
moved rest w (Some sent) there = refl

pub one_turn : (count turn number : ℕ) (w next after first : World) (lines now before : List Line) → turn < count →
    Some number ≡ option_map (λ _. w.cursor) (slice_get w.frames w.cursor) → next ≡ record w { cursor = w.cursor + 1 } →
    after ≡ (delivers next (slice_get next.frames number)).world → now ≡ lines ++ (delivers next (slice_get next.frames number)).lines →
    Flows count turn w first lines before → Flows count (turn + 1) after first now before
one_turn count turn number w next after first lines now before more there steps done printed so_far =
    let rest = flows (count - (turn + 1)) in
    let at = found (slice_get w.frames w.cursor) w.cursor number there in
    let on : World = record w { cursor = w.cursor + 1 } in
    let o = delivers on (slice_get w.frames w.cursor) in
    let is : delivers next (slice_get next.frames number) ≡ o =
    ap (λ (v : World). delivers v (slice_get v.frames number)) steps ∙ ap (λ (k : ℕ). delivers on (slice_get w.frames k)) at.0 in
    let whole : flows (count - turn) w ≡ record { world = (rest o.world).world; lines = o.lines ++ (rest o.world).lines } =
    flows_turn count turn w more ∙ moved rest w (slice_get w.frames w.cursor) at.1 in
    let reached : after ≡ o.world = done ∙ ap (λ (p : Outcome). p.world) is in
    let told : now ≡ lines ++ o.lines = printed ∙ ap (λ (p : Outcome). lines ++ p.lines) is in
    record {
      world = ap (λ (v : World). (rest v).world) reached ∙ sym (ap (λ (p : Outcome). p.world) whole) ∙ so_far.world;
      lines = ap (λ (ls : List Line). ls ++ (rest after).lines) told
          ∙ ap (λ (v : World). (lines ++ o.lines) ++ (rest v).lines) reached
          ∙ append_assoc lines o.lines (rest o.world).lines
          ∙ sym (ap (λ (p : Outcome). lines ++ p.lines) whole) ∙ so_far.lines;
    }

-- ---- a frame that is delivered

sent_in : (frames : List Sent) (k : ℕ) (sent : Sent) → k < length frames → ((d : Sent) → sent ≡ get_or frames k d) → slice_get frames k ≡ Some sent
sent_in [] k sent inside is = absurd (grind arith)
sent_in (f ∷ frames) zero sent inside is = ap Some (sym (is f))
sent_in (f ∷ frames) (suc k) sent inside is = sent_in frames k sent (omega (arith, shorter f frames inside)) is
  where
    shorter : (f : Sent) (fs : List Sent) → suc k < length (f ∷ fs) → k < length fs
    shorter f fs inside = grind arith

none_in : (frames : List Sent) (k : ℕ) → length frames ≤ k → slice_get frames k ≡ None
none_in [] k past = refl
none_in (f ∷ frames) zero past = absurd (grind arith)
none_in (f ∷ frames) (suc k) past = none_in frames k (omega (arith, longer f frames past))
  where
    longer : (f : Sent) (fs : List Sent) → length (f ∷ fs) ≤ suc k → length fs ≤ k
    longer f fs past = grind arith

-- the frame of a number, as the code finds it
pub sent_at : (w v : World) (frames : List Sent) (k : ℕ) (sent : Sent) → v ≡ w → frames ≡ v.frames → k < length frames → ((d : Sent) → sent ≡ get_or frames k d) →
    slice_get w.frames k ≡ Some sent
sent_at w v frames k sent same are inside is = ap (λ (u : World). slice_get u.frames k) (sym same) ∙ ap (λ (fs : List Sent). slice_get fs k) (sym are) ∙ sent_in frames k sent inside is

pub none_at : (w v : World) (frames : List Sent) (k : ℕ) → v ≡ w → frames ≡ v.frames → length frames ≤ k → slice_get w.frames k ≡ None
none_at w v frames k same are past = ap (λ (u : World). slice_get u.frames k) (sym same) ∙ ap (λ (fs : List Sent). slice_get fs k) (sym are) ∙ none_in frames k past

-- where nothing is done
pub record IsQuiet (w : World) (printed : List Line) (o : Outcome) : Type 0 where
  pub world : w ≡ o.world
  pub lines : printed ≡ printed ++ o.lines

is_quiet : (w : World) (lines : List Line) (o : Outcome) → o ≡ quiet w → IsQuiet w lines o
is_quiet w lines o is = record {
  world = ap (λ (p : Outcome). p.world) (sym is);
  lines = sym (append-nil lines) ∙ ap (λ (p : Outcome). lines ++ p.lines) (sym is);
}

pub none_sent : (w : World) (lines : List Line) (o : Option Sent) → o ≡ None → IsQuiet w lines (delivers w o)
none_sent w lines o is = is_quiet w lines (delivers w o) (rw is refl)

pub no_seat : (w : World) (lines : List Line) (o : Option Sent) (sent : Sent) → o ≡ Some sent → seat_at w.ring sent.to ≡ None → IsQuiet w lines (delivers w o)
no_seat w lines o sent is at = is_quiet w lines (delivers w o) (rw (is, at) refl)

pub delivered : (w : World) (o : Option Sent) (sent : Sent) (seat : Seat) → o ≡ Some sent → seat_at w.ring sent.to ≡ Some seat → delivers w o ≡ handles w seat sent.frame.body
delivered w o sent seat is at = rw (is, at) refl

-- a frame of another kind than the three
pub record IsOther (body : Body) : Type 0 where
  pub no_submit : (ring : RingId) (hops : ℕ) (client : ClientId) (seq : ℕ) (command : List ℕ) → body ≡ Submit ring hops client seq command → ⊥
  pub no_accept : (ring : RingId) (ballot lo hi mask : ℕ) (value : Value) → body ≡ Accept ring ballot lo hi mask value → ⊥
  pub no_decide : (ring : RingId) (lo hi left : ℕ) (value : Value) → body ≡ Decide ring lo hi left value → ⊥

other_kind : (w : World) (seat : Seat) (body : Body) → IsOther body → handles w seat body ≡ quiet w
other_kind w seat (Submit ring hops client seq command) is = absurd (is.no_submit ring hops client seq command refl)
other_kind w seat (Prepare ring ballot lo) is = refl
other_kind w seat (Promise ring ballot lo hi trim votes) is = refl
other_kind w seat (Refuse ring ballot promise) is = refl
other_kind w seat (Accept ring ballot lo hi mask value) is = absurd (is.no_accept ring ballot lo hi mask value refl)
other_kind w seat (Decide ring lo hi left value) is = absurd (is.no_decide ring lo hi left value refl)
other_kind w seat (Fetch ring lo) is = refl
other_kind w seat (Chosen ring ranges) is = refl
other_kind w seat (Trimmed ring trim) is = refl
other_kind w seat (AskSafe ring round) is = refl
other_kind w seat (Safe ring round inst) is = refl
other_kind w seat (TrimTo ring trim) is = refl
other_kind w seat (AskCheckpoint epoch attempt) is = refl
other_kind w seat (HaveCheckpoint epoch attempt tuple) is = refl
other_kind w seat (AskPart epoch attempt tuple offset) is = refl
other_kind w seat (Part epoch attempt tuple offset total bytes) is = refl
other_kind w seat (Gone epoch attempt asked newer) is = refl
other_kind w seat (Reply client seq partition reply) is = refl
other_kind w seat Hello is = refl

pub other_sent : (w : World) (lines : List Line) (o : Option Sent) (sent : Sent) (seat : Seat) → o ≡ Some sent → seat_at w.ring sent.to ≡ Some seat → IsOther sent.frame.body →
    IsQuiet w lines (delivers w o)
other_sent w lines o sent seat is at other = is_quiet w lines (delivers w o) (delivered w o sent seat is at ∙ other_kind w seat sent.frame.body other)
