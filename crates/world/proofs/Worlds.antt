-- Every world that events reach is sound: what was proposed is what frames, lines and learners say.
use Rattle.std.proofs.Common.{arith, lit≤, inl, inr, ◌≡◌, ◌≢◌, ◌<◌, ◌≤◌, ℕ, zero, suc, ◌+◌, ◌-◌, ◌^◌, List, [], ◌∷◌, ◌++◌, length, get_or, Option, Some, None, refl, sym, ap, ◌∙◌, subst, append_assoc, append-nil, length-append, Bool, true, false, ◌==◌, ◌||◌, nat_le, nat_lt, if◌then◌else◌}
use Rattle.std.proofs.lemmas.Grind.{common_steps}
use Rattle.std.proofs.lemmas.List.{length-replicate}
use Rattle.std.proofs.lemmas.Bool.{cases_eq}
use Rattle.std.specs.List.{AllByRecursion}
use Rattle.std.specs.Prelude.{slice_get, slice_set, is_some, count_ones, replicate}
use Rattle.std.specs.BTreeMap.{insert_entry, is_at}
use Rattle.std.specs.Map.{lookup}
use Rattle.mrp_types.specs.declared.id.NodeId.{NodeId}
use Rattle.mrp_types.specs.declared.id.ClientId.{ClientId}
use Rattle.mrp_types.specs.declared.id.Party.{Party}
use Rattle.mrp_types.specs.declared.id.Party.TheVariants.{Node, Client}
use Rattle.mrp_types.specs.declared.id.TheConstants.{END}
use Rattle.mrp_types.specs.declared.value.Value.{Value}
use Rattle.mrp_types.specs.declared.value.Value.TheVariants.{Batch}
use Rattle.mrp_types.specs.declared.value.Entry.{Entry}
use Rattle.mrp_config.specs.declared.tables.RingTable.{RingTable}
use Rattle.command_codec.specs.declared.command.Command.{Command}
use Rattle.command_codec.specs.Spelling.{batch_bytes, command_bytes}
use Rattle.frames.specs.declared.body.Body.{Body}
use Rattle.frames.specs.declared.body.Body.TheVariants.{Submit, Prepare, Promise, Refuse, Accept, Decide, Fetch, Chosen, Trimmed, AskSafe, Safe, TrimTo, AskCheckpoint, HaveCheckpoint, AskPart, Part, Gone, Reply, Hello}
use Rattle.frames.specs.declared.sent.Sent.{Sent}
use Rattle.transcript.specs.declared.line.Line.{Line}
use Rattle.transcript.specs.declared.line.Line.TheVariants.{End}
use Rattle.schedule.specs.declared.event.ScheduleEvent.{ScheduleEvent}
use Rattle.schedule.specs.declared.event.ScheduleEvent.TheVariants.{Ask, Flow, Lose, Deliver as Delivers, List as Shows, TickAll, TickNode, TickClient, Lead, Crash, Restart, Fuse, Fail, FailRead, Show}
use Rattle.world.specs.declared.seat.Seat.{Seat}
use Rattle.world.specs.Ring.{seat_at, majority, has_bit, with_bit, coordinator}
use Rattle.world.specs.Learner.{Learner, Learned, nothing_learned, learning}
use Rattle.world.specs.System.{World, Outcome, start, quiet, sends, passes_on, then_passes_on, request_of, request_cmp, client_cmp, asked_or, learner_at, learner_or, learns, decides, votes, submits, handles, handles_at, delivers, and_then, moves_on, flows, asks, happens, lines_from, trace}
use Rattle.world.proofs.Seats.{Sits, same_seat, one_seat, seat_below, seat_sits, seat_fits}
use Rattle.world.proofs.Exact.{same_node, stands_shown, IsExactAfter, IsExactAfter-append}
use Rattle.world.proofs.Values.{IsOf, LineOf, lines_more, lines_append, BodyOf, SentOf, frames_more, frames_push, frame_at, LearnerOf, held_more, held_values}
use Rattle.world.proofs.Sound.{Goes, learning_goes}

-- what was proposed is one value for each instance, in order
pub record Sound (table : RingTable) (values : List (List ℕ)) (before : List Line) (w : World) : Type 0 where
  pub ring : w.ring ≡ table
  pub count : length values ≡ w.next
  pub low : w.next ≤ END
  pub sized : length w.learners ≡ length table.acceptors
  pub frames : AllByRecursion (SentOf values) w.frames
  pub lines : AllByRecursion (LineOf table values) before
  pub learners : (seat : Seat) → Sits table seat → LearnerOf table values before seat.node (learner_at w seat.position)

-- an outcome goes on from what was printed before: its lines are exact, and its world is sound
pub record GoesOn (table : RingTable) (before : List Line) (o : Outcome) (values : List (List ℕ)) : Type 0 where
  pub exact : IsExactAfter table before o.lines
  pub sound : Sound table values (before ++ o.lines) o.world

abbrev pub Continues : RingTable → List Line → Outcome → Type 0
Continues table before o = (values : List (List ℕ)) × GoesOn table before o values

-- nothing is printed
pub quietly : (table : RingTable) (values : List (List ℕ)) (before : List Line) (w : World) → Sound table values before w → Continues table before (quiet w)
quietly table values before w s = (
  values,
  record {
    exact = tt;
    sound = subst (λ (b : List Line). Sound table values b w) (sym (append-nil before)) s;
  },
)

-- one frame more
pub sent : (table : RingTable) (values : List (List ℕ)) (before : List Line) (w : World) (from to : Party) (body : Body) → Sound table values before w → BodyOf values body →
    Sound table values before (sends w from to body)
sent table values before w from to body s of = record {
  ring = s.ring;
  count = s.count;
  low = s.low;
  sized = s.sized;
  frames = frames_push values w.frames (record { to = to; frame = record { from = from; body = body } }) s.frames of;
  lines = s.lines;
  learners = s.learners;
}

-- a frame to the next acceptor
passed : (table : RingTable) (values : List (List ℕ)) (before : List Line) (w : World) (seat : Seat) (body : Body) → Sound table values before w → BodyOf values body →
    Sound table values before (passes_on w seat body)
passed table values before w seat body s of = sent table values before w _ _ body s of

-- an outcome and a frame more
pub outcome_passed : (table : RingTable) (before : List Line) (o : Outcome) (values : List (List ℕ)) (seat : Seat) (body : Body) → GoesOn table before o values →
    BodyOf values body → GoesOn table before (then_passes_on o seat body) values
outcome_passed table before o values seat body g of = record {
  exact = g.exact;
  sound = passed table values (before ++ o.lines) o.world seat body g.sound of;
}

-- ---- an acceptor learns

set_here : (ls : List Learner) (n : ℕ) (l : Learner) → n < length ls → slice_get (slice_set ls n l) n ≡ Some l
set_here [] n l inside = absurd (grind arith)
set_here (x ∷ ls) zero l inside = refl
set_here (x ∷ ls) (suc n) l inside = set_here ls n l (omega (arith, shorter x ls inside))
  where
    shorter : (x : Learner) (ls : List Learner) → suc n < length (x ∷ ls) → n < length ls
    shorter x ls inside = grind arith

set_apart : (ls : List Learner) (n m : ℕ) (l : Learner) → m ≢ n → slice_get (slice_set ls n l) m ≡ slice_get ls m
set_apart [] n m l apart = grind (arith, common_steps)
set_apart (x ∷ ls) zero zero l apart = absurd (apart refl)
set_apart (x ∷ ls) zero (suc m) l apart = refl
set_apart (x ∷ ls) (suc n) zero l apart = refl
set_apart (x ∷ ls) (suc n) (suc m) l apart = set_apart ls n m l (λ same. apart (ap suc same))

set_length : (ls : List Learner) (n : ℕ) (l : Learner) → length (slice_set ls n l) ≡ length ls
set_length ls n l = grind (arith, common_steps)

learner_set : (table : RingTable) (values : List (List ℕ)) (before : List Line) (w : World) (seat : Seat) (l : Learned) → Sound table values before w → Sits table seat →
    Goes table values before seat.node l →
    (other : Seat) → Sits table other → LearnerOf table values (before ++ l.lines) other.node (learner_or (slice_get (slice_set w.learners seat.position l.learner) other.position))
learner_set table values before w seat l s sits goes other also =
    let set = slice_set w.learners seat.position l.learner in
    elim (cases_eq other.position seat.position) [
      | inl same ↦
          let node : seat.node ≡ other.node = same_node seat.node other.node (same_seat table seat.node other.node seat.position sits (also ∙ ap Some same)) in
          let inside : seat.position < length w.learners = omega (arith, s.sized, seat_below table seat sits) in
          let read : learner_or (slice_get set other.position) ≡ l.learner =
          ap (λ n. learner_or (slice_get set n)) same ∙ ap learner_or (set_here w.learners seat.position l.learner inside) in
          subst (λ (x : Learner). LearnerOf table values (before ++ l.lines) other.node x) (sym read)
          (subst (λ (n : NodeId). LearnerOf table values (before ++ l.lines) n l.learner) node goes.learner)
      | inr apart ↦
          let read : learner_or (slice_get set other.position) ≡ learner_at w other.position =
          ap learner_or (set_apart w.learners seat.position other.position l.learner apart) in
          let differs : other.node.0 ≢ seat.node.0 = λ same. apart (one_seat table other seat also sits same) in
          subst (λ (x : Learner). LearnerOf table values (before ++ l.lines) other.node x) (sym read) (record {
            stands = goes.others other.node differs ∙ (s.learners other also).stands;
            ahead = held_more table values before l.lines (learner_at w other.position).ahead (s.learners other also).ahead;
          })
    ]

pub learned : (values : List (List ℕ)) (before : List Line) (w : World) (seat : Seat) (inst : ℕ) (value : Value) → Sound w.ring values before w → Sits w.ring seat →
    IsOf values inst value → GoesOn w.ring before (learns w seat inst value) values
learned values before w seat inst value s sits of =
    let l = learning w.ring.id seat.node inst value (learner_at w seat.position) in
    let all : length values ≤ END = subst (λ n. n ≤ END) (sym s.count) s.low in
    let goes = learning_goes w.ring values before seat.node inst value (learner_at w seat.position) s.lines all (seat_fits w.ring seat sits) of (s.learners seat sits) in
    record {
      exact = goes.exact;
      sound = record {
        ring = refl;
        count = s.count;
        low = s.low;
        sized = set_length w.learners seat.position l.learner ∙ s.sized;
        frames = s.frames;
        lines = lines_append w.ring values before l.lines s.lines goes.proposed;
        learners = learner_set w.ring values before w seat l s sits goes;
      };
    }

-- ---- the handlers

by_others : (t : Bool) (table : RingTable) (values : List (List ℕ)) (before : List Line) (o : Outcome) (seat : Seat) (body : Body) → GoesOn table before o values →
    BodyOf values body → Continues table before (if t then o else then_passes_on o seat body)
by_others true table values before o seat body g of = (values, g)
by_others false table values before o seat body g of = (values, outcome_passed table before o values seat body g of)

by_votes : (t : Bool) (values : List (List ℕ)) (before : List Line) (w : World) (seat : Seat) (inst mask : ℕ) (value : Value) → Sound w.ring values before w → Sits w.ring seat →
    IsOf values inst value →
    Continues w.ring before (if t then decides (learns w seat inst value) seat inst value else quiet (passes_on w seat (Accept w.ring.id (length w.ring.acceptors) inst (inst + 1) mask value)))
by_votes true values before w seat inst mask value s sits of =
    by_others (nat_lt (length w.ring.acceptors) 2) w.ring values before (learns w seat inst value) seat (Decide w.ring.id inst (inst + 1) (length w.ring.acceptors - 2) value)
    (learned values before w seat inst value s sits of) of
by_votes false values before w seat inst mask value s sits of =
    let body = Accept w.ring.id (length w.ring.acceptors) inst (inst + 1) mask value in
    quietly w.ring values before (passes_on w seat body) (passed w.ring values before w seat body s of)

voted : (values : List (List ℕ)) (before : List Line) (w : World) (seat : Seat) (inst mask : ℕ) (value : Value) → Sound w.ring values before w → Sits w.ring seat →
    IsOf values inst value → Continues w.ring before (votes w seat inst mask value)
voted values before w seat inst mask value s sits of = by_votes (nat_le (majority w.ring) (count_ones mask)) values before w seat inst mask value s sits of

by_bit : (t : Bool) (values : List (List ℕ)) (before : List Line) (w : World) (seat : Seat) (inst mask : ℕ) (value : Value) → Sound w.ring values before w → Sits w.ring seat →
    IsOf values inst value → Continues w.ring before (if t then quiet w else votes w seat inst mask value)
by_bit true values before w seat inst mask value s sits of = quietly w.ring values before w s
by_bit false values before w seat inst mask value s sits of = voted values before w seat inst mask value s sits of

last_of : (values : List (List ℕ)) (v : List ℕ) → IsOf (values ++ v ∷ []) (length values) (Batch v)
last_of values v = record {
  low = rw length-append (omega arith);
  batch = ap Batch (sym (last values v));
}
  where
    last : (xs : List (List ℕ)) (x : List ℕ) → get_or (xs ++ x ∷ []) (length xs) [] ≡ x
    last xs x = grind (arith, common_steps)

by_request : (t : Bool) (values : List (List ℕ)) (before : List Line) (w : World) (seat : Seat) (entry : Entry) → nat_le END w.next ≡ t → Sound w.ring values before w → Sits w.ring seat →
    (seen : Bool) →
    Continues w.ring before (if seen || t then quiet w else votes (record w { proposed = insert_entry request_cmp w.proposed (request_of entry) w.next; next = w.next + 1 })
    seat w.next 1 (Batch (batch_bytes (entry ∷ []))))
by_request t values before w seat entry end s sits true = quietly w.ring values before w s
by_request true values before w seat entry end s sits false = quietly w.ring values before w s
by_request false values before w seat entry end s sits false =
    let batch = batch_bytes (entry ∷ []) in
    let more = values ++ batch ∷ [] in
    let on : World = record w { proposed = insert_entry request_cmp w.proposed (request_of entry) w.next; next = w.next + 1 } in
    let room : w.next < END = below w.next end in
    let grown : Sound w.ring more before on = record {
      ring = refl;
      count = length-append values (batch ∷ []) ∙ ap (λ n. n + 1) s.count;
      low = omega (arith, room);
      sized = s.sized;
      frames = frames_more values (batch ∷ []) w.frames s.frames;
      lines = lines_more w.ring values (batch ∷ []) before s.lines;
      learners = λ other also. record {
        stands = (s.learners other also).stands;
        ahead = held_values w.ring values (batch ∷ []) before (learner_at w other.position).ahead (s.learners other also).ahead;
      };
    } in
    let of : IsOf more w.next (Batch batch) = subst (λ n. IsOf more n (Batch batch)) s.count (last_of values batch) in
    voted more before on seat w.next 1 (Batch batch) grown sits of
  where
    below : (n : ℕ) → nat_le END n ≡ false → n < END
    below n h = grind arith

by_seat : (t : Bool) (values : List (List ℕ)) (before : List Line) (w : World) (seat : Seat) (entry : Entry) → Sound w.ring values before w → Sits w.ring seat →
    Continues w.ring before (if t then submits w seat entry else quiet w)
by_seat true values before w seat entry s sits =
    by_request (nat_le END w.next) values before w seat entry refl s sits (is_some (lookup (is_at (request_cmp (request_of entry))) w.proposed))
by_seat false values before w seat entry s sits = quietly w.ring values before w s

pub handled : (values : List (List ℕ)) (before : List Line) (w : World) (seat : Seat) (body : Body) → Sound w.ring values before w → Sits w.ring seat → BodyOf values body →
    Continues w.ring before (handles w seat body)
handled values before w seat (Submit ring hops client seq command) s sits of = by_seat (seat.position == 0) values before w seat (record { client = client; seq = seq; command = command }) s sits
handled values before w seat (Prepare ring ballot lo) s sits of = quietly w.ring values before w s
handled values before w seat (Promise ring ballot lo hi trim votes) s sits of = quietly w.ring values before w s
handled values before w seat (Refuse ring ballot promise) s sits of = quietly w.ring values before w s
handled values before w seat (Accept ring ballot lo hi mask value) s sits of = by_bit (has_bit mask seat) values before w seat lo (with_bit mask seat) value s sits of
handled values before w seat (Decide ring lo hi left value) s sits of =
    by_others (left == 0) w.ring values before (learns w seat lo value) seat (Decide w.ring.id lo (lo + 1) (left - 1) value) (learned values before w seat lo value s sits of) of
handled values before w seat (Fetch ring lo) s sits of = quietly w.ring values before w s
handled values before w seat (Chosen ring ranges) s sits of = quietly w.ring values before w s
handled values before w seat (Trimmed ring trim) s sits of = quietly w.ring values before w s
handled values before w seat (AskSafe ring round) s sits of = quietly w.ring values before w s
handled values before w seat (Safe ring round inst) s sits of = quietly w.ring values before w s
handled values before w seat (TrimTo ring trim) s sits of = quietly w.ring values before w s
handled values before w seat (AskCheckpoint epoch attempt) s sits of = quietly w.ring values before w s
handled values before w seat (HaveCheckpoint epoch attempt tuple) s sits of = quietly w.ring values before w s
handled values before w seat (AskPart epoch attempt tuple offset) s sits of = quietly w.ring values before w s
handled values before w seat (Part epoch attempt tuple offset total bytes) s sits of = quietly w.ring values before w s
handled values before w seat (Gone epoch attempt asked newer) s sits of = quietly w.ring values before w s
handled values before w seat (Reply client seq partition reply) s sits of = quietly w.ring values before w s
handled values before w seat Hello s sits of = quietly w.ring values before w s

-- ---- events

-- any number at the cursor, and any counts of what clients asked
moved : (table : RingTable) (values : List (List ℕ)) (before : List Line) (w : World) (cursor : ℕ) (asked : List (ClientId × ℕ)) → Sound table values before w →
    Sound table values before (record w { cursor = cursor; asked = asked })
moved table values before w cursor asked s = record {
  ring = s.ring;
  count = s.count;
  low = s.low;
  sized = s.sized;
  frames = s.frames;
  lines = s.lines;
  learners = s.learners;
}

-- a sound world, by its own ring
own : (table : RingTable) (values : List (List ℕ)) (before : List Line) (w : World) → Sound table values before w → Sound w.ring values before w
own table values before w s = subst (λ (t : RingTable). Sound t values before w) (sym s.ring) s

-- one outcome after another
one_after : (table : RingTable) (before : List Line) (o : Outcome) (next : World → Outcome) → (c : Continues table before o) →
    ((values : List (List ℕ)) → Sound table values (before ++ o.lines) o.world → Continues table (before ++ o.lines) (next o.world)) → Continues table before (and_then o next)
one_after table before o next first second =
    let more_of = second first.0 first.1.sound in
    let more = (next o.world).lines in (
      more_of.0,
      record {
        exact = IsExactAfter-append table before o.lines more first.1.exact more_of.1.exact;
        sound = subst (λ (b : List Line). Sound table more_of.0 b (next o.world).world) (append_assoc before o.lines more) more_of.1.sound;
      },
    )

by_receiver : (receiver : Option Seat) (values : List (List ℕ)) (before : List Line) (w : World) (body : Body) → Sound w.ring values before w →
    ((seat : Seat) → receiver ≡ Some seat → Sits w.ring seat) → BodyOf values body → Continues w.ring before (handles_at w receiver body)
by_receiver None values before w body s sits of = quietly w.ring values before w s
by_receiver (Some seat) values before w body s sits of = handled values before w seat body s (sits seat refl) of

by_frame : (f : Option Sent) (values : List (List ℕ)) (before : List Line) (w : World) → Sound w.ring values before w → ((sent : Sent) → f ≡ Some sent → SentOf values sent) →
    Continues w.ring before (delivers w f)
by_frame None values before w s of = quietly w.ring values before w s
by_frame (Some sent) values before w s of =
    by_receiver (seat_at w.ring sent.to) values before w sent.frame.body s (λ seat is. seat_sits w.ring sent.to seat is) (of sent refl)

by_cursor : (f : Option Sent) (values : List (List ℕ)) (before : List Line) (w : World) (rest : World → Outcome) → Sound w.ring values before w →
    ((sent : Sent) → f ≡ Some sent → SentOf values sent) →
    ((vs : List (List ℕ)) (b : List Line) (v : World) → Sound w.ring vs b v → Continues w.ring b (rest v)) → Continues w.ring before (moves_on rest w f)
by_cursor None values before w rest s of go = quietly w.ring values before w s
by_cursor (Some sent) values before w rest s of go =
    let on : World = record w { cursor = w.cursor + 1 } in
    let o = delivers on (Some sent) in
    one_after w.ring before o rest (by_frame (Some sent) values before on (moved w.ring values before w (w.cursor + 1) w.asked s) of)
    (λ vs sound. go vs (before ++ o.lines) o.world sound)

flowed : (n : ℕ) (table : RingTable) (values : List (List ℕ)) (before : List Line) (w : World) → Sound table values before w → Continues table before (flows n w)
flowed zero table values before w s = quietly table values before w s
flowed (suc n) table values before w s =
    subst (λ (t : RingTable). Continues t before (flows (suc n) w)) s.ring
    (by_cursor (slice_get w.frames w.cursor) values before w (flows n) (own table values before w s) (λ sent is. frame_at values w.frames w.cursor sent s.frames is)
    (λ vs b v sound. flowed n w.ring vs b v sound))

by_number : (t : Bool) (values : List (List ℕ)) (before : List Line) (w : World) (client : ClientId) (seq : ℕ) (command : Command) → Sound w.ring values before w →
    Sound w.ring values before (if t then sends (record w { asked = insert_entry client_cmp w.asked client seq }) (Client client) (Node (coordinator w.ring))
    (Submit w.ring.id 0 client seq (command_bytes command)) else w)
by_number true values before w client seq command s =
    sent w.ring values before (record w { asked = insert_entry client_cmp w.asked client seq }) _ _ (Submit w.ring.id 0 client seq (command_bytes command))
    (moved w.ring values before w w.cursor (insert_entry client_cmp w.asked client seq) s) tt
by_number false values before w client seq command s = s

-- a line that shows a frame
shown : (table : RingTable) (values : List (List ℕ)) (before : List Line) (w : World) (number : ℕ) → Sound table values before w → Continues table before (happens w (Shows number))
shown table values before w number s = (
  values,
  record {
    exact = (tt, tt);
    sound = record {
      ring = s.ring;
      count = s.count;
      low = s.low;
      sized = s.sized;
      frames = s.frames;
      lines = lines_append table values before (happens w (Shows number)).lines s.lines (tt, tt);
      learners = λ seat sits. record {
        stands = stands_shown before number _ seat.node ∙ (s.learners seat sits).stands;
        ahead = held_more table values before (happens w (Shows number)).lines (learner_at w seat.position).ahead (s.learners seat sits).ahead;
      };
    };
  },
)

happened : (values : List (List ℕ)) (before : List Line) (w : World) (event : ScheduleEvent) → Sound w.ring values before w → Continues w.ring before (happens w event)
happened values before w (Ask client command) s =
    let seq = asked_or (lookup (is_at (client_cmp client)) w.asked) + 1 in
    quietly w.ring values before (asks w client command) (by_number (nat_lt seq (2 ^ 63)) values before w client seq command s)
happened values before w (Flow count) s = flowed count w.ring values before w s
happened values before w (Lose count) s = quietly w.ring values before _ (moved w.ring values before w _ w.asked s)
happened values before w (Delivers frame) s =
    by_frame (slice_get w.frames frame) values before w s (λ sent is. frame_at values w.frames frame sent s.frames is)
happened values before w (Shows frame) s = shown w.ring values before w frame s
happened values before w TickAll s = quietly w.ring values before w s
happened values before w (TickNode node) s = quietly w.ring values before w s
happened values before w (TickClient client) s = quietly w.ring values before w s
happened values before w (Lead node ring) s = quietly w.ring values before w s
happened values before w (Crash node) s = quietly w.ring values before w s
happened values before w (Restart node image) s = quietly w.ring values before w s
happened values before w (Fuse node calls) s = quietly w.ring values before w s
happened values before w (Fail node calls) s = quietly w.ring values before w s
happened values before w (FailRead node calls) s = quietly w.ring values before w s
happened values before w (Show node) s = quietly w.ring values before w s

pub all_exact : (table : RingTable) (values : List (List ℕ)) (before : List Line) (w : World) (events : List ScheduleEvent) (last : List Line) → Sound table values before w →
    ((b : List Line) → IsExactAfter table b last) → IsExactAfter table before (lines_from w events ++ last)
all_exact table values before w [] last s end = end before
all_exact table values before w (event ∷ events) last s end =
    let c = subst (λ (t : RingTable). Continues t before (happens w event)) s.ring (happened values before w event (own table values before w s)) in
    let o = happens w event in
    let rest = lines_from o.world events ++ last in
    subst (λ (ls : List Line). IsExactAfter table before ls) (sym (append_assoc o.lines (lines_from o.world events) last))
    (IsExactAfter-append table before o.lines rest c.1.exact (all_exact table c.0 (before ++ o.lines) o.world events last c.1.sound end))

none_at : (n position : ℕ) → learner_or (slice_get (replicate n nothing_learned) position) ≡ nothing_learned
none_at zero position = refl
none_at (suc n) zero = refl
none_at (suc n) (suc position) = none_at n position

starts : (table : RingTable) → Sound table [] [] (start table)
starts table = record {
  ring = refl;
  count = refl;
  low = lit≤ tt;
  sized = length-replicate (length table.acceptors) nothing_learned;
  frames = tt;
  lines = tt;
  learners = λ seat sits. subst (λ (l : Learner). LearnerOf table [] [] seat.node l) (sym (none_at (length table.acceptors) seat.position)) (record { stands = refl; ahead = tt });
}

pub trace_is_exact : (table : RingTable) (events : List ScheduleEvent) → IsExactAfter table [] (trace table events)
unfolding trace
trace_is_exact table events = all_exact table [] [] (start table) events (End (length events) ∷ []) (starts table) (λ b. (tt, tt))
