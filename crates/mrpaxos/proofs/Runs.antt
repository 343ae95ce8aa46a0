-- A schedule is replayed event by event.
use Rattle.std.proofs.Common.{arith, refl, ◌≡◌, ◌<◌, ◌≤◌, ◌+◌, suc, ℕ, List, [], ◌∷◌, ◌++◌, length, get_or, drop, drop-cons, add-one, Option, sym, ap, ◌∙◌, subst, append_assoc, append-nil}
use Rattle.std.proofs.lemmas.Grind.{common_steps}
use Rattle.std.specs.List.{AllByRecursion}
use Rattle.std.specs.Prelude.{Result, Ok, Err, IsErrAnd}
use Rattle.std.proofs.lemmas.Grind.{flat_map-append}
use Rattle.outside.specs.Writing.{WritesAll, Handed}
use Rattle.outside.proofs.HandingLaws.{Goes, begins as nothing_written, goes_further, refused as refused_then, ends as written_then}
use Rattle.transcript.specs.declared.line.Line.{Line}
use Rattle.transcript.specs.declared.line.Line.TheVariants.{End}
use Rattle.transcript.specs.Spelling.{line_bytes, lines_text}
use Rattle.schedule.specs.declared.event.ScheduleEvent.{ScheduleEvent}
use Rattle.schedule.specs.declared.event.ScheduleEvent.TheVariants.{Ask, Flow, Lose, Deliver, List as Shown, TickAll, TickNode, TickClient, Lead, Crash, Restart, Fuse, Fail, FailRead, Show}
use Rattle.schedule.specs.Spelling.{IsEvent}
use Rattle.schedule.proofs.CommandLaws.{asked_is_command}
use Rattle.mrp_config.specs.Config.{Config}
use Rattle.mrp_config.specs.declared.tables.RingTable.{RingTable}
use Rattle.world.specs.System.{World, MayHappen, start, happens, lines_from, trace}

-- the text of a schedule's lines
abbrev pub text_of : RingTable → List ScheduleEvent → List ℕ
text_of ring schedule = lines_text (trace ring schedule)

-- the text that the events still to come give, with the last line
abbrev pub text_from : List ScheduleEvent → World → List ScheduleEvent → List ℕ
text_from schedule w events = lines_text (lines_from w events ++ End (length schedule) ∷ [])

-- what is held and what was written by now, and what is left to add
abbrev pub Replayed : Option (List ℕ) → Option (List ℕ) → List ℕ → RingTable → List ScheduleEvent → World → List ScheduleEvent → Type 0
Replayed old new held ring schedule w rest = Goes old new held (text_from schedule w rest) (text_of ring schedule)

-- ---- the turns of a replay

pub begins : (a : Option (List ℕ)) (held : List ℕ) (ring : RingTable) (schedule items : List ScheduleEvent) (w : World) → held ≡ [] → w ≡ start ring → items ≡ schedule →
    Replayed a a held ring schedule w items
unfolding trace
begins a held ring schedule items w none is same =
    nothing_written a held (text_from schedule w items) (text_of ring schedule)
    (ap (λ (l : List ℕ). l ++ text_from schedule w items) none ∙ ap (λ (v : World). text_from schedule v items) is ∙ ap (text_from schedule (start ring)) same)

abbrev pub piece_of : World → ScheduleEvent → List ℕ
piece_of w event = lines_text (happens w event).lines

-- the text to come is that of one event and of those after it
one_event : (schedule rest later : List ScheduleEvent) (w : World) (event : ScheduleEvent) → rest ≡ event ∷ later →
    text_from schedule w rest ≡ piece_of w event ++ text_from schedule (happens w event).world later
one_event schedule rest later w event is =
    let now = (happens w event).lines in
    let then = lines_from (happens w event).world later in
    let last : List Line = End (length schedule) ∷ [] in
    ap (text_from schedule w) is ∙ ap lines_text (append_assoc now then last) ∙ flat_map-append line_bytes now (then ++ last)

pub refused : {E : Type 0} (a b c : Option (List ℕ)) (held : List ℕ) (ring : RingTable) (schedule rest later : List ScheduleEvent) (w : World) (event : ScheduleEvent) (e : E)
    (r : Result (Unit {0}) E) → IsErrAnd r (λ x. x ≡ e) → rest ≡ event ∷ later → Replayed a b held ring schedule w rest →
    WritesAll b c (held ++ piece_of w event) (Err e) → WritesAll a c (text_of ring schedule) r
refused a b c held ring schedule rest later w event e r given is so_far written =
    refused_then a b c held (held ++ piece_of w event) (piece_of w event) (text_from schedule (happens w event).world later) (text_from schedule w rest) (text_of ring schedule) e e r given
    (one_event schedule rest later w event is) refl so_far written

pub one_more : (a b c : Option (List ℕ)) (held after : List ℕ) (ring : RingTable) (schedule rest later : List ScheduleEvent) (w next : World) (event : ScheduleEvent) →
    rest ≡ event ∷ later → next ≡ (happens w event).world → Replayed a b held ring schedule w rest →
    Handed b c (held ++ piece_of w event) after → Replayed a c after ring schedule next later
one_more a b c held after ring schedule rest later w next event is there so_far handed =
    rw there (goes_further a b c held (held ++ piece_of w event) (piece_of w event) (text_from schedule (happens w event).world later) (text_from schedule w rest) after (text_of ring schedule)
    (one_event schedule rest later w event is) refl so_far handed)

-- what is left to add where no event is left
last_left : (schedule rest : List ScheduleEvent) (w : World) (n : ℕ) → rest ≡ [] → n ≡ length schedule → text_from schedule w rest ≡ line_bytes (End n)
last_left schedule rest w n none count =
    ap (text_from schedule w) none ∙ ap (λ k. lines_text (End k ∷ [])) (sym count) ∙ append-nil (line_bytes (End n))

pub ends : {E : Type 0} (a b c : Option (List ℕ)) (held put : List ℕ) (ring : RingTable) (schedule rest : List ScheduleEvent) (w : World) (n : ℕ) (r : Result (Unit {0}) E) →
    rest ≡ [] → n ≡ length schedule → Replayed a b held ring schedule w rest → put ≡ held ++ line_bytes (End n) → WritesAll b c put r → WritesAll a c (text_of ring schedule) r
ends a b c held put ring schedule rest w n r none count so_far is written =
    written_then a b c held put (text_from schedule w rest) (text_of ring schedule) r (is ∙ ap (λ (l : List ℕ). held ++ l) (sym (last_left schedule rest w n none count))) so_far written

-- all was written, whatever a refusal would be
pub done_on : {E F : Type 0} (a b : Option (List ℕ)) (text : List ℕ) → WritesAll {E = E} a b text (Ok tt) → WritesAll {E = F} a b text (Ok tt)
done_on a b text written = (written.0, record { front = written.1.front; taken = written.1.taken; all = written.1.all })

-- the item at an index, and those after it
pub item_at : {A : Type 0} (items : List A) (i : ℕ) (item : A) → i < length items → item ≡ get_or items i item → drop i items ≡ item ∷ drop (i + 1) items
item_at {A = A} items i item inside is =
    drop-cons items i item inside ∙ ap (λ (x : A). x ∷ drop (suc i) items) (sym is) ∙ ap (λ (k : ℕ). item ∷ drop k items) (sym (add-one i))

pub none_at : {A : Type 0} (items : List A) (i : ℕ) → length items ≤ i → drop i items ≡ []
none_at items i all = grind (arith, common_steps)

pub valid_after : (event : ScheduleEvent) (rest later : List ScheduleEvent) → rest ≡ event ∷ later → AllByRecursion MayHappen rest → MayHappen event × AllByRecursion MayHappen later
valid_after event rest later is all = subst (λ (l : List ScheduleEvent). AllByRecursion MayHappen l) is all

-- ---- what a schedule may make happen

may_happen : (config : Config) (event : ScheduleEvent) → IsEvent config event → MayHappen event
may_happen config (Ask client command) is = asked_is_command command is.0.1
may_happen config (Flow count) is = tt
may_happen config (Lose count) is = tt
may_happen config (Deliver frame) is = tt
may_happen config (Shown frame) is = tt
may_happen config TickAll is = tt
may_happen config (TickNode node) is = tt
may_happen config (TickClient client) is = tt
may_happen config (Lead node ring) is = tt
may_happen config (Crash node) is = tt
may_happen config (Restart node image) is = tt
may_happen config (Fuse node calls) is = tt
may_happen config (Fail node calls) is = tt
may_happen config (FailRead node calls) is = tt
may_happen config (Show node) is = tt

pub all_may_happen : (config : Config) (events : List ScheduleEvent) → AllByRecursion (IsEvent config) events → AllByRecursion MayHappen events
all_may_happen config [] are = tt
all_may_happen config (event ∷ events) are = (may_happen config event are.0, all_may_happen config events are.1)
