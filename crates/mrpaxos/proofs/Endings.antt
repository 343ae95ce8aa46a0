-- How a run ends.
use Rattle.std.proofs.Common.{arith, Bool, true, false, nat_lt, ◌⊎◌, ◌≡◌, ◌≤◌, ◌<◌, ℕ, inl, inr, List, [], ◌∷◌, ◌++◌, length, get_or, map, take, Option, Some, None, refl, sym, ap, ◌∙◌, subst, codes, append-nil, Ok, Err}
use Rattle.std.proofs.lemmas.Grind.{common_steps}
use Rattle.mrp_types.proofs.TestLemmas.{below}
use Rattle.std.proofs.lemmas.Slice.Eq.{bytes_eq-Decides}
use Rattle.std.proofs.KnownBytes.{Keeps-refl}
use Rattle.std.proofs.Math.Seq.{take-append_seam}
use Rattle.std.specs.Prelude.{IfSome, IsTrue, ◌↔◌}
use Rattle.std.specs.Str.{bytes_eq}
use Rattle.std.specs.Io.KnownBytes.{Consumes, IsAtEnd}
use Rattle.outside.specs.Reading.{ReadsFront}
use Rattle.outside.specs.declared.refused.Refused.TheVariants.{Failed, Memory as NoMemory}
use Rattle.mrp_config.specs.Config.{Config as Deployed}
use Rattle.mrp_config.specs.Walk.{read_of}
use Rattle.config_walk.specs.declared.fault.ConfigFault.{ConfigFault}
use Rattle.config_walk.specs.declared.fault.ConfigFault.TheVariants.{TooLong}
use Rattle.mrp_config.specs.declared.tables.RingTable.{RingTable}
use Rattle.schedule.specs.Reading.{schedule_of}
use Rattle.schedule.proofs.ScheduleLaws.{schedule_read}
use Rattle.mrpaxos.specs.declared.status.Status.{Status}
use Rattle.mrpaxos.specs.declared.status.Status.TheVariants.{Done, Usage, Config, Input, Source, Sink, Memory}
use Rattle.mrpaxos.specs.declared.status.InputFault.TheVariants as input
use Rattle.mrpaxos.specs.declared.status.Which.TheVariants as which
use Rattle.mrpaxos.specs.declared.draw.Draw.{Draw}
use Rattle.mrpaxos.specs.Intake.{Intake, Output, IsUnread, IsRead, HasFailed, IsCutShort}
use Rattle.mrpaxos.specs.Drawing.{IsDraw, Printing, Draws, AnswersDraw}
use Rattle.mrpaxos.specs.Top.{IsReplay, Judged, Entered, IsConfigured, Configured, Refuses, RefusesRead, Replays, Ends, Answers}

-- ---- the words

pub one_item : {X Y : Type 0} (f : X → Y) (xs : List X) (x : X) → length xs ≡ 1 → x ≡ get_or xs 0 x → map f xs ≡ f x ∷ []
one_item f [] x one is = absurd (grind arith)
one_item f (y ∷ []) x one is = ap (λ z. f z ∷ []) (sym is)
one_item f (y ∷ z ∷ rest) x one is = absurd (grind (arith, common_steps))

pub no_words : {X Y : Type 0} (f : X → Y) (xs : List X) (y : Y) → (length xs ≡ 1 → ⊥) → map f xs ≡ y ∷ [] → ⊥
no_words f [] y other h = grind arith
no_words f (x ∷ []) y other h = other refl
no_words f (x ∷ z ∷ rest) y other h = grind arith

pub replay_if : (words : List (List ℕ)) (word seen : List ℕ) (r : Bool) → words ≡ word ∷ [] → seen ≡ word → r ≡ bytes_eq seen (codes "replay") →
    IsTrue r ↔ IsReplay words
replay_if words word seen r is same tests = (
  λ h. is ∙ ap (λ (w : List ℕ). w ∷ []) (sym same ∙ (bytes_eq-Decides seen (codes "replay")).0 (sym tests ∙ h)),
  λ h. tests ∙ (bytes_eq-Decides seen (codes "replay")).1 (same ∙ heads (sym is ∙ h)),
)
  where
    heads : word ∷ [] ≡ codes "replay" ∷ [] → word ≡ codes "replay"
    heads e = cc

-- ---- what was read

pub unread : (left : Option (List ℕ)) (faults reads : ℕ) →
    IsUnread (record { before = left; after = left; faults_before = faults; faults_after = faults; reads_before = reads; reads_after = reads })
unread left faults reads = record { bytes = Keeps-refl left; faults = refl; reads = refl }

pub is_read : (most : ℕ) (intake : Intake) (bytes : List ℕ) →
    ReadsFront most intake.before intake.after intake.faults_before intake.faults_after intake.reads_before intake.reads_after (Ok bytes) → IsRead most intake bytes
is_read most intake bytes read =
    let c = read.1 in
    subst (λ (l : List ℕ). IsRead most intake l) (sym c.answer.0) (record {
      came = record { consumed = c.consumed; stopped = c.stopped; reads = c.read };
      whole = c.answer.1;
      faults = c.answer.2;
    })

pub has_failed : (most : ℕ) (intake : Intake) →
    ReadsFront most intake.before intake.after intake.faults_before intake.faults_after intake.reads_before intake.reads_after (Err Failed) → HasFailed most intake
has_failed most intake read =
    let c = read.1 in
    record { bytes = read.0; came = record { consumed = c.consumed; stopped = c.stopped; reads = c.read }; faults = c.answer }

pub cut_short : (most : ℕ) (intake : Intake) →
    ReadsFront most intake.before intake.after intake.faults_before intake.faults_after intake.reads_before intake.reads_after (Err NoMemory) → IsCutShort most intake
cut_short most intake read =
    let c = read.1 in
    record { bytes = read.0; came = record { consumed = c.consumed; stopped = c.stopped; reads = c.read }; faults = c.answer }

-- ---- one layer after another

pub enters : (status : Status) (config : Deployed) (ring : RingTable) (intake : Intake) (out : Output) (bytes : List ℕ) → IsRead 67108865 intake bytes →
    Judged status config ring bytes out → Entered status config ring intake out
enters Done config ring intake out bytes read says = (bytes, read, says)
enters Usage config ring intake out bytes read says = says
enters (Config f) config ring intake out bytes read says = says
enters (Input f) config ring intake out bytes read says = (bytes, read, says)
enters (Source which.Config) config ring intake out bytes read says = says
enters (Source which.Input) config ring intake out bytes read says = absurd says
enters Sink config ring intake out bytes read says = (bytes, read, says)
enters Memory config ring intake out bytes read says = inr (bytes, read, says)

pub configures : (status : Status) (bytes : List ℕ) (config : Deployed) (ring : RingTable) (intake : Intake) (out : Output) → IsConfigured bytes config ring →
    Entered status config ring intake out → Configured status bytes intake out
configures Done bytes config ring intake out is says = (config, ring, is, says)
configures Usage bytes config ring intake out is says = (config, ring, is, says)
configures (Config f) bytes config ring intake out is says = absurd says
configures (Input f) bytes config ring intake out is says = (config, ring, is, says)
configures (Source w) bytes config ring intake out is says = (config, ring, is, says)
configures Sink bytes config ring intake out is says = (config, ring, is, says)
configures Memory bytes config ring intake out is says = inr (config, ring, is, says)

pub replays : (status : Status) (config intake : Intake) (out : Output) (bytes : List ℕ) → IsRead 1048577 config bytes → Configured status bytes intake out →
    Replays status config intake out
replays Done config intake out bytes read says = (bytes, read, says)
replays Usage config intake out bytes read says = absurd says.3
replays (Config f) config intake out bytes read says = (bytes, read, says)
replays (Input f) config intake out bytes read says = (bytes, read, says)
replays (Source which.Config) config intake out bytes read says = absurd says.3
replays (Source which.Input) config intake out bytes read says = (bytes, read, says)
replays Sink config intake out bytes read says = (bytes, read, says)
replays Memory config intake out bytes read says = inr (bytes, read, says)

pub of_replay : (status : Status) (words : List (List ℕ)) (config intake : Intake) (out : Output) → IsReplay words → Replays status config intake out →
    Ends status words config intake out
of_replay Done words config intake out is says = inl (is, says)
of_replay Usage words config intake out is says = absurd says
of_replay (Config f) words config intake out is says = inl (is, says)
of_replay (Input f) words config intake out is says = inl (is, says)
of_replay (Source w) words config intake out is says = inl (is, says)
of_replay Sink words config intake out is says = inl (is, says)
of_replay Memory words config intake out is says = inl (is, says)

pub of_draw : (status : Status) (words : List (List ℕ)) (config intake : Intake) (out : Output) (draw : Draw) → IsDraw draw words → IsUnread intake → Draws draw status config out →
    Ends status words config intake out
of_draw Done words config intake out draw is unread says = inr (draw, is, unread, says)
of_draw Usage words config intake out draw is unread says = absurd says.2
of_draw (Config f) words config intake out draw is unread says = inr (draw, is, unread, says)
of_draw (Input f) words config intake out draw is unread says = inr (draw, is, unread, says)
of_draw (Source w) words config intake out draw is unread says = inr (draw, is, unread, says)
of_draw Sink words config intake out draw is unread says = inr (draw, is, unread, says)
of_draw Memory words config intake out draw is unread says = inr (draw, is, unread, says)

-- ---- what is answered

whole_front : (n : ℕ) (l : List ℕ) → length l ≤ n → take n l ≡ l
whole_front n l fits = grind (arith, common_steps)

-- what was read is the front of what there was
front_is : (most : ℕ) (before after : Option (List ℕ)) (bytes all : List ℕ) → Consumes before after bytes → length bytes ≤ most →
    (IsAtEnd after ⊎ (length bytes ≡ most)) → before ≡ Some all → take most all ≡ bytes
front_is most None after bytes all took fits whole told = absurd (grind arith)
front_is most (Some xs) None bytes all took fits whole told = absurd took
front_is most (Some xs) (Some ys) bytes all took fits (inl over) told =
    let same : all ≡ xs = cc in
    let is : all ≡ bytes = same ∙ took ∙ ap (λ (l : List ℕ). bytes ++ l) over ∙ append-nil bytes in
    ap (take most) is ∙ whole_front most bytes fits
front_is most (Some xs) (Some ys) bytes all took fits (inr is) told =
    let same : all ≡ xs = cc in
    ap (take most) (same ∙ took) ∙ ap (λ n. take n (bytes ++ ys)) (sym is) ∙ take-append_seam bytes ys

pub front_of : (most : ℕ) (intake : Intake) (bytes all : List ℕ) → IsRead most intake bytes → intake.before ≡ Some all → take most all ≡ bytes
front_of most intake bytes all read told = front_is most intake.before intake.after bytes all read.came.consumed read.came.stopped read.whole told

-- a configuration is read as its front is
is_more : (a b : ℕ) → a < b → nat_lt a b ≡ true
is_more a b more = grind arith

no_more : (a b : ℕ) → nat_lt a b ≡ false → b ≤ a
no_more a b h = grind arith

front_length : (n : ℕ) (l : List ℕ) → n ≤ length l → length (take n l) ≡ n
front_length n l more = grind (arith, common_steps)

too_long : (bytes : List ℕ) → 1048576 < length bytes → read_of bytes ≡ Err TooLong
too_long bytes more = rw (is_more 1048576 (length bytes) more) refl

same_reading : (conf : List ℕ) → read_of (take 1048577 conf) ≡ read_of conf
same_reading conf = by_length (nat_lt 1048577 (length conf)) refl
  where
    by_length : (b : Bool) → nat_lt 1048577 (length conf) ≡ b → read_of (take 1048577 conf) ≡ read_of conf
    by_length true h =
        let more : 1048577 < length conf = below 1048577 (length conf) h in
        let front : length (take 1048577 conf) ≡ 1048577 = front_length 1048577 conf (omega (arith, more)) in
        too_long (take 1048577 conf) (omega (arith, front)) ∙ sym (too_long conf (omega (arith, more)))
    by_length false h = ap read_of (whole_front 1048577 conf (no_more 1048577 (length conf) h))

read_is : (config : Intake) (bytes conf : List ℕ) → IsRead 1048577 config bytes → config.before ≡ Some conf → read_of conf ≡ read_of bytes
read_is config bytes conf read told = sym (same_reading conf) ∙ ap read_of (front_of 1048577 config bytes conf read told)

refuses_all : (config : Intake) (bytes conf : List ℕ) (fault : ConfigFault) → IsRead 1048577 config bytes → config.before ≡ Some conf → Refuses bytes fault → Refuses conf fault
refuses_all config bytes conf fault read told (inl refused) = inl (read_is config bytes conf read told ∙ refused)
refuses_all config bytes conf fault read told (inr p) = inr (p.0, (p.1.0, read_is config bytes conf read told ∙ p.1.1, p.1.2))

configures_all : (config : Intake) (bytes conf : List ℕ) (c : Deployed) (ring : RingTable) → IsRead 1048577 config bytes → config.before ≡ Some conf → IsConfigured bytes c ring →
    IsConfigured conf c ring
configures_all config bytes conf c ring read told is = record { accepted = read_is config bytes conf read told ∙ is.accepted; built = is.built }

if_told : (before : Option (List ℕ)) (P : List ℕ → Type 0) → ((bytes : List ℕ) → before ≡ Some bytes → P bytes) → IfSome before P
if_told None P h = tt
if_told (Some bytes) P h = h bytes refl

both_told : (config intake : Intake) (status : Status) → ((conf text : List ℕ) → config.before ≡ Some conf → intake.before ≡ Some text → Answers status conf text) →
    IfSome config.before (λ conf. IfSome intake.before (λ text. Answers status conf text))
both_told config intake status h = if_told config.before (λ conf. IfSome intake.before (λ text. Answers status conf text))
    (λ conf told. if_told intake.before (λ text. Answers status conf text) (λ text said. h conf text told said))

by_status : (status : Status) (config intake : Intake) (out : Output) (conf text : List ℕ) → Replays status config intake out →
    config.before ≡ Some conf → intake.before ≡ Some text → Answers status conf text
by_status Usage config intake out conf text says told said = absurd says
by_status (Config f) config intake out conf text p told said =
    inr (refuses_all config p.0 conf f p.1 told p.2.0)
by_status Done config intake out conf text p told said =
    let q = p.2 in
    let r = q.3 in
    let front : take 67108865 text ≡ r.0 = front_of 67108865 intake r.0 text r.1 said in
    inr (q.0, q.1, configures_all config p.0 conf q.0 q.1 p.1 told q.2, (r.2.0, ap (schedule_of q.0) front ∙ schedule_read q.0 r.0 r.2.0 r.2.1.schedule, r.2.1.built))
by_status (Input (input.Schedule f)) config intake out conf text p told said =
    let q = p.2 in
    let r = q.3 in
    let front : take 67108865 text ≡ r.0 = front_of 67108865 intake r.0 text r.1 said in
    inr (q.0, q.1, configures_all config p.0 conf q.0 q.1 p.1 told q.2, subst (λ (l : List ℕ). RefusesRead (schedule_of q.0 l) f) (sym front) r.2.0)
by_status (Source w) config intake out conf text says told said = inl tt
by_status Sink config intake out conf text says told said = inl tt
by_status Memory config intake out conf text says told said = inl tt

-- where the configuration was read
pub answers_from : (status : Status) (config intake : Intake) (out : Output) (bytes : List ℕ) →
    ReadsFront 1048577 config.before config.after config.faults_before config.faults_after config.reads_before config.reads_after (Ok bytes) →
    Configured status bytes intake out → IfSome config.before (λ conf. IfSome intake.before (λ text. Answers status conf text))
answers_from status config intake out bytes read says =
    both_told config intake status
    (λ conf text told said. by_status status config intake out conf text (replays status config intake out bytes (is_read 1048577 config bytes read) says) told said)

-- ---- a schedule from numbers

drawn_by : (status : Status) (draw : Draw) (config : Intake) (out : Output) (bytes conf : List ℕ) → IsRead 1048577 config bytes → config.before ≡ Some conf → Printing status draw bytes out →
    AnswersDraw status conf
drawn_by Done draw config out bytes conf read told says = inr (says.0, read_is config bytes conf read told ∙ says.1.accepted)
drawn_by Usage draw config out bytes conf read told says = absurd says
drawn_by (Config f) draw config out bytes conf read told says = inr (read_is config bytes conf read told ∙ says.0)
drawn_by (Input f) draw config out bytes conf read told says = absurd says
drawn_by (Source w) draw config out bytes conf read told says = inl tt
drawn_by Sink draw config out bytes conf read told says = inl tt
drawn_by Memory draw config out bytes conf read told says = inl tt

pub drawn_from : (status : Status) (draw : Draw) (config : Intake) (out : Output) (bytes : List ℕ) →
    ReadsFront 1048577 config.before config.after config.faults_before config.faults_after config.reads_before config.reads_after (Ok bytes) →
    Printing status draw bytes out → IfSome config.before (λ conf. AnswersDraw status conf)
drawn_from status draw config out bytes read says =
    if_told config.before (λ conf. AnswersDraw status conf)
    (λ conf told. drawn_by status draw config out bytes conf (is_read 1048577 config bytes read) told says)
