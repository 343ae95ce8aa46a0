-- The laws of answers in every run.
use Rattle.std.proofs.Common.{◌≡◌, inl, inr, ℕ, List, [], ◌∷◌, ◌++◌, Option, Some, refl, sym, ap, ◌∙◌, subst}
use Rattle.std.proofs.lemmas.List.{append_assoc}
use Rattle.mrp_types.specs.declared.id.ClientId.{ClientId}
use Rattle.command_codec.specs.declared.command.Command.{Command}
use Rattle.mrp_config.specs.Config.{Config}
use Rattle.mrp_config.specs.Routing.{concerned_of}
use Rattle.quorums.specs.Groups.{Has}
use Rattle.plain_model.specs.Fold.{answer_of}
use Rattle.plain_model.specs.Lines.{learnings}
use Rattle.protocol.specs.Lines.{Line, Answer}
use Rattle.protocol.specs.Lines as line
use Rattle.protocol.specs.Step.{step}
use Rattle.protocol.specs.Opening.{opened}
use Rattle.protocol.specs.Client.{Asked, asks, client_ticks, client_takes}
use Rattle.bare_world.specs.Worlds.{Host, Up, Down, World, nothing, Happening, Steps, Breaks, Crashes, Opens, Fails, Asks, ClientTicks, ClientTakes, Shows, Lists, steps_as, breaks_as, crashes_as, opens_as, fails_as, state_of_host, happens}
use Rattle.bare_world.specs.Runs.{run}
use Rattle.bare_world.proofs.Onward.{run_both}
use Rattle.line_rules.specs.Scanners.{past}
use Rattle.line_rules.specs.Rules.{Answers}
use Rattle.faithful.proofs.Quorum.{all_has}
use Rattle.faithful.proofs.Growing.{past_more}
use Rattle.line_runs.specs.Invariant.{latest_first}
use Rattle.line_runs.specs.Laws.{IsRun, lines_of}
use Rattle.ask_laws.specs.Asks.{asked_in}
use Rattle.answer_laws.specs.Answering.{RepliesTo, AreInPlace, IsAskedOnce}
use Rattle.answer_laws.proofs.Joining.{answer_joined, all_in_place}
use Rattle.answer_runs.specs.Answers.{AreParts, HoldsParts, IsAnswered, LineAnswers, AreAnswers}
use Rattle.answer_runs.proofs.Books.{asked_once}
use Rattle.answer_runs.proofs.Runs.{RunAnswers, all_answer}

-- ---- lines are only added

record Longer (before after : List Line) : Type 0 where
  more : List Line
  same : after ≡ before ++ more

append-none : (xs : List Line) → xs ≡ xs ++ []
append-none [] = refl
append-none (x ∷ xs) = ap (λ (ys : List Line). x ∷ ys) (append-none xs)

no_longer : (xs : List Line) → Longer xs xs
no_longer xs = record { more = []; same = append-none xs }

happens_longer : (c : Config) (h : Happening) (w : World) → Longer w.lines (happens c h w).lines
happens_longer c (Steps id event) w = by (w.hosts id.0)
  where
    by : (host : Host) → Longer w.lines (steps_as c id event host w).lines
    by (Up view) = record { more = (step c view event).lines; same = refl }
    by (Down durable pending) = no_longer w.lines
happens_longer c (Breaks id event cause) w = by (w.hosts id.0)
  where
    by : (host : Host) → Longer w.lines (breaks_as c id event cause host w).lines
    by (Up view) = record { more = line.Down id cause ∷ []; same = refl }
    by (Down durable pending) = no_longer w.lines
happens_longer c (Crashes id cause) w = by (w.hosts id.0)
  where
    by : (host : Host) → Longer w.lines (crashes_as id cause host w).lines
    by (Up view) = record { more = line.Down id cause ∷ []; same = refl }
    by (Down durable pending) = no_longer w.lines
happens_longer c (Opens id side journal checkpoints) w = by (w.hosts id.0)
  where
    by : (host : Host) → Longer w.lines (opens_as c id journal checkpoints host w).lines
    by (Up view) = no_longer w.lines
    by (Down durable pending) = record { more = line.Up id journal.state.epoch ∷ (opened c id journal checkpoints).lines; same = refl }
happens_longer c (Fails id side left cause) w = by (w.hosts id.0)
  where
    by : (host : Host) → Longer w.lines (fails_as id side left cause host w).lines
    by (Up view) = no_longer w.lines
    by (Down durable pending) = record { more = line.Down id cause ∷ []; same = refl }
happens_longer c (Asks id command) w = record { more = (asks c (w.clients id.0) command).lines; same = refl }
happens_longer c (ClientTicks id) w = record { more = (client_ticks c (w.clients id.0)).lines; same = refl }
happens_longer c (ClientTakes id body) w = record { more = (client_takes c (w.clients id.0) body).lines; same = refl }
happens_longer c (Shows id) w = record { more = line.State id (state_of_host (w.hosts id.0)) ∷ []; same = refl }
happens_longer c (Lists number shown) w = record { more = line.Frame number shown ∷ []; same = refl }

run_longer : (c : Config) (hs : List Happening) (w : World) → Longer w.lines (run c hs w).lines
run_longer c [] w = no_longer w.lines
run_longer c (h ∷ hs) w =
    let first = happens_longer c h w in
    let rest = run_longer c hs (happens c h w) in
    record { more = first.more ++ rest.more; same = rest.same ∙ ap (λ (ls : List Line). ls ++ rest.more) first.same ∙ append_assoc w.lines first.more rest.more }

has_first : (xs ys : List Line) (l : Line) → Has xs l → Has (xs ++ ys) l
has_first [] ys l h = absurd h
has_first (x ∷ xs) ys l (inl e) = inl e
has_first (x ∷ xs) ys l (inr h) = inr (has_first xs ys l h)

has_later : (c : Config) (first second : List Happening) (l : Line) → Has (lines_of c first) l → Has (lines_of c (first ++ second)) l
has_later c first second l h =
    let more = run_longer c second (run c first nothing) in
    subst (λ (ls : List Line). Has ls l) (sym (ap (λ (w : World). w.lines) (run_both c nothing first second) ∙ more.same)) (has_first (lines_of c first) more.more l h)

-- ---- the laws

answers_before : (c : Config) (new lines : List Line) → AreAnswers c (past lines new) → AreAnswers c lines
answers_before c [] lines rules = rules
answers_before c (l ∷ new) lines rules = (answers_before c new (l ∷ lines) rules).1

module _ (c : Config) (hs : List Happening) (r : IsRun c hs) where
  kept : RunAnswers c (asked_in c hs) (run c hs nothing)
  kept = all_answer c r.valid hs r.may

  pub answer_line : (before after : List Line) (client : ClientId) (seq : ℕ) (bytes : List ℕ) → lines_of c hs ≡ before ++ Answer client seq bytes ∷ after → Answers c (latest_first before) client seq bytes
  answer_line before after client seq bytes e =
      (answers_before c after (Answer client seq bytes ∷ past [] before)
      (subst (λ (ls : List Line). AreAnswers c ls) (ap (λ (ls : List Line). past [] ls) e ∙ past_more [] before (Answer client seq bytes ∷ after)) kept.rules)).0

  pub parts_held : (client : ClientId) (a : Asked) → ((run c hs nothing).clients client.0).asked ≡ Some a → AreParts (RepliesTo c (learnings (lines_of c hs)) client a.seq) (concerned_of a.command c.partitions) a.parts
  parts_held client a e = subst (λ (o : Option Asked). HoldsParts c (learnings (lines_of c hs)) client.0 o) e (kept.now.parts client.0)

  module _ (client : ClientId) (seq : ℕ) (bytes : List ℕ) (has : Has (lines_of c hs) (Answer client seq bytes)) where
    answered : IsAnswered c (learnings (lines_of c hs)) (asked_in c hs) client.0 seq bytes
    answered = all_has (LineAnswers c (learnings (lines_of c hs)) (asked_in c hs)) (lines_of c hs) (Answer client seq bytes) kept.now.lines has

    once : IsAskedOnce (learnings (lines_of c hs)) client seq answered.ring answered.command
    once = asked_once c (asked_in c hs) (lines_of c hs) client seq answered.ring answered.command kept.asks.carried.lines answered.told answered.route

    pub answer_now : answer_of c (learnings (lines_of c hs)) client seq ≡ Some bytes
    answer_now = answer_joined c r.valid (learnings (lines_of c hs)) client seq answered.ring answered.command once answered.replies answered.route answered.each ∙ ap (λ (text : List ℕ). Some text) (sym answered.spelled)

    pub in_place : (command : Command) × (asked_in c hs client.0 seq ≡ Some command) × AreInPlace c (learnings (lines_of c hs)) client seq command
    in_place = (answered.command, answered.told, all_in_place c r.valid (learnings (lines_of c hs)) client seq answered.ring answered.command once answered.replies answered.route answered.each)

pub stays : (c : Config) (first second : List Happening) → IsRun c (first ++ second) → (client : ClientId) (seq : ℕ) (bytes : List ℕ) → Has (lines_of c first) (Answer client seq bytes)
    → answer_of c (learnings (lines_of c (first ++ second))) client seq ≡ Some bytes
stays c first second r client seq bytes has = answer_now c (first ++ second) r client seq bytes (has_later c first second (Answer client seq bytes) has)

pub one_answer : (c : Config) (hs : List Happening) → IsRun c hs → (client : ClientId) (seq : ℕ) (one other : List ℕ) → Has (lines_of c hs) (Answer client seq one) → Has (lines_of c hs) (Answer client seq other) → one ≡ other
one_answer c hs r client seq one other first second = same one other (answer_of c (learnings (lines_of c hs)) client seq) (answer_now c hs r client seq one first) (answer_now c hs r client seq other second)
  where
    same : (x y : List ℕ) (o : Option (List ℕ)) → o ≡ Some x → o ≡ Some y → x ≡ y
    same x y o e f = cc
