-- Every run keeps that what clients hold and answer is what the book says.
use Rattle.std.proofs.Common.{◌≡◌, ℕ, Bool, true, false, List, [], ◌∷◌, ◌++◌, Option, Some, None, refl, sym, ap, ◌∙◌, subst}
use Rattle.std.specs.Prelude.{◌==◌, if◌then◌else◌}
use Rattle.std.specs.List.{AllByRecursion}
use Rattle.mrp_types.specs.declared.id.ClientId.{ClientId}
use Rattle.mrp_types.specs.Book.{Learning}
use Rattle.command_codec.specs.declared.command.Command.{Command}
use Rattle.mrp_config.specs.Config.{Config}
use Rattle.mrp_config.specs.Valid.{IsValid}
use Rattle.mrp_config.specs.Routing.{concerned_of}
use Rattle.frames.specs.declared.body.Body.{Body}
use Rattle.frames.specs.declared.sent.Sent.{Sent}
use Rattle.quorums.proofs.Each.{mapped, appended}
use Rattle.plain_model.specs.Fold.{answer_of}
use Rattle.plain_model.specs.Lines.{learnings}
use Rattle.plain_model.proofs.TupleOrder.{same_number}
use Rattle.protocol.specs.Lines.{Line, Answer, Busy}
use Rattle.protocol.specs.Lines as line
use Rattle.mrp_types.specs.declared.id.NodeId.{NodeId}
use Rattle.mrp_types.specs.declared.id.Party.{Party}
use Rattle.mrp_types.specs.declared.id.Party.TheVariants.{Client}
use Rattle.frames.specs.declared.frame.Frame.{Frame}
use Rattle.vote_journal.specs.Journal.{Journal}
use Rattle.checkpoint.specs.Checkpoints.{Checkpoints}
use Rattle.protocol.specs.Lines.{Cause}
use Rattle.protocol.specs.Node.{Event}
use Rattle.protocol.specs.Step.{step}
use Rattle.protocol.specs.Opening.{opened}
use Rattle.protocol.specs.Client.{Asked, ClientView, ClientEffects, asks, client_ticks, client_takes}
use Rattle.bare_world.specs.Worlds.{Possible, Host, Up, Down, World, nothing, Happening, Steps, Breaks, Crashes, Opens, Fails, Asks, ClientTicks, ClientTakes, Shows, Lists, client_step, steps_as, breaks_as, crashes_as, opens_as, fails_as, state_of_host, happens}
use Rattle.bare_world.specs.Runs.{BodyWasSent, MayHappen, run, MayRun}
use Rattle.bare_world.proofs.Onward.{run_both, may_both}
use Rattle.line_rules.specs.Scanners.{learned, past}
use Rattle.line_rules.specs.Rules.{F5, Answers}
use Rattle.faithful.proofs.Quorum.{all_has}
use Rattle.faithful.proofs.Growing.{past_more}
use Rattle.node_lines.specs.Printed.{IsNodeLine}
use Rattle.node_lines.proofs.Stepping.{step_quiet, opened_quiet}
use Rattle.line_runs.specs.Invariant.{latest_first}
use Rattle.state_laws.specs.Books.{AreOfBytes}
use Rattle.ask_laws.specs.Asks.{asked_with, asked_after, asked_in}
use Rattle.ask_laws.proofs.Asking.{still_told}
use Rattle.ask_laws.proofs.Reading.{book-of-bytes}
use Rattle.ask_laws.proofs.Worlds.{RunKeeps, happening_keeps, all_keep}
use Rattle.answer_laws.specs.Answering.{RepliesTo}
use Rattle.answer_laws.proofs.Joining.{answer_joined}
use Rattle.answer_laws.proofs.Staying.{replies_more}
use Rattle.state_runs.proofs.Books.{learned_latest}
use Rattle.answer_runs.specs.Answers.{BodyReplies, RepliesOfFold, HoldsParts, IsAnswered, LineAnswers, AreAnswers, KeepsAnswers}
use Rattle.answer_runs.proofs.Parts.{parts_more}
use Rattle.answer_runs.proofs.Replying.{all_more}
use Rattle.answer_runs.proofs.Clients.{ClientPrints, EffectsAnswer, asks_answer, ticks_answer, takes_answer}
use Rattle.answer_runs.proofs.Books.{learnings_both, asked_once}
use Rattle.answer_runs.proofs.Sent.{frames_reply}

-- what a run keeps, with what was asked so far
pub record RunAnswers (c : Config) (asked : ℕ → ℕ → Option Command) (w : World) : Type 0 where
  pub asks : RunKeeps c asked w
  pub now : KeepsAnswers c asked w
  pub rules : AreAnswers c (latest_first w.lines)

-- ---- what was answered stays answered

abbrev pub StaysAsked : (ℕ → ℕ → Option Command) → (ℕ → ℕ → Option Command) → Type 0
StaysAsked old new = (k s : ℕ) (x : Command) → old k s ≡ Some x → new k s ≡ Some x

module _ (c : Config) (known more : List Learning) (old new : ℕ → ℕ → Option Command) (stays : StaysAsked old new) where
  pub answered_more : (client seq : ℕ) (bytes : List ℕ) → IsAnswered c known old client seq bytes → IsAnswered c (known ++ more) new client seq bytes
  answered_more client seq bytes is = record {
    command = is.command;
    told = stays client seq is.command is.told;
    ring = is.ring;
    route = is.route;
    replies = is.replies;
    each = all_more c known more (record { 0 = client }) seq (concerned_of is.command c.partitions) is.replies is.each;
    spelled = is.spelled;
  }

  line_more : (l : Line) → LineAnswers c known old l → LineAnswers c (known ++ more) new l
  line_more (Answer client seq bytes) is = answered_more client.0 seq bytes is
  line_more other is = tt

  holds_more : (k : ℕ) (o : Option Asked) → HoldsParts c known k o → HoldsParts c (known ++ more) k o
  holds_more k None h = tt
  holds_more k (Some a) h =
      parts_more (RepliesTo c known (record { 0 = k }) a.seq) (RepliesTo c (known ++ more) (record { 0 = k }) a.seq) (λ p r x. replies_more c known more (record { 0 = k }) a.seq p r x) (concerned_of a.command c.partitions) a.parts h

  prints_more : (l : Line) → ClientPrints c known old l → LineAnswers c (known ++ more) new l
  prints_more (Answer client seq bytes) is = answered_more client.0 seq bytes is
  prints_more (Busy client seq) is = tt
  prints_more other is = absurd is

-- ---- what nodes print

-- it is no answer
abbrev IsPlain : Line → Type 0
IsPlain (Answer client seq bytes) = ⊥
IsPlain other = Unit {0}

plain_of : (l : Line) → IsNodeLine l → IsPlain l
plain_of (Answer client seq bytes) is = is
plain_of other is = tt

plain_answers : (c : Config) (known : List Learning) (asked : ℕ → ℕ → Option Command) (l : Line) → IsPlain l → LineAnswers c known asked l
plain_answers c known asked (Answer client seq bytes) is = absurd is
plain_answers c known asked other is = tt

plain_rule : (c : Config) (before : List Line) (l : Line) → IsPlain l → F5 c before l
plain_rule c before (Answer client seq bytes) is = absurd is
plain_rule c before other is = tt

plain_rules : (c : Config) (ls before : List Line) → AllByRecursion IsPlain ls → AreAnswers c before → AreAnswers c (past before ls)
plain_rules c [] before plain rules = rules
plain_rules c (l ∷ ls) before plain rules = plain_rules c ls (l ∷ before) plain.1 (plain_rule c before l plain.0, rules)

-- ---- worlds

module _ (c : Config) (old new : ℕ → ℕ → Option Command) (stays : StaysAsked old new) where
  -- lines after those of a world, and clients by what the book is then
  grown : (w v : World) (ls : List Line) → v.lines ≡ w.lines ++ ls → RunKeeps c new v → ((k : ℕ) → HoldsParts c (learnings (w.lines ++ ls)) k (v.clients k).asked)
      → AllByRecursion (LineAnswers c (learnings (w.lines ++ ls)) new) ls → AreAnswers c (past (latest_first w.lines) ls) → KeepsAnswers c old w → RunAnswers c new v
  grown w v ls same asks parts lines rules keeps = record {
    asks = asks;
    now = record {
      parts = subst (λ (xs : List Line). (k : ℕ) → HoldsParts c (learnings xs) k (v.clients k).asked) (sym same) parts;
      lines = subst (λ (xs : List Line). AllByRecursion (LineAnswers c (learnings xs) new) xs) (sym same)
          (appended (LineAnswers c (learnings (w.lines ++ ls)) new) w.lines ls
          (subst (λ (known : List Learning). AllByRecursion (LineAnswers c known new) w.lines) (sym (learnings_both w.lines ls))
          (mapped (LineAnswers c (learnings w.lines) old) (LineAnswers c (learnings w.lines ++ learnings ls) new) (line_more c (learnings w.lines) (learnings ls) old new stays) w.lines keeps.lines)) lines);
    };
    rules = subst (λ (xs : List Line). AreAnswers c xs) (sym (ap (λ (xs : List Line). past [] xs) same ∙ past_more [] w.lines ls)) rules;
  }

  held_later : (w : World) (ls : List Line) (k : ℕ) (o : Option Asked) → HoldsParts c (learnings w.lines) k o → HoldsParts c (learnings (w.lines ++ ls)) k o
  held_later w ls k o h = subst (λ (known : List Learning). HoldsParts c known k o) (sym (learnings_both w.lines ls)) (holds_more c (learnings w.lines) (learnings ls) old new stays k o h)

  -- what happens at a node leaves the clients, and prints no answer
  node_answers : (w v : World) (ls : List Line) → v.lines ≡ w.lines ++ ls → v.clients ≡ w.clients → AllByRecursion IsPlain ls → RunKeeps c new v → RunAnswers c old w → RunAnswers c new v
  node_answers w v ls same clients plain asks keeps =
      grown w v ls same asks (λ k. held_later w ls k (v.clients k).asked (subst (λ (f : ℕ → ClientView). HoldsParts c (learnings w.lines) k (f k).asked) (sym clients) (keeps.now.parts k)))
      (mapped IsPlain (LineAnswers c (learnings (w.lines ++ ls)) new) (plain_answers c (learnings (w.lines ++ ls)) new) ls plain)
      (plain_rules c ls (latest_first w.lines) plain keeps.rules) keeps.now

  -- an answer by the book as it is
  answer_rule : (w : World) (before : List Line) → IsValid c → RunKeeps c old w → learned before ≡ learnings w.lines → (client : ClientId) (seq : ℕ) (bytes : List ℕ) → IsAnswered c (learnings w.lines) old client.0 seq bytes
      → Answers c before client seq bytes
  answer_rule w before valid asks same client seq bytes is = record {
    fits_client = (asks.clients.taken client.0 seq is.command is.told).client;
    answer = subst (λ (known : List Learning). answer_of c known client seq ≡ Some bytes) (sym same)
        (answer_joined c valid (learnings w.lines) client seq is.ring is.command (asked_once c old w.lines client seq is.ring is.command asks.carried.lines is.told is.route) is.replies is.route is.each
        ∙ ap (λ (text : List ℕ). Some text) (sym is.spelled));
  }

  client_rules : (w : World) → IsValid c → RunKeeps c old w → (ls before : List Line) → learned before ≡ learnings w.lines → AllByRecursion (ClientPrints c (learnings w.lines) old) ls → AreAnswers c before → AreAnswers c (past before ls)
  client_rules w valid asks [] before same prints rules = rules
  client_rules w valid asks (Answer client seq bytes ∷ ls) before same prints rules =
      client_rules w valid asks ls (Answer client seq bytes ∷ before) same prints.1 (answer_rule w before valid asks same client seq bytes prints.0, rules)
  client_rules w valid asks (Busy client seq ∷ ls) before same prints rules = client_rules w valid asks ls (Busy client seq ∷ before) same prints.1 (tt, rules)
  client_rules w valid asks (other ∷ ls) before same prints rules = absurd prints.0

  client_answers : (w : World) (id : ClientId) (effects : ClientEffects) → IsValid c → RunKeeps c new (client_step id effects w) → EffectsAnswer c (learnings w.lines) old id.0 effects → RunAnswers c old w
      → RunAnswers c new (client_step id effects w)
  client_answers w id effects valid after made keeps =
      grown w (client_step id effects w) effects.lines refl after (λ k. held_later w effects.lines k _ (held k))
      (mapped (ClientPrints c (learnings w.lines) old) (LineAnswers c (learnings (w.lines ++ effects.lines)) new)
      (λ l is. subst (λ (known : List Learning). LineAnswers c known new l) (sym (learnings_both w.lines effects.lines)) (prints_more c (learnings w.lines) (learnings effects.lines) old new stays l is)) effects.lines made.lines)
      (client_rules w valid keeps.asks effects.lines (latest_first w.lines) (learned_latest w.lines) made.lines keeps.rules) keeps.now
    where
      held : (k : ℕ) → HoldsParts c (learnings w.lines) k (if k == id.0 then effects.client else w.clients k).asked
      held k = by (k == id.0) refl
        where
          by : (t : Bool) → (k == id.0) ≡ t → HoldsParts c (learnings w.lines) k (if t then effects.client else w.clients k).asked
          by true e = subst (λ (n : ℕ). HoldsParts c (learnings w.lines) n effects.client.asked) (sym (same_number k id.0 e)) made.parts
          by false e = keeps.now.parts k

-- ---- a happening

module _ (c : Config) (valid : IsValid c) (asked : ℕ → ℕ → Option Command) (w : World) (bytes : AreOfBytes (learnings w.lines)) (frames : RepliesOfFold c w) (keeps : RunAnswers c asked w) where
  itself : StaysAsked asked asked
  itself k s x e = e

  own_lines : (ls : List Line) → AllByRecursion IsNodeLine ls → AllByRecursion IsPlain ls
  own_lines ls all = mapped IsNodeLine IsPlain plain_of ls all

  by_steps : (id : NodeId) (event : Event) (host : Host) → RunKeeps c asked (steps_as c id event host w) → RunAnswers c asked (steps_as c id event host w)
  by_steps id event (Up view) after = node_answers c asked asked itself w (steps_as c id event (Up view) w) (step c view event).lines refl refl (own_lines (step c view event).lines (step_quiet c view event)) after keeps
  by_steps id event (Down durable pending) after = keeps

  by_breaks : (id : NodeId) (event : Event) (cause : Cause) (host : Host) → RunKeeps c asked (breaks_as c id event cause host w) → RunAnswers c asked (breaks_as c id event cause host w)
  by_breaks id event cause (Up view) after = node_answers c asked asked itself w (breaks_as c id event cause (Up view) w) (line.Down id cause ∷ []) refl refl (tt, tt) after keeps
  by_breaks id event cause (Down durable pending) after = keeps

  by_crashes : (id : NodeId) (cause : Cause) (host : Host) → RunKeeps c asked (crashes_as id cause host w) → RunAnswers c asked (crashes_as id cause host w)
  by_crashes id cause (Up view) after = node_answers c asked asked itself w (crashes_as id cause (Up view) w) (line.Down id cause ∷ []) refl refl (tt, tt) after keeps
  by_crashes id cause (Down durable pending) after = keeps

  by_opens : (id : NodeId) (journal : Journal) (checkpoints : Checkpoints) (host : Host) → RunKeeps c asked (opens_as c id journal checkpoints host w) → RunAnswers c asked (opens_as c id journal checkpoints host w)
  by_opens id journal checkpoints (Up view) after = keeps
  by_opens id journal checkpoints (Down durable pending) after =
      node_answers c asked asked itself w (opens_as c id journal checkpoints (Down durable pending) w) (line.Up id journal.state.epoch ∷ (opened c id journal checkpoints).lines) refl refl
      (tt, own_lines (opened c id journal checkpoints).lines (opened_quiet c id journal checkpoints)) after keeps

  by_fails : (id : NodeId) (side : Bool) (left : Possible) (cause : Cause) (host : Host) → RunKeeps c asked (fails_as id side left cause host w) → RunAnswers c asked (fails_as id side left cause host w)
  by_fails id side left cause (Up view) after = keeps
  by_fails id side left cause (Down durable pending) after = node_answers c asked asked itself w (fails_as id side left cause (Down durable pending) w) (line.Down id cause ∷ []) refl refl (tt, tt) after keeps

  body_replies : (to : Party) (body : Body) → BodyWasSent w.frames to body → BodyReplies c (learnings w.lines) body
  body_replies to body sent =
      subst (λ (b : Body). BodyReplies c (learnings w.lines) b) sent.same
      (subst (λ (f : Frame). BodyReplies c (learnings w.lines) f.body) sent.sent.same
      (all_has (λ (s : Sent). BodyReplies c (learnings w.lines) s.frame.body) w.frames sent.sent.sent frames sent.sent.there))

  pub happening_answers : (h : Happening) → MayHappen c w h → RunAnswers c (asked_with c w h asked) (happens c h w)
  happening_answers h may = by h may (happening_keeps c asked w h may keeps.asks)
    where
      by : (h : Happening) → MayHappen c w h → RunKeeps c (asked_with c w h asked) (happens c h w) → RunAnswers c (asked_with c w h asked) (happens c h w)
      by (Steps id event) may after = by_steps id event (w.hosts id.0) after
      by (Breaks id event cause) may after = by_breaks id event cause (w.hosts id.0) after
      by (Crashes id cause) may after = by_crashes id cause (w.hosts id.0) after
      by (Opens id side journal checkpoints) may after = by_opens id journal checkpoints (w.hosts id.0) after
      by (Fails id side left cause) may after = by_fails id side left cause (w.hosts id.0) after
      by (Asks id command) may after =
          client_answers c asked (asked_with c w (Asks id command) asked) (still_told c asked w.clients id command) w id (asks c (w.clients id.0) command) valid after
          (asks_answer c (learnings w.lines) asked id.0 (w.clients id.0) command (keeps.now.parts id.0)) keeps
      by (ClientTicks id) may after =
          client_answers c asked asked itself w id (client_ticks c (w.clients id.0)) valid after (ticks_answer c (learnings w.lines) asked id.0 (w.clients id.0) (keeps.now.parts id.0)) keeps
      by (ClientTakes id body) may after =
          client_answers c asked asked itself w id (client_takes c (w.clients id.0) body) valid after
          (takes_answer c (learnings w.lines) asked id.0 valid bytes (w.clients id.0) body (keeps.asks.clients.each id.0) (keeps.now.parts id.0) (body_replies (Client id) body may.1)) keeps
      by (Shows id) may after = node_answers c asked asked itself w (happens c (Shows id) w) (line.State id (state_of_host (w.hosts id.0)) ∷ []) refl refl (tt, tt) after keeps
      by (Lists number shown) may after = node_answers c asked asked itself w (happens c (Lists number shown) w) (line.Frame number shown ∷ []) refl refl (tt, tt) after keeps

-- ---- runs

-- from a world that a run has left
run_answers : (c : Config) → IsValid c → (first rest : List Happening) (w : World) (asked : ℕ → ℕ → Option Command) → run c first nothing ≡ w → MayRun c nothing first → MayRun c w rest → RunAnswers c asked w
    → RunAnswers c (asked_after c rest w asked) (run c rest w)
run_answers c valid first [] w asked at may more keeps = keeps
run_answers c valid first (h ∷ rest) w asked at may more keeps =
    run_answers c valid (first ++ h ∷ []) rest (happens c h w) (asked_with c w h asked) (run_both c nothing first (h ∷ []) ∙ ap (happens c h) at)
    (may_both c nothing first (h ∷ []) may (subst (λ (v : World). MayHappen c v h) (sym at) more.0, tt)) more.1
    (happening_answers c valid asked w (subst (λ (v : World). AreOfBytes (learnings v.lines)) at (book-of-bytes c first valid may)) (subst (λ (v : World). RepliesOfFold c v) at (frames_reply c first (record { valid = valid; may = may }))) keeps h more.0)

-- in every run from nothing
pub all_answer : (c : Config) → IsValid c → (hs : List Happening) → MayRun c nothing hs → RunAnswers c (asked_in c hs) (run c hs nothing)
all_answer c valid hs may = run_answers c valid [] hs nothing (λ k s. None) refl tt may (record { asks = all_keep c [] tt; now = record { parts = λ k. tt; lines = tt }; rules = tt })
