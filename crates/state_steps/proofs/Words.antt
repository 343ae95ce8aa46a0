-- What prints, sends and changes a stage, as far as states and what is owed go.
use Rattle.std.proofs.Common.{◌≡◌, ℕ, Bool, true, false, List, [], ◌∷◌, ◌++◌, map, Option, Some, None, refl, sym, ◌∙◌, ap, subst}
use Rattle.std.specs.Prelude.{◌==◌, ◌||◌, if◌then◌else◌}
use Rattle.std.specs.List.{AllByRecursion, flat_map}
use Rattle.mrp_types.specs.declared.id.NodeId.{NodeId}
use Rattle.mrp_types.specs.declared.id.RingId.{RingId}
use Rattle.mrp_types.specs.declared.id.Party.{Party}
use Rattle.mrp_types.specs.declared.id.Party.TheVariants.{Node, Client}
use Rattle.mrp_config.specs.Config.{Config}
use Rattle.frames.specs.declared.body.Body.{Body}
use Rattle.frames.specs.declared.body.Body.TheVariants.{Part as PartFrame, Reply}
use Rattle.frames.specs.declared.sent.Sent.{Sent}
use Rattle.protocol.specs.Lines.{Line, Deliver, Reply as ReplyLine}
use Rattle.protocol.specs.Rings.{sends_to, sent_by, is_beyond}
use Rattle.protocol.specs.Node.{StepSoFar, RingPart, Service, Stage, with_stage, prints, sends_all}
use Rattle.protocol.specs.Recovery.{with_lowered, lowers}
use Rattle.line_rules.specs.Scanners.{past}
use Rattle.line_rules.proofs.Growing.{past_more}
use Rattle.recovery_lines.specs.Ties.{IsPlaced, PartLines, rings_in}
use Rattle.protocol.specs.Parts.{Ring}
use Rattle.recovery_lines.proofs.More.{PartLines-more}
use Rattle.quiet_rules.specs.Quiet.{IsPlainBody, IsPlainSent, OwesNothing, AllPaid, OwnNamesFit}
use Rattle.quiet_rules.proofs.Words.{by_test}
use Rattle.quorums.proofs.Each.{mapped, appended}
use Rattle.state_steps.specs.Folded.{BodyFolded, PartyFolded, SentFolded}
use Rattle.state_steps.specs.States.{StageAt, ReplicaAt, ActAt, AfterAt}
use Rattle.state_steps.proofs.Growing.{many_more, sents_past, parts_past, replica_past, sent_more, replica_more}

-- ---- lines that owe nothing

pub paid_still : (c : Config) (l : Line) (lines : List Line) → OwesNothing l → AllPaid c lines → AllPaid c (l ∷ lines)
paid_still c (Deliver node ring inst) lines owes paid = absurd owes
paid_still c (ReplyLine node ring inst index client seq reply) lines owes paid = absurd owes
paid_still c other lines owes paid = record { turns = (paid.paid, paid.turns); paid = paid.paid }

pub paid_past : (c : Config) (new lines : List Line) → AllByRecursion OwesNothing new → AllPaid c lines → AllPaid c (past lines new)
paid_past c [] lines all paid = paid
paid_past c (l ∷ new) lines all paid = paid_past c new (l ∷ lines) all.1 (paid_still c l lines all.0 paid)

-- ---- frames

pub plain_folded : (c : Config) (lines : List Line) (from : Party) (b : Body) → IsPlainBody b → PartyFolded c lines from b
plain_folded c lines (Client from) b is = tt
plain_folded c lines (Node from) (PartFrame epoch attempt tuple offset total bytes) is = absurd is
plain_folded c lines (Node from) (Reply client seq partition reply) is = absurd is
plain_folded c lines (Node from) other is = tt

pub plains_folded : (c : Config) (lines : List Line) (frames : List Sent) → AllByRecursion IsPlainSent frames → AllByRecursion (SentFolded c lines) frames
plains_folded c lines frames all = mapped IsPlainSent (SentFolded c lines) (λ sent is. plain_folded c lines sent.frame.from sent.frame.body is) frames all

pub folded_sends : (c : Config) (lines : List Line) (own to : NodeId) (b : Body) → BodyFolded c lines own b → AllByRecursion (SentFolded c lines) (sends_to own to b)
folded_sends c lines own to b s = by_test (AllByRecursion (SentFolded c lines)) (to.0 == own.0 || is_beyond b) [] (sent_by own to b ∷ []) (λ e. tt) (s, tt)

pub plain_sends : (own to : NodeId) (b : Body) → IsPlainBody b → AllByRecursion IsPlainSent (sends_to own to b)
plain_sends own to b s = by_test (AllByRecursion IsPlainSent) (to.0 == own.0 || is_beyond b) [] (sent_by own to b ∷ []) (λ e. tt) (s, tt)

pub all_flat : {S T : Type 0} (P : T → Type 0) (f : S → List T) → ((x : S) → AllByRecursion P (f x)) → (xs : List S) → AllByRecursion P (flat_map f xs)
all_flat P f each [] = tt
all_flat P f each (x ∷ xs) = appended P (f x) (flat_map f xs) (each x) (all_flat P f each xs)

-- ---- a step on its way

module _ (c : Config) (before lines : List Line) (a : StepSoFar) (at : ActAt c before lines a) where
  pub as_it_was : AfterAt c before a
  as_it_was = record { lines = lines; at = at }

  -- lines that owe nothing
  pub act_lines : (new : List Line) → AllByRecursion OwesNothing new → AllByRecursion (OwnNamesFit c) new → ActAt c before (past lines new) (prints new a)
  act_lines new owe fit = record {
    printed = past_more before a.lines new ∙ ap (λ (ls : List Line). past ls new) at.printed;
    fits = at.fits;
    placed = at.placed;
    paid = paid_past c new lines owe at.paid;
    names = appended (OwnNamesFit c) a.lines new at.names fit;
    frames = sents_past c new lines a.frames at.frames;
    replies = sents_past c new lines a.replies at.replies;
    parts = parts_past c new lines a.view.parts at.parts;
    replica = replica_past c new lines a.view.id a.view.service at.replica;
    newest = at.newest;
  }

  pub act_line : (l : Line) → OwesNothing l → OwnNamesFit c l → ActAt c before (l ∷ lines) (prints (l ∷ []) a)
  act_line l owes fit = act_lines (l ∷ []) (owes, tt) (fit, tt)

  pub act_sends : (frames : List Sent) → AllByRecursion (SentFolded c lines) frames → ActAt c before lines (sends_all frames a)
  act_sends frames said = record {
    printed = at.printed;
    fits = at.fits;
    placed = at.placed;
    paid = at.paid;
    names = at.names;
    frames = appended (SentFolded c lines) a.frames frames at.frames said;
    replies = at.replies;
    parts = at.parts;
    replica = at.replica;
    newest = at.newest;
  }

  pub act_plain : (frames : List Sent) → AllByRecursion IsPlainSent frames → ActAt c before lines (sends_all frames a)
  act_plain frames plain = act_sends frames (plains_folded c lines frames plain)

  pub act_stage : (service : Service) (stage : Stage) → ReplicaAt c lines a.view.id (Some (record service { stage = stage })) → ActAt c before lines (with_stage service stage a)
  act_stage service stage replica = record {
    printed = at.printed;
    fits = at.fits;
    placed = at.placed;
    paid = at.paid;
    names = at.names;
    frames = at.frames;
    replies = at.replies;
    parts = at.parts;
    replica = replica;
    newest = at.newest;
  }

  -- what learners hold stays
  pub act_lowers : (tuple : List (RingId × ℕ)) → ActAt c before lines (lowers tuple a)
  act_lowers tuple = record {
    printed = at.printed;
    fits = at.fits;
    placed = subst (λ (rs : List Ring). AllByRecursion (IsPlaced c a.view.id) rs) (sym (rings a.view.parts)) at.placed;
    paid = at.paid;
    names = at.names;
    frames = at.frames;
    replies = at.replies;
    parts = each a.view.parts at.parts;
    replica = at.replica;
    newest = at.newest;
  }
    where
      rings : (parts : List RingPart) → rings_in (map (with_lowered tuple) parts) ≡ rings_in parts
      rings [] = refl
      rings (p ∷ parts) = ap (λ (rs : List Ring). p.ring ∷ rs) (rings parts)

      each : (parts : List RingPart) → AllByRecursion (PartLines lines) parts → AllByRecursion (PartLines lines) (map (with_lowered tuple) parts)
      each [] all = tt
      each (p ∷ parts) all = (record { ordered = all.0.ordered; booked = all.0.booked }, each parts all.1)
