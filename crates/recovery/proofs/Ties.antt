-- An attempt and what a node does with it, against the protocol's recovery.
use Rattle.std.proofs.Common.{arith, ◌≡◌, ℕ, ◌+◌, ◌==◌, nat_le, ◌&&◌, not, Bool, true, false, true≢false, if◌then◌else◌, List, [], ◌∷◌, ◌++◌, length, refl, sym, ◌∙◌, ap, subst, Option, Some, None, is_some}
use Rattle.std.specs.Option.{option_map}
use Rattle.mrp_types.specs.declared.id.NodeId.{NodeId}
use Rattle.mrp_types.specs.declared.id.RingId.{RingId}
use Rattle.mrp_config.specs.Config.{Config, has_node}
use Rattle.plain_model.specs.Tuples.{round_sizes, is_tuple_of}
use Rattle.plain_model.specs.StateBytes.{state_of}
use Rattle.checkpoint.specs.Checkpoints.{is_after, is_same_tuple}
use Rattle.protocol.specs.Node.{StepSoFar, View, Service, Attempt, Choice, Recovering, with_stage}
use Rattle.protocol.specs.Recovery.{epoch_of, own_tuple, chooses, chooses_best, chooses_if_quorum, is_of_choice, answered_by, takes_part, takes_gone, with_more, restores_or_begins, begins_next}
use Rattle.protocol.specs.Trimming.{has_answered}
use Rattle.recovery.specs.Attempts.{Trying, fresh, best_answer, with_answers, begun, heard, is_heard, parted, is_parted, with_part, gone, is_gone}
use Rattle.recovery.specs.Steps.{StandsFor, goes_on, does, asks_all}
use Rattle.recovery.specs.Turns.{turn_of, turn_with}

-- what is kept of an attempt of the protocol
abbrev kept_of : Config → Service → View → Attempt → ℕ → Bool → Bool → Trying
kept_of config service view attempt ticks whole changed = record {
  own = view.id;
  epoch = epoch_of view;
  replicas = service.partition.replicas;
  needed = service.partition.recovery_quorum;
  limit = config.attempt;
  attempt = record { number = attempt.number; ticks = ticks; answers = attempt.answers; choice = attempt.choice };
  whole = whole;
  changed = changed;
}

is_kept : (config : Config) (service : Service) (view : View) (r : Trying) (attempt : Attempt) → StandsFor config service view r attempt → kept_of config service view attempt r.attempt.ticks r.whole r.changed ≡ r
is_kept config service view r attempt stands = rw (← stands.own, ← stands.epoch, ← stands.replicas, ← stands.needed, ← stands.limit, ← stands.number, ← stands.answers, ← stands.choice) refl

-- ---- a choice

abbrev waiting : ℕ → ℕ → List (NodeId × List (RingId × ℕ)) → Attempt
waiting number ticks answers = record { number = number; ticks = ticks; answers = answers; choice = None }

abbrev made : NodeId → Bool → List (NodeId × List (RingId × ℕ)) → Option Choice
made own q those = if q then option_map fresh (best_answer own those) else None

pub quorum_is : (config : Config) (service : Service) (a : StepSoFar) (number ticks kept : ℕ) (old answers : List (NodeId × List (RingId × ℕ))) (whole changed : Bool) →
    chooses_if_quorum config service (waiting number ticks answers) a
    ≡ goes_on config service (waiting number ticks old) (with_answers answers (kept_of config service a.view (waiting number ticks old) kept whole changed))
    (turn_of (with_answers answers (kept_of config service a.view (waiting number ticks old) kept whole changed))) a
unfolding chooses
quorum_is config service a number ticks kept old answers whole changed = by_test (nat_le service.partition.recovery_quorum (length answers)) answers
  where
    by_test : (q : Bool) (those : List (NodeId × List (RingId × ℕ))) →
        (if q then chooses_best config service (waiting number ticks answers) those a else with_stage service (Recovering (waiting number ticks answers)) a)
        ≡ does config service (record { number = number; ticks = ticks; answers = answers; choice = made a.view.id q those }) (made a.view.id q those) (turn_with (made a.view.id q those) (is_some (made a.view.id q those)) false) a
    by_test false those = refl
    by_test true [] = refl
    by_test true (x ∷ xs) = refl

pub begun_is : (config : Config) (service : Service) (a : StepSoFar) (r : Trying) → r ≡ begun config service.partition a.view.id (epoch_of a.view) (service.attempts + 1) (own_tuple a.view service) →
    begins_next config service a ≡ goes_on config (record service { attempts = service.attempts + 1 }) r.attempt r (turn_of r) (asks_all service (service.attempts + 1) a)
begun_is config service a r same =
    rw same (quorum_is config (record service { attempts = service.attempts + 1 }) (asks_all service (service.attempts + 1) a) (service.attempts + 1) 0 0 [] ((a.view.id, own_tuple a.view service) ∷ []) false false)

-- ---- answers

-- what a call makes of an attempt, where what it was told counts
abbrev with_or : Trying → Trying → Bool → Trying
with_or after before t = if t then after else record before { changed = false }

abbrev choosing : ℕ → ℕ → List (NodeId × List (RingId × ℕ)) → Choice → Attempt
choosing number ticks answers choice = record { number = number; ticks = ticks; answers = answers; choice = Some choice }

-- the checkpoint of a newer tuple is the choice
abbrev with_newer : NodeId → List (RingId × ℕ) → Trying → Trying
with_newer from newer r = record r { attempt = record r.attempt { choice = Some (fresh (from, newer)) }; whole = false; changed = true }

abbrev with_more_bytes : Choice → List ℕ → Choice
with_more_bytes choice bytes = record choice { bytes = choice.bytes ++ bytes }

none_heard : (t u v : Bool) → (t && (u && (v && false))) ≡ false
none_heard false u v = refl
none_heard true false v = refl
none_heard true true false = refl
none_heard true true true = refl

heard_kept : (config : Config) (service : Service) (a : StepSoFar) (number ticks kept : ℕ) (answers : List (NodeId × List (RingId × ℕ))) (choice : Option Choice) (whole changed : Bool) (from : NodeId) (epoch named : ℕ) (tuple : List (RingId × ℕ)) →
    is_tuple_of (round_sizes config) service.partition.rings tuple ≡ true →
    answered_by config service (record { number = number; ticks = ticks; answers = answers; choice = choice }) from epoch named tuple a
    ≡ (if is_heard from epoch named (kept_of config service a.view (record { number = number; ticks = ticks; answers = answers; choice = choice }) kept whole changed)
    then goes_on config service (record { number = number; ticks = ticks; answers = answers; choice = choice })
    (heard from epoch named tuple (kept_of config service a.view (record { number = number; ticks = ticks; answers = answers; choice = choice }) kept whole changed))
    (turn_of (heard from epoch named tuple (kept_of config service a.view (record { number = number; ticks = ticks; answers = answers; choice = choice }) kept whole changed))) a
    else a)
unfolding answered_by
heard_kept config service a number ticks kept answers None whole changed from epoch named tuple valid =
    rw valid (by_test ((epoch == epoch_of a.view) && (named == number) && (has_node service.partition.replicas from.0 && (not (has_answered from answers) && true))))
  where
    by_test : (t : Bool) →
        (if t then chooses_if_quorum config service (waiting number ticks (answers ++ (from, tuple) ∷ [])) a else a)
        ≡ (if t then goes_on config service (waiting number ticks answers)
        (with_or (with_answers (answers ++ (from, tuple) ∷ []) (kept_of config service a.view (waiting number ticks answers) kept whole changed)) (kept_of config service a.view (waiting number ticks answers) kept whole changed) t)
        (turn_of (with_or (with_answers (answers ++ (from, tuple) ∷ []) (kept_of config service a.view (waiting number ticks answers) kept whole changed)) (kept_of config service a.view (waiting number ticks answers) kept whole changed) t)) a else a)
    by_test true = quorum_is config service a number ticks kept answers (answers ++ (from, tuple) ∷ []) whole changed
    by_test false = refl
heard_kept config service a number ticks kept answers (Some choice) whole changed from epoch named tuple valid =
    rw (none_heard ((epoch == epoch_of a.view) && (named == number)) (has_node service.partition.replicas from.0) (not (has_answered from answers)))
    (same ((epoch == epoch_of a.view) && (named == number) && (has_node service.partition.replicas from.0 && (not (has_answered from answers) && is_tuple_of (round_sizes config) service.partition.rings tuple))))
  where
    same : (t : Bool) → (if t then a else a) ≡ a
    same true = refl
    same false = refl

pub heard_is : (config : Config) (service : Service) (a : StepSoFar) (r : Trying) (attempt : Attempt) (from : NodeId) (epoch number : ℕ) (tuple : List (RingId × ℕ)) →
    StandsFor config service a.view r attempt → is_tuple_of (round_sizes config) service.partition.rings tuple ≡ true →
    answered_by config service attempt from epoch number tuple a
    ≡ (if is_heard from epoch number r then goes_on config service attempt (heard from epoch number tuple r) (turn_of (heard from epoch number tuple r)) a else a)
heard_is config service a r attempt from epoch number tuple stands valid =
    subst (λ (k : Trying). answered_by config service attempt from epoch number tuple a
    ≡ (if is_heard from epoch number k then goes_on config service attempt (heard from epoch number tuple k) (turn_of (heard from epoch number tuple k)) a else a))
    (is_kept config service a.view r attempt stands)
    (heard_kept config service a attempt.number attempt.ticks r.attempt.ticks attempt.answers attempt.choice r.whole r.changed from epoch number tuple valid)

-- ---- parts

none_named : (t : Bool) → (t && false) ≡ false
none_named true = refl
none_named false = refl

still_true : (t : Bool) → (t && true) ≡ t
still_true true = refl
still_true false = refl

parted_kept : (config : Config) (service : Service) (a : StepSoFar) (number ticks kept : ℕ) (answers : List (NodeId × List (RingId × ℕ))) (choice : Option Choice) (changed : Bool) (from : NodeId) (epoch named : ℕ) (tuple : List (RingId × ℕ)) (offset total : ℕ) (bytes : List ℕ) →
    takes_part config service (record { number = number; ticks = ticks; answers = answers; choice = choice }) from epoch named tuple offset total bytes a
    ≡ (if is_parted from epoch named tuple offset (kept_of config service a.view (record { number = number; ticks = ticks; answers = answers; choice = choice }) kept false changed)
    then goes_on config service (record { number = number; ticks = ticks; answers = answers; choice = choice })
    (parted from epoch named tuple offset total bytes (kept_of config service a.view (record { number = number; ticks = ticks; answers = answers; choice = choice }) kept false changed))
    (turn_of (parted from epoch named tuple offset total bytes (kept_of config service a.view (record { number = number; ticks = ticks; answers = answers; choice = choice }) kept false changed))) a
    else a)
unfolding takes_part
parted_kept config service a number ticks kept answers None changed from epoch named tuple offset total bytes =
    rw (none_named ((epoch == epoch_of a.view) && (named == number))) refl
parted_kept config service a number ticks kept answers (Some choice) changed from epoch named tuple offset total bytes =
    rw (still_true (is_of_choice choice from tuple && (offset == length choice.bytes)))
    (by_test ((epoch == epoch_of a.view) && (named == number) && (is_of_choice choice from tuple && (offset == length choice.bytes))))
  where
    by_end : (e : Bool) →
        (if e then restores_or_begins config service choice.tuple (state_of service.partition (choice.bytes ++ bytes)) a
        else does config service (choosing number ticks answers (with_more_bytes choice bytes)) (Some (with_more_bytes choice bytes)) (turn_with (Some (with_more_bytes choice bytes)) false false) a)
        ≡ does config service (choosing number ticks answers (with_more_bytes choice bytes)) (Some (with_more_bytes choice bytes)) (turn_with (Some (with_more_bytes choice bytes)) false e) a
    by_end true = refl
    by_end false = refl

    by_test : (t : Bool) →
        (if t then with_more config service (choosing number ticks answers choice) (with_more_bytes choice bytes) total a else a)
        ≡ (if t then goes_on config service (choosing number ticks answers choice)
        (with_or (with_part total bytes (kept_of config service a.view (choosing number ticks answers choice) kept false changed)) (kept_of config service a.view (choosing number ticks answers choice) kept false changed) t)
        (turn_of (with_or (with_part total bytes (kept_of config service a.view (choosing number ticks answers choice) kept false changed)) (kept_of config service a.view (choosing number ticks answers choice) kept false changed) t)) a else a)
    by_test true = by_end (length (choice.bytes ++ bytes) == total)
    by_test false = refl

pub parted_is : (config : Config) (service : Service) (a : StepSoFar) (r : Trying) (attempt : Attempt) (from : NodeId) (epoch number : ℕ) (tuple : List (RingId × ℕ)) (offset total : ℕ) (bytes : List ℕ) →
    StandsFor config service a.view r attempt → r.whole ≡ false →
    takes_part config service attempt from epoch number tuple offset total bytes a
    ≡ (if is_parted from epoch number tuple offset r then goes_on config service attempt (parted from epoch number tuple offset total bytes r) (turn_of (parted from epoch number tuple offset total bytes r)) a else a)
parted_is config service a r attempt from epoch number tuple offset total bytes stands missing =
    subst (λ (k : Trying). takes_part config service attempt from epoch number tuple offset total bytes a
    ≡ (if is_parted from epoch number tuple offset k then goes_on config service attempt (parted from epoch number tuple offset total bytes k) (turn_of (parted from epoch number tuple offset total bytes k)) a else a))
    (ap (λ w. kept_of config service a.view attempt r.attempt.ticks w r.changed) (sym missing) ∙ is_kept config service a.view r attempt stands)
    (parted_kept config service a attempt.number attempt.ticks r.attempt.ticks attempt.answers attempt.choice r.changed from epoch number tuple offset total bytes)

-- ---- a checkpoint that is gone

same_node : (x y : NodeId) → (x.0 == y.0) ≡ true → x ≡ y
same_node x y is = let number : x.0 ≡ y.0 = grind arith in ap (λ n. record { 0 = n }) number

first_true : (t u : Bool) → (t && u) ≡ true → t ≡ true
first_true true u h = refl
first_true false u h = h

second_true : (t u : Bool) → (t && u) ≡ true → u ≡ true
second_true true u h = h
second_true false u h = absurd (true≢false (sym h))

of_node : (config : Config) (service : Service) (a : StepSoFar) (number ticks : ℕ) (answers : List (NodeId × List (RingId × ℕ))) (choice : Choice) (node : NodeId) (newer : List (RingId × ℕ)) →
    chooses config service (choosing number ticks answers choice) (node, newer) a ≡ chooses config service (choosing number ticks answers (fresh (node, newer))) (node, newer) a
unfolding chooses
of_node config service a number ticks answers choice node newer = refl

gone_kept : (config : Config) (service : Service) (a : StepSoFar) (number ticks kept : ℕ) (answers : List (NodeId × List (RingId × ℕ))) (choice : Option Choice) (whole changed : Bool) (from : NodeId) (epoch named : ℕ) (asked newer : List (RingId × ℕ)) →
    is_tuple_of (round_sizes config) service.partition.rings newer ≡ true →
    takes_gone config service (record { number = number; ticks = ticks; answers = answers; choice = choice }) from epoch named asked newer a
    ≡ (if is_gone from epoch named asked newer (kept_of config service a.view (record { number = number; ticks = ticks; answers = answers; choice = choice }) kept whole changed)
    then goes_on config service (record { number = number; ticks = ticks; answers = answers; choice = choice })
    (gone from epoch named asked newer (kept_of config service a.view (record { number = number; ticks = ticks; answers = answers; choice = choice }) kept whole changed))
    (turn_of (gone from epoch named asked newer (kept_of config service a.view (record { number = number; ticks = ticks; answers = answers; choice = choice }) kept whole changed))) a
    else a)
unfolding takes_gone
gone_kept config service a number ticks kept answers None whole changed from epoch named asked newer valid =
    rw (none_named ((epoch == epoch_of a.view) && (named == number))) refl
gone_kept config service a number ticks kept answers (Some choice) whole changed from epoch named asked newer valid =
    rw valid (by_test ((epoch == epoch_of a.view) && (named == number) && (is_of_choice choice from asked && is_after choice.tuple newer)) refl)
  where
    chosen_node : ((epoch == epoch_of a.view) && (named == number) && (is_of_choice choice from asked && is_after choice.tuple newer)) ≡ true → from ≡ choice.from
    chosen_node is =
        same_node from choice.from (first_true (from.0 == choice.from.0) (is_same_tuple asked choice.tuple)
        (first_true (is_of_choice choice from asked) (is_after choice.tuple newer)
        (second_true ((epoch == epoch_of a.view) && (named == number)) (is_of_choice choice from asked && is_after choice.tuple newer) is)))

    by_test : (t : Bool) → ((epoch == epoch_of a.view) && (named == number) && (is_of_choice choice from asked && is_after choice.tuple newer)) ≡ t →
        (if t then chooses config service (choosing number ticks answers choice) (choice.from, newer) a else a)
        ≡ (if t then goes_on config service (choosing number ticks answers choice)
        (with_or (with_newer from newer (kept_of config service a.view (choosing number ticks answers choice) kept whole changed)) (kept_of config service a.view (choosing number ticks answers choice) kept whole changed) t)
        (turn_of (with_or (with_newer from newer (kept_of config service a.view (choosing number ticks answers choice) kept whole changed)) (kept_of config service a.view (choosing number ticks answers choice) kept whole changed) t)) a else a)
    by_test true is = ap (λ (node : NodeId). chooses config service (choosing number ticks answers choice) (node, newer) a) (sym (chosen_node is)) ∙ of_node config service a number ticks answers choice from newer
    by_test false is = refl

pub gone_is : (config : Config) (service : Service) (a : StepSoFar) (r : Trying) (attempt : Attempt) (from : NodeId) (epoch number : ℕ) (asked newer : List (RingId × ℕ)) →
    StandsFor config service a.view r attempt → is_tuple_of (round_sizes config) service.partition.rings newer ≡ true →
    takes_gone config service attempt from epoch number asked newer a
    ≡ (if is_gone from epoch number asked newer r then goes_on config service attempt (gone from epoch number asked newer r) (turn_of (gone from epoch number asked newer r)) a else a)
gone_is config service a r attempt from epoch number asked newer stands valid =
    subst (λ (k : Trying). takes_gone config service attempt from epoch number asked newer a
    ≡ (if is_gone from epoch number asked newer k then goes_on config service attempt (gone from epoch number asked newer k) (turn_of (gone from epoch number asked newer k)) a else a))
    (is_kept config service a.view r attempt stands)
    (gone_kept config service a attempt.number attempt.ticks r.attempt.ticks attempt.answers attempt.choice r.whole r.changed from epoch number asked newer valid)
