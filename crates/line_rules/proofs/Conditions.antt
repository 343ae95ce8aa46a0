-- The test of a rule is that all of its conditions hold.
use Rattle.std.proofs.Common.{◌≡◌, ℕ, Bool, true, false, List, [], ◌∷◌, Option, Some, None, refl, sym}
use Rattle.std.specs.List.{list_all}
use Rattle.std.specs.Prelude.{◌&&◌, ◌==◌, not, is_some, bytes_eq}
use Rattle.mrp_types.specs.Values.{is_skip}
use Rattle.mrp_config.specs.Config.{Config, has_node, partition_of}
use Rattle.mrp_config.specs.declared.tables.PartitionTable.{PartitionTable}
use Rattle.plain_model.specs.Fold.{state_below}
use Rattle.plain_model.specs.Tuples.{round_sizes, is_tuple_of, is_at_or_after}
use Rattle.transcript.specs.declared.line.Line.{Line}
use Rattle.transcript.specs.declared.line.Line.TheVariants.{Learn, Deliver, Reply, Answer, Begin, Chose, Restore, Saved, Trim, Refuse, State, Frame}
use Rattle.line_rules.specs.Scanners.{up_epoch, attempting, chosen, before_begin, told, begun, position, learned, paired}
use Rattle.line_rules.specs.Names.{Rule}
use Rattle.line_rules.specs.Names as rule
use Rattle.line_rules.specs.Tests.{is_some_that, is_ready, each_between, each_below, is_shown, is_fit, is_pair, is_among, is_trim_reached, reaches, is_later, is_in_turn, do_names_fit, keeps_f1, keeps_f2, keeps_f3, keeps_f4, keeps_f5, keeps_f6, keeps_f7, keeps_f8, keeps_f9, delivers, stands, shows, chooses, restores, begins, refuses}
use Rattle.line_rules.specs.Verdict.{keeps}
use Rattle.line_rules.specs.Conditions.{all_hold, of_replica, deliver_conditions, tuple_conditions, show_conditions, choose_conditions, restore_conditions, begin_conditions, refuse_conditions, name_conditions, conditions_1, conditions_2, conditions_3, conditions_4, conditions_5, conditions_6, conditions_7, conditions_8, conditions_9, conditions}

joined : (a b d : Bool) → ((a && b) && d) ≡ (a && (b && d))
joined true b d = refl
joined false b d = refl

joined_six : (a b d e f g h : Bool) → ((a && (b && (d && (e && (f && g))))) && h) ≡ (a && (b && (d && (e && (f && (g && h))))))
joined_six false b d e f g h = refl
joined_six true false d e f g h = refl
joined_six true true false e f g h = refl
joined_six true true true false f g h = refl
joined_six true true true true false g h = refl
joined_six true true true true true g h = refl

of_replica_is : (conditions : PartitionTable → List Bool) (test : PartitionTable → Bool) →
    ((p : PartitionTable) → all_hold (true ∷ conditions p) ≡ test p) → (found : Option PartitionTable) →
    all_hold (of_replica conditions found) ≡ is_some_that test found
of_replica_is conditions test h None = refl
of_replica_is conditions test h (Some p) = h p

module _ (c : Config) (before : List Line) where
  abbrev m : ℕ → ℕ
  m = round_sizes c

  fit_joined : (p : PartitionTable) (printed : List ℕ) (others : Bool) →
      (is_shown p.rings printed && (is_tuple_of m p.rings (paired p.rings printed) && others)) ≡ (is_fit c p printed && others)
  fit_joined p printed others = sym (joined (is_shown p.rings printed) (is_tuple_of m p.rings (paired p.rings printed)) others)

  is_1 : (line : Line) → all_hold (conditions_1 c before line) ≡ keeps_f1 c before line
  is_1 (Learn node ring lo hi value) = refl
  is_1 other = refl

  is_2 : (line : Line) → all_hold (conditions_2 c before line) ≡ keeps_f2 c before line
  is_2 (Deliver node ring inst) =
      of_replica_is (deliver_conditions c before node ring inst) (delivers c before node ring inst) (λ p. refl) (partition_of c.partitions node)
  is_2 (Saved node printed) =
      of_replica_is (tuple_conditions c before node printed []) (stands c before node printed) (λ p. refl) (partition_of c.partitions node)
  is_2 other = refl

  names_are : (line : Line) → all_hold (is_in_turn c before line ∷ name_conditions c line) ≡ (is_in_turn c before line && do_names_fit c line)
  names_are (Reply node ring inst index client seq reply) = refl
  names_are (Frame number (Some shown)) = refl
  names_are other = refl

  is_3 : (line : Line) → all_hold (conditions_3 c before line) ≡ keeps_f3 c before line
  is_3 line = names_are line

  is_4 : (line : Line) → all_hold (conditions_4 c before line) ≡ keeps_f4 c before line
  is_4 (State node (Some shown)) =
      of_replica_is (show_conditions c before node shown) (shows c before node shown)
      (λ p. sym (joined_six (is_ready node before) (is_shown p.rings shown.tuple) (is_tuple_of m p.rings (position m p.rings node.0 before))
      (is_tuple_of m p.rings (paired p.rings shown.tuple)) (is_at_or_after (paired p.rings shown.tuple) (position m p.rings node.0 before))
      (each_between (is_some_that is_skip) (learned before) (paired p.rings shown.tuple) (position m p.rings node.0 before))
      (is_some_that (bytes_eq shown.bytes) (state_below m (learned before) p (paired p.rings shown.tuple))))) (partition_of c.partitions node)
  is_4 (State node None) = refl
  is_4 other = refl

  is_5 : (line : Line) → all_hold (conditions_5 c before line) ≡ keeps_f5 c before line
  is_5 (Answer client seq reply) = refl
  is_5 other = refl

  is_6 : (line : Line) → all_hold (conditions_6 c before line) ≡ keeps_f6 c before line
  is_6 (Chose node epoch attempt printed from) =
      of_replica_is (choose_conditions c before node epoch attempt printed from) (chooses c before node epoch attempt printed from)
      (λ p. fit_joined p printed (is_some_that (is_some_that (is_pair epoch attempt)) (attempting node.0 before) &&
      (is_some_that (list_all (is_trim_reached p.rings printed)) (before_begin node.0 before) && (has_node p.replicas from.0 && is_among printed (told from.0 before)))))
      (partition_of c.partitions node)
  is_6 (Restore node printed) =
      of_replica_is (restore_conditions c before node printed) (restores c before node printed)
      (λ p. fit_joined p printed (not (is_ready node before) && is_some_that (is_some_that (bytes_eq printed)) (chosen node.0 before)))
      (partition_of c.partitions node)
  is_6 other = refl

  is_7 : (line : Line) → all_hold (conditions_7 c before line) ≡ keeps_f7 c before line
  is_7 (Trim node ring inst) = refl
  is_7 other = refl

  is_8 : (line : Line) → all_hold (conditions_8 c before line) ≡ keeps_f8 c before line
  is_8 (Begin node epoch attempt printed) =
      of_replica_is (begin_conditions c before node epoch attempt printed) (begins c before node epoch attempt printed)
      (λ p. fit_joined p printed (list_all (reaches printed) (told node.0 before) && (is_some_that (is_some_that (λ (e : ℕ). e == epoch)) (up_epoch node.0 before) &&
      (list_all (is_later (epoch, attempt)) (begun node.0 before) && each_below is_some (learned before) (paired p.rings printed)))))
      (partition_of c.partitions node)
  is_8 (Saved node printed) = refl
  is_8 other = refl

  is_9 : (line : Line) → all_hold (conditions_9 c before line) ≡ keeps_f9 c before line
  is_9 (Refuse node epoch attempt answered needed) =
      of_replica_is (refuse_conditions before node epoch attempt answered needed) (refuses before node epoch attempt answered needed) (λ p. refl)
      (partition_of c.partitions node)
  is_9 other = refl

  pub conditions_are_the_test : (name : Rule) (line : Line) → all_hold (conditions name c before line) ≡ keeps name c before line
  conditions_are_the_test rule.F1 line = is_1 line
  conditions_are_the_test rule.F2 line = is_2 line
  conditions_are_the_test rule.F3 line = is_3 line
  conditions_are_the_test rule.F4 line = is_4 line
  conditions_are_the_test rule.F5 line = is_5 line
  conditions_are_the_test rule.F6 line = is_6 line
  conditions_are_the_test rule.F7 line = is_7 line
  conditions_are_the_test rule.F8 line = is_8 line
  conditions_are_the_test rule.F9 line = is_9 line
