-- The rules of every run of every valid deployment.
use Rattle.std.proofs.Common.{◌≡◌, List, [], ◌∷◌, refl}
use Rattle.mrp_types.specs.declared.value.Value.{Value}
use Rattle.mrp_config.specs.Config.{Config}
use Rattle.mrp_config.specs.Valid.{IsValid}
use Rattle.mrp_config.specs.declared.tables.RingTable.{RingTable}
use Rattle.quorums.specs.Groups.{Has}
use Rattle.ring_safety.specs.Worlds as machine
use Rattle.bare_world.specs.Runs.{MayRun, run}
use Rattle.bare_world.specs.Worlds.{Happening, nothing}
use Rattle.ring_runs.specs.Histories.{History, at_first, goes, history}
use Rattle.ring_runs.specs.Rules.{ChooseRule, DoneRule, LearnRule, OneValueRule, PromiseRule, ProposeRule, StartRule, VoteRule}
use Rattle.ring_runs.specs.Standing.{Tied}
use Rattle.ring_runs.proofs.Deployed.{deployed}
use Rattle.ring_runs.proofs.Ruling.{choose_rule, done_rule, learn_rule, one_value_rule, promise_rule, propose_rule, start_rule, vote_rule}
use Rattle.ring_runs.proofs.Running.{tied_later, tied_reached}

pub world_of : (config : Config) (h : History) (xs : List Happening) → (history config xs h).world ≡ run config xs h.world
world_of config h [] = refl
world_of config h (x ∷ xs) = world_of config (goes config x h) xs

pub reached : (config : Config) (table : RingTable) → IsValid config → Has config.rings table → (xs : List Happening) → MayRun config nothing xs
    → Tied config table machine.empty (history config xs at_first)
reached config table valid has xs may = tied_reached config table (deployed config table valid has) xs may

pub onward : (config : Config) (table : RingTable) → IsValid config → Has config.rings table → (from : machine.World Value) (early : History) → (t : Tied config table from early)
    → (xs : List Happening) → MayRun config early.world xs → Tied config table t.machine_world (history config xs early)
onward config table valid has from early t xs may = tied_later config table (deployed config table valid has) from early t xs may

-- ---- one history

module _ (config : Config) (table : RingTable) (valid : IsValid config) (has : Has config.rings table) (xs : List Happening) (may : MayRun config nothing xs) where
  here : Tied config table machine.empty (history config xs at_first)
  here = reached config table valid has xs may

  pub proposes : ProposeRule table (history config xs at_first)
  proposes = propose_rule config table (deployed config table valid has) here.machine_world here.sound (history config xs at_first) here.stands

  pub learns : LearnRule table (history config xs at_first)
  learns = learn_rule config table (deployed config table valid has) here.machine_world here.sound (history config xs at_first) here.stands

-- ---- an earlier and a later one

module _ (config : Config) (table : RingTable) (valid : IsValid config) (has : Has config.rings table) (xs ys : List Happening) (may : MayRun config nothing xs)
    (then_may : MayRun config (history config xs at_first).world ys) where
  first : Tied config table machine.empty (history config xs at_first)
  first = reached config table valid has xs may

  second : Tied config table first.machine_world (history config ys (history config xs at_first))
  second = onward config table valid has machine.empty (history config xs at_first) first ys then_may

  pub promises : PromiseRule table (history config xs at_first) (history config ys (history config xs at_first))
  promises = promise_rule config table (deployed config table valid has) machine.empty (history config xs at_first) (history config ys (history config xs at_first)) first second

  pub votes : VoteRule table (history config xs at_first) (history config ys (history config xs at_first))
  votes = vote_rule config table (deployed config table valid has) machine.empty (history config xs at_first) (history config ys (history config xs at_first)) first second

  pub done : DoneRule table (history config xs at_first) (history config ys (history config xs at_first))
  done = done_rule config table (deployed config table valid has) machine.empty (history config xs at_first) (history config ys (history config xs at_first)) first second

  pub starts : StartRule table (history config xs at_first) (history config ys (history config xs at_first))
  starts = start_rule config table (deployed config table valid has) (history config xs at_first) (history config ys (history config xs at_first)) first second

  pub chooses : ChooseRule table (history config xs at_first) (history config ys (history config xs at_first))
  chooses = choose_rule config table (deployed config table valid has) machine.empty (history config xs at_first) (history config ys (history config xs at_first)) first second

  pub one_value : OneValueRule table (history config xs at_first) (history config ys (history config xs at_first))
  one_value = one_value_rule config table (deployed config table valid has) machine.empty (history config xs at_first) (history config ys (history config xs at_first)) first second
