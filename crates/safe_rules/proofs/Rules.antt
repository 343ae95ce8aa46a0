-- The safe rules of partitions, of what is proved of lines, of states and of frames; all ten; and the same on disks.
use Rattle.std.proofs.Common.{◌≡◌, ℕ, true, List, [], ◌∷◌, ◌++◌, refl, sym, subst}
use Rattle.std.specs.List.{AllByRecursion}
use Rattle.mrp_config.specs.Config.{Config}
use Rattle.mrp_config.specs.Valid.{IsValid}
use Rattle.mrp_config.specs.declared.tables.PartitionTable.{PartitionTable}
use Rattle.mrp_config.specs.declared.tables.RingTable.{RingTable}
use Rattle.frames.specs.declared.body.Body.TheVariants.{HaveCheckpoint}
use Rattle.plain_model.specs.Tuples.{round_sizes, is_tuple_of}
use Rattle.quorums.specs.Groups.{Has}
use Rattle.vote_state.specs.State.{trim_at}
use Rattle.protocol.specs.Node.{Standing}
use Rattle.bare_world.specs.Worlds.{Happening, World, happens, nothing}
use Rattle.bare_world.specs.Runs.{MayRun}
use Rattle.world_model.specs.Runs as disks
use Rattle.line_runs.specs.Laws.{IsRun}
use Rattle.line_runs.proofs.Holding.{covered_held}
use Rattle.line_runs.proofs.Laws.{body_said, frame_covered, possible_lines, ready_lines}
use Rattle.line_runs.proofs.Telling.{all_reached, named_known}
use Rattle.state_runs.specs.Laws.{IsReady}
use Rattle.state_runs.proofs.Laws.{checkpoint_at, ready_at, sent_part}
use Rattle.disk_keeps.proofs.Keeping.{may_rest}
use Rattle.ring_runs.specs.Histories.{History, at_first, goes, history}
use Rattle.ring_runs.specs.Rules.{LearnRule, ProposeRule}
use Rattle.ring_runs.proofs.Whole.{chooses, learns, promises, proposes, starts, votes, world_of}
use Rattle.disk_runs.specs.Runs.{Fits, GoesOn}
use Rattle.disk_runs.proofs.Whole.{ran_goes, run_goes}
use Rattle.disk_runs.proofs.Works.{all_work}
use Rattle.safe_rules.specs.Rules.{AreSafe, KeepsRingRules, KeepsSafeRules, RestoreRule, SaveRule, StandsAt, TrimRule}
use Rattle.safe_rules.proofs.Asked.{asks}

module _ (c : Config) (hs : List Happening) (r : IsRun c hs) where
  pub saves : SaveRule c hs
  saves = record {
    disks = checkpoint_at c hs r;
    named = λ sent from to body x tuple has is there.
        let named = named_known c hs r sent from to body x tuple has is there in
        record { told = named.0; known = named.1 };
    carried = sent_part c hs r;
    reached = all_reached c hs r;
  }

  pub trims : TrimRule c hs
  trims = record {
    disks = λ n s is ring. covered_held c hs r ring (trim_at s.state ring) ((possible_lines c hs r n s is).covered ring);
    frames = λ sent from to body ring trim has is told. covered_held c hs r ring trim (frame_covered c hs r sent from to body ring trim has is told);
  }

  stands : (n : ℕ) (p : PartitionTable) (standing : Standing) → IsReady c hs n p standing → StandsAt c hs p standing
  stands n p standing ready =
      let serves = ready.serves in
      let lines = ready_lines c hs r n serves.view ready.service standing serves.up serves.there ready.ready in
      record {
        valid = subst (λ (q : PartitionTable). is_tuple_of (round_sizes c) q.rings standing.tuple ≡ true) serves.partition lines.valid;
        known = lines.known;
        state = ready_at c hs r n p standing ready;
      }

  pub restores : RestoreRule c hs
  restores = record {
    answers = λ sent from to epoch attempt tuple has is. (body_said c hs r sent from to (HaveCheckpoint epoch attempt tuple) has is).0;
    ready = stands;
  }

-- ---- all ten

history_both : (c : Config) (h : History) (first more : List Happening) → history c (first ++ more) h ≡ history c more (history c first h)
history_both c h [] more = refl
history_both c h (x ∷ first) more = history_both c (goes c x h) first more

-- the first of two parts of a run may happen
may_front : (c : Config) (w : World) (first more : List Happening) → MayRun c w (first ++ more) → MayRun c w first
may_front c w [] more may = tt
may_front c w (x ∷ first) more may = (may.0, may_front c (happens c x w) first more may.1)

pub all_rules : (c : Config) (first more : List Happening) → IsRun c (first ++ more) → KeepsSafeRules c first more
all_rules c first more r = record {
  rings = rings_keep;
  ask = asks c (first ++ more) r;
  save = saves c (first ++ more) r;
  trim = trims c (first ++ more) r;
  restore = restores c (first ++ more) r;
}
  where
    may : MayRun c nothing first
    may = may_front c nothing first more r.may

    onward : MayRun c (history c first at_first).world more
    onward = subst (λ (w : World). MayRun c w more) (sym (world_of c at_first first)) (may_rest c nothing first more r.may)

    both : history c (first ++ more) at_first ≡ history c more (history c first at_first)
    both = history_both c at_first first more

    rings_keep : (table : RingTable) → Has c.rings table → KeepsRingRules table (history c first at_first) (history c more (history c first at_first))
    rings_keep table has = record {
      promise = promises c table r.valid has first more may onward;
      start = starts c table r.valid has first more may onward;
      vote = votes c table r.valid has first more may onward;
      propose = subst (λ (h : History). ProposeRule table h) both (proposes c table r.valid has (first ++ more) r.may);
      choose = chooses c table r.valid has first more may onward;
      learn = subst (λ (h : History). LearnRule table h) both (learns c table r.valid has (first ++ more) r.may);
    }

-- ---- on disks

module _ (config : Config) (valid : IsValid config) (xs ys : List disks.Happening) (is : disks.IsRun config xs) (may : disks.MayRun config ys (disks.run_of config xs).world)
    (fits : AllByRecursion (Fits config) xs) (fits_more : AllByRecursion (Fits config) ys) where
  one : GoesOn config [] (disks.run_of config xs)
  one = run_goes config valid (all_work config valid) xs is fits

  two : GoesOn config one.more (disks.ran_from config ys (disks.run_of config xs).world)
  two = ran_goes config valid (all_work config valid) ys one.more one.may (disks.run_of config xs).world one.ties may fits_more

  pub disks_safe : AreSafe config (disks.run_of config xs).world (disks.ran_from config ys (disks.run_of config xs).world).world
  disks_safe = record {
    first = one.more;
    more = two.more;
    is = record { valid = valid; may = two.may };
    before = one.ties;
    after = two.ties;
    rules = all_rules config one.more two.more (record { valid = valid; may = two.may });
  }
