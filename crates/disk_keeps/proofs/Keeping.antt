-- An image stands for a state that its node may keep, and each such state keeps what the rules of runs say.
use Rattle.std.proofs.Common.{◌≡◌, ◌⊎◌, inl, inr, List, [], ◌∷◌, ◌++◌, Option, Some, refl, sym, ap, ◌∙◌, subst}
use Rattle.std.specs.List.{AllByRecursion}
use Rattle.mrp_types.specs.declared.id.NodeId.{NodeId}
use Rattle.mrp_config.specs.Config.{Config}
use Rattle.mrp_config.specs.Valid.{IsValid}
use Rattle.mrp_config.specs.declared.tables.RingTable.{RingTable}
use Rattle.disk_model.specs.declared.areas.Areas.{Areas}
use Rattle.disk_model.specs.Calls.{IsImage}
use Rattle.quorums.specs.Groups.{Has}
use Rattle.vote_state.specs.State.{State}
use Rattle.bare_world.specs.Worlds as bare
use Rattle.bare_world.specs.Worlds.{Possible, possible_of}
use Rattle.bare_world.specs.Runs.{run, MayRun}
use Rattle.bare_world.proofs.Onward.{run_both}
use Rattle.world_model.specs.Runs as disks
use Rattle.world_model.specs.Worlds.{Host, Up, Down, World}
use Rattle.disk_states.specs.States.{StandsFor}
use Rattle.disk_states.proofs.Working.{held_images}
use Rattle.ring_runs.specs.Histories.{History, at_first, history}
use Rattle.ring_runs.specs.Rules.{VoteRule, DoneRule}
use Rattle.ring_runs.specs.Votes.{MayKeep}
use Rattle.ring_runs.proofs.Whole.{world_of, votes, done}
use Rattle.line_runs.specs.Laws.{IsPossible}
use Rattle.line_runs.proofs.Laws.{told_kept}
use Rattle.disk_runs.specs.Runs.{NodeTies, world_after, GoesOn, Fits}
use Rattle.disk_runs.proofs.Whole.{run_goes, ran_goes}
use Rattle.disk_runs.proofs.Works.{all_work}
use Rattle.disk_keeps.specs.Kept.{told_of, KeepsRing, KeepsAll, LosesNothing}

-- what an image stands for is one of the states that the node's disk may stand for
pub record Stood (id : NodeId) (other : bare.Host) (image : Areas) : Type 0 where
  pub state : Possible
  pub stands : StandsFor id state image
  pub possible : IsPossible other state

pub stood : (config : Config) (id : NodeId) (host : Host) (other : bare.Host) → NodeTies config id (Some host) other → (image : Areas) → IsImage (told_of host) image → Stood id other image
stood config id (Up view disk) (bare.Up x) ties image is = by (held_images view.journal view.checkpoints disk.told ties.1.1.held image is)
  where
    same : StandsFor view.journal.id (possible_of view) image → Stood id (bare.Up x) image
    same there = record {
      state = possible_of view;
      stands = subst (λ (n : NodeId). StandsFor n (possible_of view) image) ties.1.1.node there;
      possible = ap possible_of (sym ties.1.0);
    }

    by : StandsFor view.journal.id (possible_of view) image ⊎ StandsFor view.journal.id (possible_of view) image → Stood id (bare.Up x) image
    by (inl there) = same there
    by (inr there) = same there
stood config id (Up view disk) (bare.Down durable pending) ties image is = absurd ties.1
stood config id (Down told plan) (bare.Up x) ties image is = absurd ties.1
stood config id (Down told plan) (bare.Down durable pending) ties image is = by (ties.1.images image is)
  where
    by : StandsFor id durable image ⊎ StandsFor id pending image → Stood id (bare.Down durable pending) image
    by (inl there) = record { state = durable; stands = there; possible = inl refl }
    by (inr there) = record { state = pending; stands = there; possible = inr refl }

-- such a state is one that the node may keep
may_keep : (other : bare.Host) (p : Possible) → IsPossible other p → MayKeep other p.state
may_keep (bare.Up x) p is = ap (λ (q : Possible). q.state) is
may_keep (bare.Down durable pending) p (inl is) = inl (ap (λ (q : Possible). q.state) is)
may_keep (bare.Down durable pending) p (inr is) = inr (ap (λ (q : Possible). q.state) is)

-- the second of two parts of a run may happen after the first
pub may_rest : (config : Config) (w : bare.World) (first second : List bare.Happening) → MayRun config w (first ++ second) → MayRun config (run config first w) second
may_rest config w [] second may = may
may_rest config w (h ∷ first) second may = may_rest config (bare.happens config h w) first second may.1

module _ (config : Config) (valid : IsValid config) (first more : List bare.Happening) (may : MayRun config bare.nothing first) (along : MayRun config bare.nothing (first ++ more)) where
  abbrev early : History
  early = history config first at_first

  abbrev late : History
  late = history config more early

  late_is : late.world ≡ world_after config (first ++ more)
  late_is = world_of config early more ∙ ap (λ (w : bare.World). run config more w) (world_of config at_first first) ∙ sym (run_both config bare.nothing first more)

  onward : MayRun config early.world more
  onward = subst (λ (w : bare.World). MayRun config w more) (sym (world_of config at_first first)) (may_rest config bare.nothing first more along)

  ring_kept : (table : RingTable) → Has config.rings table → (id : NodeId) (state : State) → MayKeep ((world_after config (first ++ more)).hosts id.0) state → KeepsRing table early id state
  ring_kept table has id state keeps = record {
    promised = λ work ballot h r. d.promised id work ballot h r state now;
    trimmed = λ work inst h r. d.trimmed id work inst h r state now;
    read = λ before h. d.kept id before h state now;
    voted = λ ballot i value cast. v.kept id ballot i value cast state now;
  }
    where
      now : MayKeep (late.world.hosts id.0) state
      now = subst (λ (w : bare.World). MayKeep (w.hosts id.0) state) (sym late_is) keeps

      d : DoneRule table early late
      d = done config table valid has first more may onward

      v : VoteRule table early late
      v = votes config table valid has first more may onward

  all_kept : (id : NodeId) (host : Host) → NodeTies config id (Some host) ((world_after config (first ++ more)).hosts id.0) → (image : Areas) → IsImage (told_of host) image → KeepsAll config first more id image
  all_kept id host ties image is =
      let s = stood config id host ((world_after config (first ++ more)).hosts id.0) ties image is in
      record {
        state = s.state;
        stands = s.stands;
        rings = λ table has. ring_kept table has id s.state.state (may_keep ((world_after config (first ++ more)).hosts id.0) s.state s.possible);
        saved = λ p there. told_kept config (first ++ more) (record { valid = valid; may = along }) id.0 s.state p s.possible there;
      }

pub nothing_lost : (config : Config) → IsValid config → (xs ys : List disks.Happening) → disks.IsRun config xs → disks.MayRun config ys (disks.run_of config xs).world → AllByRecursion (Fits config) xs
    → AllByRecursion (Fits config) ys → LosesNothing config (disks.run_of config xs).world (disks.ran_from config ys (disks.run_of config xs).world).world
nothing_lost config valid xs ys is may fits fits_more = record {
  first = one.more;
  more = two.more;
  before = one.ties;
  after = two.ties;
  kept = λ id host there image left.
      all_kept config valid one.more two.more one.may two.may id host
      (subst (λ (o : Option Host). NodeTies config id o ((world_after config (one.more ++ two.more)).hosts id.0)) there (two.ties.nodes id)) image left;
}
  where
    one : GoesOn config [] (disks.run_of config xs)
    one = run_goes config valid (all_work config valid) xs is fits

    two : GoesOn config one.more (disks.ran_from config ys (disks.run_of config xs).world)
    two = ran_goes config valid (all_work config valid) ys one.more one.may (disks.run_of config xs).world one.ties may fits_more
