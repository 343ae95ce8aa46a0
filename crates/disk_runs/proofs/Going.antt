-- A run without bytes goes on: by nothing, by one happening, by one thing after another.
use Rattle.std.proofs.Common.{◌≡◌, List, [], ◌∷◌, ◌++◌, refl, sym, ap, ◌∙◌, subst, append-nil}
use Rattle.std.proofs.lemmas.List.{append_assoc}
use Rattle.mrp_config.specs.Config.{Config}
use Rattle.bare_world.specs.Worlds as bare
use Rattle.bare_world.specs.Runs.{MayHappen, run, MayRun}
use Rattle.world_model.specs.Worlds.{World, Outcome, quiet, and_then, for_each}
use Rattle.disk_runs.specs.Runs.{WorldTies, world_after, IsListed, AreListed, GoesOn}
use Rattle.bare_world.proofs.Onward.{run_both, may_both}

-- what is listed by one run and by what goes on from it
listed_both : (config : Config) (w : bare.World) (first second : List bare.Happening) → AreListed config first w → AreListed config second (run config first w) → AreListed config (first ++ second) w
listed_both config w [] second a b = b
listed_both config w (h ∷ first) second a b = (a.0, listed_both config (bare.happens config h w) first second a.1 b)

-- a run goes on where another one ended
module _ (config : Config) where
  -- a word goes on from wherever a run has come
  abbrev pub Goes : (World → Outcome) → Type 0
  Goes word = (past : List bare.Happening) → MayRun config bare.nothing past → (w : World) → WorldTies config w (world_after config past) → GoesOn config past (word w)

  pub by_none : Goes quiet
  by_none past ran w ties = record {
    more = [];
    may = subst (λ (p : List bare.Happening). MayRun config bare.nothing p) (sym (append-nil past)) ran;
    ties = subst (λ (p : List bare.Happening). WorldTies config w (world_after config p)) (sym (append-nil past)) ties;
    lines = ap (λ (p : List bare.Happening). (world_after config p).lines) (append-nil past) ∙ sym (append-nil (world_after config past).lines);
    listed = tt;
  }

  pub by_one : (past : List bare.Happening) → MayRun config bare.nothing past → (h : bare.Happening) → MayHappen config (world_after config past) h → IsListed (world_after config past) h → (b : bare.World) → bare.happens config h (world_after config past) ≡ b
      → (o : Outcome) → WorldTies config o.world b → b.lines ≡ (world_after config past).lines ++ o.lines → GoesOn config past o
  by_one past ran h may shown b is o ties lines = record {
    more = h ∷ [];
    may = may_both config bare.nothing past (h ∷ []) ran (may, tt);
    ties = subst (λ (x : bare.World). WorldTies config o.world x) (sym at) ties;
    lines = ap (λ (x : bare.World). x.lines) at ∙ lines;
    listed = (shown, tt);
  }
    where
      at : run config (past ++ h ∷ []) bare.nothing ≡ b
      at = run_both config bare.nothing past (h ∷ []) ∙ is

  pub then_goes : (past : List bare.Happening) (o : Outcome) (word : World → Outcome) → GoesOn config past o
      → ((next : List bare.Happening) → MayRun config bare.nothing next → WorldTies config o.world (world_after config next) → GoesOn config next (word o.world)) → GoesOn config past (and_then o word)
  then_goes past o word first rest = record {
    more = first.more ++ second.more;
    may = subst (λ (p : List bare.Happening). MayRun config bare.nothing p) along second.may;
    ties = subst (λ (p : List bare.Happening). WorldTies config (word o.world).world (world_after config p)) along second.ties;
    lines =
        ap (λ (p : List bare.Happening). (world_after config p).lines) (sym along) ∙ second.lines ∙ ap (λ l. l ++ (word o.world).lines) first.lines
        ∙ append_assoc (world_after config past).lines o.lines (word o.world).lines;
    listed = listed_both config (world_after config past) first.more second.more first.listed (subst (λ (w : bare.World). AreListed config second.more w) (run_both config bare.nothing past first.more) second.listed);
  }
    where
      second : GoesOn config (past ++ first.more) (word o.world)
      second = rest (past ++ first.more) first.may first.ties

      along : (past ++ first.more) ++ second.more ≡ past ++ (first.more ++ second.more)
      along = append_assoc past first.more second.more

  -- one after another for each of a list
  pub each_goes : {A : Type 0} (word : A → World → Outcome) → ((x : A) → Goes (word x)) → (xs : List A) → Goes (for_each word xs)
  each_goes word goes [] past ran w ties = by_none past ran w ties
  each_goes word goes (x ∷ xs) past ran w ties =
      then_goes past (word x w) (for_each word xs) (goes x past ran w ties) (λ next may tied. each_goes word goes xs next may (word x w).world tied)
