-- Runs one after another.
use Rattle.std.proofs.Common.{◌≡◌, List, [], ◌∷◌, ◌++◌, refl}
use Rattle.mrp_config.specs.Config.{Config}
use Rattle.bare_world.specs.Worlds.{World, Happening, happens}
use Rattle.bare_world.specs.Runs.{run, MayRun}

pub run_both : (config : Config) (w : World) (first second : List Happening) → run config (first ++ second) w ≡ run config second (run config first w)
run_both config w [] second = refl
run_both config w (h ∷ first) second = run_both config (happens config h w) first second

pub may_both : (config : Config) (w : World) (first second : List Happening) → MayRun config w first → MayRun config (run config first w) second → MayRun config w (first ++ second)
may_both config w [] second a b = b
may_both config w (h ∷ first) second a b = (a.0, may_both config (happens config h w) first second a.1 b)
