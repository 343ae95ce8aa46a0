use Rattle.std.proofs.Common.{List, [], ◌∷◌, ◌++◌}
use Rattle.mrp_config.specs.Config.{Config}
use Rattle.world_model.specs.Worlds.{World, started}
use Rattle.world_model.specs.Runs.{Happening, outcome_of, ran_from, MayHappen, MayRun}
use Rattle.world_model.proofs.laws.runs_go_on.Goals as goal

goes_on : (config : Config) (xs : List Happening) (x : Happening) (w : World) → MayRun config xs w → MayHappen (ran_from config xs w).world x → MayRun config (xs ++ x ∷ []) w
goes_on config [] x w ran may = (may, tt)
goes_on config (y ∷ ys) x w ran may = (ran.0, goes_on config ys x (outcome_of config y w).world ran.1 may)

front_of : (config : Config) (xs ys : List Happening) (w : World) → MayRun config (xs ++ ys) w → MayRun config xs w
front_of config [] ys w ran = tt
front_of config (x ∷ xs) ys w ran = (ran.0, front_of config xs ys (outcome_of config x w).world ran.1)

pub returns-clause-none : goal.returns-clause-none
returns-clause-none c = λ config. tt

pub returns-clause-more : goal.returns-clause-more
returns-clause-more c = λ config xs x ran may. goes_on config xs x (started config).world ran may

pub returns-clause-front : goal.returns-clause-front
returns-clause-front c = λ config xs ys ran. front_of config xs ys (started config).world ran
