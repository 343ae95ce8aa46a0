-- Runs of events and lists of deeds, put one after the other.
use Rattle.std.proofs.Common.{◌≡◌, ℕ, List, [], ◌∷◌, ◌++◌, refl}
use Rattle.ring_safety.specs.Deeds.{Deed, MayAll, done, all_done}
use Rattle.ring_safety.specs.Faces.{Face}
use Rattle.ring_safety.specs.Worlds.{World, Event, CanHappen, CanRun, happens, run}

pub can_more : {V : Type 0} (n : ℕ) (w : World V) (events : List (Event V)) (e : Event V) → CanRun n w events → CanHappen n (run events w) e
    → CanRun n w (events ++ e ∷ [])
can_more n w [] e can may = (may, tt)
can_more n w (x ∷ xs) e can may = (can.0, can_more n (happens x w) xs e can.1 may)

pub run_one_more : {V : Type 0} (w : World V) (events : List (Event V)) (e : Event V) → run (events ++ e ∷ []) w ≡ happens e (run events w)
run_one_more w [] e = refl
run_one_more w (x ∷ xs) e = run_one_more (happens x w) xs e

pub may_both : {V : Type 0} (n : ℕ) (faces : ℕ → Face V) (a : ℕ) (f : Face V) (first second : List (Deed V)) → MayAll n faces a f first
    → MayAll n faces a (all_done first f) second → MayAll n faces a f (first ++ second)
may_both n faces a f [] second p q = q
may_both n faces a f (d ∷ ds) second p q = (p.0, may_both n faces a (done d f) ds second p.1 q)

pub done_both : {V : Type 0} (f : Face V) (first second : List (Deed V)) → all_done (first ++ second) f ≡ all_done second (all_done first f)
done_both f [] second = refl
done_both f (d ∷ ds) second = done_both (done d f) ds second
