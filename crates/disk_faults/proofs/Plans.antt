-- Operations under a plan without such a fault stop by a fuse alone.
use Rattle.std.proofs.Common.{◌≡◌, Bool, true, false, ◌||◌, List, [], ◌∷◌, None, refl, sym, ap}
use Rattle.disk_model.specs.declared.plan.Plan.{Plan}
use Rattle.disk_model.specs.Causes.{falls, passed, spent}
use Rattle.disk_model.specs.Sim.{Sim}
use Rattle.disk_model.specs.Running.{Op, Asks, Reads, Does, Ran, ran, by_fault, falls_on, op_passed, op_failed}

-- no call is to fail, but by a fuse
pub record Calm (p : Plan) : Type 0 where
  pub fail : p.fail ≡ None
  pub fail_read : p.fail_read ≡ None

-- what operations leave under such a plan
pub record Ends (r : Ran) : Type 0 where
  pub calm : Calm r.disk.trouble.plan
  pub by_fuse : r.done ≡ false → r.disk.trouble.stopped ≡ true

or_true : (x y : Bool) → y ≡ true → (x || y) ≡ true
or_true true y e = refl
or_true false y e = e

or_left : (x y : Bool) → y ≡ false → (x || y) ≡ true → x ≡ true
or_left true y none e = refl
or_left false true none e = sym none
or_left false false none e = e

passed_calm : (op : Op) (d : Sim) → Calm d.trouble.plan → Calm (op_passed op d).trouble.plan
passed_calm Asks d calm = record { fail = calm.fail; fail_read = calm.fail_read }
passed_calm Reads d calm = record { fail = calm.fail; fail_read = ap passed calm.fail_read }
passed_calm (Does call) d calm = record { fail = ap passed calm.fail; fail_read = calm.fail_read }

fails : (op : Op) (d : Sim) → Calm d.trouble.plan → falls_on d.trouble.plan op ≡ true → Ends (record { disk = op_failed op d; done = false })
fails Asks d calm e = record {
  calm = record { fail = calm.fail; fail_read = calm.fail_read };
  by_fuse = λ no. or_true d.trouble.stopped (falls d.trouble.plan.fuse) e;
}
fails Reads d calm e = record {
  calm = record { fail = calm.fail; fail_read = ap spent calm.fail_read };
  by_fuse = λ no. or_true d.trouble.stopped (falls d.trouble.plan.fuse) (or_left (falls d.trouble.plan.fuse) (falls d.trouble.plan.fail_read) (ap falls calm.fail_read) e);
}
fails (Does call) d calm e = record {
  calm = record { fail = ap spent calm.fail; fail_read = calm.fail_read };
  by_fuse = λ no. or_true d.trouble.stopped (falls d.trouble.plan.fuse) (or_left (falls d.trouble.plan.fuse) (falls d.trouble.plan.fail) (ap falls calm.fail) e);
}

by_op : (op : Op) (ops : List Op) (d : Sim) (b : Bool) → Calm d.trouble.plan → falls_on d.trouble.plan op ≡ b → Ends (ran ops (op_passed op d)) → Ends (by_fault op d (λ next. ran ops next) b)
by_op op ops d true calm e more = fails op d calm e
by_op op ops d false calm e more = more

pub ran_ends : (ops : List Op) (d : Sim) → Calm d.trouble.plan → Ends (ran ops d)
unfolding ran
ran_ends [] d calm = record { calm = calm; by_fuse = λ no. absurd cc }
ran_ends (op ∷ ops) d calm = by_op op ops d (falls_on d.trouble.plan op) calm refl (ran_ends ops (op_passed op d) (passed_calm op d calm))
