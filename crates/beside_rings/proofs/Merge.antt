-- A merge touches no ring: it delivers, and replies to clients.
use Rattle.std.proofs.Common.{ℕ, zero, suc, ◌+◌, ◌^◌, List, [], ◌∷◌, map, Option, Some, None, refl}
use Rattle.std.specs.List.{AllByRecursion}
use Rattle.mrp_types.specs.declared.id.NodeId.{NodeId}
use Rattle.mrp_types.specs.declared.id.RingId.{RingId}
use Rattle.mrp_types.specs.declared.value.Value.{Value}
use Rattle.mrp_types.specs.declared.value.Value.TheVariants.{Skip, Batch}
use Rattle.mrp_types.specs.declared.value.Entry.{Entry}
use Rattle.mrp_config.specs.Config.{Config}
use Rattle.plain_model.specs.Replicas.{AppliedAll, applies, entries_of_batch}
use Rattle.protocol.specs.Lines.{Deliver}
use Rattle.protocol.specs.Node.{StepSoFar, Service, Stage, Recovering, Ready, Standing, prints, with_stage}
use Rattle.protocol.specs.Merging.{reply_line, reply_frame, replying, value_at_place, place_of, skipped, passed_batch, takes_place, merges_place, merges_stage, merges_service, merges_up_to, merges}
use Rattle.beside_rings.specs.Beside.{IsQuietSent, IsNoLearn, Untouched}
use Rattle.beside_rings.proofs.Following.{Follows-refl, Follows-more, AreSame-refl, Untouched-refl, Untouched-trans, untouched_prints, untouched_stage}

replies_quiet : (node : NodeId) (service : Service) (replied : List (ℕ × Entry × List ℕ)) → AllByRecursion IsQuietSent (map (reply_frame node service) replied)
replies_quiet node service [] = tt
replies_quiet node service (r ∷ rs) = (tt, replies_quiet node service rs)

lines_quiet : (node : NodeId) (place : RingId × ℕ) (replied : List (ℕ × Entry × List ℕ)) → AllByRecursion IsNoLearn (map (reply_line node place) replied)
lines_quiet node place [] = tt
lines_quiet node place (r ∷ rs) = (tt, lines_quiet node place rs)

untouched_replying : (service : Service) (place : RingId × ℕ) (replied : List (ℕ × Entry × List ℕ)) (a : StepSoFar) → Untouched a (replying service place replied a)
untouched_replying service place replied a = record {
  id = refl;
  journal = refl;
  parts = AreSame-refl a.view.parts;
  changes = refl;
  frames = Follows-refl IsQuietSent a.frames;
  replies = Follows-more IsQuietSent a.replies (map (reply_frame a.view.id service) replied) (replies_quiet a.view.id service replied);
  lines = Follows-more IsNoLearn a.lines (map (reply_line a.view.id place) replied) (lines_quiet a.view.id place replied);
}

takes_untouched : (config : Config) (service : Service) (standing : Standing) (place : RingId × ℕ) (value : Value) (a : StepSoFar) → Untouched a (takes_place config service standing place value a)
takes_untouched config service standing place Skip a = untouched_stage service (Ready (skipped config standing)) a
takes_untouched config service standing place (Batch batch) a = delivered (applies service.partition standing.replica (entries_of_batch batch))
  where
    delivered : (applied : AppliedAll) → Untouched a (with_stage service (Ready (record (passed_batch config standing) { replica = applied.replica }))
        (replying service place applied.replies (prints (Deliver a.view.id place.0 place.1 ∷ []) a)))
    delivered applied =
        let printed : StepSoFar = prints (Deliver a.view.id place.0 place.1 ∷ []) a in
        let replied : StepSoFar = replying service place applied.replies printed in
        Untouched-trans (untouched_prints (Deliver a.view.id place.0 place.1 ∷ []) (tt, tt) a)
        (Untouched-trans (untouched_replying service place applied.replies printed)
        (untouched_stage service (Ready (record (passed_batch config standing) { replica = applied.replica })) replied))

merges_up : (most : ℕ) (config : Config) (a : StepSoFar) → Untouched a (merges_up_to most config a)
merges_up zero config a = Untouched-refl a
merges_up (suc most) config a = by_service a.view.service (λ b. merges_up most config b)
  where
    by_value : (service : Service) (standing : Standing) (place : RingId × ℕ) (v : Option Value) → ((b : StepSoFar) → Untouched b (merges_up_to most config b))
        → Untouched a (merges_place (merges_up_to most config) config service standing place v a)
    by_value service standing place None rest = Untouched-refl a
    by_value service standing place (Some value) rest = Untouched-trans (takes_untouched config service standing place value a) (rest (takes_place config service standing place value a))

    by_stage : (service : Service) (stage : Stage) → ((b : StepSoFar) → Untouched b (merges_up_to most config b)) → Untouched a (merges_stage (merges_up_to most config) config service stage a)
    by_stage service (Recovering attempt) rest = Untouched-refl a
    by_stage service (Ready standing) rest = by_value service standing (place_of config standing) (value_at_place a.view (place_of config standing)) rest

    by_service : (service : Option Service) → ((b : StepSoFar) → Untouched b (merges_up_to most config b)) → Untouched a (merges_service (merges_up_to most config) config service a)
    by_service None rest = Untouched-refl a
    by_service (Some service) rest = by_stage service service.stage rest

pub merges_untouched : (config : Config) (a : StepSoFar) → Untouched a (merges config a)
unfolding merges
merges_untouched config a = merges_up (2 ^ 44 + 1) config a
