-- An entry whose number has come before is passed over.
use Rattle.std.proofs.Common.{◌≡◌, Bool, true, false, List, [], ◌∷◌, ◌++◌, refl, ◌∙◌, ap}
use Rattle.std.specs.Prelude.{not, ◌&&◌}
use Rattle.mrp_types.specs.declared.value.Entry.{Entry}
use Rattle.mrp_config.specs.declared.tables.PartitionTable.{PartitionTable}
use Rattle.plain_model.specs.Fold.{Answered, concerns, counts_after, has_shown, replica_after, replica_of}
use Rattle.plain_model.specs.Replicas.{Applied, apply}
use Rattle.plain_model.proofs.FoldNumbers.{answered-passed}
use Rattle.plain_model.proofs.FoldLaw.{reply-follows}

module _ (p : PartitionTable) (es : List Entry) (e : Entry) (shown : has_shown p e.client e.seq es ≡ true) where
  passed : counts_after p es e ≡ false
  passed = ap (λ (t : Bool). concerns p e && not t) shown ∙ by (concerns p e)
    where
      by : (t : Bool) → (t && not true) ≡ false
      by true = refl
      by false = refl

  pub repeat_left : replica_after p (es ++ e ∷ []) ≡ replica_after p es
  repeat_left = ap (λ (answered : List Answered). replica_of p answered) (answered-passed p es e passed)

  pub repeat_applied : (apply p (replica_after p es) e).replica ≡ replica_after p es
  repeat_applied = ap (λ (applied : Applied). applied.replica) (reply-follows p es e) ∙ repeat_left
