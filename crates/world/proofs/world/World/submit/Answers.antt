use Rattle.std.proofs.Common.{subst, sym, ◌≡◌, List, [], ◌∷◌, ℕ, ap, ◌∙◌}
use Rattle.mrp_types.specs.declared.value.Entry.{Entry}
use Rattle.mrp_types.specs.declared.value.Value.TheVariants.{Batch}
use Rattle.command_codec.proofs.Sizes.{IsBatch-one}
use Rattle.command_codec.specs.Parts.{IsSpelled}
use Rattle.command_codec.specs.Spelling.{batch_bytes}
use Rattle.world.proofs.Frames.{spelled_batch}
use Rattle.world.proofs.world.World.submit.Goals as goal

pub write_batch-requires : goal.write_batch-requires
write_batch-requires c = rw c.from_ref.ensures.value (IsBatch-one c.args.entry.now c.requires.entry)

pub vote-requires-clause-value : goal.vote-requires-clause-value
vote-requires-clause-value c =
    let written : c.in_ok-write_batch.field-0 ≡ batch_bytes (c.args.entry.now ∷ []) =
    c.in_ok-write_batch.ensures ∙ ap (λ (entries : List Entry). batch_bytes entries) c.from_ref.ensures.value in
    subst (λ (bytes : List ℕ). IsSpelled (Batch bytes)) (sym written) (spelled_batch c.args.entry.now c.requires.entry)
