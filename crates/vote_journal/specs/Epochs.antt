-- The order of epochs in a journal.
use Rattle.std.specs.Prelude.{ℕ, nat_lt, Bool, true, ◌&&◌, List, [], ◌∷◌}
use Rattle.vote_state.specs.declared.change.Change.{Change}
use Rattle.vote_state.specs.declared.change.Change.TheVariants.{Epoch, Promise, Vote, Trim}

-- whether each epoch is greater than the one before it, the first than this one
abbrev pub epochs_rise : ℕ → List Change → Bool
epochs_rise before [] = true
epochs_rise before (Epoch epoch ∷ changes) = nat_lt before epoch && epochs_rise epoch changes
epochs_rise before (Promise ring ballot ∷ changes) = epochs_rise before changes
epochs_rise before (Vote ring v ∷ changes) = epochs_rise before changes
epochs_rise before (Trim ring inst ∷ changes) = epochs_rise before changes
