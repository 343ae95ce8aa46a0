-- The rows of a told trim and of Fetch, case by case.
use Rattle.std.proofs.Common.{◌≡◌, ℕ, ◌<◌, ◌≤◌, List, [], ◌∷◌, ◌++◌, refl, sym, ◌∙◌, ap}
use Rattle.std.specs.Prelude.{Some}
use Rattle.std.proofs.lemmas.List.{append-nil}
use Rattle.mrp_types.specs.declared.id.NodeId.{NodeId}
use Rattle.mrp_types.specs.declared.id.RingId.{RingId}
use Rattle.mrp_types.specs.declared.voted.Decided.{Decided}
use Rattle.range_map.specs.Entries.{entries_from}
use Rattle.range_map.proofs.SetLemmas.{le-true, le-false}
use Rattle.vote_state.specs.declared.change.Change.{Change}
use Rattle.vote_state.specs.declared.change.Change.TheVariants.{Trim}
use Rattle.frames.specs.declared.body.Body.TheVariants.{Chosen}
use Rattle.frames.specs.declared.sent.Sent.{Sent}
use Rattle.protocol.specs.Parts.{Ring, Part}
use Rattle.protocol.specs.Rings.{sends}
use Rattle.protocol.specs.Effects.{no_effects}
use Rattle.protocol.specs.Learner.{learned_ranges}
use Rattle.protocol.specs.Acceptor.{trims_to, ranges_page, tells_trim, tells_ranges, fetches}
use Rattle.ring_view.specs.Views.{Adds}
use Rattle.acceptor.proofs.PrepareLemmas.{lt-true, lt-false}

-- ---- a told trim

pub trim_stays : (ring : Ring) (part : Part) (trim : ℕ) (old : List Change) → trim ≤ part.kept.trim → old ≡ old ++ (trims_to ring trim (no_effects part)).changes
trim_stays ring part trim old h = rw (le-true trim part.kept.trim h) (sym (append-nil old))

pub trim_rises : (ring : Ring) (part : Part) (trim : ℕ) (id : RingId) (old new : List Change) → part.kept.trim < trim → id ≡ ring.id → new ≡ old ++ Trim id trim ∷ [] → new ≡ old ++ (trims_to ring trim (no_effects part)).changes
trim_rises ring part trim id old new h same is = is ∙ ap (λ (i : RingId). old ++ Trim i trim ∷ []) same ∙ rw (le-false trim part.kept.trim h) refl

-- ---- Fetch

some_told : (ring : Ring) (to : NodeId) (page : List Decided) → (page ≡ [] → ⊥) → tells_ranges ring to page ≡ sends ring (Some to) (Chosen ring.id page)
some_told ring to [] some = absurd (some refl)
some_told ring to (range ∷ ranges) some = refl

module _ (ring : Ring) (part : Part) (from : NodeId) (lo : ℕ) (old : List Change) (out : List Sent) where
  abbrev asked : List Decided
  asked = ranges_page (learned_ranges (entries_from lo part.learner.held))

  pub fetch_trimmed : (new_out : List Sent) → lo < part.kept.trim → new_out ≡ out ++ (tells_trim ring (Some from) part).frames → Adds (fetches ring part from lo) old old out new_out
  unfolding fetches
  fetch_trimmed new_out below sent = rw (lt-true lo part.kept.trim below) (record { changes = sym (append-nil old); frames = sent })

  pub fetch_nothing : part.kept.trim ≤ lo → asked ≡ [] → Adds (fetches ring part from lo) old old out out
  unfolding fetches
  fetch_nothing above none = rw (lt-false lo part.kept.trim above) (record {
    changes = sym (append-nil old);
    frames = sym (append-nil out) ∙ ap (λ (page : List Decided). out ++ tells_ranges ring from page) (sym none);
  })

  pub fetch_told : (page : List Decided) (id : RingId) (new_out : List Sent) → part.kept.trim ≤ lo → page ≡ asked → (page ≡ [] → ⊥) → id ≡ ring.id → new_out ≡ out ++ sends ring (Some from) (Chosen id page)
      → Adds (fetches ring part from lo) old old out new_out
  unfolding fetches
  fetch_told page id new_out above is some same sent = rw (lt-false lo part.kept.trim above) (record {
    changes = sym (append-nil old);
    frames = sent ∙ ap (λ (i : RingId). out ++ sends ring (Some from) (Chosen i page)) same ∙ ap (λ (fs : List Sent). out ++ fs) (sym (some_told ring from page some))
        ∙ ap (λ (p : List Decided). out ++ tells_ranges ring from p) is;
  })
