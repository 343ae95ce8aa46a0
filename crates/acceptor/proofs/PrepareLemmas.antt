-- The row of Prepare, case by case.
use Rattle.std.proofs.Common.{◌≡◌, ℕ, ◌<◌, ◌≤◌, max, true, false, List, [], ◌∷◌, ◌++◌, sym, ◌∙◌, ap, arith}
use Rattle.std.specs.Prelude.{nat_lt, Some}
use Rattle.std.proofs.lemmas.Bool.Decides.{nat_tests}
use Rattle.std.proofs.lemmas.List.{append-nil}
use Rattle.mrp_types.specs.declared.id.NodeId.{NodeId}
use Rattle.mrp_types.specs.declared.id.RingId.{RingId}
use Rattle.mrp_types.specs.declared.voted.Voted.{Voted}
use Rattle.mrp_types.specs.declared.members.RingView.{RingView}
use Rattle.range_map.specs.Entries.{entries_from}
use Rattle.vote_state.specs.declared.cast.Cast.{Cast}
use Rattle.vote_state.specs.declared.change.Change.{Change}
use Rattle.vote_state.specs.declared.change.Change.TheVariants as changes
use Rattle.vote_state.specs.Ranges.{ranges_of}
use Rattle.vote_state.specs.State.{State, trim_at, votes_from}
use Rattle.ring_link.specs.Silence.{Link}
use Rattle.plain_model.specs.Pages.{left_out}
use Rattle.frames.specs.declared.body.Body.TheVariants.{Promise}
use Rattle.frames.specs.declared.sent.Sent.{Sent}
use Rattle.protocol.specs.Parts.{Ring, Part}
use Rattle.protocol.specs.Rings.{is_node, owner_of, sends}
use Rattle.protocol.specs.Acceptor.{refuses, votes_page, page_end, promise_of, prepares}
use Rattle.ring_view.specs.Kept.{OnlyRaises}
use Rattle.ring_view.specs.Views.{Shows, Adds}
use Rattle.ring_view.proofs.ViewLemmas.{shown_votes}

pub lt-true : (a b : ℕ) → a < b → nat_lt a b ≡ true
lt-true a b h = grind (arith, nat_tests)

pub lt-false : (a b : ℕ) → b ≤ a → nat_lt a b ≡ false
lt-false a b h = grind (arith, nat_tests)

module _ (ring : Ring) (part : Part) (from : NodeId) (ballot lo : ℕ) (old : List Change) (out : List Sent) where
  pub prepare_dropped : false ≡ is_node from (owner_of ring ballot) → Adds (prepares ring part from ballot lo) old old out out
  unfolding prepares
  prepare_dropped owned = rw (sym owned) (record { changes = sym (append-nil old); frames = sym (append-nil out) })

  pub prepare_refused : (new_out : List Sent) → true ≡ is_node from (owner_of ring ballot) → ballot < part.kept.promise → new_out ≡ out ++ (refuses ring (Some from) ballot part).frames
      → Adds (prepares ring part from ballot lo) old old out new_out
  unfolding prepares
  prepare_refused new_out owned below sent = rw (sym owned, lt-true ballot part.kept.promise below) (record { changes = sym (append-nil old); frames = sent })

  pub prepare_told : (new : List Change) (new_out : List Sent) → true ≡ is_node from (owner_of ring ballot) → part.kept.promise ≤ ballot → new ≡ old ++ changes.Promise ring.id ballot ∷ []
      → new_out ≡ out ++ sends ring (Some from) (promise_of ring ballot lo part.kept) → Adds (prepares ring part from ballot lo) old new out new_out
  unfolding prepares
  prepare_told new new_out owned up changed sent = rw (sym owned, lt-false ballot part.kept.promise up) (record { changes = changed; frames = sent })

-- the body of a promise, from what the state holds
pub promise_is : (view : RingView) (durable : State) (cs : List Change) (ring : Ring) (link : Link) (part : Part) → Shows view durable cs ring link part → OnlyRaises ring.id (trim_at durable ring.id) cs
    → (ballot lo hi trim : ℕ) (page votes : List Voted) → part.kept.trim ≡ trim → votes ≡ votes_from durable view.ring (max lo trim) → page ≡ votes_page votes → hi ≡ page_end (left_out (votes_page votes) votes)
    → Promise view.ring ballot lo hi trim page ≡ promise_of ring ballot lo part.kept
promise_is view durable cs ring link part shows only ballot lo hi trim page votes trim_is votes_are page_is hi_is =
    let held : votes ≡ ranges_of (entries_from (max lo part.kept.trim) part.kept.votes) =
    votes_are ∙ ap (λ (t : ℕ). votes_from durable view.ring (max lo t)) (sym trim_is)
    ∙ ap (λ (es : List (ℕ × Cast)). ranges_of es) (sym (shown_votes view durable cs ring link part shows (max lo part.kept.trim) only (omega arith))) in
    ap (λ (id : RingId). Promise id ballot lo hi trim page) shows.is_view.id
    ∙ ap (λ (h : ℕ). Promise ring.id ballot lo h trim page) hi_is
    ∙ ap (λ (t : ℕ). Promise ring.id ballot lo (page_end (left_out (votes_page votes) votes)) t page) (sym trim_is)
    ∙ ap (λ (p : List Voted). Promise ring.id ballot lo (page_end (left_out (votes_page votes) votes)) part.kept.trim p) page_is
    ∙ ap (λ (vs : List Voted). Promise ring.id ballot lo (page_end (left_out (votes_page vs) vs)) part.kept.trim (votes_page vs)) held
