use Rattle.std.proofs.Common.{◌≡◌, inl, inr, ℕ, ◌<◌, ◌-◌, ◌^◌, ◌==◌, Bool, true, false, if◌then◌else◌, List, Result, Ok, Err, refl, sym, ap, ◌∙◌, subst}
use Rattle.std.proofs.lemmas.Bool.{eqb-true}
use Rattle.mrp_types.specs.declared.id.NodeId.{NodeId}
use Rattle.vote_state.specs.State.{State, taken}
use Rattle.vote_journal.specs.declared.fault.OpenFault.{OpenFault}
use Rattle.vote_journal.specs.declared.fault.OpenFault.TheVariants.{EpochLimit, Full}
use Rattle.vote_journal.specs.Journal.{Journal, state_of, opened_state, opening_of, next_epoch, opened_end, OpensAs, OpensBy, OpensAgain}
use Rattle.vote_journal.proofs.Recording.{ok}
use Rattle.vote_journal.proofs.laws.what_was_written_is_opened.Goals as goal

-- an opening of records that stand for a state
again : (id : NodeId) (limit : ℕ) (records : List (List ℕ)) (s : State) (o : Result State OpenFault) (r : Result Journal OpenFault) → state_of id records ≡ Ok s → opened_state s ≡ o → OpensAs id limit records o r → OpensAgain id limit records s r
again id limit records s (Ok n) (Ok j) is opened opens =
    let room = opens.3 s is in
    (opens.0, opened ∙ ap Ok (sym opens.1), opens.2, room.0, room.1)
again id limit records s (Ok n) (Err f) is opened (inl long) =
    let same : long.0 ≡ s = one_state long.0 s (sym long.1 ∙ is) in
    inr (inl (long.2 ∙ ap (λ (x : State). Full (opened_end id records x)) same, subst (λ (x : State). limit < opened_end id records x) same long.3))
  where
    one_state : (a b : State) → ok a ≡ ok b → a ≡ b
    one_state a b h = cc
again id limit records s (Ok n) (Err f) is opened (inr want) = inr (inr want)
again id limit records s (Err e) (Ok j) is opened opens = absurd opens
again id limit records s (Err e) (Err f) is opened (inl same) = inl (last (s.epoch == 2 ^ 32 - 1) refl opened)
  where
    last : (t : Bool) → (s.epoch == 2 ^ 32 - 1) ≡ t → (if t then Err EpochLimit else Ok (taken (next_epoch s) s)) ≡ Err e → (f ≡ EpochLimit) × (s.epoch ≡ 2 ^ 32 - 1)
    last true at is = (let limit_is : EpochLimit ≡ e = cc in same ∙ sym limit_is, eqb-true s.epoch (2 ^ 32 - 1) at)
    last false at is = absurd cc
again id limit records s (Err e) (Err f) is opened (inr want) = inr (inr want)

pub returns : goal.returns
returns c = λ id limit areas records s r found is opens.
    let here : OpensBy id limit (Ok records) r = subst (λ x. OpensBy id limit x r) found opens in
    again id limit records s (opening_of id records) r is (sym (opening_is id records s is)) here
  where
    opening_is : (id : NodeId) (records : List (List ℕ)) (s : State) → state_of id records ≡ Ok s → opening_of id records ≡ opened_state s
    opening_is id records s is = rw is refl
