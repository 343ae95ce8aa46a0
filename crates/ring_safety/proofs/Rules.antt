-- The rules, of worlds that keep the invariant.
use Rattle.std.proofs.Common.{◌≡◌, ◌⊎◌, inl, inr, ℕ, suc, ◌<◌, ◌≤◌, List, refl, sym, ap, subst, arith}
use Rattle.quorums.specs.Groups.{Has}
use Rattle.ring_safety.specs.Faces.{Proposal, Promise, Face, rank, owner}
use Rattle.ring_safety.specs.Deeds.{IsProposed}
use Rattle.ring_safety.specs.Worlds.{World, Event, durables, run, CanRun, IsFaceOf, Chosen}
use Rattle.ring_safety.specs.Rules.{Grows, KeepsPromise, KeepsVote, PromiseRule, VoteRule, ProposeRule, ChooseRule, OneValueRule, StaysRule}
use Rattle.ring_safety.specs.Invariant.{Local, Sound}
use Rattle.ring_safety.proofs.Local.{Grows-of_eq, Grows-trans}
use Rattle.ring_safety.proofs.Choosing.{all_for, one_chosen}
use Rattle.ring_safety.proofs.Worlds.{Sound-run, either_face, run_more, later_more}

below_or_kept : (trim i b r : ℕ) → (trim ≤ i → b < r) → (i < trim) ⊎ (b < r)
below_or_kept trim i b r h = grind arith

module _ {V : Type 0} (n : ℕ) (w : World V) (sound : Sound n w) where
  pub in_pending : (a : ℕ) (f : Face V) → IsFaceOf w a f → Grows f (w a).pending
  in_pending a f (inl e) = Grows-trans (Grows-of_eq e) (sound.pending a).grown
  in_pending a f (inr e) = Grows-of_eq e

  -- what a face knows as proposed stands in the pending face of the ballot's owner
  pub in_owner : (a : ℕ) (f : Face V) → IsFaceOf w a f → (p : Proposal V) → IsProposed n (durables w) f p → Has (w (owner n p.ballot)).pending.proposals p
  in_owner a f is p (inl h) = (sound.pending (owner n p.ballot)).grown.proposals p h
  in_owner a f is p (inr h) =
      subst (λ k. Has (w k).pending.proposals p) (sym ((either_face n w sound a f is).owned p h)) ((in_pending a f is).proposals p h)

  -- so two of them, of one ballot and instance, have one value
  one_proposed : (a : ℕ) (f : Face V) → IsFaceOf w a f → (b : ℕ) (g : Face V) → IsFaceOf w b g → (p q : Proposal V) → IsProposed n (durables w) f p → IsProposed n (durables w) g q
      → p.ballot ≡ q.ballot → p.instance ≡ q.instance → p.value ≡ q.value
  one_proposed a f is b g iz p q h i same at =
      (sound.pending (owner n q.ballot)).one_value p (subst (λ k. Has (w k).pending.proposals p) (ap (owner n) same) (in_owner a f is p h)) q (in_owner b g iz q i) same at

  pub keeps_promise : (a : ℕ) (f : Face V) → Local n (durables w) a f → (p : Promise V) → Has f.promises p → KeepsPromise f p
  keeps_promise a f k p h = record { promised = k.promised p h; told = k.told_cast p h; not_above = k.told_promised p h; outdone = k.outdone p h }

  pub keeps_vote : (a : ℕ) (f : Face V) → IsFaceOf w a f → (c : Proposal V) → Has f.casts c → KeepsVote f c
  keeps_vote a f is c h =
      let k : Local n (durables w) a f = either_face n w sound a f is in
      record {
        promised = k.cast_promised c h;
        kept = below_or_kept f.trim c.instance c.ballot (rank (f.votes c.instance)) (k.kept c h);
        same = λ vote e s. one_proposed a f is a f is (record { ballot = vote.ballot; instance = c.instance; value = vote.value }) c
            (k.proposed _ (k.held_cast c.instance vote e)) (k.proposed c h) s refl;
      }

  pub propose_holds : ProposeRule n w
  propose_holds = record {
    one = λ a f is b g iz p q h i. one_proposed a f is b g iz p q (inr h) (inr i);
    backed = λ a f is. (either_face n w sound a f is).backed;
  }

pub Chosen-more : {V : Type 0} (n : ℕ) (old new : ℕ → Face V) → ((k : ℕ) → Grows (old k) (new k)) → (c : Proposal V) → Chosen n old c → Chosen n new c
Chosen-more n old new more c h = record { members = h.members; majority = h.majority; cast = λ k lt m. (more k).casts c (h.cast k lt m) }

module _ {V : Type 0} (n : ℕ) (w : World V) (sound : Sound n w) (events : List (Event V)) (can : CanRun n w events) where
  later : Sound n (run events w)
  later = Sound-run n w sound events can

  chosen_later : (c : Proposal V) → Chosen n (durables w) c → Chosen n (durables (run events w)) c
  chosen_later = Chosen-more n (durables w) (durables (run events w)) (run_more n w sound events can)

  pub promise_holds : PromiseRule w (run events w)
  promise_holds = record {
    made = λ a f is. keeps_promise n (run events w) later a f (either_face n (run events w) later a f is);
    sent = λ a f is p h. keeps_promise n (run events w) later a f (either_face n (run events w) later a f is) p ((later_more n w sound events can a f is).promises p h);
  }

  pub vote_holds : VoteRule n w (run events w)
  vote_holds = record {
    held = λ a f is i v e.
        let k = either_face n (run events w) later a f is in
        record { cast = k.held_cast i v e; promised = k.held_promised i v e; untrimmed = k.held_untrimmed i v e };
    proposed = λ a f is. (either_face n (run events w) later a f is).proposed;
    kept = keeps_vote n (run events w) later;
    cast = λ a f is c h. keeps_vote n (run events w) later a f is c ((later_more n w sound events can a f is).casts c h);
  }

  pub choose_holds : ChooseRule n w (run events w)
  choose_holds c chosen a f is p h i le =
      all_for n (durables (run events w)) later.durable c (chosen_later c chosen) (suc p.ballot) a f (either_face n (run events w) later a f is) p h i le (omega arith)

  pub one_value_holds : OneValueRule n w (run events w)
  one_value_holds c d p q = one_chosen n (durables (run events w)) later.durable c d (chosen_later c p) q

  pub stays_holds : StaysRule n w (run events w)
  stays_holds = record { grown = later_more n w sound events can; chosen = chosen_later }
