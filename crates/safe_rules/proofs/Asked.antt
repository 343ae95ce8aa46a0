-- Each entry of a proposed value was asked.
use Rattle.std.proofs.Common.{ℕ, List, inl, inr, sym, subst}
use Rattle.std.specs.List.{AllByRecursion}
use Rattle.mrp_types.specs.declared.id.NodeId.{NodeId}
use Rattle.mrp_types.specs.declared.id.Party.{Party}
use Rattle.mrp_types.specs.declared.id.Party.TheVariants.{Node}
use Rattle.mrp_types.specs.declared.value.Entry.{Entry}
use Rattle.mrp_types.specs.declared.value.Value.{Value}
use Rattle.mrp_config.specs.Config.{Config}
use Rattle.mrp_config.specs.declared.tables.RingTable.{RingTable}
use Rattle.frames.specs.declared.body.Body.{Body}
use Rattle.frames.specs.declared.body.Body.TheVariants.{Accept}
use Rattle.quorums.specs.Groups.{Has}
use Rattle.quorums.proofs.Each.{mapped}
use Rattle.faithful.proofs.Quorum.{all_has}
use Rattle.plain_model.specs.Fold.{entries_of_value}
use Rattle.vote_state.specs.declared.cast.Cast.{Cast}
use Rattle.vote_state.specs.declared.change.Change.{Change}
use Rattle.vote_state.specs.declared.change.Change.TheVariants as change
use Rattle.vote_state.specs.State.{State, ring_at}
use Rattle.step_valid.proofs.Batches.{all_at}
use Rattle.protocol.specs.Node.{Work, Records, Nothing, Saves, Compacts}
use Rattle.beside_rings.specs.Beside.{changes_in}
use Rattle.bare_world.specs.Worlds.{Happening, Host, Up, Down, World}
use Rattle.ask_laws.specs.Asks.{asked_in, IsAsked}
use Rattle.ask_laws.specs.Carried.{ChangeCarries, HostCarries, PartyCarries, SentCarries, StateCarries, ValueCarries, WorkCarries, WorldCarries}
use Rattle.ask_laws.proofs.Reading.{entries-asked}
use Rattle.ask_laws.proofs.Told.{below-next}
use Rattle.ask_laws.proofs.Worlds.{all_keep}
use Rattle.mrp_config.specs.Valid.{IsValid}
use Rattle.line_runs.specs.Laws.{IsRun}
use Rattle.answer_runs.proofs.Laws.{in_place}
use Rattle.ring_runs.specs.Histories.{History, at_first, history}
use Rattle.ring_runs.specs.Votes.{HasCast, HasSent, HasVoted, IsInAccept, IsProposed, MayHold, MayKeep}
use Rattle.ring_runs.proofs.Whole.{world_of}
use Rattle.safe_rules.specs.Rules.{AskRule, WasAsked}
use Rattle.safe_rules.proofs.Done.{DoneCarries, OneCarries, done_carries}

module _ (Is : ℕ → Entry → Type 0) (Valid : Type 0) (table : RingTable) (h : History) (w : WorldCarries Is Valid h.world) (done : DoneCarries Is h) where
  recorded_carries : (work : Work) (vote : Change) → WorkCarries Is work → Has (changes_in work) vote → ChangeCarries Is vote
  recorded_carries (Records changes) vote all has = all_has (ChangeCarries Is) changes vote all has
  recorded_carries Nothing vote all has = absurd has
  recorded_carries (Saves tuple state) vote all has = absurd has
  recorded_carries Compacts vote all has = absurd has

  cast_carries : (id : NodeId) (ballot i : ℕ) (value : Value) → HasCast table h id ballot i value → ValueCarries Is table.id.0 value
  cast_carries id ballot i value cast =
      subst (λ (v : Value). ValueCarries Is table.id.0 v) (sym cast.of_value)
      (recorded_carries cast.work (change.Vote table.id cast.vote) (all_has (OneCarries Is) h.done (id, cast.work) done.done cast.there) cast.recorded)

  kept_carries : (host : Host) (state : State) → HostCarries Is Valid host → MayKeep host state → StateCarries Is state
  kept_carries (Up view) state carries keeps = subst (λ (s : State). StateCarries Is s) (sym keeps) carries.state
  kept_carries (Down durable pending) state carries (inl same) = subst (λ (s : State). StateCarries Is s) (sym same) carries.0.state
  kept_carries (Down durable pending) state carries (inr same) = subst (λ (s : State). StateCarries Is s) (sym same) carries.1.state

  held_carries : (id : NodeId) (ballot i : ℕ) (value : Value) → MayHold table h id ballot i value → ValueCarries Is table.id.0 value
  held_carries id ballot i value may =
      (all_at (λ (e : ℕ × Cast). ValueCarries Is table.id.0 e.1.value) (ring_at may.state table.id).votes i (record { ballot = ballot; value = value })
      (kept_carries (h.world.hosts id.0) may.state (w.hosts id.0) may.keeps table.id.0) may.held).1

  voted_carries : (id : NodeId) (ballot i : ℕ) (value : Value) → HasVoted table h id ballot i value → ValueCarries Is table.id.0 value
  voted_carries id ballot i value (inl cast) = cast_carries id ballot i value cast
  voted_carries id ballot i value (inr may) = held_carries id ballot i value may

  sent_carries : (id : NodeId) (body : Body) → HasSent h id body → PartyCarries Is Valid (Node id) body
  sent_carries id body has =
      subst (λ (b : Body). PartyCarries Is Valid (Node id) b) has.same
      (subst (λ (p : Party). PartyCarries Is Valid p has.sent.frame.body) has.by (all_has (SentCarries Is Valid) h.world.frames has.sent w.frames has.there))

  accept_carries : (ballot i : ℕ) (value : Value) → IsInAccept table h ballot i value → ValueCarries Is table.id.0 value
  accept_carries ballot i value is = sent_carries is.from (Accept table.id ballot is.lo is.hi is.mask value) is.sent

  pub proposed_carries : (ballot i : ℕ) (value : Value) → IsProposed table h ballot i value → ValueCarries Is table.id.0 value
  proposed_carries ballot i value (inl is) = accept_carries ballot i value is
  proposed_carries ballot i value (inr is) = voted_carries is.id ballot i value is.voted

module _ (c : Config) (hs : List Happening) (r : IsRun c hs) where
  carried : WorldCarries (IsAsked c (asked_in c hs)) (IsValid c) (history c hs at_first).world
  carried = subst (λ (w : World). WorldCarries (IsAsked c (asked_in c hs)) (IsValid c) w) (sym (world_of c at_first hs)) (all_keep c hs r.may).carried

  asked_entry : (ring : ℕ) (e : Entry) → IsAsked c (asked_in c hs) ring e → WasAsked c hs ring e
  asked_entry ring e is = record { asked = is; below = (below-next c hs ring e r.may is).1 }

  entries_were : (table : RingTable) (ballot i : ℕ) (value : Value) → IsProposed table (history c hs at_first) ballot i value → AllByRecursion (WasAsked c hs table.id.0) (entries_of_value value)
  entries_were table ballot i value is =
      mapped (IsAsked c (asked_in c hs) table.id.0) (WasAsked c hs table.id.0) (asked_entry table.id.0) (entries_of_value value)
      (entries-asked c (asked_in c hs) table.id.0 value
      (proposed_carries (IsAsked c (asked_in c hs)) (IsValid c) table (history c hs at_first) carried (done_carries c hs r.may) ballot i value is))

  pub asks : AskRule c hs
  asks = record {
    proposed = λ table has ballot i value is. entries_were table ballot i value is;
    answered = λ client seq bytes has.
        let a = in_place c hs r client seq bytes has in
        record { command = a.0; asked = a.1; place = a.2 };
  }
