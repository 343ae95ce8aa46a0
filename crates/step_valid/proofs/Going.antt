-- A step on its way stays valid, whatever the rules are that it makes.
use Rattle.std.proofs.Common.{◌≡◌, ℕ, zero, suc, ◌^◌, Bool, true, false, List, [], ◌∷◌, Option, Some, None, refl, sym, ◌∙◌, subst}
use Rattle.std.specs.Prelude.{◌==◌, if◌then◌else◌}
use Rattle.std.specs.List.{AllByRecursion}
use Rattle.range_map.specs.Entries.{IsIncreasingFrom}
use Rattle.mrp_types.specs.declared.id.NodeId.{NodeId}
use Rattle.mrp_types.specs.declared.id.RingId.{RingId}
use Rattle.mrp_types.specs.declared.voted.Decided.{Decided}
use Rattle.mrp_config.specs.Config.{Config}
use Rattle.vote_state.specs.State.{IsKept, IsState}
use Rattle.vote_state.specs.Valid.{IsRing, IsChange}
use Rattle.vote_state.specs.declared.change.Change.{Change}
use Rattle.vote_state.proofs.StateLemmas.{append_all}
use Rattle.vote_journal.specs.Journal.{Journal}
use Rattle.frames.specs.declared.body.Body.{Body}
use Rattle.frames.specs.declared.body.Body.TheVariants as body
use Rattle.beside_rings.specs.Beside.{IsQuiet, IsQuietSent, IsNoLearn, SameBut, AreSame, Untouched}
use Rattle.beside_rings.proofs.Following.{Follows-all}
use Rattle.beside_rings.proofs.Merge.{merges_untouched}
use Rattle.protocol.specs.Lines.{Line, Learn}
use Rattle.protocol.specs.Parts.{Ring, Coordinator, Rounds, Part, Effects}
use Rattle.protocol.specs.Effects.{no_effects}
use Rattle.protocol.specs.Learner.{learns}
use Rattle.protocol.specs.Proposing.{proposes}
use Rattle.protocol.specs.Node.{StepSoFar, RingPart, part_in, part_at, with_part_in, with_part, prints}
use Rattle.protocol.specs.Merging.{merges}
use Rattle.protocol.specs.Learning.{with_effects, Queued, queued, proposes_then, by_news, learns_one, then_learns, learns_up_to, applies_effects}
use Rattle.step_valid.specs.Valid.{MayLearn, IsLearned, BodyValid, SentValid, RoleValid, RoundValid, PartValid, EffectsValid, IsMemberOf, MemberValid, LearnValid, LineValid, AreNumbered}
use Rattle.step_valid.proofs.Words.{valid_none, valid_proposes}
use Rattle.step_valid.proofs.Learned.{learns_valid, news_some}
use Rattle.quorums.proofs.Each.{mapped}

pub record SoFarValid (config : Config) (id : NodeId) (a : StepSoFar) : Type 0 where
  pub own : a.view.id ≡ id
  pub state : IsState a.view.journal.state
  pub parts : AllByRecursion (MemberValid config id) a.view.parts
  pub changes : AllByRecursion IsChange a.changes
  pub frames : AllByRecursion SentValid a.frames
  pub replies : AllByRecursion SentValid a.replies
  pub lines : AllByRecursion (LineValid config id) a.lines

-- ---- what a quiet rule leaves

quiet_valid : (b : Body) → IsQuiet b → BodyValid b
quiet_valid (body.Submit r hops client seq command) quiet = absurd quiet
quiet_valid (body.Prepare r ballot lo) quiet = absurd quiet
quiet_valid (body.Promise r ballot lo hi trim votes) quiet = absurd quiet
quiet_valid (body.Refuse r ballot promise) quiet = tt
quiet_valid (body.Accept r ballot lo hi mask value) quiet = absurd quiet
quiet_valid (body.Decide r lo hi left value) quiet = absurd quiet
quiet_valid (body.Chosen r ranges) quiet = absurd quiet
quiet_valid (body.Trimmed r trim) quiet = absurd quiet
quiet_valid (body.TrimTo r trim) quiet = absurd quiet
quiet_valid (body.Safe r round inst) quiet = quiet
quiet_valid other quiet = tt

quiet_line : (config : Config) (id : NodeId) (line : Line) → IsNoLearn line → LineValid config id line
quiet_line config id (Learn node r lo hi value) quiet = absurd quiet
quiet_line config id other quiet = tt

same_part : (config : Config) (id : NodeId) (q p : RingPart) → SameBut q p → MemberValid config id q → MemberValid config id p
same_part config id q p s v = record {
  of_ring = subst (λ (r : Ring). IsMemberOf config id r) (sym s.ring) v.of_ring;
  part = record {
    kept = subst (λ k. IsKept k) (sym s.kept) v.part.kept;
    role = subst (λ (c : Coordinator). RoleValid c.role) (sym s.coordinator) v.part.role;
    round = subst (λ (r : Rounds). RoundValid r.current) (sym s.rounds) v.part.round;
    held = subst (λ l. AllByRecursion IsLearned l) (sym s.held) v.part.held;
    ordered = subst (λ l. IsIncreasingFrom 0 l) (sym s.held) v.part.ordered;
  };
}

same_parts : (config : Config) (id : NodeId) (qs ps : List RingPart) → AreSame qs ps → AllByRecursion (MemberValid config id) qs → AllByRecursion (MemberValid config id) ps
same_parts config id [] [] s v = tt
same_parts config id [] (p ∷ ps) s v = absurd s
same_parts config id (q ∷ qs) [] s v = tt
same_parts config id (q ∷ qs) (p ∷ ps) s v = (same_part config id q p s.0 v.0, same_parts config id qs ps s.1 v.1)

pub untouched_valid : (config : Config) (id : NodeId) (a b : StepSoFar) → Untouched a b → SoFarValid config id a → SoFarValid config id b
untouched_valid config id a b u v = record {
  own = u.id ∙ v.own;
  state = subst (λ (j : Journal). IsState j.state) (sym u.journal) v.state;
  parts = same_parts config id a.view.parts b.view.parts u.parts v.parts;
  changes = subst (λ (l : List Change). AllByRecursion IsChange l) (sym u.changes) v.changes;
  frames = Follows-all IsQuietSent SentValid a.frames b.frames (λ sent. quiet_valid sent.frame.body) u.frames v.frames;
  replies = Follows-all IsQuietSent SentValid a.replies b.replies (λ sent. quiet_valid sent.frame.body) u.replies v.replies;
  lines = Follows-all IsNoLearn (LineValid config id) a.lines b.lines (quiet_line config id) u.lines v.lines;
}

-- ---- parts

pub found : (P : RingPart → Type 0) (parts : List RingPart) (fr : RingId) (p : RingPart) → AllByRecursion P parts → part_in parts fr ≡ Some p → P p
found P [] fr p all e = absurd (cc)
found P (x ∷ parts) fr p all e = go (x.ring.id.0 == fr.0) e (λ h. found P parts fr p all.1 h)
  where
    go : (b : Bool) → (if b then Some x else part_in parts fr) ≡ Some p → (part_in parts fr ≡ Some p → P p) → P p
    go true h later = let same : x ≡ p = cc in subst P same all.0
    go false h later = later h

put : (config : Config) (id : NodeId) (fr : RingId) (new : Part) (parts : List RingPart) → PartValid new → AllByRecursion (MemberValid config id) parts
    → AllByRecursion (MemberValid config id) (with_part_in fr new parts)
put config id fr new [] v all = tt
put config id fr new (p ∷ parts) v all = go (p.ring.id.0 == fr.0) (put config id fr new parts v all.1)
  where
    go : (b : Bool) → AllByRecursion (MemberValid config id) (with_part_in fr new parts)
        → AllByRecursion (MemberValid config id) (if b then record p { part = new } ∷ parts else p ∷ with_part_in fr new parts)
    go true rest = (record { of_ring = all.0.of_ring; part = v }, all.1)
    go false rest = (all.0, rest)

pub member_numbered : (config : Config) (id : NodeId) (ring : Ring) → AreNumbered config → IsMemberOf config id ring → IsRing ring.id
member_numbered config id ring numbered m = subst (λ (r : Ring). IsRing r.id) (sym m.same) (numbered m.table m.listed)

module _ (config : Config) (id : NodeId) (numbered : AreNumbered config) where
  abbrev pub Goes : StepSoFar → Type 0
  Goes a = SoFarValid config id a

  with_effects_valid : (ring : Ring) (effects : Effects) (a : StepSoFar) → EffectsValid effects → Goes a → Goes (with_effects ring effects a)
  with_effects_valid ring effects a d v = record {
    own = v.own;
    state = v.state;
    parts = put config id ring.id effects.part a.view.parts d.part v.parts;
    changes = append_all IsChange a.changes effects.changes v.changes d.changes;
    frames = append_all SentValid a.frames effects.frames v.frames d.frames;
    replies = v.replies;
    lines = append_all (LineValid config id) a.lines effects.lines v.lines (mapped IsNoLearn (LineValid config id) (quiet_line config id) effects.lines d.lines);
  }

  -- ---- learning, range by range

  record QueueValid (q : Queued) : Type 0 where
    so_far : SoFarValid config id q.so_far
    ranges : AllByRecursion MayLearn q.ranges

  module _ (ring : Ring) (m : IsMemberOf config id ring) where
    number : IsRing ring.id
    number = member_numbered config id ring numbered m

    queued_valid : (later : List Decided) (effects : Effects) (a : StepSoFar) → AllByRecursion MayLearn later → EffectsValid effects → Goes a → QueueValid (queued ring later effects a)
    queued_valid later effects a all d v = record { so_far = with_effects_valid ring effects a d v; ranges = append_all MayLearn later effects.learned all d.learned }

    proposes_valid : (later : List Decided) (o : Option RingPart) (a : StepSoFar) → part_at a.view ring.id ≡ o → AllByRecursion MayLearn later → Goes a → QueueValid (proposes_then ring later o a)
    proposes_valid later None a e all v = record { so_far = v; ranges = all }
    proposes_valid later (Some p) a e all v =
        let there : MemberValid config id p = found (MemberValid config id) a.view.parts ring.id p v.parts e in
        queued_valid later (proposes ring a.view.link p.part) a all
        (valid_proposes ring number (no_effects p.part) a.view.link (valid_none ring number p.part there.part)) v

    one_valid : (range : Decided) (later : List Decided) (o : Option RingPart) (a : StepSoFar) → part_at a.view ring.id ≡ o → MayLearn range → AllByRecursion MayLearn later → Goes a
        → QueueValid (learns_one config ring range later o a)
    one_valid range later None a e may all v = record { so_far = v; ranges = all }
    one_valid range later (Some p) a e may all v = go (learns ring p.part range).news refl
      where
        there : MemberValid config id p
        there = found (MemberValid config id) a.view.parts ring.id p v.parts e

        now : SoFarValid config id (with_part ring (learns ring p.part range).part a)
        now = record {
          own = v.own;
          state = v.state;
          parts = put config id ring.id (learns ring p.part range).part a.view.parts (learns_valid ring number p.part range may there.part) v.parts;
          changes = v.changes;
          frames = v.frames;
          replies = v.replies;
          lines = v.lines;
        }

        go : (b : Bool) → (learns ring p.part range).news ≡ b → QueueValid (by_news config ring range later b (with_part ring (learns ring p.part range).part a))
        go false news = record { so_far = now; ranges = all }
        go true news =
            let lt = news_some ring p.part range news in
            let taken : StepSoFar = with_part ring (learns ring p.part range).part a in
            let told : StepSoFar = prints (Learn a.view.id ring.id range.lo range.hi range.value ∷ []) taken in
            let line : LearnValid config id ring.id (record { lo = range.lo; hi = range.hi; value = range.value }) =
            (let d = may lt in record { ring = ring; of_ring = m; named = refl; some = lt; decided = record { end = d.end; alone = d.alone; value = d.value } }) in
            let printed : SoFarValid config id told = record {
              own = now.own;
              state = now.state;
              parts = now.parts;
              changes = now.changes;
              frames = now.frames;
              replies = now.replies;
              lines = append_all (LineValid config id) a.lines (Learn a.view.id ring.id range.lo range.hi range.value ∷ []) now.lines ((v.own, line), tt);
            } in
            proposes_valid later (part_at (merges config told).view ring.id) (merges config told) refl all (untouched_valid config id told (merges config told) (merges_untouched config told) printed)

    learns_up : (most : ℕ) (q : Queued) → QueueValid q → Goes (learns_up_to most config ring q)
    learns_up zero q v = v.so_far
    learns_up (suc most) q v = go q.ranges v.ranges (λ r w. learns_up most r w)
      where
        go : (ranges : List Decided) → AllByRecursion MayLearn ranges → ((r : Queued) → QueueValid r → Goes (learns_up_to most config ring r))
            → Goes (then_learns (learns_up_to most config ring) config ring q ranges)
        go [] all rest = v.so_far
        go (range ∷ later) all rest =
            rest (learns_one config ring range later (part_at q.so_far.view ring.id) q.so_far)
            (one_valid range later (part_at q.so_far.view ring.id) q.so_far refl all.0 all.1 v.so_far)

    pub applies_effects_valid : (effects : Effects) (a : StepSoFar) → EffectsValid effects → Goes a → Goes (applies_effects config ring effects a)
    unfolding applies_effects
    applies_effects_valid effects a d v = learns_up (2 ^ 44) (queued ring [] effects a) (queued_valid [] effects a tt d v)
