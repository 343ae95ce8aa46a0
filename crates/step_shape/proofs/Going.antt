-- A step on its way keeps its shape, whatever the rules are that it makes.
use Rattle.std.proofs.Common.{◌≡◌, ℕ, zero, suc, ◌^◌, Bool, true, false, List, [], ◌∷◌, Option, Some, None, refl, sym, ◌∙◌, ap, subst}
use Rattle.std.specs.Prelude.{◌==◌, if◌then◌else◌}
use Rattle.std.specs.List.{AllByRecursion}
use Rattle.mrp_types.specs.declared.id.NodeId.{NodeId}
use Rattle.mrp_types.specs.declared.id.RingId.{RingId}
use Rattle.mrp_types.specs.declared.value.Entry.{Entry}
use Rattle.mrp_types.specs.declared.voted.Decided.{Decided}
use Rattle.mrp_types.specs.Entries.{IsEntry}
use Rattle.mrp_config.specs.Config.{Config}
use Rattle.mrp_config.specs.declared.tables.RingTable.{RingTable}
use Rattle.quorums.specs.Groups.{Has}
use Rattle.quorums.proofs.Each.{mapped}
use Rattle.vote_state.specs.Valid.{IsRing, IsChange}
use Rattle.vote_state.proofs.StateLemmas.{append_all}
use Rattle.beside_rings.specs.Beside.{IsNoLearn, Untouched}
use Rattle.beside_rings.proofs.Merge.{merges_untouched}
use Rattle.plain_model.proofs.TupleOrder.{same_number}
use Rattle.protocol.specs.Lines.{Line, Learn}
use Rattle.protocol.specs.Parts.{Ring, Part, Effects}
use Rattle.protocol.specs.Rings.{ring_of}
use Rattle.protocol.specs.Effects.{no_effects}
use Rattle.protocol.specs.Learner.{learns}
use Rattle.protocol.specs.Proposing.{proposes}
use Rattle.protocol.specs.Node.{StepSoFar, RingPart, part_in, part_at, with_part_in, with_part, prints}
use Rattle.protocol.specs.Merging.{merges}
use Rattle.protocol.specs.Learning.{with_effects, Queued, queued, proposes_then, by_news, learns_one, then_learns, learns_up_to, applies_effects}
use Rattle.step_valid.specs.Valid.{SentValid, MayLearn, PartValid, EffectsValid, IsMemberOf, MemberValid, LearnValid, LineValid, AreNumbered}
use Rattle.step_valid.proofs.Words.{valid_none, valid_proposes}
use Rattle.step_valid.proofs.Learned.{learns_valid, news_some}
use Rattle.step_valid.proofs.Going.{SoFarValid, untouched_valid, found, member_numbered}
use Rattle.ask_laws.specs.Carried.{PartCarries, RingPartCarries, RangesCarry, ValueCarries, ChangeCarries, LineCarries, SentCarries, EffectsCarry, ActCarries}
use Rattle.ask_laws.proofs.Commands.{IsOfBytes}
use Rattle.ask_laws.proofs.Acceptor.{none_made}
use Rattle.ask_laws.proofs.Proposing.{proposes_made}
use Rattle.ask_laws.proofs.Coordinating.{learns_carry}
use Rattle.ask_laws.proofs.SoFar.{put_act, prints_act, merges_act}
use Rattle.step_shape.specs.Shaped.{SentFits, PartFits, MemberFits, EffectsFit, SoFarFits}
use Rattle.step_shape.proofs.Tables.{fits_learns, fits_proposing_member}
use Rattle.step_shape.proofs.Merging.{IsMine, Ground, merges_ground}

-- what is so of a step on its way, by the three laws together
pub record Whole (config : Config) (fine : ℕ → Type 0) (id : NodeId) (Is : ℕ → Entry → Type 0) (Valid : Type 0) (a : StepSoFar) : Type 0 where
  pub valid : SoFarValid config id a
  pub carries : ActCarries Is Valid a
  pub fits : SoFarFits fine id a

-- and of what a rule of a ring makes
pub record Made (ring : Ring) (fine : ℕ → Type 0) (id : NodeId) (Is : ℕ → Entry → Type 0) (Valid : Type 0) (effects : Effects) : Type 0 where
  pub valid : EffectsValid effects
  pub carries : EffectsCarry Is Valid ring.id.0 effects
  pub fits : EffectsFit ring fine id effects

quiet_line : (config : Config) (id : NodeId) (line : Line) → IsNoLearn line → LineValid config id line
quiet_line config id (Learn node r lo hi value) quiet = absurd quiet
quiet_line config id other quiet = tt

put_valid : (config : Config) (id : NodeId) (fr : RingId) (new : Part) (parts : List RingPart) → PartValid new → AllByRecursion (MemberValid config id) parts → AllByRecursion (MemberValid config id) (with_part_in fr new parts)
put_valid config id fr new [] v all = tt
put_valid config id fr new (p ∷ parts) v all = go (p.ring.id.0 == fr.0) (put_valid config id fr new parts v all.1)
  where
    go : (b : Bool) → AllByRecursion (MemberValid config id) (with_part_in fr new parts)
        → AllByRecursion (MemberValid config id) (if b then record p { part = new } ∷ parts else p ∷ with_part_in fr new parts)
    go true rest = (record { of_ring = all.0.of_ring; part = v }, all.1)
    go false rest = (all.0, rest)

module _ (config : Config) (numbered : AreNumbered config) (unique : (t u : RingTable) → Has config.rings t → Has config.rings u → t.id.0 ≡ u.id.0 → t ≡ u)
    (Is : ℕ → Entry → Type 0) (Valid : Type 0) (known : Valid) (entry : (r : ℕ) (e : Entry) → Is r e → IsEntry e) (given : Valid → (r : ℕ) (e : Entry) → Is r e → IsOfBytes e) (fine : ℕ → Type 0) (id : NodeId) where
  abbrev pub Goes : StepSoFar → Type 0
  Goes a = Whole config fine id Is Valid a

  -- ---- rings

  pub own_ring : (r : Ring) → IsMemberOf config id r → r.own ≡ id
  own_ring r m = ap (λ (x : Ring). x.own) m.same

  same_ring : (r s : Ring) → IsMemberOf config id r → IsMemberOf config id s → r.id.0 ≡ s.id.0 → r ≡ s
  same_ring r s m n e =
      let first : r.id.0 ≡ m.table.id.0 = ap (λ (x : Ring). x.id.0) m.same in
      let second : s.id.0 ≡ n.table.id.0 = ap (λ (x : Ring). x.id.0) n.same in
      m.same ∙ ap (λ (t : RingTable). ring_of config id t) (unique m.table n.table m.listed n.listed (sym first ∙ e ∙ second)) ∙ sym n.same

  put_fits : (ring : Ring) → IsMemberOf config id ring → (new : Part) → PartFits ring new → (parts : List RingPart) → AllByRecursion (MemberValid config id) parts → AllByRecursion MemberFits parts
      → AllByRecursion MemberFits (with_part_in ring.id new parts)
  put_fits ring m new f [] valid all = tt
  put_fits ring m new f (p ∷ parts) valid all = go (p.ring.id.0 == ring.id.0) refl (put_fits ring m new f parts valid.1 all.1)
    where
      go : (b : Bool) → (p.ring.id.0 == ring.id.0) ≡ b → AllByRecursion MemberFits (with_part_in ring.id new parts)
          → AllByRecursion MemberFits (if b then record p { part = new } ∷ parts else p ∷ with_part_in ring.id new parts)
      go true e rest = (subst (λ (r : Ring). PartFits r new) (sym (same_ring p.ring ring valid.0.of_ring m (same_number p.ring.id.0 ring.id.0 e))) f, all.1)
      go false e rest = (all.0, rest)

  -- ---- a replica's rules

  pub ground : (a : StepSoFar) → Goes a → Ground Is fine id a
  ground a w = record {
    own = w.valid.own;
    mine = mapped (MemberValid config id) (IsMine id) (λ p m. record { number = member_numbered config id p.ring numbered m.of_ring; own = own_ring p.ring m.of_ring }) a.view.parts w.valid.parts;
    parts = w.carries.view.parts;
    newest = w.carries.view.newest known;
    replica = w.carries.view.replica known;
    fits = w.fits;
  }

  pub leaves : (a b : StepSoFar) → Untouched a b → ActCarries Is Valid b → Ground Is fine id b → Goes a → Goes b
  leaves a b u c g w = record { valid = untouched_valid config id a b u w.valid; carries = c; fits = g.fits }

  merges_whole : (a : StepSoFar) → Goes a → Goes (merges config a)
  merges_whole a w = leaves a (merges config a) (merges_untouched config a) (merges_act Is Valid given config a w.carries) (merges_ground Is (given known) fine id config a (ground a w)) w

  -- ---- learning, range by range

  module _ (ring : Ring) (m : IsMemberOf config id ring) where
    number : IsRing ring.id
    number = member_numbered config id ring numbered m

    mine : ring.own ≡ id
    mine = own_ring ring m

    put_whole : (part : Part) (a : StepSoFar) → PartValid part → PartCarries Is ring.id.0 part → PartFits ring part → Goes a → Goes (with_part ring part a)
    put_whole part a v c f w = record {
      valid = record {
        own = w.valid.own;
        state = w.valid.state;
        parts = put_valid config id ring.id part a.view.parts v w.valid.parts;
        changes = w.valid.changes;
        frames = w.valid.frames;
        replies = w.valid.replies;
        lines = w.valid.lines;
      };
      carries = put_act Is Valid ring part a c w.carries;
      fits = record {
        view = record { parts = put_fits ring m part f a.view.parts w.valid.parts w.fits.view.parts; replica = w.fits.view.replica; newest = w.fits.view.newest };
        frames = w.fits.frames;
        replies = w.fits.replies;
        epoch = w.fits.epoch;
      };
    }

    effects_whole : (effects : Effects) (a : StepSoFar) → Made ring fine id Is Valid effects → Goes a → Goes (with_effects ring effects a)
    effects_whole effects a d w =
        let put = put_whole effects.part a d.valid.part d.carries.part d.fits.part w in
        record {
          valid = record {
            own = put.valid.own;
            state = put.valid.state;
            parts = put.valid.parts;
            changes = append_all IsChange a.changes effects.changes w.valid.changes d.valid.changes;
            frames = append_all SentValid a.frames effects.frames w.valid.frames d.valid.frames;
            replies = w.valid.replies;
            lines = append_all (LineValid config id) a.lines effects.lines w.valid.lines (mapped IsNoLearn (LineValid config id) (quiet_line config id) effects.lines d.valid.lines);
          };
          carries = record {
            view = put.carries.view;
            changes = append_all (ChangeCarries Is) a.changes effects.changes w.carries.changes d.carries.changes;
            frames = append_all (SentCarries Is Valid) a.frames effects.frames w.carries.frames d.carries.frames;
            replies = w.carries.replies;
            lines = append_all (LineCarries Is) a.lines effects.lines w.carries.lines d.carries.lines;
          };
          fits = record { view = put.fits.view; frames = append_all (SentFits fine id) a.frames effects.frames w.fits.frames d.fits.frames; replies = w.fits.replies; epoch = w.fits.epoch };
        }

    record QueueWhole (q : Queued) : Type 0 where
      so_far : Goes q.so_far
      ranges : AllByRecursion MayLearn q.ranges
      carried : RangesCarry Is ring.id.0 q.ranges

    queued_whole : (later : List Decided) (effects : Effects) (a : StepSoFar) → AllByRecursion MayLearn later → RangesCarry Is ring.id.0 later → Made ring fine id Is Valid effects → Goes a → QueueWhole (queued ring later effects a)
    queued_whole later effects a may carry d w = record {
      so_far = effects_whole effects a d w;
      ranges = append_all MayLearn later effects.learned may d.valid.learned;
      carried = append_all (λ (x : Decided). ValueCarries Is ring.id.0 x.value) later effects.learned carry d.carries.learned;
    }

    -- the part of the ring, where it is found
    part_of_ring : (a : StepSoFar) (p : RingPart) → part_at a.view ring.id ≡ Some p → Goes a → PartValid p.part × PartCarries Is ring.id.0 p.part × PartFits ring p.part
    part_of_ring a p e w =
        let v = found (MemberValid config id) a.view.parts ring.id p w.valid.parts e in
        let c = found (λ (q : RingPart). (q.ring.id.0 ≡ ring.id.0) → RingPartCarries Is q) a.view.parts ring.id p (mapped (RingPartCarries Is) (λ (q : RingPart). (q.ring.id.0 ≡ ring.id.0) → RingPartCarries Is q) (λ q x same. x) a.view.parts w.carries.view.parts) e in
        let f = found MemberFits a.view.parts ring.id p w.fits.view.parts e in
        let same : p.ring ≡ ring = same_ring p.ring ring v.of_ring m (id_of a.view.parts p e) in (
          v.part,
          subst (λ (r : Ring). PartCarries Is r.id.0 p.part) same (c (ap (λ (r : Ring). r.id.0) same)),
          subst (λ (r : Ring). PartFits r p.part) same f,
        )
      where
        id_of : (parts : List RingPart) (q : RingPart) → part_in parts ring.id ≡ Some q → q.ring.id.0 ≡ ring.id.0
        id_of [] q e = absurd (cc)
        id_of (x ∷ parts) q e = by (x.ring.id.0 == ring.id.0) refl e (λ h. id_of parts q h)
          where
            by : (t : Bool) → (x.ring.id.0 == ring.id.0) ≡ t → (if t then Some x else part_in parts ring.id) ≡ Some q → (part_in parts ring.id ≡ Some q → q.ring.id.0 ≡ ring.id.0) → q.ring.id.0 ≡ ring.id.0
            by true same h later = let is : x ≡ q = cc in subst (λ (y : RingPart). y.ring.id.0 ≡ ring.id.0) is (same_number x.ring.id.0 ring.id.0 same)
            by false other h later = later h

    proposes_whole : (later : List Decided) (o : Option RingPart) (a : StepSoFar) → part_at a.view ring.id ≡ o → AllByRecursion MayLearn later → RangesCarry Is ring.id.0 later → Goes a → QueueWhole (proposes_then ring later o a)
    proposes_whole later None a e may carry w = record { so_far = w; ranges = may; carried = carry }
    proposes_whole later (Some p) a e may carry w =
        let there = part_of_ring a p e w in
        queued_whole later (proposes ring a.view.link p.part) a may carry
        (record {
          valid = valid_proposes ring number (no_effects p.part) a.view.link (valid_none ring number p.part there.0);
          carries = proposes_made Is Valid entry ring a.view.link (no_effects p.part) (none_made Is Valid ring p.part there.1);
          fits = fits_proposing_member ring number fine id mine a.view.link p.part there.0 there.2;
        }) w

    one_whole : (range : Decided) (later : List Decided) (o : Option RingPart) (a : StepSoFar) → part_at a.view ring.id ≡ o → MayLearn range → ValueCarries Is ring.id.0 range.value
        → AllByRecursion MayLearn later → RangesCarry Is ring.id.0 later → Goes a → QueueWhole (learns_one config ring range later o a)
    one_whole range later None a e may is all carry w = record { so_far = w; ranges = all; carried = carry }
    one_whole range later (Some p) a e may is all carry w = go (learns ring p.part range).news refl
      where
        there : PartValid p.part × PartCarries Is ring.id.0 p.part × PartFits ring p.part
        there = part_of_ring a p e w

        now : Goes (with_part ring (learns ring p.part range).part a)
        now = put_whole (learns ring p.part range).part a (learns_valid ring number p.part range may there.0) (learns_carry Is Valid entry ring p.part range is there.1) (fits_learns ring number fine id mine p.part there.2 range) w

        go : (b : Bool) → (learns ring p.part range).news ≡ b → QueueWhole (by_news config ring range later b (with_part ring (learns ring p.part range).part a))
        go false news = record { so_far = now; ranges = all; carried = carry }
        go true news =
            let lt = news_some ring p.part range news in
            let line : List Line = Learn a.view.id ring.id range.lo range.hi range.value ∷ [] in
            let told : StepSoFar = prints line (with_part ring (learns ring p.part range).part a) in
            let fits : LearnValid config id ring.id (record { lo = range.lo; hi = range.hi; value = range.value }) =
            (let d = may lt in record { ring = ring; of_ring = m; named = refl; some = lt; decided = record { end = d.end; alone = d.alone; value = d.value } }) in
            let printed : Goes told = record {
              valid = record {
                own = now.valid.own;
                state = now.valid.state;
                parts = now.valid.parts;
                changes = now.valid.changes;
                frames = now.valid.frames;
                replies = now.valid.replies;
                lines = append_all (LineValid config id) a.lines line now.valid.lines ((w.valid.own, fits), tt);
              };
              carries = prints_act Is Valid line (with_part ring (learns ring p.part range).part a) (is, tt) now.carries;
              fits = record { view = now.fits.view; frames = now.fits.frames; replies = now.fits.replies; epoch = now.fits.epoch };
            } in
            proposes_whole later (part_at (merges config told).view ring.id) (merges config told) refl all carry (merges_whole told printed)

    learns_up : (most : ℕ) (q : Queued) → QueueWhole q → Goes (learns_up_to most config ring q)
    learns_up zero q w = w.so_far
    learns_up (suc most) q w = go q.ranges w.ranges w.carried (λ r x. learns_up most r x)
      where
        go : (ranges : List Decided) → AllByRecursion MayLearn ranges → RangesCarry Is ring.id.0 ranges → ((r : Queued) → QueueWhole r → Goes (learns_up_to most config ring r))
            → Goes (then_learns (learns_up_to most config ring) config ring q ranges)
        go [] all carry rest = w.so_far
        go (range ∷ later) all carry rest =
            rest (learns_one config ring range later (part_at q.so_far.view ring.id) q.so_far)
            (one_whole range later (part_at q.so_far.view ring.id) q.so_far refl all.0 carry.0 all.1 carry.1 w.so_far)

    pub applies_whole : (effects : Effects) (a : StepSoFar) → Made ring fine id Is Valid effects → Goes a → Goes (applies_effects config ring effects a)
    unfolding applies_effects
    applies_whole effects a d w = learns_up (2 ^ 44) (queued ring [] effects a) (queued_whole [] effects a tt tt d w)
