-- What stays as the faces of others grow, and as a world gets more frames, lines and histories.
use Rattle.std.proofs.Common.{◌≡◌, inl, inr, ℕ, ◌≤◌, Bool, true, false, cond, nat_eq, List, [], ◌∷◌, ◌++◌, length, refl, sym, ◌∙◌, ap, subst, arith, ◌⊎◌}
use Rattle.std.specs.Prelude.{Option}
use Rattle.std.specs.List.{AllByRecursion}
use Rattle.std.proofs.lemmas.Bool.Decides.{nat_tests}
use Rattle.mrp_types.specs.declared.id.NodeId.{NodeId}
use Rattle.mrp_types.specs.declared.value.Value.{Value}
use Rattle.mrp_config.specs.Config.{Config}
use Rattle.mrp_config.specs.declared.tables.RingTable.{RingTable}
use Rattle.frames.specs.declared.sent.Sent.{Sent}
use Rattle.quorums.specs.Groups.{Has}
use Rattle.vote_state.specs.declared.cast.Cast.{Cast}
use Rattle.vote_state.specs.declared.ring.RingState.{RingState}
use Rattle.vote_state.specs.State.{State}
use Rattle.ring_safety.specs.Faces.{Proposal, Face, Promise, owner}
use Rattle.ring_safety.specs.Invariant.{Local, Sound}
use Rattle.ring_safety.specs.Rules.{Grows}
use Rattle.ring_safety.specs.Worlds.{Before, After, CanHappen, CanRun, durables, happens, empty}
use Rattle.ring_safety.specs.Worlds as machine
use Rattle.ring_safety.proofs.Local.{Grows-refl, Grows-of_eq}
use Rattle.ring_safety.proofs.Worlds.{run_more}
use Rattle.ring_reach.specs.Reach.{seen, proposal}
use Rattle.ring_kept.specs.Kept.{told_of, KeptTies}
use Rattle.protocol.specs.Lines.{Line}
use Rattle.protocol.specs.Node.{View, Work}
use Rattle.protocol.specs.Parts.{Ring, Part}
use Rattle.protocol.specs.Rings.{ring_of}
use Rattle.ring_steps.specs.Stands.{ViewStands}
use Rattle.ring_tables.specs.Ties.{PartTies, IsSaid, IsTold, IsToldIn}
use Rattle.ring_tables.proofs.More.{RoleTies-more, LearnerTies-more}
use Rattle.bare_world.specs.Worlds.{Host, Up, Down, with_frames, with_lines, with_work, with_read}
use Rattle.ring_runs.specs.Seats.{nobody, seat, acceptors}
use Rattle.ring_runs.specs.Histories.{History}
use Rattle.ring_runs.specs.Standing.{IsDoneBy, DownStands, HostStands, IsReadIn, ReadStands, WorldStands, Later}
use Rattle.quorums.proofs.Each.{appended}

-- ---- what stays as faces of others grow

pub PartTies-more : (n : ℕ) (old new : ℕ → Face Value) → ((k : ℕ) → Grows (old k) (new k)) → (f : Face Value) (part : Part) → PartTies n old f part → PartTies n new f part
PartTies-more n old new more f part t = record {
  kept = t.kept;
  role = RoleTies-more n old new more f f part.coordinator.role (Grows-refl f) refl refl t.role;
  learner = LearnerTies-more n old new more part.learner t.learner;
}

pub view_more : (ring : Ring) (old new : ℕ → Face Value) → ((k : ℕ) → Grows (old k) (new k)) → (f : Face Value) (view : View) → ViewStands ring old f view → ViewStands ring new f view
view_more ring old new more f view v = record {
  rings = v.rings;
  kept = v.kept;
  part = λ p is. let t = v.part p is in record { of_ring = t.of_ring; ties = PartTies-more (length ring.acceptors) old new more f p.part t.ties; kept = t.kept; fine = t.fine };
}

pub host_elsewhere : (config : Config) (table : RingTable) (old new : machine.World Value) → ((k : ℕ) → Grows (durables old k) (durables new k)) → (id : NodeId) (stopped : Work) (host : Host)
    → new (seat table id) ≡ old (seat table id) → HostStands config table old id stopped host → HostStands config table new id stopped host
host_elsewhere config table old new more id stopped (Up view) same t =
    subst (λ (x : machine.Node Value). ViewStands (ring_of config id table) (durables new) x.durable view) (sym same)
    (view_more (ring_of config id table) (durables old) (durables new) more (old (seat table id)).durable view t)
host_elsewhere config table old new more id stopped (Down durable pending) same t = subst (λ (x : machine.Node Value). DownStands table (seat table id) x stopped durable.state pending.state) (sym same) t

pub IsReadIn-more : (f g : Face Value) (kept : RingState) → Grows f g → IsReadIn f kept → IsReadIn g kept
IsReadIn-more f g kept grows r =
    let low : kept.promise ≤ f.promise = r.promise in
    let up : f.promise ≤ g.promise = grows.promise in
    let low_trim : kept.trim ≤ f.trim = r.trim in
    let up_trim : f.trim ≤ g.trim = grows.trim in
    record { promise = omega arith; trim = omega arith; cast = λ i c e. grows.casts (proposal c.ballot i c.value) (r.cast i c e) }

-- what a face holds that the invariant holds of was cast
pub read_in : (n : ℕ) (faces : ℕ → Face Value) (a : ℕ) (f : Face Value) (kept : RingState) → Local n faces a f → KeptTies f kept → IsReadIn f kept
read_in n faces a f kept local ties =
    let same : f.promise ≡ kept.promise = ties.promise in
    let same_trim : f.trim ≡ kept.trim = ties.trim in
    record {
      promise = omega arith;
      trim = omega arith;
      cast = λ i c e. local.held_cast i (record { ballot = c.ballot; value = c.value }) (ties.votes i ∙ ap (λ (o : Option Cast). told_of o) e);
    }

-- what a node sees when its step begins
pub own_view : (ring : Ring) (w : machine.World Value) (a : ℕ) (view : View) → ViewStands ring (durables w) (w a).durable view → ViewStands ring (seen (durables w) a (w a).durable) (w a).durable view
own_view ring w a view v = view_more ring (durables w) (seen (durables w) a (w a).durable) (λ k. same k (nat_eq k a) refl) (w a).durable view v
  where
    same : (k : ℕ) (b : Bool) → nat_eq k a ≡ b → Grows (durables w k) (cond b (w a).durable (durables w k))
    same k true e = let here : k ≡ a = grind (arith, nat_tests) in Grows-of_eq (ap (λ x. (w x).durable) here)
    same k false e = Grows-refl (durables w k)

pub later_none : (n : ℕ) (w : machine.World Value) → Later n w w
later_none n w = record { events = []; can = tt; is = refl }

pub later_one : (n : ℕ) (w : machine.World Value) (e : machine.Event Value) → CanHappen n w e → Later n w (happens e w)
later_one n w e can = record { events = e ∷ []; can = (can, tt); is = refl }

pub can_both : (n : ℕ) (w : machine.World Value) (xs ys : List (machine.Event Value)) → CanRun n w xs → CanRun n (machine.run xs w) ys → CanRun n w (xs ++ ys)
can_both n w [] ys a b = b
can_both n w (x ∷ xs) ys a b = (a.0, can_both n (happens x w) xs ys a.1 b)

pub run_both : (w : machine.World Value) (xs ys : List (machine.Event Value)) → machine.run (xs ++ ys) w ≡ machine.run ys (machine.run xs w)
run_both w [] ys = refl
run_both w (x ∷ xs) ys = run_both (happens x w) xs ys

pub later_both : (n : ℕ) (a b c : machine.World Value) → Later n a b → Later n b c → Later n a c
later_both n a b c x y = record {
  events = x.events ++ y.events;
  can = can_both n a x.events y.events x.can (subst (λ w. CanRun n w y.events) (sym x.is) y.can);
  is = run_both a x.events y.events ∙ ap (λ w. machine.run y.events w) x.is ∙ y.is;
}

-- the faces of a later world have grown
pub later_grows : (n : ℕ) (early late : machine.World Value) → Sound n early → Later n early late → (k : ℕ) → Grows (durables early k) (durables late k)
later_grows n early late sound l k =
    subst (λ (x : machine.World Value). Grows (durables early k) (durables x k)) l.is (run_more n early sound l.events l.can k)

-- what all have, one has
pub one_of : {X : Type 0} (P : X → Type 0) (xs : List X) (x : X) → Has xs x → AllByRecursion P xs → P x
one_of P [] x has all = absurd has
one_of P (y ∷ xs) x (inl e) all = subst P (sym e) all.0
one_of P (y ∷ xs) x (inr more) all = one_of P xs x more all.1

module _ {X : Type 0} where
  pub has_first : (xs ys : List X) (x : X) → Has xs x → Has (xs ++ ys) x
  has_first [] ys x h = absurd h
  has_first (y ∷ xs) ys x (inl e) = inl e
  has_first (y ∷ xs) ys x (inr h) = inr (has_first xs ys x h)

  pub has_second : (xs ys : List X) (x : X) → Has ys x → Has (xs ++ ys) x
  has_second [] ys x h = h
  has_second (y ∷ xs) ys x h = inr (has_second xs ys x h)

  pub has_last : (xs : List X) (x : X) → Has (xs ++ x ∷ []) x
  has_last [] x = inl refl
  has_last (y ∷ xs) x = inr (has_last xs x)

pub done_more : (table : RingTable) (old more : List (NodeId × Work)) (id : NodeId) (c : Proposal Value) → IsDoneBy table old id c → IsDoneBy table (old ++ more) id c
done_more table old more id c b = record { work = b.work; there = has_first old more (id, b.work) b.there; voted = b.voted }

IsToldIn-more : (ring : Ring) (frames all : List Sent) (p : Promise Value) → ((s : Sent) → Has frames s → Has all s) → IsToldIn ring frames p → IsToldIn ring all p
IsToldIn-more ring frames all p keep s = record { sent = s.sent; there = keep s.sent s.there; by = s.by; votes = s.votes; same = s.same; tells = s.tells }

pub told_more : (ring : Ring) (own : Type 0) (frames all : List Sent) (p : Promise Value) → ((s : Sent) → Has frames s → Has all s) → own ⊎ IsToldIn ring frames p
    → own ⊎ IsToldIn ring all p
told_more ring own frames all p keep (inl o) = inl o
told_more ring own frames all p keep (inr s) = inr (IsToldIn-more ring frames all p keep s)

module _ (config : Config) (table : RingTable) where
  pub more_frames : (late : machine.World Value) (h : History) (frames : List Sent) → AllByRecursion (IsSaid (ring_of config nobody table) (durables late)) frames
      → WorldStands config table late h → WorldStands config table late (record h { world = with_frames frames h.world })
  more_frames late h frames said v = record {
    hosts = v.hosts;
    frames = appended (IsSaid (ring_of config nobody table) (durables late)) h.world.frames frames v.frames said;
    lines = v.lines;
    done = v.done;
    cast = v.cast;
    beyond = v.beyond;
    told = λ id p has lt. told_more (ring_of config id table) (owner (acceptors table) p.ballot ≡ seat table id) h.world.frames (h.world.frames ++ frames) p
        (λ x there. has_first h.world.frames frames x there) (v.told id p has lt);
    works = v.works;
    read = v.read;
  }

  pub more_lines : (late : machine.World Value) (h : History) (lines : List Line) → AllByRecursion (IsTold (ring_of config nobody table) (durables late)) lines
      → WorldStands config table late h → WorldStands config table late (record h { world = with_lines lines h.world })
  more_lines late h lines told v = record {
    hosts = v.hosts;
    frames = v.frames;
    lines = appended (IsTold (ring_of config nobody table) (durables late)) h.world.lines lines v.lines told;
    done = v.done;
    cast = v.cast;
    beyond = v.beyond;
    told = v.told;
    works = v.works;
    read = v.read;
  }

  pub more_work : (late : machine.World Value) (h : History) (id : NodeId) (work : Work) → Has h.done (id, work)
      → WorldStands config table late h → WorldStands config table late (record h { world = with_work id work h.world })
  more_work late h id work has v = record {
    hosts = v.hosts;
    frames = v.frames;
    lines = v.lines;
    done = v.done;
    cast = v.cast;
    beyond = v.beyond;
    told = v.told;
    works = appended (λ (e : NodeId × Work). Has h.done e) h.world.works ((id, work) ∷ []) v.works (has, tt);
    read = v.read;
  }

  pub more_read : (late : machine.World Value) (h : History) (id : NodeId) (state : State) → ReadStands table late (id, state)
      → WorldStands config table late h → WorldStands config table late (record h { world = with_read id state h.world })
  more_read late h id state was v = record {
    hosts = v.hosts;
    frames = v.frames;
    lines = v.lines;
    done = v.done;
    cast = v.cast;
    beyond = v.beyond;
    told = v.told;
    works = v.works;
    read = appended (ReadStands table late) h.world.read ((id, state) ∷ []) v.read (was, tt);
  }
