-- Every run keeps names, and a reply goes to a client of the deployment, since its entry was asked.
use Rattle.std.proofs.Common.{◌≡◌, ℕ, Bool, true, false, ◌&&◌, List, [], ◌∷◌, ◌++◌, Option, Some, None, refl, sym, subst}
use Rattle.std.specs.Prelude.{◌==◌, nat_lt, nat_le, if◌then◌else◌}
use Rattle.std.specs.List.{AllByRecursion}
use Rattle.mrp_types.specs.declared.id.NodeId.{NodeId}
use Rattle.mrp_types.specs.declared.id.ClientId.{ClientId}
use Rattle.mrp_types.specs.declared.id.PartitionId.{PartitionId}
use Rattle.mrp_types.specs.declared.id.RingId.{RingId}
use Rattle.mrp_types.specs.declared.id.Party.{Party}
use Rattle.mrp_types.specs.declared.id.Party.TheVariants.{Node, Client}
use Rattle.mrp_types.specs.declared.value.Entry.{Entry}
use Rattle.mrp_types.specs.declared.value.Value.{Value}
use Rattle.mrp_types.specs.declared.value.Value.TheVariants.{Batch}
use Rattle.command_codec.specs.declared.command.Command.{Command}
use Rattle.mrp_config.specs.Config.{Config}
use Rattle.frames.specs.declared.body.Body.{Body}
use Rattle.frames.specs.declared.body.Body.TheVariants.{Reply}
use Rattle.frames.specs.declared.sent.Sent.{Sent}
use Rattle.plain_model.proofs.TupleOrder.{same_number, split_and}
use Rattle.protocol.specs.Lines.{Line, Learn}
use Rattle.bare_world.specs.Worlds.{World, Happening, nothing, happens}
use Rattle.bare_world.specs.Runs.{run, MayRun}
use Rattle.bare_world.proofs.Onward.{run_both, may_both}
use Rattle.line_rules.specs.Rules.{HasClient, HasParty}
use Rattle.line_rules.specs.Scanners.{or_else, past, learned_by, book}
use Rattle.ask_laws.specs.Asks.{asked_in, IsAsked}
use Rattle.ask_laws.specs.Carried.{ValueCarries, LineCarries}
use Rattle.ask_laws.proofs.Reading.{entries-asked}
use Rattle.ask_laws.proofs.Worlds.{all_keep}
use Rattle.line_runs.specs.Laws.{IsRun}
use Rattle.state_steps.specs.Folded.{IsFoldReply, PartyFolded, SentFolded}
use Rattle.state_runs.proofs.Runs.{run_states}
use Rattle.state_runs.proofs.Worlds.{all_past}
use Rattle.frame_parties.specs.Parties.{IsOfParties}
use Rattle.frame_parties.proofs.Invariant.{GoesBetween, AreAddressed, IsClosed, WorldNamed}
use Rattle.frame_parties.proofs.Deployed.{valid_closed}
use Rattle.frame_parties.proofs.Worlds.{happens_named}

-- ---- every run

-- from a world that a run has left
names_on : (c : Config) → IsClosed c → (first rest : List Happening) → MayRun c nothing first → MayRun c (run c first nothing) rest → WorldNamed c (run c first nothing) → WorldNamed c (run c rest (run c first nothing))
names_on c closed first [] may more named = named
names_on c closed first (h ∷ rest) may more named =
    let same = run_both c nothing first (h ∷ []) in
    let there : WorldNamed c (happens c h (run c first nothing)) = happens_named c closed (run c first nothing) (λ n. ((all_keep c first may).clients.each n).id) named h more.0 in
    subst (λ (w : World). WorldNamed c (run c rest w)) (run_both c nothing first (h ∷ []))
    (names_on c closed (first ++ h ∷ []) rest (may_both c nothing first (h ∷ []) may (more.0, tt)) (subst (λ (w : World). MayRun c w rest) (sym same) more.1) (subst (λ (w : World). WorldNamed c w) (sym same) there))

run_named : (c : Config) (hs : List Happening) → IsRun c hs → WorldNamed c (run c hs nothing)
run_named c hs r = names_on c (valid_closed c r.valid) [] hs tt r.may (record { frames = tt; hosts = λ n. tt })

-- ---- whom replies go to

module _ (c : Config) (asked : ℕ → ℕ → Option Command) where
  -- a value of the book carries entries that were asked
  book_carries : (lines : List Line) (ring : RingId) (inst : ℕ) (value : Value) → AllByRecursion (LineCarries (IsAsked c asked)) lines → book lines ring inst ≡ Some value → ValueCarries (IsAsked c asked) ring.0 value
  book_carries [] ring inst value all e = absurd (cc)
  book_carries (l ∷ lines) ring inst value all e = by_known (book lines ring inst) (λ h. book_carries lines ring inst value all.1 h) e
    where
      by_line : (k : Line) → LineCarries (IsAsked c asked) k → learned_by ring inst k ≡ Some value → ValueCarries (IsAsked c asked) ring.0 value
      by_line (Learn node other lo hi known) is h = go ((other.0 == ring.0) && (nat_le lo inst && nat_lt inst hi)) refl h
        where
          go : (b : Bool) → ((other.0 == ring.0) && (nat_le lo inst && nat_lt inst hi)) ≡ b → (if b then Some known else None) ≡ Some value → ValueCarries (IsAsked c asked) ring.0 value
          go true t same =
              let equal : known ≡ value = cc in
              subst (λ (n : ℕ). ValueCarries (IsAsked c asked) n value) (same_number other.0 ring.0 (split_and (other.0 == ring.0) (nat_le lo inst && nat_lt inst hi) t).0)
              (subst (λ (v : Value). ValueCarries (IsAsked c asked) other.0 v) equal is)
          go false t same = absurd (cc)
      by_line other is h = absurd (cc)

      by_known : (o : Option Value) → (o ≡ Some value → ValueCarries (IsAsked c asked) ring.0 value) → or_else o (learned_by ring inst l) ≡ Some value → ValueCarries (IsAsked c asked) ring.0 value
      by_known None later h = by_line l all.0 h
      by_known (Some known) later h = later h

  in_middle : (P : Entry → Type 0) (front : List Entry) (e : Entry) (rest : List Entry) → AllByRecursion P (front ++ e ∷ rest) → P e
  in_middle P [] e rest all = all.0
  in_middle P (x ∷ front) e rest all = in_middle P front e rest all.1

  replied_client : (lines : List Line) (from : NodeId) (client : ClientId) (seq : ℕ) (partition : PartitionId) (bytes : List ℕ) → AllByRecursion (LineCarries (IsAsked c asked)) lines
      → IsFoldReply c lines from client seq partition bytes → HasClient c client
  replied_client lines from client seq partition bytes all k =
      let carried : ValueCarries (IsAsked c asked) k.place.ring.0 (Batch k.batch) = book_carries lines k.place.ring k.place.inst (Batch k.batch) all k.holds in
      let is : IsAsked c asked k.place.ring.0 k.entry = in_middle (IsAsked c asked k.place.ring.0) k.front k.entry k.rest
      (subst (λ (es : List Entry). AllByRecursion (IsAsked c asked k.place.ring.0) es) k.there (entries-asked c asked k.place.ring.0 (Batch k.batch) carried)) in
      subst (λ (x : ClientId). HasClient c x) (sym k.asker) is.client

  -- ---- frames

  of_parties : (lines : List Line) → AllByRecursion (LineCarries (IsAsked c asked)) lines → (from to : Party) (body : Body) → PartyFolded c lines from body → GoesBetween c from to body → HasParty c from × HasParty c to
  of_parties lines all (Node from) (Node to) body folded is = is
  of_parties lines all (Node from) (Client to) (Reply client seq partition reply) folded is =
      (is.0, subst (λ (x : ClientId). HasClient c x) (sym is.1) (replied_client lines from client seq partition reply all folded))
  of_parties lines all (Node from) (Client to) other folded is = absurd is
  of_parties lines all (Client from) (Node to) body folded is = is
  of_parties lines all (Client from) (Client to) body folded is = absurd is

  all_of_parties : (lines : List Line) → AllByRecursion (LineCarries (IsAsked c asked)) lines → (frames : List Sent) → AllByRecursion (SentFolded c lines) frames → AreAddressed c frames → AllByRecursion (IsOfParties c) frames
  all_of_parties lines all [] folded are = tt
  all_of_parties lines all (sent ∷ frames) folded are =
      (of_parties lines all sent.frame.from sent.to sent.frame.body folded.0 are.0, all_of_parties lines all frames folded.1 are.1)

pub frames_of_parties : (c : Config) (hs : List Happening) → IsRun c hs → AllByRecursion (IsOfParties c) (run c hs nothing).frames
frames_of_parties c hs r =
    all_of_parties c (asked_in c hs) (past [] (run c hs nothing).lines) (all_past (LineCarries (IsAsked c (asked_in c hs))) (run c hs nothing).lines [] (all_keep c hs r.may).carried.lines tt)
    (run c hs nothing).frames (run_states c hs r).frames (run_named c hs r).frames
