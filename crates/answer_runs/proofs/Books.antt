-- What the book has of a client's number: the one command that the client took under it.
use Rattle.std.proofs.Common.{◌≡◌, ℕ, Bool, true, false, List, [], ◌∷◌, ◌++◌, Option, Some, Result, Ok, refl, sym, ap, ◌∙◌, subst}
use Rattle.std.specs.Prelude.{◌==◌, ◌&&◌, nat_le, nat_lt, if◌then◌else◌}
use Rattle.std.specs.List.{AllByRecursion}
use Rattle.mrp_types.specs.declared.id.ClientId.{ClientId}
use Rattle.mrp_types.specs.declared.id.RingId.{RingId}
use Rattle.mrp_types.specs.declared.value.Entry.{Entry}
use Rattle.mrp_types.specs.declared.value.Value.{Value}
use Rattle.mrp_types.specs.Book.{Learning, covers, book_of}
use Rattle.command_codec.specs.declared.command.Command.{Command}
use Rattle.command_codec.specs.Grammar.{command_at, command_of}
use Rattle.command_codec.specs.Spelling.{command_bytes}
use Rattle.command_codec.proofs.Combined.{whole_again}
use Rattle.command_codec.proofs.CommandLaws.{IsWhole, command_law}
use Rattle.mrp_config.specs.declared.routing.NoGroup.{NoGroup}
use Rattle.mrp_config.specs.Config.{Config}
use Rattle.mrp_config.specs.Routing.{concerned_of, route_of}
use Rattle.plain_model.specs.Fold.{entries_of_value}
use Rattle.plain_model.specs.Lines.{learnings}
use Rattle.plain_model.proofs.TupleOrder.{split_and, same_number}
use Rattle.protocol.specs.Lines.{Line, Learn}
use Rattle.faithful.proofs.Quorum.{all_has}
use Rattle.ask_laws.specs.Carried.{ValueCarries, LineCarries}
use Rattle.ask_laws.specs.Asks.{IsAsked}
use Rattle.ask_laws.proofs.Reading.{entries-asked}
use Rattle.answer_laws.specs.Answering.{IsAskedOnce}

-- ---- what was learned

pub learnings_both : (xs ys : List Line) → learnings (xs ++ ys) ≡ learnings xs ++ learnings ys
learnings_both [] ys = refl
learnings_both (l ∷ xs) ys = by (learnings_both xs ys) l
  where
    by : learnings (xs ++ ys) ≡ learnings xs ++ learnings ys → (k : Line) → learnings (k ∷ (xs ++ ys)) ≡ learnings (k ∷ xs) ++ learnings ys
    by later (Learn node ring lo hi value) = ap (λ (ls : List Learning). record { ring = ring; lo = lo; hi = hi; value = value } ∷ ls) later
    by later other = later

-- ---- values of the book

module _ (Is : ℕ → Entry → Type 0) where
  learnings_carry : (lines : List Line) → AllByRecursion (LineCarries Is) lines → AllByRecursion (λ (l : Learning). ValueCarries Is l.ring.0 l.value) (learnings lines)
  learnings_carry [] all = tt
  learnings_carry (l ∷ lines) all = by l all.0 (learnings_carry lines all.1)
    where
      by : (k : Line) → LineCarries Is k → AllByRecursion (λ (l : Learning). ValueCarries Is l.ring.0 l.value) (learnings lines) → AllByRecursion (λ (l : Learning). ValueCarries Is l.ring.0 l.value) (learnings (k ∷ lines))
      by (Learn node ring lo hi value) is later = (is, later)
      by other is later = later

  book_carries : (known : List Learning) (ring : RingId) (inst : ℕ) (value : Value) → AllByRecursion (λ (l : Learning). ValueCarries Is l.ring.0 l.value) known → book_of known ring inst ≡ Some value → ValueCarries Is ring.0 value
  book_carries [] ring inst value all e = absurd (cc)
  book_carries (l ∷ known) ring inst value all e = go (λ h. book_carries known ring inst value all.1 h) (covers l ring inst) refl e
    where
      some : (x y : Value) → Some x ≡ Some y → x ≡ y
      some x y h = cc

      go : (book_of known ring inst ≡ Some value → ValueCarries Is ring.0 value) → (t : Bool) → covers l ring inst ≡ t → (if t then Some l.value else book_of known ring inst) ≡ Some value → ValueCarries Is ring.0 value
      go later true c h =
          let s = split_and (l.ring.0 == ring.0) (nat_le l.lo inst && nat_lt inst l.hi) c in
          subst (λ (v : Value). ValueCarries Is ring.0 v) (some l.value value h) (subst (λ (n : ℕ). ValueCarries Is n l.value) (same_number l.ring.0 ring.0 s.0) all.0)
      go later false c h = later h

-- ---- one command

some_command : (x y : Command) (o : Option Command) → o ≡ Some x → o ≡ Some y → x ≡ y
some_command x y o e f = cc

ok_ring : (x y : RingId) (o : Result RingId NoGroup) → o ≡ Ok x → o ≡ Ok y → x ≡ y
ok_ring x y o e f = cc

pub asked_once : (c : Config) (asked : ℕ → ℕ → Option Command) (lines : List Line) (client : ClientId) (seq : ℕ) (ring : RingId) (command : Command) → AllByRecursion (LineCarries (IsAsked c asked)) lines
    → asked client.0 seq ≡ Some command → route_of (concerned_of command c.partitions) ≡ Ok ring → IsAskedOnce (learnings lines) client seq ring command
asked_once c asked lines client seq ring command carry told route place value e known has by_client by_seq = (
  ok_ring place.ring ring (route_of (concerned_of command c.partitions)) (ap (λ (x : Command). route_of (concerned_of x c.partitions)) (sym same) ∙ is.route) route,
  ap command_of is.spelled ∙ whole_again Command command_at command_bytes IsWhole command_law is.command (is.valid.valid, is.valid.numbers) ∙ ap (λ (x : Command). Ok x) same,
)
  where
    is : IsAsked c asked place.ring.0 e
    is = all_has (IsAsked c asked place.ring.0) (entries_of_value value) e
        (entries-asked c asked place.ring.0 value (book_carries (IsAsked c asked) (learnings lines) place.ring place.inst value (learnings_carry (IsAsked c asked) lines carry) known)) has

    same : is.command ≡ command
    same = some_command is.command command (asked client.0 seq) (ap (λ (n : ℕ). asked n seq) (sym by_client) ∙ ap (λ (n : ℕ). asked e.client.0 n) (sym by_seq) ∙ is.told) told
