-- Tables stay tables.
use Rattle.std.proofs.Common.{arith, ◌≡◌, ◌≤◌, ℕ, Bool, true, false, not, if◌then◌else◌, List, [], ◌∷◌, length, Option, Some, None, refl}
use Rattle.std.specs.Prelude.{bytes_eq, filter}
use Rattle.std.specs.List.{AllByRecursion}
use Rattle.command_codec.specs.declared.reply.TableEntry.{TableEntry}
use Rattle.command_codec.specs.Replies.{IsTableEntry}
use Rattle.command_codec.specs.Valid.{IsKey, IsStored}
use Rattle.mrp_config.specs.Routing.{is_before}
use Rattle.plain_model.specs.Replicas.{value_of, without, put_in, with_entry}
use Rattle.plain_model.proofs.FoldTable.{antisymmetric, before_chain, other_turned}
use Rattle.state_laws.specs.States.{AreRisingAfter}

-- a key comes after no bytes
after_none : (key : List ℕ) → 1 ≤ length key → is_before [] key ≡ true
after_none [] some = absurd (omega (arith, some))
after_none (b ∷ key) some = refl

pub after_earlier : (a b : List ℕ) (entries : List TableEntry) → is_before a b ≡ true → AreRisingAfter b entries → AreRisingAfter a entries
after_earlier a b [] first are = tt
after_earlier a b (entry ∷ entries) first are = (are.0, before_chain a b entry.key first are.1, are.2)

pub filter_rises : (test : TableEntry → Bool) (before : List ℕ) (entries : List TableEntry) → AreRisingAfter before entries → AreRisingAfter before (filter test entries)
filter_rises test before [] are = tt
filter_rises test before (entry ∷ entries) are =
    by (test entry) (filter_rises test entry.key entries are.2) (filter_rises test before entries (after_earlier before entry.key entries are.1 are.2))
  where
    by : (t : Bool) → AreRisingAfter entry.key (filter test entries) → AreRisingAfter before (filter test entries) → AreRisingAfter before (if t then entry ∷ filter test entries else filter test entries)
    by true with_it without_it = (are.0, are.1, with_it)
    by false with_it without_it = without_it

-- ---- a key goes

abbrev pub AreOthers : List ℕ → List TableEntry → Type 0
AreOthers key entries = AllByRecursion (λ (entry : TableEntry). bytes_eq entry.key key ≡ false) entries

others_left : (key : List ℕ) (entries : List TableEntry) → AreOthers key (without key entries)
others_left key [] = tt
others_left key (entry ∷ entries) = by (bytes_eq entry.key key) refl (others_left key entries)
  where
    by : (t : Bool) → bytes_eq entry.key key ≡ t → AreOthers key (without key entries) → AreOthers key (if not t then entry ∷ without key entries else without key entries)
    by true e later = later
    by false e later = (e, later)

pub without_rises : (key before : List ℕ) (entries : List TableEntry) → AreRisingAfter before entries → AreRisingAfter before (without key entries)
without_rises key before entries are = filter_rises (λ (entry : TableEntry). not (bytes_eq entry.key key)) before entries are

-- ---- a key comes in

put_rises : (new : TableEntry) (before : List ℕ) (entries : List TableEntry) → IsTableEntry new → is_before before new.key ≡ true → AreRisingAfter before entries → AreOthers new.key entries →
    AreRisingAfter before (put_in new entries)
put_rises new before [] is first are others = (is, first, tt)
put_rises new before (entry ∷ entries) is first are others =
    by (is_before new.key entry.key) refl (λ h. put_rises new entry.key entries is h are.2 others.1)
  where
    by : (t : Bool) → is_before new.key entry.key ≡ t → (is_before entry.key new.key ≡ true → AreRisingAfter entry.key (put_in new entries)) →
        AreRisingAfter before (if t then new ∷ entry ∷ entries else entry ∷ put_in new entries)
    by true e later = (is, first, (are.0, e, are.2))
    by false e later = (are.0, are.1, later (antisymmetric new.key entry.key (other_turned entry.key new.key others.0) e))

pub with_entry_rises : (key value : List ℕ) (entries : List TableEntry) → IsKey key → IsStored value → AreRisingAfter [] entries → AreRisingAfter [] (with_entry key value entries)
with_entry_rises key value entries is stored are =
    put_rises (record { key = key; value = value }) [] (without key entries) (is, stored) (after_none key is.0) (without_rises key [] entries are) (others_left key entries)

-- ---- look-ups

abbrev pub IsStoredOrNone : Option (List ℕ) → Type 0
IsStoredOrNone None = Unit {0}
IsStoredOrNone (Some value) = IsStored value

pub value_stored : (key before : List ℕ) (entries : List TableEntry) → AreRisingAfter before entries → IsStoredOrNone (value_of key entries)
value_stored key before [] are = tt
value_stored key before (entry ∷ entries) are = by (bytes_eq entry.key key) (value_stored key entry.key entries are.2)
  where
    by : (t : Bool) → IsStoredOrNone (value_of key entries) → IsStoredOrNone (if t then Some entry.value else value_of key entries)
    by true later = are.0.1
    by false later = later
