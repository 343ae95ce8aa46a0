-- The entries of a value are read back, and values are bytes where the commands that were asked are.
use Rattle.std.proofs.Common.{◌≡◌, ◌≤◌, ℕ, Bool, true, false, List, [], ◌∷◌, Option, Some, Result, Ok, refl, sym, subst, arith, ap, ◌∙◌}
use Rattle.std.specs.Prelude.{◌==◌, if◌then◌else◌}
use Rattle.std.specs.List.{AllByRecursion}
use Rattle.hex.specs.Hex.{IsBytes}
use Rattle.mrp_types.specs.declared.value.Entry.{Entry}
use Rattle.mrp_types.specs.declared.value.Value.{Value}
use Rattle.mrp_types.specs.declared.value.Value.TheVariants.{Skip, Batch}
use Rattle.command_codec.specs.declared.command.Command.{Command}
use Rattle.command_codec.specs.declared.fault.CodecFault.{CodecFault}
use Rattle.command_codec.specs.Grammar.{batch_at, batch_of, command_at, command_of}
use Rattle.command_codec.specs.Spelling.{command_bytes, batch_bytes, AreEntries, IsBatch}
use Rattle.command_codec.proofs.BatchLaws.{batch_law}
use Rattle.command_codec.proofs.Combined.{whole_again}
use Rattle.command_codec.proofs.CommandLaws.{IsWhole, command_law}
use Rattle.mrp_config.specs.declared.tables.ClientTable.{ClientTable}
use Rattle.mrp_config.specs.Config.{Config, client_at}
use Rattle.mrp_config.specs.Valid.{IsValid, AreAtMost, client_ids}
use Rattle.plain_model.proofs.TupleOrder.{same_number}
use Rattle.plain_model.specs.Replicas.{entries_or_none}
use Rattle.plain_model.specs.Fold.{entries_of_value}
use Rattle.state_laws.specs.Books.{IsOfBytes, AreOfBytes}
use Rattle.protocol.specs.Lines.{Line, Learn}
use Rattle.bare_world.specs.Worlds.{Happening, nothing}
use Rattle.bare_world.specs.Runs.{run, MayRun}
use Rattle.ask_laws.specs.Carried.{ValueCarries, LineCarries}
use Rattle.ask_laws.specs.Asks.{asked_in, IsAsked}
use Rattle.plain_model.specs.Lines.{learnings}
use Rattle.ask_laws.proofs.Commands.{IsOfBytes as EntryOfBytes, batch_are}
use Rattle.ask_laws.proofs.Given.{entry_of_bytes}
use Rattle.ask_laws.proofs.Lists.{mapped}
use Rattle.ask_laws.proofs.Worlds.{all_keep}

-- ---- entries

batch_read : (es : List Entry) → IsBatch es → batch_of (batch_bytes es) ≡ Ok es
batch_read es is = whole_again (List Entry) batch_at batch_bytes AreEntries batch_law es (record { some = is.some; few = is.few; each = is.each })

pub entries-asked : (config : Config) (asked : ℕ → ℕ → Option Command) (r : ℕ) (value : Value) → ValueCarries (IsAsked config asked) r value
    → AllByRecursion (IsAsked config asked r) (entries_of_value value)
entries-asked config asked r Skip is = tt
entries-asked config asked r (Batch batch) is =
    subst (λ (bytes : List ℕ). AllByRecursion (IsAsked config asked r) (entries_or_none (batch_of bytes))) (sym is.spelled)
    (subst (λ (x : Result (List Entry) CodecFault). AllByRecursion (IsAsked config asked r) (entries_or_none x)) (sym (batch_read is.entries is.valid)) is.each)

-- ---- bytes

module _ (config : Config) (hs : List Happening) (valid : IsValid config) where
  pub value-of-bytes : (r : ℕ) (value : Value) → ValueCarries (IsAsked config (asked_in config hs)) r value → IsOfBytes value
  value-of-bytes r Skip is = tt
  value-of-bytes r (Batch batch) is =
      subst (λ (text : List ℕ). IsBytes text) (sym is.spelled) (batch_are is.entries (mapped (IsAsked config (asked_in config hs) r) EntryOfBytes (entry_of_bytes config (asked_in config hs) valid r) is.entries is.each))

  lines_of_bytes : (lines : List Line) → AllByRecursion (LineCarries (IsAsked config (asked_in config hs))) lines → AreOfBytes (learnings lines)
  lines_of_bytes [] all = tt
  lines_of_bytes (l ∷ lines) all = by l all.0 (lines_of_bytes lines all.1)
    where
      by : (l : Line) → LineCarries (IsAsked config (asked_in config hs)) l → AreOfBytes (learnings lines) → AreOfBytes (learnings (l ∷ lines))
      by (Learn node ring lo hi value) is later = (value-of-bytes ring.0 value is, later)
      by other is later = later

  pub book-of-bytes : MayRun config nothing hs → AreOfBytes (learnings (run config hs nothing).lines)
  book-of-bytes may = lines_of_bytes (run config hs nothing).lines (all_keep config hs may).carried.lines

-- ---- commands

pub command-read : (config : Config) (hs : List Happening) (r : ℕ) (e : Entry) → IsAsked config (asked_in config hs) r e
    → (command : Command) × (asked_in config hs e.client.0 e.seq ≡ Some command) × (command_of e.command ≡ Ok command)
command-read config hs r e is = (
  is.command,
  is.told,
  ap (λ (text : List ℕ). command_of text) is.spelled
      ∙ whole_again Command command_at command_bytes IsWhole command_law is.command (is.valid.valid, is.valid.numbers),
)
