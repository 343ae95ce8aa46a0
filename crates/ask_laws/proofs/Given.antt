-- An asked entry of a valid deployment is of bytes.
use Rattle.std.proofs.Common.{◌≡◌, ◌≤◌, ℕ, Bool, true, false, List, [], ◌∷◌, Option, Some, None, refl, sym, subst, arith}
use Rattle.std.specs.Prelude.{◌==◌, if◌then◌else◌}
use Rattle.hex.specs.Hex.{IsBytes}
use Rattle.mrp_types.specs.declared.value.Entry.{Entry}
use Rattle.command_codec.specs.declared.command.Command.{Command}
use Rattle.mrp_config.specs.declared.tables.ClientTable.{ClientTable}
use Rattle.mrp_config.specs.Config.{Config, client_at}
use Rattle.mrp_config.specs.Valid.{IsValid, AreAtMost, client_ids}
use Rattle.plain_model.proofs.TupleOrder.{same_number}
use Rattle.ask_laws.specs.Asks.{IsAsked}
use Rattle.ask_laws.proofs.Commands.{IsOfBytes}

client_small : (most : ℕ) (clients : List ClientTable) (id : ℕ) (table : ClientTable) → AreAtMost most (client_ids clients) → client_at clients id ≡ Some table → id ≤ most
client_small most [] id table all e = absurd (cc)
client_small most (c ∷ clients) id table all e = by (c.id.0 == id) refl e (λ h. client_small most clients id table all.1 h)
  where
    by : (t : Bool) → (c.id.0 == id) ≡ t → (if t then Some c else client_at clients id) ≡ Some table → (client_at clients id ≡ Some table → id ≤ most) → id ≤ most
    by true h found later = subst (λ (n : ℕ). n ≤ most) (same_number c.id.0 id h) all.0
    by false h found later = later found

pub entry_of_bytes : (config : Config) (asked : ℕ → ℕ → Option Command) → IsValid config → (r : ℕ) (e : Entry) → IsAsked config asked r e → IsOfBytes e
entry_of_bytes config asked valid r e is = record {
  client = let small : e.client.0 ≤ 255 = client_small 255 config.clients e.client.0 is.client.0 valid.clients.numbers is.client.1 in omega arith;
  command = subst (λ (text : List ℕ). IsBytes text) (sym is.spelled) is.valid.bytes;
}
