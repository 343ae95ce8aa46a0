-- A batch is read as it is spelled, and what is read is spelled so.
use Rattle.std.proofs.Common.{lit<, ◌≡◌, ℕ, ◌+◌, ◌-◌, ◌^◌, ◌<◌, ◌≤◌, List, [], ◌∷◌, ◌++◌, ◌==◌, length, Result, Ok, Err, refl, ap, subst, ◌∙◌, arith, IfOk}
use Rattle.std.specs.Int.{w16, w64}
use Rattle.std.proofs.lemmas.Bool.{eqb-true}
use Rattle.mrp_types.specs.declared.value.Entry.{Entry}
use Rattle.mrp_types.specs.Entries.{IsEntry}
use Rattle.command_codec.specs.declared.fault.CodecFault.{CodecFault}
use Rattle.command_codec.specs.declared.fault.CodecFault.TheVariants.{BadKind}
use Rattle.command_codec.specs.Fields.{u16_bytes, u64_bytes, string16}
use Rattle.command_codec.specs.Spelling.{entry_bytes, batch_bytes, AreEntries}
use Rattle.mrp_types.specs.Reading.{both}
use Rattle.command_codec.specs.Reader.{Spot, byte_at, number_at, within, string_at, Says}
use Rattle.command_codec.specs.Grammar.{entry_of, entry_at, entries_at, batch_at, batch_of}
use Rattle.command_codec.proofs.ReaderLaws.{AreBytes, Took, Again, Field, HasLength, one_byte, any_byte_law, number_law, wide16, wide64, within_law, string_law, rest_are}
use Rattle.command_codec.proofs.Combined.{both_law, shown_law, chosen, AllInChain, in_chain, of_chain, counted_law, counted_text, whole_was, whole_again}

abbrev pub IsNumber : ℕ → Type 0
IsNumber n = (n < 2 ^ 64) × (1 ≤ n) × (n ≤ 2 ^ 63 - 1)

abbrev pub numbered_text : ℕ × List ℕ → List ℕ
numbered_text v = u64_bytes v.0 ++ string16 v.1

abbrev pub entry_text : ℕ × (ℕ × List ℕ) → List ℕ
entry_text v = one_byte v.0 ++ numbered_text v.1

abbrev pub entry_parts : Entry → ℕ × (ℕ × List ℕ)
entry_parts entry = (entry.client.0, (entry.seq, entry.command))

pub entry_law : Field Entry entry_at entry_bytes IsEntry
unfolding entry_at
entry_law =
    shown_law (ℕ × (ℕ × List ℕ)) Entry entry_of entry_parts (both byte_at (both (within 1 (2 ^ 63 - 1) (number_at w64)) (string_at 0 4608))) entry_text entry_bytes
    (λ v. Unit {0} × (IsNumber v.1.0 × HasLength 0 4608 v.1.1)) IsEntry
    (both_law ℕ (ℕ × List ℕ) byte_at (both (within 1 (2 ^ 63 - 1) (number_at w64)) (string_at 0 4608)) one_byte numbered_text (λ n. Unit {0}) (λ v. IsNumber v.0 × HasLength 0 4608 v.1)
    any_byte_law
    (both_law ℕ (List ℕ) (within 1 (2 ^ 63 - 1) (number_at w64)) (string_at 0 4608) u64_bytes string16 IsNumber (HasLength 0 4608)
    (within_law 1 (2 ^ 63 - 1) (number_at w64) u64_bytes (λ n. n < 2 ^ 64) (number_law w64 (2 ^ 64) u64_bytes wide64))
    (string_law 0 4608 (lit< tt))))
    (λ v. refl)
    (λ v is. record { asked = is.1.0.1; numbered = omega (arith, is.1.0.2); short = is.1.1.1 })
    (λ entry. refl)
    (λ entry is. (tt, ((omega (arith, is.numbered), is.asked, omega (arith, is.numbered)), (omega arith, is.short))))

abbrev pub IsCount : ℕ → Type 0
IsCount n = (n < 2 ^ 16) × (1 ≤ n) × (n ≤ 65535)

entries_law : Field (List Entry) entries_at (counted_text u16_bytes entry_bytes) (λ es. IsCount (length es) × AllInChain {S = ℕ} (λ _. IsEntry) (λ _. 0) 0 es)
entries_law =
    counted_law ℕ Entry (within 1 65535 (number_at w16)) u16_bytes IsCount (within_law 1 65535 (number_at w16) u16_bytes (λ n. n < 2 ^ 16) (number_law w16 (2 ^ 16) u16_bytes wide16))
    (λ _. entry_at) (λ _. 0) entry_bytes (λ _. IsEntry) (λ _. entry_law) 0

abbrev pub WasBatch : ℕ → List ℕ → List Entry × Spot → Type 0
WasBatch at rest x = Took (record { at = at; rest = rest }) (batch_bytes x.0) x.1 × AreEntries x.0

batch_was : (at : ℕ) (rest : List ℕ) (x : List Entry × Spot) → AreBytes rest → batch_at (record { at = at; rest = rest }) ≡ Ok x → WasBatch at rest x
unfolding batch_at
batch_was at [] x are h = absurd (no_byte at x h)
  where
    no_byte : (at : ℕ) (x : List Entry × Spot) → batch_at (record { at = at; rest = [] }) ≡ Ok x → ⊥
    no_byte at x h = cc
batch_was at (kind ∷ rest) x are h =
    chosen (List Entry) (kind == 1) _ _ x (WasBatch at (kind ∷ rest) x) h
    (λ is r.
    let t = entries_law.was (record { at = at + 1; rest = rest }) x (rest_are kind rest are) r in
    let same : kind ≡ 1 = eqb-true _ _ is in
    (record { parts = rw same (ap (λ (y : List ℕ). 1 ∷ y) t.0.parts); bytes = t.0.bytes }, record { some = t.1.0.1; few = t.1.0.2; each = of_chain IsEntry x.0 t.1.1 }))
    (λ r. absurd (no_kind at x r))
  where
    no_kind : (at : ℕ) (x : List Entry × Spot) → Err (BadKind at) ≡ Ok x → ⊥
    no_kind at x h = cc

batch_again : (entries : List Entry) (at : ℕ) (tail : List ℕ) → AreEntries entries → Again (List Entry) batch_at batch_bytes entries at tail
unfolding batch_at
batch_again entries at tail are = entries_law.again entries (at + 1) tail ((omega (arith, are.few), are.some, are.few), in_chain IsEntry entries are.each)

pub batch_law : Field (List Entry) batch_at batch_bytes AreEntries
batch_law = record {
  was = λ spot x are h. batch_was spot.at spot.rest x are h;
  again = batch_again;
}

pub found_by : (bytes : List ℕ) (r : Result (List Entry) CodecFault) → AreBytes bytes → Says (λ (e : List Entry). e) (batch_of bytes) r → IfOk r (λ e. (bytes ≡ batch_bytes e) × AreEntries e)
found_by bytes (Ok entries) are says = whole_was (List Entry) batch_at batch_bytes AreEntries batch_law bytes entries are says
found_by bytes (Err e) are says = tt

pub only_so : (bytes : List ℕ) (r : Result (List Entry) CodecFault) → Says (λ (e : List Entry). e) (batch_of bytes) r → (entries : List Entry) → AreEntries entries →
    bytes ≡ batch_bytes entries → Says (λ (e : List Entry). e) (Ok entries) r
only_so bytes r says entries are spelled =
    let read : batch_of bytes ≡ Ok entries = ap batch_of spelled ∙ whole_again (List Entry) batch_at batch_bytes AreEntries batch_law entries are in
    subst (λ (o : Result (List Entry) CodecFault). Says (λ (e : List Entry). e) o r) read says
