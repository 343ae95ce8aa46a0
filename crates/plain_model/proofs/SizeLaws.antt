-- How many bytes are written.
use Rattle.std.proofs.Common.{arith, ◌≡◌, ◌≤◌, ℕ, ◌+◌, ◌-◌, List, [], ◌∷◌, ◌++◌, length, refl, ◌∙◌, length-append}
use Rattle.std.specs.List.{flat_map, sum_by}
use Rattle.std.proofs.lemmas.List.Concat.{length-flat_map}
use Rattle.std.proofs.lemmas.List.Sums.{sum_by-cons}
use Rattle.command_codec.specs.declared.reply.TableEntry.{TableEntry}
use Rattle.command_codec.specs.Fields.{u16_bytes, u64_bytes, string16}
use Rattle.command_codec.specs.Replies.{table_entry_bytes, reply_bytes}
use Rattle.command_codec.proofs.Sizes.{length-u16_bytes, length-u64_bytes, length-string16}
use Rattle.plain_model.specs.Replicas.{LogState, log_size, entry_size, services_size, page_of}
use Rattle.plain_model.specs.Pages.{front_within}
use Rattle.plain_model.proofs.Pages.{front-longest}
use Rattle.plain_model.specs.StateBytes.{log_bytes, logs_bytes, table_bytes}

sum-same : {X : Type 0} (f g : X → ℕ) → ((x : X) → f x ≡ g x) → (xs : List X) → sum_by f xs ≡ sum_by g xs
sum-same f g same [] = refl
sum-same f g same (x ∷ xs) = omega (arith, sum_by-cons f x xs, sum_by-cons g x xs, same x, sum-same f g same xs)

length-value : (value : List ℕ) → length (string16 value) ≡ 2 + length value
length-value value = omega (arith, length-string16 value)

length-entry : (entry : TableEntry) → length (table_entry_bytes entry) ≡ entry_size entry
length-entry entry = omega (arith, length-append (string16 entry.key) (string16 entry.value), length-string16 entry.key, length-string16 entry.value)

length-log : (log : LogState) → length (log_bytes log) ≡ log_size log
length-log log = omega (
  arith,
  length-append (u64_bytes log.trim ++ u64_bytes (length log.values)) (flat_map string16 log.values),
  length-append (u64_bytes log.trim) (u64_bytes (length log.values)),
  length-u64_bytes log.trim,
  length-u64_bytes (length log.values),
  length-flat_map string16 log.values,
  sum-same (λ (value : List ℕ). length (string16 value)) (λ (value : List ℕ). 2 + length value) length-value log.values,
)

length-logs : (logs : List LogState) → length (logs_bytes logs) ≡ 1 + sum_by log_size logs
length-logs logs = omega (arith, length-flat_map log_bytes logs, sum-same (λ (log : LogState). length (log_bytes log)) log_size length-log logs)

length-entries : (entries : List TableEntry) → length (flat_map table_entry_bytes entries) ≡ sum_by entry_size entries
length-entries entries = length-flat_map table_entry_bytes entries ∙ sum-same (λ (entry : TableEntry). length (table_entry_bytes entry)) entry_size length-entry entries

length-table : (table : List TableEntry) → length (table_bytes table) ≡ 8 + sum_by entry_size table
length-table table = omega (arith, length-append (u64_bytes (length table)) (flat_map table_entry_bytes table), length-u64_bytes (length table), length-entries table)

pub services-written : (logs : List LogState) (table : List TableEntry) → services_size logs table ≡ length (logs_bytes logs ++ table_bytes table)
services-written logs table = omega (arith, length-append (logs_bytes logs) (table_bytes table), length-logs logs, length-table table)

-- ---- pages

pub page-short : (all : List TableEntry) → length (reply_bytes (page_of all)) ≤ 16384
page-short all =
    let front : List TableEntry = front_within entry_size (16384 - 4) all in
    omega (
      arith,
      (front-longest entry_size (16384 - 4) all).fits,
      length-append (u16_bytes (length front)) (flat_map table_entry_bytes front),
      length-u16_bytes (length front),
      length-entries front,
    )
