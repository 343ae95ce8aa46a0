-- The service's own calls.
use Rattle.std.proofs.Common.{nat_lt, arith, ◌≡◌, ℕ, ◌+◌, ◌-◌, Bool, true, false, if◌then◌else◌, List, [], length, Option, Some, None, Result, Ok, Err, refl, sym, ◌∙◌, ap, subst, length-append}
use Rattle.std.specs.Prelude.{bytes_eq, IfOk, OnOk}
use Rattle.mrp_types.specs.declared.memory.Memory.{Memory}
use Rattle.command_codec.specs.declared.command.Command.{Command}
use Rattle.command_codec.specs.declared.command.Command.TheVariants.{Append, Multi, ReadLog, TrimLog, Get, Scan, Update, Insert, Delete, Swap}
use Rattle.command_codec.specs.declared.reply.Reply.{Reply}
use Rattle.command_codec.specs.declared.reply.Reply.TheVariants as replies
use Rattle.command_codec.specs.declared.reply.TableEntry.{TableEntry}
use Rattle.command_codec.specs.Valid.{IsCommand}
use Rattle.command_codec.specs.Replies.{IsReply}
use Rattle.plain_model.specs.Replicas.{LogState, log_length, empty_log, with_log, trimmed_to, trimming, Effect, effect_of, value_of, without, with_entry, page_of, scanned, value_or_absent, updating, inserting, deleting, swapping, told}
use Rattle.plain_model.specs.StateBytes.{logs_bytes, table_bytes}
use Rattle.plain_model.proofs.SizeLaws.{services-written}
use Rattle.state_laws.proofs.Replies.{effect_is}
use Rattle.services.specs.Parts.{Table, part_size, growth_of}
use Rattle.range_store.specs.Table.{table_size, held_size, IsTable, updated_by, inserted_by, swapped_by}
use Rattle.range_store.proofs.MapLaws.{size_with, size_without}

pub written : (table : List TableEntry) → part_size (Table table) ≡ table_size table
written table = omega (arith, services-written [] table, length-append (logs_bytes []) (table_bytes table))

pub size_is : (inside now : List TableEntry) (size : ℕ) → inside ≡ now → size ≡ table_size inside → size ≡ part_size (Table now)
size_is inside now size view sized = sized ∙ (ap (λ (l : List TableEntry). table_size l) view ∙ sym (written now))

pub of_view : (inside now : List TableEntry) → inside ≡ now → IsTable inside → IsTable now
of_view inside now is are = subst (λ (l : List TableEntry). IsTable l) is are

-- ---- what is answered

pub state_made : (r : Result Reply Memory) (new : List TableEntry) (e made : Effect) → e ≡ made → OnOk r (new ≡ made.table) → OnOk r (Table new ≡ Table e.table)
state_made (Ok x) new e made is so = ap (λ (l : List TableEntry). Table l) (so ∙ ap (λ (f : Effect). f.table) (sym is))
state_made (Err x) new e made is so = tt

pub same_made : (r : Result Reply Memory) (old : List TableEntry) (e made : Effect) → e ≡ made → old ≡ made.table → OnOk r (Table old ≡ Table e.table)
same_made (Ok x) old e made is so = ap (λ (l : List TableEntry). Table l) (so ∙ ap (λ (f : Effect). f.table) (sym is))
same_made (Err x) old e made is so = tt

pub reply_made : (r : Result Reply Memory) (e made : Effect) → e ≡ made → IfOk r (λ x. x ≡ made.reply) → IfOk r (λ x. x ≡ e.reply)
reply_made (Ok x) e made is so = so ∙ ap (λ (f : Effect). f.reply) (sym is)
reply_made (Err x) e made is so = tt

pub reply_is : (c : Command) (table : List TableEntry) (x : Reply) → IsCommand c → IsTable table → x ≡ (effect_of c [] table).reply → IsReply x
reply_is c table x is are so = subst (λ (y : Reply). IsReply y) (sym so) (effect_is c [] [] table is (omega arith) tt tt are).reply.valid

pub spelled_made : (r : Result Reply Memory) (c : Command) (table : List TableEntry) (made : Effect) → IsCommand c → IsTable table → effect_of c [] table ≡ made → IfOk r (λ x. x ≡ made.reply) → IfOk r IsReply
spelled_made (Ok x) c table made is are same so = reply_is c table x is are (so ∙ ap (λ (f : Effect). f.reply) (sym same))
spelled_made (Err x) c table made is are same so = tt

-- ---- effects

pub get_made : (c : Command) (key k : List ℕ) (t : List TableEntry) → c ≡ Get key → k ≡ key → effect_of c [] t ≡ told (value_or_absent (value_of k t)) [] t
unfolding effect_of
get_made c key k t is same = rw (is, same) refl

pub scan_made : (c : Command) (from to f u : List ℕ) (t : List TableEntry) → c ≡ Scan from to → f ≡ from → u ≡ to → effect_of c [] t ≡ told (page_of (scanned f u t)) [] t
unfolding effect_of
scan_made c from to f u t is same ends = rw (is, same, ends) refl

pub update_made : (c : Command) (key value k v : List ℕ) (t : List TableEntry) → c ≡ Update key value → k ≡ key → v ≡ value → effect_of c [] t ≡ updating (value_of k t) k v [] t
unfolding effect_of
update_made c key value k v t is same other = rw (is, same, other) refl

pub insert_made : (c : Command) (key value k v : List ℕ) (t : List TableEntry) → c ≡ Insert key value → k ≡ key → v ≡ value → effect_of c [] t ≡ inserting (value_of k t) k v [] t
unfolding effect_of
insert_made c key value k v t is same other = rw (is, same, other) refl

pub delete_made : (c : Command) (key k : List ℕ) (t : List TableEntry) → c ≡ Delete key → k ≡ key → effect_of c [] t ≡ deleting (value_of k t) k [] t
unfolding effect_of
delete_made c key k t is same = rw (is, same) refl

pub swap_made : (c : Command) (key old new k o n : List ℕ) (t : List TableEntry) → c ≡ Swap key old new → k ≡ key → o ≡ old → n ≡ new → effect_of c [] t ≡ swapping (value_of k t) k o n [] t
unfolding effect_of
swap_made c key old new k o n t is same older newer = rw (is, same, older, newer) refl

-- ---- growth

abbrev rise : List TableEntry → List TableEntry → ℕ
rise after before = part_size (Table after) - part_size (Table before)

no_rise : (t : List TableEntry) → rise t t ≡ 0
no_rise t = omega arith

grows : (key value : List ℕ) (t : List TableEntry) → IsTable t → rise (with_entry key value t) t ≡ 4 + (length key + length value) - held_size key (value_of key t)
grows key value t are = omega (arith, written (with_entry key value t), written t, size_with key value t are)

pub update_grows : (c : Command) (key value k v : List ℕ) (t : List TableEntry) (n : ℕ) → IsTable t → c ≡ Update key value → k ≡ key → v ≡ value → n ≡ updated_by v (value_of k t) → n ≡ growth_of c (Table t)
unfolding effect_of
update_grows c key value k v t n are is same other made = made ∙ sym (rw (is, ← same, ← other) (by (value_of k t) refl))
  where
    by : (o : Option (List ℕ)) → value_of k t ≡ o → rise (updating o k v [] t).table t ≡ updated_by v o
    by None e = no_rise t
    by (Some old) e = omega (arith, grows k v t are, ap (λ (o : Option (List ℕ)). held_size k o) e)

pub insert_grows : (c : Command) (key value k v : List ℕ) (t : List TableEntry) (n : ℕ) → IsTable t → c ≡ Insert key value → k ≡ key → v ≡ value → n ≡ inserted_by k v (value_of k t) → n ≡ growth_of c (Table t)
unfolding effect_of
insert_grows c key value k v t n are is same other made = made ∙ sym (rw (is, ← same, ← other) (by (value_of k t) refl))
  where
    by : (o : Option (List ℕ)) → value_of k t ≡ o → rise (inserting o k v [] t).table t ≡ inserted_by k v o
    by None e = omega (arith, grows k v t are, ap (λ (o : Option (List ℕ)). held_size k o) e)
    by (Some old) e = no_rise t

pub swap_grows : (c : Command) (key old new k o w : List ℕ) (t : List TableEntry) (n : ℕ) → IsTable t → c ≡ Swap key old new → k ≡ key → o ≡ old → w ≡ new → n ≡ swapped_by o w (value_of k t) → n ≡ growth_of c (Table t)
unfolding effect_of
swap_grows c key old new k o w t n are is same older newer made = made ∙ sym (rw (is, ← same, ← older, ← newer) (by (value_of k t) refl))
  where
    by : (h : Option (List ℕ)) → value_of k t ≡ h → rise (swapping h k o w [] t).table t ≡ swapped_by o w h
    by None e = no_rise t
    by (Some value) e = judged (bytes_eq value o)
      where
        judged : (b : Bool) → rise (if b then told replies.Done [] (with_entry k w t) else told (replies.Differs value) [] t).table t ≡ (if b then length w - length value else 0)
        judged true = omega (arith, grows k w t are, ap (λ (h : Option (List ℕ)). held_size k h) e)
        judged false = no_rise t

delete_grows : (key : List ℕ) (t : List TableEntry) → IsTable t → 0 ≡ rise (deleting (value_of key t) key [] t).table t
delete_grows key t are = sym (by (value_of key t))
  where
    by : (o : Option (List ℕ)) → rise (deleting o key [] t).table t ≡ 0
    by None = no_rise t
    by (Some old) = omega (arith, written (without key t), written t, size_without key t are)

trim_table : (position : ℕ) (log : LogState) (t : List TableEntry) → (trimming position log [] t).table ≡ t
trim_table position log t = by (nat_lt (log_length log) position)
  where
    by : (b : Bool) → (if b then told (replies.Beyond (log_length log)) [] t else told replies.Done (with_log (trimmed_to position log) []) t).table ≡ t
    by true = refl
    by false = refl

-- a command that brings nothing in adds nothing
pub rest_grows : (c : Command) (t : List TableEntry) → IsTable t → ((key value : List ℕ) → c ≡ Update key value → ⊥) → ((key value : List ℕ) → c ≡ Insert key value → ⊥) →
    ((key old new : List ℕ) → c ≡ Swap key old new → ⊥) → 0 ≡ growth_of c (Table t)
unfolding effect_of
rest_grows (Append log value) t are no_update no_insert no_swap = sym (no_rise t)
rest_grows (Multi named value) t are no_update no_insert no_swap = sym (no_rise t)
rest_grows (ReadLog log position) t are no_update no_insert no_swap = sym (no_rise t)
rest_grows (TrimLog log position) t are no_update no_insert no_swap = sym (ap (λ (l : List TableEntry). rise l t) (trim_table position (empty_log log) t) ∙ no_rise t)
rest_grows (Get key) t are no_update no_insert no_swap = sym (no_rise t)
rest_grows (Scan from to) t are no_update no_insert no_swap = sym (no_rise t)
rest_grows (Update key value) t are no_update no_insert no_swap = absurd (no_update key value refl)
rest_grows (Insert key value) t are no_update no_insert no_swap = absurd (no_insert key value refl)
rest_grows (Delete key) t are no_update no_insert no_swap = delete_grows key t are
rest_grows (Swap key old new) t are no_update no_insert no_swap = absurd (no_swap key old new refl)
