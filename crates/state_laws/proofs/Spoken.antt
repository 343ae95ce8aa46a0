-- The replies that the lists of a partition's entries have are replies, and short.
use Rattle.std.proofs.Common.{arith, ◌≡◌, Bool, true, false, if◌then◌else◌, List, [], ◌∷◌, ◌++◌, Option, Some, None, Result, Ok, Err, refl, sym, ap, subst, append_assoc, append-nil}
use Rattle.std.specs.Prelude.{find, option_map}
use Rattle.std.specs.List.{AllByRecursion}
use Rattle.mrp_types.specs.declared.value.Entry.{Entry}
use Rattle.command_codec.specs.declared.command.Command.{Command}
use Rattle.command_codec.specs.declared.fault.CodecFault.{CodecFault}
use Rattle.command_codec.specs.declared.reply.Reply.{Reply}
use Rattle.command_codec.specs.declared.reply.Reply.TheVariants as replies
use Rattle.command_codec.specs.Grammar.{command_at, command_of}
use Rattle.command_codec.specs.Spelling.{command_bytes}
use Rattle.command_codec.specs.Valid.{IsCommand}
use Rattle.command_codec.proofs.Combined.{whole_was}
use Rattle.command_codec.proofs.CommandLaws.{IsWhole, command_law}
use Rattle.mrp_config.specs.declared.tables.PartitionTable.{PartitionTable}
use Rattle.mrp_config.specs.Routing.{is_concerned}
use Rattle.plain_model.specs.Replicas.{apply}
use Rattle.plain_model.specs.Fold.{Answered, concerning, command_for, counts_after, is_newest_after, answered_of, with_answer, reply_with_room, reply_after, overfill, logs_of, table_of, is_of, reply_in, reply_to, replica_of, replica_after}
use Rattle.plain_model.proofs.FoldServices.{with_reply, effect-reply}
use Rattle.plain_model.proofs.FoldNumbers.{answered-counted, answered-passed}
use Rattle.state_laws.specs.Spoken.{IsSpoken, IsSpokenOrNone, IsTextOrNone}
use Rattle.state_laws.specs.States.{IsGiven, AreGiven, HasFewLogs, AreLogsOf, AreRisingAfter, IsState}
use Rattle.state_laws.proofs.Replies.{effect_is, limit_spoken}
use Rattle.state_laws.proofs.Steps.{below_of, after_is, apply_is}

abbrev pub AreSpoken : List Answered → Type 0
AreSpoken ans = AllByRecursion (λ (a : Answered). IsSpoken a.reply) ans

one_more : (ans : List Answered) (a : Answered) → AreSpoken ans → IsSpoken a.reply → AreSpoken (ans ++ a ∷ [])
one_more [] a are is = (is, tt)
one_more (b ∷ ans) a are is = (are.0, one_more ans a are.1 is)

given_more : (es : List Entry) (e : Entry) → AreGiven es → IsGiven e → AreGiven (es ++ e ∷ [])
given_more [] e are is = (is, tt)
given_more (d ∷ es) e are is = (are.0, given_more es e are.1 is)

reply_spoken : (p : PartitionTable) (ans : List Answered) (e : Entry) (c : Command) → HasFewLogs p → IsCommand c → AreLogsOf p.logs (logs_of p ans) → AreRisingAfter [] (table_of ans) →
    IsSpoken (reply_after p ans e c)
unfolding reply_after
reply_spoken p ans e c logs valid are rising = by (overfill p (ans ++ with_reply e c (reply_with_room c (logs_of p ans) (table_of ans)) ∷ []))
  where
    by : (t : Bool) → IsSpoken (if t then replies.Limit else reply_with_room c (logs_of p ans) (table_of ans))
    by true = limit_spoken
    by false = subst (λ (r : Reply). IsSpoken r) (effect-reply c (logs_of p ans) (table_of ans))
        (effect_is c p.logs (logs_of p ans) (table_of ans) valid logs.few (below_of p.logs logs.low) are rising).reply

-- the command that an entry of bytes has is one that is spelled
command_valid : (p : PartitionTable) (e : Entry) (c : Command) → IsGiven e → command_for p e ≡ Some c → IsCommand c
command_valid p e c given h = by (command_of e.command) refl h
  where
    none_some : (d : Command) → None ≡ Some d → ⊥
    none_some d g = grind arith

    or_this : Option Command → Command → Command
    or_this None y = y
    or_this (Some z) y = z

    chosen_is : (d : Command) (t : Bool) → command_of e.command ≡ Ok d → (if t then Some d else None) ≡ Some c → IsCommand c
    chosen_is d true g k = subst (λ (x : Command). IsCommand x) (ap (λ (o : Option Command). or_this o d) k) (whole_was Command command_at command_bytes IsWhole command_law e.command d given.bytes g).1.0
    chosen_is d false g k = absurd (none_some c k)

    by : (x : Result Command CodecFault) → command_of e.command ≡ x → concerning p x ≡ Some c → IsCommand c
    by (Err fault) g k = absurd (none_some c k)
    by (Ok d) g k = chosen_is d (is_concerned d p) g k

module _ (p : PartitionTable) (logs : HasFewLogs p) where
  step_spoken : (before : List Entry) (e : Entry) → AreGiven before → IsGiven e → AreSpoken (answered_of p before) → AreSpoken (answered_of p (before ++ e ∷ []))
  unfolding replica_of
  step_spoken before e given is are = by (counts_after p before e) refl
    where
      state : IsState p (replica_after p before)
      state = after_is p before logs given

      with_command : (o : Option Command) → command_for p e ≡ o → AreSpoken (with_answer p (answered_of p before) e o)
      with_command None h = are
      with_command (Some c) h =
          one_more (answered_of p before) (with_reply e c (reply_after p (answered_of p before) e c)) are (reply_spoken p (answered_of p before) e c logs (command_valid p e c is h) state.logs state.table)

      by : (t : Bool) → counts_after p before e ≡ t → AreSpoken (answered_of p (before ++ e ∷ []))
      by true h = subst (λ (l : List Answered). AreSpoken l) (sym (answered-counted p before e h)) (with_command (command_for p e) refl)
      by false h = subst (λ (l : List Answered). AreSpoken l) (sym (answered-passed p before e h)) are

  from_spoken : (before es : List Entry) → AreGiven before → AreGiven es → AreSpoken (answered_of p before) → AreSpoken (answered_of p (before ++ es))
  from_spoken before [] given more are = subst (λ (l : List Entry). AreSpoken (answered_of p l)) (sym (append-nil before)) are
  from_spoken before (e ∷ es) given more are =
      subst (λ (l : List Entry). AreSpoken (answered_of p l)) (append_assoc before (e ∷ []) es)
      (from_spoken (before ++ e ∷ []) es (given_more before e given more.0) more.1 (step_spoken before e given more.0 are))

  pub all_spoken : (es : List Entry) → AreGiven es → AreSpoken (answered_of p es)
  all_spoken es given = from_spoken [] es tt given tt

  found_spoken : (test : Answered → Bool) (ans : List Answered) → AreSpoken ans → IsSpokenOrNone (option_map (λ (a : Answered). a.reply) (find test ans))
  found_spoken test [] are = tt
  found_spoken test (a ∷ ans) are = by (test a) (found_spoken test ans are.1)
    where
      by : (t : Bool) → IsSpokenOrNone (option_map (λ (b : Answered). b.reply) (find test ans)) → IsSpokenOrNone (option_map (λ (b : Answered). b.reply) (if t then Some a else find test ans))
      by true later = are.0
      by false later = later

  pub to_spoken : (es : List Entry) (e : Entry) → AreGiven es → IsGiven e → IsSpokenOrNone (reply_to p es e)
  unfolding reply_to
  to_spoken es e given is = by (is_newest_after p es e)
    where
      by : (t : Bool) → IsSpokenOrNone (if t then reply_in e.client e.seq (answered_of p (es ++ e ∷ [])) else None)
      by true = found_spoken (is_of e.client e.seq) (answered_of p (es ++ e ∷ [])) (all_spoken (es ++ e ∷ []) (given_more es e given is))
      by false = tt

  pub text_spoken : (es : List Entry) (e : Entry) → AreGiven es → IsGiven e → IsTextOrNone (apply p (replica_after p es) e).reply
  text_spoken es e given is = (apply_is p (replica_after p es) e logs is (after_is p es logs given)).reply
