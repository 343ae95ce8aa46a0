-- Each Reply frame of a run carries what its partition replies by the book.
use Rattle.std.proofs.Common.{arith, ◌≡◌, inl, inr, ℕ, ◌+◌, ◌≤◌, Bool, true, false, List, [], ◌∷◌, Some, refl, sym, ap, ◌∙◌, subst, true≢false}
use Rattle.std.specs.Prelude.{◌==◌, if◌then◌else◌}
use Rattle.std.specs.List.{AllByRecursion}
use Rattle.mrp_types.specs.declared.id.ClientId.{ClientId}
use Rattle.mrp_types.specs.declared.id.NodeId.{NodeId}
use Rattle.mrp_types.specs.declared.id.PartitionId.{PartitionId}
use Rattle.mrp_types.specs.Book.{Learning}
use Rattle.mrp_config.specs.declared.tables.PartitionTable.{PartitionTable}
use Rattle.mrp_config.specs.Config.{Config, partition_at}
use Rattle.mrp_config.specs.Valid.{IsValid, IncreasesFrom, partition_ids}
use Rattle.frames.specs.declared.body.Body.{Body}
use Rattle.frames.specs.declared.body.Body.TheVariants as bodies
use Rattle.frames.specs.declared.sent.Sent.{Sent}
use Rattle.quorums.specs.Groups.{Has}
use Rattle.plain_model.specs.Lines.{learnings}
use Rattle.protocol.specs.Lines.{Line}
use Rattle.bare_world.specs.Worlds.{Happening, nothing}
use Rattle.bare_world.specs.Runs.{run}
use Rattle.line_rules.specs.Scanners.{past, learned}
use Rattle.line_rules.proofs.Growing.{same_number}
use Rattle.line_rules.proofs.Ranges.{book_learned}
use Rattle.faithful.proofs.Quorum.{partition_there}
use Rattle.line_runs.specs.Laws.{IsRun}
use Rattle.answer_laws.specs.Answering.{RepliesTo, IsReplyOf}
use Rattle.state_steps.specs.Folded.{IsFoldReply}
use Rattle.state_runs.proofs.Books.{learned_latest}
use Rattle.state_runs.proofs.Laws.{sent_reply}
use Rattle.answer_runs.specs.Answers.{BodyReplies, RepliesOfFold}
use Rattle.answer_runs.proofs.Parts.{at_least, differ}
use Rattle.answer_runs.proofs.Giving.{given_replies}

-- a partition of the deployment is found by its number
found_by_number : (low : ℕ) (ps : List PartitionTable) (p : PartitionTable) → IncreasesFrom low (partition_ids ps) → Has ps p → partition_at ps p.id.0 ≡ Some p
found_by_number low [] p rise has = absurd has
found_by_number low (q ∷ ps) p rise (inl same) = first (q.id.0 == p.id.0) (subst (λ (x : PartitionTable). (x.id.0 == p.id.0) ≡ true) same (same_number p.id.0))
  where
    first : (t : Bool) → t ≡ true → (if t then Some q else partition_at ps p.id.0) ≡ Some p
    first true e = ap (λ (x : PartitionTable). Some x) (sym same)
    first false e = absurd (true≢false (sym e))
found_by_number low (q ∷ ps) p rise (inr has) =
    later (found_by_number (q.id.0 + 1) ps p rise.1 has) (q.id.0 == p.id.0) (differ q.id.0 p.id.0 (let least : q.id.0 + 1 ≤ p.id.0 = at_least (q.id.0 + 1) ps p rise.1 has in omega arith))
  where
    later : partition_at ps p.id.0 ≡ Some p → (t : Bool) → t ≡ false → (if t then Some q else partition_at ps p.id.0) ≡ Some p
    later found true e = absurd (true≢false e)
    later found false e = found

-- what the fold replies at a place is what the partition replies to the number
module _ (c : Config) (valid : IsValid c) (lines : List Line) (from : NodeId) (client : ClientId) (seq : ℕ) (partition : PartitionId) (bytes : List ℕ) (f : IsFoldReply c lines from client seq partition bytes) where
  own : Has c.partitions f.partition
  own = (partition_there c.partitions from f.partition f.replica).there

  replies : RepliesTo c (learned lines) f.entry.client f.entry.seq f.partition f.reply
  replies = given_replies c (learned lines) f.partition f.place f.batch f.below f.front f.rest f.entry f.reply valid own f.subscribed (sym (book_learned lines f.place.ring f.place.inst) ∙ f.holds) f.known f.there f.replied

  pub fold_replies : IsReplyOf c (learned lines) client seq partition bytes
  fold_replies = record {
    table = f.partition;
    there = subst (λ (id : PartitionId). partition_at c.partitions id.0 ≡ Some f.partition) (sym f.named) (found_by_number 0 c.partitions f.partition valid.partitions.ids own);
    reply = f.reply;
    replies = subst (λ (n : ℕ). RepliesTo c (learned lines) client n f.partition f.reply) (sym f.number) (subst (λ (k : ClientId). RepliesTo c (learned lines) k f.entry.seq f.partition f.reply) (sym f.asker) replies);
    spelled = f.spelled;
  }

-- ---- every run

each_all : {T : Type 0} (P : T → Type 0) (xs : List T) → ((x : T) → Has xs x → P x) → AllByRecursion P xs
each_all P [] each = tt
each_all P (x ∷ xs) each = (each x (inl refl), each_all P xs (λ y has. each y (inr has)))

module _ (c : Config) (hs : List Happening) (r : IsRun c hs) where
  sent_replies : (known : List Learning) → learned (past [] (run c hs nothing).lines) ≡ known → (sent : Sent) → Has (run c hs nothing).frames sent → BodyReplies c known sent.frame.body
  sent_replies known same sent has = go sent.frame.body refl
    where
      go : (body : Body) → sent.frame.body ≡ body → BodyReplies c known body
      go (bodies.Reply client seq partition bytes) e =
          let s = sent_reply c hs r sent client seq partition bytes has e in
          subst (λ (book : List Learning). IsReplyOf c book client seq partition bytes) same (fold_replies c r.valid (past [] (run c hs nothing).lines) s.from client seq partition bytes s.folded)
      go other e = tt

  pub frames_reply : RepliesOfFold c (run c hs nothing)
  frames_reply = each_all (λ (s : Sent). BodyReplies c (learnings (run c hs nothing).lines) s.frame.body) (run c hs nothing).frames
      (sent_replies (learnings (run c hs nothing).lines) (learned_latest (run c hs nothing).lines))
