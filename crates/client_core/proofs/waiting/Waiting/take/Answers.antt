use Rattle.std.proofs.Common.{arith, ◌≡◌, ◌≤◌, not, ◌∙◌, sym, ap, subst, length, map, ℕ, true, false, List}
use Rattle.mrp_types.specs.declared.id.PartitionId.{PartitionId}
use Rattle.command_codec.specs.declared.reply.Reply.{Reply}
use Rattle.command_codec.specs.Replies.{reply_bytes, joined}
use Rattle.mrp_config.specs.Routing.{is_concerned, concerned_of}
use Rattle.protocol.specs.Client.{has_part, have_all}
use Rattle.client_core.specs.Counted.{IsPart, ArePartsOf}
use Rattle.client_core.proofs.Rules.{unfit_follow, gathered_follow, answered_follow}
use Rattle.client_core.proofs.Keeping.{keeps_parts}
use Rattle.client_core.proofs.Joining.{can_be_joined, first_true, second_true, not_true}
use Rattle.client_core.proofs.MissingLaws.{none_missing, some_missing}
use Rattle.client_core.proofs.waiting.Waiting.take.Goals as goal

pub returns-then-not-fits-clause-taken : goal.returns-then-not-fits-clause-taken
returns-then-not-fits-clause-taken c = λ id next.
    unfit_follow c.args.deployment.now id next c.args.self.now c.args.p.now c.args.bytes.now c.in_ok-reply.reply c.requires.there (first_true (is_concerned c.args.self.now.command c.args.p.now) (not (has_part c.args.self.now.parts c.args.p.now.id)) c.requires.awaited) (not_true (has_part c.args.self.now.parts c.args.p.now.id) (second_true (is_concerned c.args.self.now.command c.args.p.now) (not (has_part c.args.self.now.parts c.args.p.now.id)) c.requires.awaited))
    c.in_ok-reply.ensures.exact (sym c.if-not-fits.ensures)

pub returns-then-bits_missing-ne0-clause-parts : goal.returns-then-bits_missing-ne0-clause-parts
returns-then-bits_missing-ne0-clause-parts c =
    let part : IsPart c.args.self.now.command c.args.p.now c.in_ok-reply.reply = record {
      valid = c.in_ok-reply.ensures.found.1;
      short = subst (λ (bytes : List ℕ). length bytes ≤ 16384) c.in_ok-reply.ensures.found.0 c.requires.short;
      fit = sym c.if-not-fits.ensures;
    } in
    rw c.in_ok-at.ensures.put (keeps_parts c.args.self.now.command c.in_ok-reply.reply c.args.p.now 0 c.args.deployment.now.partitions c.args.self.now.parts c.requires.config.partitions.ids
    c.requires.there part c.requires.parts (not_true (has_part c.args.self.now.parts c.args.p.now.id) (second_true (is_concerned c.args.self.now.command c.args.p.now) (not (has_part c.args.self.now.parts c.args.p.now.id)) c.requires.awaited)))

pub returns-then-bits_missing-ne0-clause-taken : goal.returns-then-bits_missing-ne0-clause-taken
returns-then-bits_missing-ne0-clause-taken c = λ id next.
    let some : have_all (concerned_of c.args.self.now.command c.args.deployment.now.partitions) c.insert.new.self ≡ false =
    some_missing (concerned_of c.args.self.now.command c.args.deployment.now.partitions) c.insert.new.self (λ none. c.if-bits_missing-ne0.true (c.bits_missing.ensures ∙ none)) in
    gathered_follow c.args.deployment.now id next c.args.self.now (record c.args.self.now { parts = c.insert.new.self }) c.args.p.now c.args.bytes.now c.in_ok-reply.reply
    c.requires.there (first_true (is_concerned c.args.self.now.command c.args.p.now) (not (has_part c.args.self.now.parts c.args.p.now.id)) c.requires.awaited) (not_true (has_part c.args.self.now.parts c.args.p.now.id) (second_true (is_concerned c.args.self.now.command c.args.p.now) (not (has_part c.args.self.now.parts c.args.p.now.id)) c.requires.awaited)) c.in_ok-reply.ensures.exact (sym c.if-not-fits.ensures)
    (ap (λ parts. record c.args.self.now { parts = parts }) c.in_ok-at.ensures.put) (subst (λ parts. have_all (concerned_of c.args.self.now.command c.args.deployment.now.partitions) parts ≡ false) c.in_ok-at.ensures.put some)

pub join_parts-requires : goal.join_parts-requires
join_parts-requires c =
    let part : IsPart c.args.self.now.command c.args.p.now c.in_ok-reply.reply = record {
      valid = c.in_ok-reply.ensures.found.1;
      short = subst (λ (bytes : List ℕ). length bytes ≤ 16384) c.in_ok-reply.ensures.found.0 c.requires.short;
      fit = sym c.if-not-fits.ensures;
    } in
    let inside = c.in_ok-at.ensures.inside in
    can_be_joined c.args.deployment.now c.args.self.now.command c.insert.new.self c.requires.config c.requires.valid (omega (arith, inside))
    (subst (λ parts. ArePartsOf c.args.self.now.command c.args.deployment.now.partitions parts) (sym c.in_ok-at.ensures.put)
    (keeps_parts c.args.self.now.command c.in_ok-reply.reply c.args.p.now 0 c.args.deployment.now.partitions c.args.self.now.parts c.requires.config.partitions.ids
    c.requires.there part c.requires.parts (not_true (has_part c.args.self.now.parts c.args.p.now.id) (second_true (is_concerned c.args.self.now.command c.args.p.now) (not (has_part c.args.self.now.parts c.args.p.now.id)) c.requires.awaited))))

pub returns-in-Ok-clause-taken : goal.returns-in-Ok-clause-taken
returns-in-Ok-clause-taken c = λ id next.
    let all : have_all (concerned_of c.args.self.now.command c.args.deployment.now.partitions) c.insert.new.self ≡ true =
    none_missing (concerned_of c.args.self.now.command c.args.deployment.now.partitions) c.insert.new.self (sym c.bits_missing.ensures ∙ c.if-bits_missing-ne0.false) in
    answered_follow c.args.deployment.now id next c.args.self.now c.args.p.now c.args.bytes.now c.in-Ok.joined c.in_ok-reply.reply
    c.requires.there (first_true (is_concerned c.args.self.now.command c.args.p.now) (not (has_part c.args.self.now.parts c.args.p.now.id)) c.requires.awaited) (not_true (has_part c.args.self.now.parts c.args.p.now.id) (second_true (is_concerned c.args.self.now.command c.args.p.now) (not (has_part c.args.self.now.parts c.args.p.now.id)) c.requires.awaited)) c.in_ok-reply.ensures.exact (sym c.if-not-fits.ensures)
    (subst (λ parts. have_all (concerned_of c.args.self.now.command c.args.deployment.now.partitions) parts ≡ true) c.in_ok-at.ensures.put all)
    (c.in-Ok.ensures ∙ ap (λ (parts : List (PartitionId × Reply)). reply_bytes (joined (map (λ (part : PartitionId × Reply). part.1) parts))) c.in_ok-at.ensures.put)

pub returns-in-Ok-clause-parts : goal.returns-in-Ok-clause-parts
returns-in-Ok-clause-parts c =
    let part : IsPart c.args.self.now.command c.args.p.now c.in_ok-reply.reply = record {
      valid = c.in_ok-reply.ensures.found.1;
      short = subst (λ (bytes : List ℕ). length bytes ≤ 16384) c.in_ok-reply.ensures.found.0 c.requires.short;
      fit = sym c.if-not-fits.ensures;
    } in
    rw c.in_ok-at.ensures.put (keeps_parts c.args.self.now.command c.in_ok-reply.reply c.args.p.now 0 c.args.deployment.now.partitions c.args.self.now.parts c.requires.config.partitions.ids
    c.requires.there part c.requires.parts (not_true (has_part c.args.self.now.parts c.args.p.now.id) (second_true (is_concerned c.args.self.now.command c.args.p.now) (not (has_part c.args.self.now.parts c.args.p.now.id)) c.requires.awaited)))
