use Rattle.std.proofs.Common.{◌≡◌, ◌+◌, ◌<◌, ◌^◌, ◌++◌, ℕ, List, length, ap, sym, ◌∙◌, subst, append_assoc, arith}
use Rattle.std.specs.Prelude.{◌∷◌, drop}
use Rattle.std.proofs.Math.Seq.{drop-append_seam}
use Rattle.disk_model.proofs.Went.{went_none, went_wanting, went_before}
use Rattle.mrp_types.specs.declared.id.RingId.{RingId}
use Rattle.command_codec.specs.Fields.{u64_bytes}
use Rattle.frames.specs.Spelling.{tuple_bytes}
use Rattle.disk_states.proofs.Spelling.{body_length}
use Rattle.checkpoint.specs.Spelling.{checkpoint_body, front_bytes}
use Rattle.checkpoint.specs.Checkpoints.{save_ops}
use Rattle.checkpoint_disk.specs.Saves.{head_bytes}
use Rattle.checkpoint_disk.proofs.Wholeness.{still, moments, saves, reads_new, wanted_went}
use Rattle.checkpoint_disk.proofs.saving.put.Goals as goal

-- ---- the bytes of the area

head_body : (generation : ℕ) (tuple : List (RingId × ℕ)) (state : List ℕ) → head_bytes generation tuple (length state) ++ state ≡ checkpoint_body generation tuple state
head_body generation tuple state =
    append_assoc (front_bytes generation) (0 ∷ 2 ∷ (tuple_bytes tuple ++ u64_bytes (length state))) state
    ∙ ap (λ (rest : List ℕ). front_bytes generation ++ 0 ∷ 2 ∷ rest) (append_assoc (tuple_bytes tuple) (u64_bytes (length state)) state)

-- the head and the state behind it are the body, by what is known of each
body_is : {bytes body head : List ℕ} {generation of_checkpoints size : ℕ} {pairs tuple : List (RingId × ℕ)} (state : List ℕ) → bytes ≡ body → body ≡ head ++ state → head ≡ head_bytes (generation + 1) pairs size → size ≡ length state
    → generation ≡ of_checkpoints → pairs ≡ tuple → bytes ≡ checkpoint_body (of_checkpoints + 1) tuple state
body_is {generation = generation} {of_checkpoints = of_checkpoints} {size = size} {pairs = pairs} {tuple = tuple} state same joined made sized a b =
    same ∙ joined ∙ ap (λ (h : List ℕ). h ++ state) (made ∙ ap (λ (n : ℕ). head_bytes (generation + 1) pairs n) sized) ∙ head_body (generation + 1) pairs state
    ∙ ap (λ (n : ℕ). checkpoint_body (n + 1) pairs state) a ∙ ap (λ (ps : List (RingId × ℕ)). checkpoint_body (of_checkpoints + 1) ps state) b

fits : {size : ℕ} (state : List ℕ) → size < 2 ^ 64 → size ≡ length state → length state < 2 ^ 64
fits state small sized = subst (λ (n : ℕ). n < 2 ^ 64) sized small

-- ---- without memory

pub returns-in_err-head-clause-moments : goal.returns-in_err-head-clause-moments
returns-in_err-head-clause-moments g c t tells =
    still t (g.D.Disk.told c.args.disk.now) c.args.checkpoints.now c.args.tuple.now c.args.state tells.told (c.requires.settled t tells) (c.requires.stands t tells)

pub returns-in_err-head-clause-went : goal.returns-in_err-head-clause-went
returns-in_err-head-clause-went g c =
    wanted_went c.from_residual.result c.from_residual.ensures.1 (went_wanting (save_ops c.args.checkpoints.now c.args.tuple.now c.args.state) (went_none g.D.Disk c.args.disk.now))

pub returns-in_err-body-clause-moments : goal.returns-in_err-body-clause-moments
returns-in_err-body-clause-moments g c t tells =
    still t (g.D.Disk.told c.args.disk.now) c.args.checkpoints.now c.args.tuple.now c.args.state tells.told (c.requires.settled t tells) (c.requires.stands t tells)

pub returns-in_err-body-clause-went : goal.returns-in_err-body-clause-went
returns-in_err-body-clause-went g c =
    wanted_went c.from_residual-in_err-body.result c.from_residual-in_err-body.ensures.1 (went_wanting (save_ops c.args.checkpoints.now c.args.tuple.now c.args.state) (went_none g.D.Disk c.args.disk.now))

-- ---- the area renewed

pub renew-requires-clause-body : goal.renew-requires-clause-body
renew-requires-clause-body g c =
    let is = body_is c.args.state c.as_slice.ensures.value (c.in_ok-body.ensures ∙ ap (λ (h : List ℕ). h ++ c.args.state) c.bytes.ensures) c.in_ok-head.ensures.head c.len.ensures c.generation-generation.ensures c.pairs.ensures.pairs in
    omega (arith, ap length is, body_length (c.args.checkpoints.now.generation + 1) c.args.tuple.now c.args.state)

pub returns-in_err-renew-clause-moments : goal.returns-in_err-renew-clause-moments
returns-in_err-renew-clause-moments g c t tells =
    moments t (g.D.Disk.told c.renew.new.disk) c.args.checkpoints.now c.args.tuple.now c.args.state c.as_slice.result.now c.next_area.result
    (record { spelled = c.pairs.ensures.tuple; size = fits c.args.state c.head_of.ensures.size c.len.ensures; generation = c.requires.generation }) (c.requires.stands t tells)
    c.next_area.ensures
    (body_is c.args.state c.as_slice.ensures.value (c.in_ok-body.ensures ∙ ap (λ (h : List ℕ). h ++ c.args.state) c.bytes.ensures) c.in_ok-head.ensures.head c.len.ensures c.generation-generation.ensures c.pairs.ensures.pairs)
    (c.renew.ensures.moments t tells)

pub returns-clause-moments : goal.returns-clause-moments
returns-clause-moments g c t tells =
    moments t (g.D.Disk.told c.renew.new.disk) c.args.checkpoints.now c.args.tuple.now c.args.state c.as_slice.result.now c.next_area.result
    (record { spelled = c.pairs.ensures.tuple; size = fits c.args.state c.head_of.ensures.size c.len.ensures; generation = c.requires.generation }) (c.requires.stands t tells)
    c.next_area.ensures
    (body_is c.args.state c.as_slice.ensures.value (c.in_ok-body.ensures ∙ ap (λ (h : List ℕ). h ++ c.args.state) c.bytes.ensures) c.in_ok-head.ensures.head c.len.ensures c.generation-generation.ensures c.pairs.ensures.pairs)
    (c.renew.ensures.moments t tells)

pub returns-clause-stands : goal.returns-clause-stands
returns-clause-stands g c u now_tells =
    let before = went_before u c.renew.ensures.went now_tells in
    reads_new before.0 u c.args.checkpoints.now c.args.tuple.now c.args.state
    (record { spelled = c.pairs.ensures.tuple; size = fits c.args.state c.head_of.ensures.size c.len.ensures; generation = c.requires.generation })
    (c.requires.settled before.0 before.1) (c.requires.stands before.0 before.1)
    (saves c.args.checkpoints.now c.args.tuple.now c.args.state c.as_slice.result.now c.next_area.result c.next_area.ensures
    (body_is c.args.state c.as_slice.ensures.value (c.in_ok-body.ensures ∙ ap (λ (h : List ℕ). h ++ c.args.state) c.bytes.ensures) c.in_ok-head.ensures.head c.len.ensures c.generation-generation.ensures c.pairs.ensures.pairs)
    c.in_ok-renew.ensures.went)
    before.1 now_tells.told

-- ---- the state given back

given_back : {given body : List ℕ} {size : ℕ} (head state : List ℕ) → given ≡ drop size body → body ≡ head ++ state → size ≡ length head → given ≡ state
given_back {body = body} head state left joined sized = left ∙ ap (λ (n : ℕ). drop n body) sized ∙ ap (λ (b : List ℕ). drop (length head) b) joined ∙ drop-append_seam head state

pub returns-clause-given : goal.returns-clause-given
returns-clause-given g c = given_back c.bytes.result.now c.args.state c.without_front.ensures c.in_ok-body.ensures (c.len-2.ensures ∙ ap length (sym c.bytes.ensures))
