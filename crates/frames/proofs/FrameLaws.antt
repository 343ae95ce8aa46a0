-- A frame is read as it is spelled, and what is read is spelled so.
use Rattle.std.proofs.Common.{◌≡◌, ℕ, ◌<◌, ◌≤◌, ◌==◌, ◌&&◌, nat_le, nat_lt, Bool, true, false, if◌then◌else◌, List, [], ◌∷◌, ◌++◌, length, Result, Ok, Err, refl, sym, ap, subst, ◌∙◌, append-nil, arith, IfOk}
use Rattle.std.proofs.lemmas.Bool.{eqb-true}
use Rattle.std.proofs.lemmas.List.{nil_from_length}
use Rattle.mrp_types.proofs.TestLemmas.{both as both_tests, at_most, not_above}
use Rattle.mrp_types.specs.declared.id.ClientId.{ClientId}
use Rattle.mrp_types.specs.declared.id.Party.{Party}
use Rattle.mrp_types.specs.declared.id.Party.TheVariants.{Node, Client}
use Rattle.command_codec.specs.declared.fault.CodecFault.{CodecFault}
use Rattle.command_codec.specs.declared.fault.CodecFault.TheVariants as fields
use Rattle.mrp_types.specs.Reading.{◌>>=◌, follow}
use Rattle.command_codec.specs.Reader.{Spot, start, Reader, byte_at, bytes_at, within, ended}
use Rattle.command_codec.proofs.ReaderLaws.{AreBytes, Took, Field, one_byte, byte_law, within_law, bound, then_was, rest_are}
use Rattle.command_codec.proofs.Combined.{shown_law, shown_was}
use Rattle.frames.specs.declared.body.Body.{Body}
use Rattle.frames.specs.declared.body.Body.TheVariants.{Submit, Prepare, Promise, Refuse, Accept, Decide, Fetch, Chosen, Trimmed, AskSafe, Safe, TrimTo, AskCheckpoint, HaveCheckpoint, AskPart, Part, Gone, Reply, Hello}
use Rattle.frames.specs.declared.frame.Frame.{Frame}
use Rattle.frames.specs.declared.fault.FrameFault.{FrameFault}
use Rattle.frames.specs.declared.fault.FrameFault.TheVariants.{TooLong, BadMagic, BadVersion, BadKind}
use Rattle.frames.specs.Grammar.{body_of_kind, is_client, most_party, most_id, party_of, party_at, frame_of_kind, fault_of, in_frame, unless, is_magic, kind_at, all_of, read_of}
use Rattle.frames.specs.Spelling.{kind_of_body, body_bytes, party_bytes, frame_bytes}
use Rattle.frames.specs.Valid.{IsBody, HasNumbers, HasId, MaySend, IsFrame}
use Rattle.frames.specs.Saying.{Says}
use Rattle.frames.proofs.ListLaws.{then_by}
use Rattle.frames.proofs.BodyLaws.{hops_of, IsOfKind, body_law}

-- ---- senders

-- a node, or a client where the kind may be a client's
abbrev pub IsParty : ℕ → Party → Type 0
IsParty kind (Node node) = node.0 < 32
IsParty kind (Client client) = (kind ≡ 1) × (client.0 < 256)

abbrev IsPair : ℕ → ℕ × ℕ → Type 0
IsPair kind x = ((x.0 < 256) × (0 ≤ x.0) × (x.0 ≤ most_party kind)) × ((x.1 < 256) × (0 ≤ x.1) × (x.1 ≤ most_id x.0))

pair_law : (kind : ℕ) → Field (ℕ × ℕ) (follow (within 0 (most_party kind) byte_at) (λ party. within 0 (most_id party) byte_at)) (λ x. one_byte x.0 ++ one_byte x.1) (IsPair kind)
pair_law kind = then_by (within_law 0 (most_party kind) byte_at one_byte (λ n. n < 256) byte_law) (λ party. within_law 0 (most_id party) byte_at one_byte (λ n. n < 256) byte_law)

one_at_most : (kind n : ℕ) → n ≤ most_party kind → (n == 0) ≡ false → (kind ≡ 1) × (n ≡ 1)
one_at_most kind n most other = by_kind (kind == 1) refl most
  where
    by_kind : (t : Bool) → (kind == 1) ≡ t → n ≤ (if t then 1 else 0) → (kind ≡ 1) × (n ≡ 1)
    by_kind true is high = (grind arith, grind arith)
    by_kind false is high = absurd (grind arith)

pair_is : (kind : ℕ) (x : ℕ × ℕ) → IsPair kind x → (party_bytes (party_of x) ≡ one_byte x.0 ++ one_byte x.1) × IsParty kind (party_of x)
pair_is kind x is = by_first (x.0 == 0) refl is.1.2
  where
    by_first : (t : Bool) → (x.0 == 0) ≡ t → x.1 ≤ (if t then 31 else 255) →
        (party_bytes (if t then Node (record { 0 = x.1 }) else Client (record { 0 = x.1 })) ≡ one_byte x.0 ++ one_byte x.1) × IsParty kind (if t then Node (record { 0 = x.1 }) else Client (record { 0 = x.1 }))
    by_first true first most =
        let none : x.0 ≡ 0 = eqb-true x.0 0 first in
        (ap (λ n. n ∷ x.1 ∷ []) (sym none), omega (arith, most))
    by_first false first most =
        let one = one_at_most kind x.0 is.0.2 first in
        (ap (λ n. n ∷ x.1 ∷ []) (sym one.1), (one.0, is.1.0))

client_may : (kind : ℕ) → kind ≡ 1 → 1 ≤ most_party kind
client_may kind is = rw is (omega arith)

party_again : (kind : ℕ) (p : Party) (at : ℕ) (tail : List ℕ) → IsParty kind p → (behind : ℕ) × (party_at kind (record { at = at; rest = party_bytes p ++ tail }) ≡ Ok (p, record { at = behind; rest = tail }))
unfolding party_at
party_again kind (Node node) at tail is =
    let r = (pair_law kind).again (0, node.0) at tail ((omega arith, omega arith, omega arith), (omega (arith, is), omega arith, omega (arith, is))) in
    (r.0, rw r.1 refl)
party_again kind (Client client) at tail is =
    let r = (pair_law kind).again (1, client.0) at tail ((omega arith, omega arith, client_may kind is.0), (is.1, omega arith, omega (arith, is.1))) in
    (r.0, rw r.1 refl)

pub party_law : (kind : ℕ) → Field Party (party_at kind) party_bytes (IsParty kind)
unfolding party_at
party_law kind = record {
  was = λ spot x are h.
      let p = shown_was (ℕ × ℕ) Party party_of (follow (within 0 (most_party kind) byte_at) (λ party. within 0 (most_id party) byte_at)) spot x h in
      let t = (pair_law kind).was spot p.0 are p.1 in
      let is = pair_is kind p.0.0 t.1 in
      subst (λ (y : Party × Spot). Took spot (party_bytes y.0) y.1 × IsParty kind y.0) p.2 (subst (λ (s : List ℕ). Took spot s p.0.1) (sym is.0) t.0, is.1);
  again = party_again kind;
}

-- ---- what follows a kind

abbrev pub rest_bytes : Frame → List ℕ
rest_bytes frame = party_bytes frame.from ++ body_bytes frame.body

abbrev IsRest : ℕ → Frame → Type 0
IsRest kind frame = IsParty kind frame.from × IsOfKind kind (is_client frame.from) frame.body

rest_law : (kind : ℕ) → 1 ≤ kind → kind ≤ 19 → Field Frame (frame_of_kind kind) rest_bytes (IsRest kind)
unfolding frame_of_kind
rest_law kind low high =
    shown_law (Party × Body) Frame (λ x. record { from = x.0; body = x.1 }) (λ frame. (frame.from, frame.body)) (follow (party_at kind) (λ from. body_of_kind kind (is_client from)))
    (λ x. party_bytes x.0 ++ body_bytes x.1) rest_bytes (λ x. IsParty kind x.0 × IsOfKind kind (is_client x.0) x.1) (IsRest kind)
    (then_by (party_law kind) (λ from. body_law kind (is_client from) low high)) (λ x. refl) (λ x is. is) (λ frame. refl) (λ frame is. is)

-- ---- the header

fits : {V : Type 0} (r : Result V CodecFault) (x : V) → in_frame r ≡ Ok x → r ≡ Ok x
fits (Ok y) x h = cc
fits (Err e) x h = absurd cc

bound_by : {A B : Type 0} (r : Result A FrameFault) (f : A → Result B FrameFault) (y : B) → (r >>= f) ≡ Ok y → (x : A) × (r ≡ Ok x) × (f x ≡ Ok y)
bound_by (Ok x) f y h = (x, refl, h)
bound_by (Err e) f y h = absurd cc

passed : (t : Bool) (fault : FrameFault) (u : Unit {0}) → unless t fault ≡ Ok u → t ≡ true
passed true fault u h = refl
passed false fault u h = absurd cc

-- the bytes that begin with the magic, the version and a kind
record Begins (bytes : List ℕ) (x : ℕ × Spot) : Type 0 where
  whole : bytes ≡ 0x4d ∷ 0x52 ∷ 2 ∷ x.0 ∷ x.1.rest
  some : 1 ≤ x.0
  few : x.0 ≤ 19

frame_is : {A : Type 0} (x y : A) → in_frame (Ok x) ≡ Ok y → x ≡ y
frame_is x y h = cc

long_enough : (rest : List ℕ) → nat_lt (length (0 ∷ 0 ∷ rest)) 2 ≡ false
long_enough rest = grind arith

-- the two bytes of the magic
two_at : (a b : ℕ) (rest : List ℕ) → bytes_at 2 (start (a ∷ b ∷ rest)) ≡ Ok (a ∷ b ∷ [], record { at = 2; rest = rest })
unfolding bytes_at
two_at a b rest = rw (long_enough rest) refl

-- what follows the magic
after_magic : Spot → Result (ℕ × Spot) FrameFault
after_magic spot = do
  version ← in_frame (byte_at spot)
  known ← unless (version.0 == 2) (BadVersion version.0)
  kind ← in_frame (byte_at version.1)
  some ← unless (nat_le 1 kind.0 && nat_le kind.0 19) (BadKind kind.0)
  Ok kind

with_magic : (a b : ℕ) (rest : List ℕ) → kind_at (start (a ∷ b ∷ rest)) ≡ (unless (is_magic (a ∷ b ∷ [])) BadMagic >>= λ ours. after_magic (record { at = 2; rest = rest }))
unfolding kind_at after_magic
with_magic a b rest = rw (two_at a b rest) refl

is_least : (a b : ℕ) → nat_le a b ≡ true → a ≤ b
is_least a b h = grind arith

least_is : (a b : ℕ) → a ≤ b → nat_le a b ≡ true
least_is a b h = grind arith

after_was : (rest : List ℕ) (x : ℕ × Spot) → after_magic (record { at = 2; rest = rest }) ≡ Ok x → (rest ≡ 2 ∷ x.0 ∷ x.1.rest) × (1 ≤ x.0) × (x.0 ≤ 19)
unfolding after_magic
after_was [] x h = absurd cc
after_was (c ∷ []) x h =
    let known = bound_by (unless (c == 2) (BadVersion c)) _ x h in
    absurd (no_kind known.2)
  where
    no_kind : Err (fault_of (fields.Short 3)) ≡ Ok x → ⊥
    no_kind h = cc
after_was (c ∷ d ∷ rest) x h =
    let known = bound_by (unless (c == 2) (BadVersion c)) _ x h in
    let some = bound_by (unless (nat_le 1 d && nat_le d 19) (BadKind d)) (λ u. Ok (d, record { at = 4; rest = rest })) x known.2 in
    let range = both_tests (nat_le 1 d) (nat_le d 19) (passed _ _ some.0 some.1) in
    let two : c ≡ 2 = eqb-true c 2 (passed _ _ known.0 known.1) in
    subst (λ (y : ℕ × Spot). (c ∷ d ∷ rest ≡ 2 ∷ y.0 ∷ y.1.rest) × (1 ≤ y.0) × (y.0 ≤ 19)) (frame_is (d, record { at = 4; rest = rest }) x some.2)
    (ap (λ n. n ∷ d ∷ rest) two, is_least 1 d range.0, is_least d 19 range.1)

no_bytes : (x : ℕ × Spot) → kind_at (start []) ≡ Ok x → ⊥
unfolding kind_at bytes_at
no_bytes x h = cc

one_alone : (a : ℕ) (x : ℕ × Spot) → kind_at (start (a ∷ [])) ≡ Ok x → ⊥
unfolding kind_at bytes_at
one_alone a x h = cc

header_was : (bytes : List ℕ) (x : ℕ × Spot) → kind_at (start bytes) ≡ Ok x → Begins bytes x
header_was [] x h = absurd (no_bytes x h)
header_was (a ∷ []) x h = absurd (one_alone a x h)
header_was (a ∷ b ∷ rest) x h =
    let magic = bound_by (unless (is_magic (a ∷ b ∷ [])) BadMagic) _ x (sym (with_magic a b rest) ∙ h) in
    let letters = both_tests (a == 0x4d) (b == 0x52) (passed _ _ magic.0 magic.1) in
    let first : a ≡ 0x4d = eqb-true a 0x4d letters.0 in
    let second : b ≡ 0x52 = eqb-true b 0x52 letters.1 in
    let after = after_was rest x magic.2 in
    record { whole = rw (first, second, after.0) refl; some = after.1; few = after.2 }

header_again : (kind : ℕ) (rest : List ℕ) → 1 ≤ kind → kind ≤ 19 → kind_at (start (0x4d ∷ 0x52 ∷ 2 ∷ kind ∷ rest)) ≡ Ok (kind, record { at = 4; rest = rest })
unfolding after_magic
header_again kind rest low high = with_magic 0x4d 0x52 (2 ∷ kind ∷ rest) ∙ rw (least_is 1 kind low, least_is kind 19 high) refl

-- ---- frames

kinds : (body : Body) → (1 ≤ kind_of_body body) × (kind_of_body body ≤ 19)
kinds (Submit ring hops client seq command) = (omega arith, omega arith)
kinds (Prepare ring ballot lo) = (omega arith, omega arith)
kinds (Promise ring ballot lo hi trim votes) = (omega arith, omega arith)
kinds (Refuse ring ballot promise) = (omega arith, omega arith)
kinds (Accept ring ballot lo hi mask value) = (omega arith, omega arith)
kinds (Decide ring lo hi left value) = (omega arith, omega arith)
kinds (Fetch ring lo) = (omega arith, omega arith)
kinds (Chosen ring ranges) = (omega arith, omega arith)
kinds (Trimmed ring trim) = (omega arith, omega arith)
kinds (AskSafe ring round) = (omega arith, omega arith)
kinds (Safe ring round inst) = (omega arith, omega arith)
kinds (TrimTo ring trim) = (omega arith, omega arith)
kinds (AskCheckpoint epoch attempt) = (omega arith, omega arith)
kinds (HaveCheckpoint epoch attempt tuple) = (omega arith, omega arith)
kinds (AskPart epoch attempt tuple offset) = (omega arith, omega arith)
kinds (Part epoch attempt tuple offset total bytes) = (omega arith, omega arith)
kinds (Gone epoch attempt asked newer) = (omega arith, omega arith)
kinds (Reply client seq partition reply) = (omega arith, omega arith)
kinds Hello = (omega arith, omega arith)

-- a client's body is a command that wasn't passed on
client_sends : (c : ClientId) (body : Body) → kind_of_body body ≡ 1 → hops_of body ≡ 0 → MaySend (Client c) body
client_sends c (Submit ring hops client seq command) kind none = none
client_sends c (Prepare ring ballot lo) kind none = absurd (omega (arith, kind))
client_sends c (Promise ring ballot lo hi trim votes) kind none = absurd (omega (arith, kind))
client_sends c (Refuse ring ballot promise) kind none = absurd (omega (arith, kind))
client_sends c (Accept ring ballot lo hi mask value) kind none = absurd (omega (arith, kind))
client_sends c (Decide ring lo hi left value) kind none = absurd (omega (arith, kind))
client_sends c (Fetch ring lo) kind none = absurd (omega (arith, kind))
client_sends c (Chosen ring ranges) kind none = absurd (omega (arith, kind))
client_sends c (Trimmed ring trim) kind none = absurd (omega (arith, kind))
client_sends c (AskSafe ring round) kind none = absurd (omega (arith, kind))
client_sends c (Safe ring round inst) kind none = absurd (omega (arith, kind))
client_sends c (TrimTo ring trim) kind none = absurd (omega (arith, kind))
client_sends c (AskCheckpoint epoch attempt) kind none = absurd (omega (arith, kind))
client_sends c (HaveCheckpoint epoch attempt tuple) kind none = absurd (omega (arith, kind))
client_sends c (AskPart epoch attempt tuple offset) kind none = absurd (omega (arith, kind))
client_sends c (Part epoch attempt tuple offset total bytes) kind none = absurd (omega (arith, kind))
client_sends c (Gone epoch attempt asked newer) kind none = absurd (omega (arith, kind))
client_sends c (Reply client seq partition reply) kind none = absurd (omega (arith, kind))
client_sends c Hello kind none = absurd (omega (arith, kind))

may_send : (kind : ℕ) (from : Party) (body : Body) → IsParty kind from → IsOfKind kind (is_client from) body → MaySend from body
may_send kind (Node node) body party of = party
may_send kind (Client client) body party of = client_sends client body (of.same ∙ party.0) (of.hops refl)

-- and the other way round
client_sent : (c : ClientId) (body : Body) → MaySend (Client c) body → (kind_of_body body ≡ 1) × (hops_of body ≡ 0)
client_sent c (Submit ring hops client seq command) may = (refl, may)
client_sent c (Prepare ring ballot lo) may = absurd may
client_sent c (Promise ring ballot lo hi trim votes) may = absurd may
client_sent c (Refuse ring ballot promise) may = absurd may
client_sent c (Accept ring ballot lo hi mask value) may = absurd may
client_sent c (Decide ring lo hi left value) may = absurd may
client_sent c (Fetch ring lo) may = absurd may
client_sent c (Chosen ring ranges) may = absurd may
client_sent c (Trimmed ring trim) may = absurd may
client_sent c (AskSafe ring round) may = absurd may
client_sent c (Safe ring round inst) may = absurd may
client_sent c (TrimTo ring trim) may = absurd may
client_sent c (AskCheckpoint epoch attempt) may = absurd may
client_sent c (HaveCheckpoint epoch attempt tuple) may = absurd may
client_sent c (AskPart epoch attempt tuple offset) may = absurd may
client_sent c (Part epoch attempt tuple offset total bytes) may = absurd may
client_sent c (Gone epoch attempt asked newer) may = absurd may
client_sent c (Reply client seq partition reply) may = absurd may
client_sent c Hello may = absurd may

is_rest : (from : Party) (body : Body) → MaySend from body → HasId from → IsBody body → HasNumbers body → IsParty (kind_of_body body) from × IsOfKind (kind_of_body body) (is_client from) body
is_rest (Node node) body may id is numbers = (may, record { same = refl; valid = is; numbers = numbers; hops = λ client. absurd cc })
is_rest (Client client) body may id is numbers =
    let sent = client_sent client body may in
    ((sent.0, id), record { same = refl; valid = is; numbers = numbers; hops = λ _. sent.1 })

-- all of the bytes from a spot on
all_was : {V : Type 0} (read : Reader V) (text : V → List ℕ) (Is : V → Type 0) → Field V read text Is → (spot : Spot) (value : V) → AreBytes spot.rest → all_of read spot ≡ Ok value → (spot.rest ≡ text value) × Is value
all_was {V} read text Is law spot value are h =
    let p = bound (read spot) (λ x. ended x.0 x.1) value h in
    let g = then_was (length p.0.1.rest == 0) (fields.Left p.0.1.at) p.0.0 value p.2 in
    let t = law.was spot p.0 are p.1 in
    let none : p.0.1.rest ≡ [] = nil_from_length p.0.1.rest (eqb-true _ _ g.0) in
    let parts : spot.rest ≡ text p.0.0 = t.0.parts ∙ (ap (λ (r : List ℕ). text p.0.0 ++ r) none ∙ append-nil (text p.0.0)) in
    subst (λ (v : V). (spot.rest ≡ text v) × Is v) g.1 (parts, t.1)

all_again : {V : Type 0} (read : Reader V) (text : V → List ℕ) (Is : V → Type 0) → Field V read text Is → (value : V) (at : ℕ) → Is value → all_of read (record { at = at; rest = text value }) ≡ Ok value
all_again read text Is law value at is =
    let r = law.again value at [] is in
    ap (λ (bytes : List ℕ). all_of read (record { at = at; rest = bytes })) (sym (append-nil (text value))) ∙ rw r.1 refl

rest_of_four : (a b c d : ℕ) (rest : List ℕ) → AreBytes (a ∷ b ∷ c ∷ d ∷ rest) → AreBytes rest
rest_of_four a b c d rest are = rest_are d rest (rest_are c (d ∷ rest) (rest_are b (c ∷ d ∷ rest) (rest_are a (b ∷ c ∷ d ∷ rest) are)))

else_was : {A : Type 0} (t : Bool) (fault : FrameFault) (r : Result A FrameFault) (y : A) → (if t then Err fault else r) ≡ Ok y → (t ≡ false) × (r ≡ Ok y)
else_was true fault r y h = absurd cc
else_was false fault r y h = (refl, h)

frame_was : (bytes : List ℕ) (frame : Frame) → AreBytes bytes → read_of bytes ≡ Ok frame → (bytes ≡ frame_bytes frame) × IsFrame frame
frame_was bytes frame are h =
    let short = else_was (nat_lt 32768 (length bytes)) TooLong _ frame h in
    let header = bound_by (kind_at (start bytes)) (λ kind. in_frame (all_of (frame_of_kind kind.0) kind.1)) frame short.1 in
    let begins = header_was bytes header.0 header.1 in
    let law = rest_law header.0.0 begins.some begins.few in
    let behind = rest_of_four 0x4d 0x52 2 header.0.0 header.0.1.rest (subst AreBytes begins.whole are) in
    let all = all_was (frame_of_kind header.0.0) rest_bytes (IsRest header.0.0) law header.0.1 frame behind (fits (all_of (frame_of_kind header.0.0) header.0.1) frame header.2) in
    let spelled : bytes ≡ frame_bytes frame =
    begins.whole ∙ (ap (λ (r : List ℕ). 0x4d ∷ 0x52 ∷ 2 ∷ header.0.0 ∷ r) all.0 ∙ ap (λ (k : ℕ). 0x4d ∷ 0x52 ∷ 2 ∷ k ∷ rest_bytes frame) (sym all.1.1.same)) in (
      spelled,
      record {
        from = may_send header.0.0 frame.from frame.body all.1.0 all.1.1;
        body = all.1.1.valid;
        short = subst (λ (b : List ℕ). length b ≤ 32768) spelled (at_most (length bytes) 32768 short.0);
      },
    )

frame_again : (frame : Frame) → IsFrame frame → HasId frame.from → HasNumbers frame.body → read_of (frame_bytes frame) ≡ Ok frame
frame_again frame is id numbers =
    let kind = kind_of_body frame.body in
    let in_kinds = kinds frame.body in
    let law = rest_law kind in_kinds.0 in_kinds.1 in
    let all = all_again (frame_of_kind kind) rest_bytes (IsRest kind) law frame 4 (is_rest frame.from frame.body is.from id is.body numbers) in
    let header = header_again kind (rest_bytes frame) in_kinds.0 in_kinds.1 in
    let long : nat_lt 32768 (length (frame_bytes frame)) ≡ false = not_above (length (frame_bytes frame)) 32768 is.short in
    rw (long, header, all) refl

pub found_by : (bytes : List ℕ) (r : Result Frame FrameFault) → AreBytes bytes → Says (λ (f : Frame). f) (read_of bytes) r → IfOk r (λ f. (bytes ≡ frame_bytes f) × IsFrame f)
found_by bytes (Ok frame) are says = frame_was bytes frame are says
found_by bytes (Err e) are says = tt

pub only_so : (bytes : List ℕ) (r : Result Frame FrameFault) → Says (λ (f : Frame). f) (read_of bytes) r → (frame : Frame) → IsFrame frame → HasId frame.from → HasNumbers frame.body →
    bytes ≡ frame_bytes frame → Says (λ (f : Frame). f) (Ok frame) r
only_so bytes r says frame is id numbers spelled =
    let read : read_of bytes ≡ Ok frame = ap read_of spelled ∙ frame_again frame is id numbers in
    subst (λ (o : Result Frame FrameFault). Says (λ (f : Frame). f) o r) read says
