-- Lists that go on, and steps that go on without a rule of a ring.
use Rattle.std.proofs.Common.{List, [], ◌∷◌, ◌++◌, refl, sym, ◌∙◌, ap, subst}
use Rattle.std.specs.List.{AllByRecursion}
use Rattle.std.proofs.lemmas.List.{append_assoc, append-nil}
use Rattle.frames.specs.declared.sent.Sent.{Sent}
use Rattle.protocol.specs.Lines.{Line}
use Rattle.protocol.specs.Node.{StepSoFar, RingPart, Service, Stage, prints, sends_all, with_stage}
use Rattle.beside_rings.specs.Beside.{IsQuietSent, IsNoLearn, Follows, SameBut, AreSame, Untouched}
use Rattle.quorums.proofs.Each.{mapped, appended}

-- ---- what is added to a list

pub Follows-refl : {T : Type 0} (P : T → Type 0) (xs : List T) → Follows P xs xs
Follows-refl P xs = record { more = []; whole = sym (append-nil xs); each = tt }

pub Follows-more : {T : Type 0} (P : T → Type 0) (xs more : List T) → AllByRecursion P more → Follows P xs (xs ++ more)
Follows-more P xs more all = record { more = more; whole = refl; each = all }

pub Follows-trans : {T : Type 0} (P : T → Type 0) {xs ys zs : List T} → Follows P xs ys → Follows P ys zs → Follows P xs zs
Follows-trans {T} P {xs} {ys} {zs} a b = record {
  more = a.more ++ b.more;
  whole = b.whole ∙ ap (λ (l : List T). l ++ b.more) a.whole ∙ append_assoc xs a.more b.more;
  each = appended P a.more b.more a.each b.each;
}

-- what holds of the old list, and of what may be added, holds of the new one
pub Follows-all : {T : Type 0} (P Q : T → Type 0) (xs ys : List T) → ((x : T) → P x → Q x) → Follows P xs ys → AllByRecursion Q xs → AllByRecursion Q ys
Follows-all P Q xs ys h f all = subst (λ l. AllByRecursion Q l) (sym f.whole) (appended Q xs f.more all (mapped P Q h f.more f.each))

-- ---- parts

pub SameBut-refl : (p : RingPart) → SameBut p p
SameBut-refl p = record { ring = refl; kept = refl; coordinator = refl; held = refl; rounds = refl }

pub SameBut-trans : {p q r : RingPart} → SameBut p q → SameBut q r → SameBut p r
SameBut-trans x y = record { ring = y.ring ∙ x.ring; kept = y.kept ∙ x.kept; coordinator = y.coordinator ∙ x.coordinator; held = y.held ∙ x.held; rounds = y.rounds ∙ x.rounds }

pub AreSame-refl : (ps : List RingPart) → AreSame ps ps
AreSame-refl [] = tt
AreSame-refl (p ∷ ps) = (SameBut-refl p, AreSame-refl ps)

pub AreSame-trans : (ps qs rs : List RingPart) → AreSame ps qs → AreSame qs rs → AreSame ps rs
AreSame-trans [] [] [] x y = tt
AreSame-trans [] [] (r ∷ rs) x y = absurd y
AreSame-trans [] (q ∷ qs) rs x y = absurd x
AreSame-trans (p ∷ ps) [] rs x y = absurd x
AreSame-trans (p ∷ ps) (q ∷ qs) [] x y = absurd y
AreSame-trans (p ∷ ps) (q ∷ qs) (r ∷ rs) x y = (SameBut-trans x.0 y.0, AreSame-trans ps qs rs x.1 y.1)

-- ---- steps

pub Untouched-refl : (a : StepSoFar) → Untouched a a
Untouched-refl a = record {
  id = refl;
  journal = refl;
  parts = AreSame-refl a.view.parts;
  changes = refl;
  frames = Follows-refl IsQuietSent a.frames;
  replies = Follows-refl IsQuietSent a.replies;
  lines = Follows-refl IsNoLearn a.lines;
}

pub Untouched-trans : {a b c : StepSoFar} → Untouched a b → Untouched b c → Untouched a c
Untouched-trans {a} {b} {c} x y = record {
  id = y.id ∙ x.id;
  journal = y.journal ∙ x.journal;
  parts = AreSame-trans a.view.parts b.view.parts c.view.parts x.parts y.parts;
  changes = y.changes ∙ x.changes;
  frames = Follows-trans IsQuietSent x.frames y.frames;
  replies = Follows-trans IsQuietSent x.replies y.replies;
  lines = Follows-trans IsNoLearn x.lines y.lines;
}

pub untouched_prints : (lines : List Line) → AllByRecursion IsNoLearn lines → (a : StepSoFar) → Untouched a (prints lines a)
untouched_prints lines quiet a = record {
  id = refl;
  journal = refl;
  parts = AreSame-refl a.view.parts;
  changes = refl;
  frames = Follows-refl IsQuietSent a.frames;
  replies = Follows-refl IsQuietSent a.replies;
  lines = Follows-more IsNoLearn a.lines lines quiet;
}

pub untouched_sends : (frames : List Sent) → AllByRecursion IsQuietSent frames → (a : StepSoFar) → Untouched a (sends_all frames a)
untouched_sends frames quiet a = record {
  id = refl;
  journal = refl;
  parts = AreSame-refl a.view.parts;
  changes = refl;
  frames = Follows-more IsQuietSent a.frames frames quiet;
  replies = Follows-refl IsQuietSent a.replies;
  lines = Follows-refl IsNoLearn a.lines;
}

pub untouched_stage : (service : Service) (stage : Stage) (a : StepSoFar) → Untouched a (with_stage service stage a)
untouched_stage service stage a = record {
  id = refl;
  journal = refl;
  parts = AreSame-refl a.view.parts;
  changes = refl;
  frames = Follows-refl IsQuietSent a.frames;
  replies = Follows-refl IsQuietSent a.replies;
  lines = Follows-refl IsNoLearn a.lines;
}
