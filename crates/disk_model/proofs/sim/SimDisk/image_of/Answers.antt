use Rattle.std.proofs.Common.{◌≡◌, ◌∙◌, ap, sym, take, drop, length, length-drop, ◌-◌, refl, ℕ, List, arith}
use Rattle.std.proofs.lemmas.List.{take_all}
use Rattle.disk_model.specs.declared.area.Image.{Image}
use Rattle.disk_model.specs.declared.area.Image.TheVariants.{Old, New, Fill}
use Rattle.disk_model.specs.declared.call.Call.{Call}
use Rattle.disk_model.specs.Calls.{Told, kept, own}
use Rattle.disk_model.specs.Crash.{left_of}
use Rattle.disk_model.specs.Areas.{bytes_of}
use Rattle.disk_model.specs.Steps.{Kept}
use Rattle.disk_model.specs.Undoing.{all_undone}
use Rattle.disk_model.proofs.CrashLaws.{kept_is}
use Rattle.disk_model.proofs.Reading.{reading-kept}
use Rattle.disk_model.proofs.sim.SimDisk.image_of.Goals as goal

-- neither of the others
old_alone : (image : Image) → (image ≡ New → ⊥) → ((keep byte : ℕ) → image ≡ Fill keep byte → ⊥) → image ≡ Old
old_alone Old not_new not_fill = refl
old_alone New not_new not_fill = absurd (not_new refl)
old_alone (Fill keep byte) not_new not_fill = absurd (not_fill keep byte refl)

pub returns-in-New : goal.returns-in-New
returns-in-New c =
    let told = c.args.self.now.told in
    c.in_ok-left.ensures ∙ c.bytes.ensures ∙ sym (reading-kept c.args.area told) ∙ ap (λ i. left_of i (kept c.args.area told)) (sym c.in-New.is)

pub returns-in-Fill : goal.returns-in-Fill
returns-in-Fill c =
    let d = c.self.inside in
    let told = c.args.self.now.told in
    let start = all_undone d.undos.items d.current in
    let from = c.in_ok-start.ensures d.current (c.in_ok-file.ensures ∙ c.bytes-2.ensures ∙ c.of-2.ensures) ∙ ap (λ us. bytes_of c.args.area (all_undone us d.current)) c.deref.ensures.value in
    let known = ap (λ (cs : List Call). let t : Told = record { start = start; calls = cs } in t) c.as_slice-calls.ensures.value ∙ ap (λ s. s.told) c.self.view_is in
    let whole = kept_is told c.args.area start c.as_slice-calls.result.now c.settled_calls-settled.result c.in_ok-kept.kept c.in_ok-start.start known c.settled_calls-settled.ensures from c.in_ok-kept.ensures in
    let n = c.settled_calls-settled.result in
    let calls = c.as_slice-calls.result.now in
    let rest : take (length calls - n) (drop n calls) ≡ drop n calls = take_all (length calls - n) (drop n calls) (omega (arith, length-drop n calls)) in
    c.in_ok-left-2.ensures
    ∙ ap (λ cs. left_of (Fill c.in-Fill.keep c.in-Fill.byte) (record { bytes = c.in_ok-kept.kept; pending = own c.args.area cs })) rest
    ∙ ap (left_of (Fill c.in-Fill.keep c.in-Fill.byte)) whole ∙ ap (λ i. left_of i (kept c.args.area told)) (sym c.in-Fill.is)

pub returns : goal.returns
returns c =
    let d = c.self.inside in
    let told = c.args.self.now.told in
    let start = all_undone d.undos.items d.current in
    let from = c.in_ok-start.ensures d.current (c.in_ok-file.ensures ∙ c.bytes-2.ensures ∙ c.of-2.ensures) ∙ ap (λ us. bytes_of c.args.area (all_undone us d.current)) c.deref.ensures.value in
    let known = ap (λ (cs : List Call). let t : Told = record { start = start; calls = cs } in t) c.as_slice-calls.ensures.value ∙ ap (λ s. s.told) c.self.view_is in
    let whole = kept_is told c.args.area start c.as_slice-calls.result.now c.settled_calls-settled.result c.in_ok-kept.kept c.in_ok-start.start known c.settled_calls-settled.ensures from c.in_ok-kept.ensures in
    ap (λ (k : Kept). k.bytes) whole ∙ ap (λ i. left_of i (kept c.args.area told)) (sym (old_alone c.args.image c.in_default.not-New c.in_default-image.not-Fill))
