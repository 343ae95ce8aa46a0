use Rattle.std.proofs.Common.{◌≡◌, ℕ, ◌*◌, ◌-◌, ◌≤◌, min, subst, ◌++◌, ◌∙◌, ap, take, length, arith, length-take, length-append, sym, List, refl}
use Rattle.disk_model.specs.Calls.{area_bytes}
use Rattle.disk_model.specs.Causes.{GivesBytes}
use Rattle.gate_area.proofs.Pages.{next_piece, last_piece, page_again, read_on, all_read, more_read, others, pieces_read}
use Rattle.disk_model.proofs.Went.{went_none, went_asked, went_on, went_part, went_wanting, went_refused, never_passes}
use Rattle.gate_area.specs.Operations.{area_readings}
use Rattle.disk_model.specs.declared.area.Refused.TheVariants.{Memory}
use Rattle.gate_area.proofs.reading.read_all.Goals as goal

pub loop-turn-preserved : goal.loop-turn-preserved
loop-turn-preserved g c =
    let inv = c.loop-turn.invariant in
    let old = c.loop-turn.bytes.items in
    let n = c.in_ok-count.count in
    let into_is : length c.read.new.into ≡ length c.loop-turn.page.items = c.read.auto.into ∙ ap length c.deref_mut.ensures.value in
    let page = page_again c.loop-turn.page.len c.read.new.into c.loop-turn.page.items c.loop-turn.page.ok.0 into_is in
    let new_is : c.extend_from_slice.new.self.items ≡ old ++ take n c.read.new.into = c.in_ok-extend_from_slice.ensures.items ∙ ap (λ l. old ++ take n l) (c.deref.ensures.value ∙ page) in
    let at : c.len.result ≡ length old = c.len.ensures ∙ c.loop-turn.bytes.ok.0 in
    let full : n ≡ 65536 = omega (arith, c.in_ok-count.ensures.within, into_is, inv.page, c.if-count-lt-PAGE.false) in
    record {
      told = c.in_ok-count.ensures.told ∙ inv.told;
      went = read_on c.loop-turn._turn inv.went (went_asked c.in_ok-count.ensures.did refl c.in_ok-count.ensures.told);
      page = ap length page ∙ into_is ∙ inv.page;
      size = omega (arith, inv.size, ap length new_is, length-append old (take n c.read.new.into), length-take n c.read.new.into, c.in_ok-count.ensures.within, full);
      bytes = λ t tells.
          next_piece (area_bytes c.args.area t) c.read.new.into old c.extend_from_slice.new.self.items n (inv.bytes t tells)
          (subst (λ k. GivesBytes (area_bytes c.args.area t) k n c.read.new.into) at (c.in_ok-count.ensures.bytes t (record { honest = inv.went.honest ∙ tells.honest; told = inv.told ∙ tells.told })))
          new_is;
    }

pub loop-turn-init : goal.loop-turn-init
loop-turn-init g c = record {
  told = refl;
  went = went_none g.D.Disk c.args.disk.now;
  page = c.in_ok-page.ensures;
  size = omega (arith, ap length c.new-bytes.ensures.items);
  bytes = λ t tells. subst (λ (l : List ℕ). l ≡ take (length l) (area_bytes c.args.area t)) (sym c.new-bytes.ensures.items) refl;
}

-- what was read so far is within the area
within : (file bytes : List ℕ) (turn : ℕ) → 65536 * turn ≡ length bytes → bytes ≡ take (length bytes) file → 65536 * turn ≤ length file
within file bytes turn size is = omega (arith, size, ap length is, length-take (length bytes) file)

pub returns-in_err-count-clause-went : goal.returns-in_err-count-clause-went
returns-in_err-count-clause-went g c =
    let inv = c.loop-turn.invariant in
    let turn = c.loop-turn._turn in
    went_refused c.in_err-count.field-0.0 c.from_residual-in_err-count.result c.from_residual-in_err-count.ensures.1
    (more_read c.args.area turn g.met.D.Disk.tells (λ t tells. within (area_bytes c.args.area t) c.loop-turn.bytes.items turn inv.size (inv.bytes t tells))
    (went_part (others c.args.area turn) (never_passes c.in_err-count.field-0.0) (went_on inv.went (went_asked c.in_err-count.ensures.did refl c.in_err-count.ensures.told))))

pub returns-then-count-lt-PAGE-clause-went : goal.returns-then-count-lt-PAGE-clause-went
returns-then-count-lt-PAGE-clause-went g c =
    let inv = c.loop-turn.invariant in
    let old = c.loop-turn.bytes.items in
    let n = c.in_ok-count.count in
    let into_is : length c.read.new.into ≡ length c.loop-turn.page.items = c.read.auto.into ∙ ap length c.deref_mut.ensures.value in
    let at : c.len.result ≡ length old = c.len.ensures ∙ c.loop-turn.bytes.ok.0 in
    all_read c.args.area c.loop-turn._turn g.met.D.Disk.tells
    (λ t tells.
    let file = area_bytes c.args.area t in
    let gives = c.in_ok-count.ensures.bytes t (record { honest = inv.went.honest ∙ tells.honest; told = inv.told ∙ tells.told }) in
    let count : n ≡ min 65536 (length file - length old) = gives.count ∙ ap (λ k. min k (length file - c.len.result)) (into_is ∙ inv.page) ∙ ap (λ k. min 65536 (length file - k)) at in
    let inside : length old ≤ length file = omega (arith, ap length (inv.bytes t tells), length-take (length old) file) in
    pieces_read c.loop-turn._turn n (length old) (length file) inv.size count c.if-count-lt-PAGE.true inside)
    (read_on c.loop-turn._turn inv.went (went_asked c.in_ok-count.ensures.did refl c.in_ok-count.ensures.told))

pub returns-in_err-page-clause-went : goal.returns-in_err-page-clause-went
returns-in_err-page-clause-went g c =
    went_refused Memory c.from_residual.result c.from_residual.ensures.1 (went_wanting (area_readings c.args.area) (went_none g.D.Disk c.args.disk.now))

pub returns-in_err-extend_from_slice-clause-went : goal.returns-in_err-extend_from_slice-clause-went
returns-in_err-extend_from_slice-clause-went g c =
    let inv = c.loop-turn.invariant in
    let turn = c.loop-turn._turn in
    went_refused Memory c.from_residual-in_err-extend_from_slice.result c.from_residual-in_err-extend_from_slice.ensures.1
    (more_read c.args.area turn g.met.D.Disk.tells (λ t tells. within (area_bytes c.args.area t) c.loop-turn.bytes.items turn inv.size (inv.bytes t tells))
    (went_wanting (others c.args.area turn) (went_on inv.went (went_asked c.in_ok-count.ensures.did refl c.in_ok-count.ensures.told))))

-- the last piece gives the rest
pub returns-then-count-lt-PAGE-clause-bytes : goal.returns-then-count-lt-PAGE-clause-bytes
returns-then-count-lt-PAGE-clause-bytes g c t tells =
    let inv = c.loop-turn.invariant in
    let old = c.loop-turn.bytes.items in
    let n = c.in_ok-count.count in
    let file = area_bytes c.args.area t in
    let new = c.extend_from_slice.new.self.items in
    let into_is : length c.read.new.into ≡ length c.loop-turn.page.items = c.read.auto.into ∙ ap length c.deref_mut.ensures.value in
    let page = page_again c.loop-turn.page.len c.read.new.into c.loop-turn.page.items c.loop-turn.page.ok.0 into_is in
    let new_is : new ≡ old ++ take n c.read.new.into = c.in_ok-extend_from_slice.ensures.items ∙ ap (λ l. old ++ take n l) (c.deref.ensures.value ∙ page) in
    let at : c.len.result ≡ length old = c.len.ensures ∙ c.loop-turn.bytes.ok.0 in
    let gives = subst (λ k. GivesBytes file k n c.read.new.into) at (c.in_ok-count.ensures.bytes t (record { honest = inv.went.honest ∙ tells.honest; told = inv.told ∙ tells.told })) in
    last_piece file c.read.new.into old new n (inv.bytes t tells) gives new_is (omega (arith, c.if-count-lt-PAGE.true, into_is, inv.page))
