use Rattle.std.proofs.Common.{◌≡◌, ◌∙◌, ◌+◌, ◌-◌, ◌++◌, [], ◌∷◌, length, take, drop, get_or, arith, ap, refl, length-append, length-take}
use Rattle.gate_log.specs.Records.{u32_bytes, inner}
use Rattle.gate_log.proofs.Bytes.{rotated_is, gate-sealed, length-sealed, grown_is}
use Rattle.gate_log.proofs.body.add.Goals as goal

pub overflow_sub-len : goal.overflow_sub-len
overflow_sub-len c =
    omega (arith, c.len.ensures, c.extend_from_slice.new.self.ok.0, ap length c.in_ok-extend_from_slice.ensures.items, length-append c.args.written.now.items c.args.bytes.now, ap length c.requires, length-sealed (inner c.args.written.now.items))

pub put_length-requires : goal.put_length-requires
put_length-requires c =
    let was = c.args.written.now.items in
    let place : c.len-gate.result - 1 + 1 ≡ length was = omega (arith, c.len-gate.ensures, c.args.written.now.ok.0, ap length c.requires, length-sealed (inner was)) in
    let zero : get_or was (c.len-gate.result - 1) 0 ≡ 0 = ap (λ l. get_or l (c.len-gate.result - 1) 0) c.requires ∙ gate-sealed (inner was) (c.len-gate.result - 1) (place ∙ ap length c.requires) in
    let is = rotated_is was c.args.bytes.now c.extend_from_slice.new.self.items c.deref_mut.result.now c.rotate_left.new.self (c.len-gate.result - 1) c.extend_from_slice.new.self.len (length c.deref_mut.result.now - (c.len-gate.result - 1))
    c.in_ok-extend_from_slice.ensures.items c.deref_mut.ensures.value c.extend_from_slice.new.self.ok.0 place zero refl c.rotate_left.ensures.after in
    omega (arith, ap length is, length-append (take (c.len-gate.result - 1) was) (c.args.bytes.now ++ 0 ∷ []), length-append c.args.bytes.now (0 ∷ []), length-take (c.len-gate.result - 1) was, ap length c.requires, length-sealed (inner was))

pub returns-clause-ok : goal.returns-clause-ok
returns-clause-ok c =
    let was = c.args.written.now.items in
    let place : c.len-gate.result - 1 + 1 ≡ length was = omega (arith, c.len-gate.ensures, c.args.written.now.ok.0, ap length c.requires, length-sealed (inner was)) in
    let zero : get_or was (c.len-gate.result - 1) 0 ≡ 0 = ap (λ l. get_or l (c.len-gate.result - 1) 0) c.requires ∙ gate-sealed (inner was) (c.len-gate.result - 1) (place ∙ ap length c.requires) in
    let is = rotated_is was c.args.bytes.now c.extend_from_slice.new.self.items c.deref_mut.result.now c.rotate_left.new.self (c.len-gate.result - 1) c.extend_from_slice.new.self.len (length c.deref_mut.result.now - (c.len-gate.result - 1))
    c.in_ok-extend_from_slice.ensures.items c.deref_mut.ensures.value c.extend_from_slice.new.self.ok.0 place zero refl c.rotate_left.ensures.after in
    let now = take (c.len-gate.result - 1) was ++ (c.args.bytes.now ++ 0 ∷ []) in
    let long : length now ≡ c.len.result =
    omega (
      arith,
      length-append (take (c.len-gate.result - 1) was) (c.args.bytes.now ++ 0 ∷ []),
      length-append c.args.bytes.now (0 ∷ []),
      length-take (c.len-gate.result - 1) was,
      place,
      c.extend_from_slice.new.self.ok.0,
      ap length c.in_ok-extend_from_slice.ensures.items,
      length-append was c.args.bytes.now,
      c.len.ensures,
    ) in
    grown_is (inner was) c.args.bytes.now was now c.put_length.new.written.items (c.len-gate.result - 1) c.min-size.result c.requires place refl
    (omega (arith, c.min-size.ensures, long))
    (c.put_length.ensures ∙ ap (λ l. u32_bytes c.min-size.result ++ drop 4 l) is)
