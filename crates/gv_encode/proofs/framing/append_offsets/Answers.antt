use Rattle.std.proofs.Common.{◌≡◌, ℕ, ◌+◌, ◌-◌, ◌++◌, length, get_or, drop, flat_map, ap, subst, vec_len, arith, rules}
use Rattle.std.proofs.lemmas.List.{drop_more}
use Rattle.gv_value.specs.Framing.{width}
use Rattle.gv_value.specs.Bytes.{le_bytes}
use Rattle.gv_encode.specs.Encoded.{Fails, offset_bytes}
use Rattle.gv_encode.proofs.Steps.{adds-err, coming-fails}
use Rattle.gv_encode.proofs.Closings.{offsets-many}
use Rattle.gv_encode.proofs.framing.append_offsets.Goals as goal

pub returns-then-offsets-room_left : goal.returns-then-offsets-room_left
returns-then-offsets-room_left c = omega (arith, offsets-many (vec_len c.args.out.now - c.args.start) c.args.offsets.now)

pub returns-in_err-append_number : goal.returns-in_err-append_number
returns-in_err-append_number c =
    let l = c.loop-offset in
    let before = c.args.out.now.items in
    let os = c.args.offsets.now in
    let used = vec_len c.args.out.now - c.args.start in
    let w = c.width-size.result in
    let i = l.offset-index in
    let e = c.in_err-append_number.field-0.0 in
    let wide : w ≡ width used (length os) = search rules in
    let split : flat_map (le_bytes w) (drop i os) ≡ le_bytes w (get_or os i 0) ++ flat_map (le_bytes w) (drop (i + 1) os) =
    ap (flat_map (le_bytes w)) (drop_more os i 0 c.loop-offset-test.true) in
    adds-err c.from_residual.result e before c.append_number.new.out.items (offset_bytes used os) c.from_residual.ensures.1
    (subst (λ (n : ℕ). Fails e before (flat_map (le_bytes n) os)) wide
    (coming-fails e before (flat_map (le_bytes w) os) l.out.items (le_bytes w (get_or os i 0)) (flat_map (le_bytes w) (drop (i + 1) os)) (flat_map (le_bytes w) (drop i os)) l.invariant split
    c.in_err-append_number.ensures))
