use Rattle.std.proofs.Common.{◌+◌, ◌≤◌, length, refl, arith, subst, sym}
use Rattle.std.proofs.lemmas.Grind.{common_steps}
use Rattle.ost_content.proofs.Spelled.{narrow, link_header_is}
use Rattle.ost_content.proofs.headers.link_header.Goals as goal

pub returns : goal.returns
returns c =
    let target = c.args.target.now in
    let short : length target ≤ 4095 = grind (arith, common_steps) in
    let small : c.width-size.result ≤ 2 = subst (λ n. n ≤ 2) (sym c.width-size.ensures) (narrow (16 + length target + 1) (omega arith)) in
    rw (
      c.from_vec.ensures,
      c.in_ok-extend_from_slice-3.ensures.items,
      c.in_ok-push.ensures.items,
      c.in_ok-extend_from_slice-2.ensures.items,
      c.in_ok-extend_from_slice.ensures.items,
      c.in_ok-bytes.ensures.items,
      c.beginning.ensures,
      c.as_bytes.ensures.value,
      c.write_u16.ensures,
    )
    (link_header_is target c.width-size.result (16 + length target + 1) refl c.width-size.ensures small)
