use Rattle.std.proofs.Common.{◌+◌, ◌-◌, Some, ap, sym, ◌∙◌, arith}
use Rattle.gv_value.specs.declared.sign.Sign.{Sign}
use Rattle.gv_value.specs.declared.sign.Sign.TheVariants as signs
use Rattle.gv_value.specs.Texts.{after_type}
use Rattle.gv_value.proofs.SignatureSteps.{type-shorter, after_type-is, member_closes, member_goes, array_some}
use Rattle.gv_value.proofs.signatures.+signature.Goals as goal

pub after_members-returns-in-TupleClose : goal.after_members-returns-in-TupleClose
after_members-returns-in-TupleClose t c =
    let l = c.members in
    let one = after_type (c.args.arrays + c.args.structs) c.args.arrays c.args.structs in
    let closing = ap (λ (x : Sign). Some (x, c.in_ok-sign.rest.now)) (sym c.in-TupleClose.is) ∙ c.in_ok-sign.ensures in
    sym (l.invariant.so_far ∙ member_closes one (type-shorter (c.args.arrays + c.args.structs) c.args.arrays c.args.structs) l.invariant.fuel l.left.now c.in_ok-left.left.now c.in_ok-sign.rest.now
    l.invariant.enough (sym c.in_ok-left.ensures) (sym closing))

pub after_members-members-smaller : goal.after_members-members-smaller
after_members-members-smaller t c =
    type-shorter (c.args.arrays + c.args.structs) c.args.arrays c.args.structs c.members.left.now c.in_ok-left.left.now (sym c.in_ok-left.ensures)

pub after_members-members-preserved : goal.after_members-members-preserved
after_members-members-preserved t c =
    let l = c.members in
    let one = after_type (c.args.arrays + c.args.structs) c.args.arrays c.args.structs in
    let shorter = type-shorter (c.args.arrays + c.args.structs) c.args.arrays c.args.structs in
    let less = shorter l.left.now c.in_ok-left.left.now (sym c.in_ok-left.ensures) in
    record {
      fuel = l.invariant.fuel - 1;
      enough = omega (arith, l.invariant.enough);
      so_far = l.invariant.so_far ∙ member_goes one shorter l.invariant.fuel l.left.now c.in_ok-left.left.now c.in_ok-sign.sign c.in_ok-sign.rest.now
          l.invariant.enough (sym c.in_ok-left.ensures) (sym c.in_ok-sign.ensures) c.in_default.not-TupleClose;
    }

pub after_type-returns-else-arrays-eq0 : goal.after_type-returns-else-arrays-eq0
after_type-returns-else-arrays-eq0 t c =
    let a = c.args.arrays in
    let b = c.args.structs in
    let rest = c.in_ok-sign.rest.now in
    let opened = ap (λ (x : Sign). Some (x, rest)) (sym c.in-Array.is) ∙ c.in_ok-sign.ensures in
    c.after_element.ensures ∙ sym (after_type-is a b c.args.text.now signs.Array rest (sym opened) ∙ array_some a (after_type (a - 1 + b) (a - 1) b) rest c.if-arrays-eq0.false)
