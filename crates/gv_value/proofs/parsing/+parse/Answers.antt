use Rattle.std.proofs.Common.{◌-◌, Some, ap, sym, ◌∙◌, subst, arith}
use Rattle.std.proofs.lemmas.Result.{err_from_is_err_and}
use Rattle.gv_value.specs.declared.sign.Sign.{Sign}
use Rattle.gv_value.specs.Reads.{Reads}
use Rattle.gv_value.specs.TypeText.{type_at}
use Rattle.gv_value.specs.Views.{shape_of}
use Rattle.gv_value.proofs.Members.{sign_stops, type_stops, all_members, more_members, opens-not, in_room, shorter}
use Rattle.gv_value.proofs.parsing.+parse.Goals as goal

pub read_members-returns-in_err-sign : goal.read_members-returns-in_err-sign
read_members-returns-in_err-sign t c =
    let p = err_from_is_err_and c.from_residual.result c.from_residual.ensures.1 in
    let l = c.members in
    rw (p.1, p.2) (sign_stops c.in_err-sign.field-0.0 c.args.room c.args.text.now l.members.items l.invariant.fuel l.left.now l.invariant.so_far c.in_err-sign.ensures)

pub read_members-returns-in_err-member : goal.read_members-returns-in_err-member
read_members-returns-in_err-member t c =
    let p = err_from_is_err_and c.from_residual-in_err-member.result c.from_residual-in_err-member.ensures.1 in
    let l = c.members in
    rw (p.1, p.2) (type_stops c.in_err-member.field-0.0 c.args.room c.args.text.now l.members.items l.invariant.fuel l.left.now c.in_ok-sign.sign c.in_ok-sign.rest.now
    l.invariant.so_far c.in_ok-sign.ensures (opens-not c.in_ok-sign.sign c.in_default.not-TupleClose) c.in_err-member.ensures)

pub read_members-returns-in-TupleClose : goal.read_members-returns-in-TupleClose
read_members-returns-in-TupleClose t c =
    let l = c.members in
    all_members c.args.room c.args.text.now l.members.items l.invariant.fuel l.left.now c.in_ok-sign.rest.now l.invariant.so_far l.invariant.enough
    (c.in_ok-sign.ensures ∙ ap (λ (x : Sign). Some (x, c.in_ok-sign.rest.now)) c.in-TupleClose.is)

pub read_members-members-smaller : goal.read_members-members-smaller
read_members-members-smaller t c = shorter c.args.room c.members.left.now _ c.in_ok-member.remainder.now c.in_ok-member.ensures

pub read_members-members-preserved : goal.read_members-members-preserved
read_members-members-preserved t c =
    let l = c.members in
    let less = shorter c.args.room l.left.now (shape_of c.in_ok-member.member) c.in_ok-member.remainder.now c.in_ok-member.ensures in
    record {
      fuel = l.invariant.fuel - 1;
      enough = omega (arith, l.invariant.enough);
      so_far = rw c.in_ok-push.ensures.items (more_members c.args.room c.args.text.now l.members.items l.invariant.fuel l.left.now c.in_ok-sign.sign c.in_ok-sign.rest.now
          c.in_ok-member.member c.in_ok-member.remainder.now l.invariant.so_far l.invariant.enough c.in_ok-sign.ensures (opens-not c.in_ok-sign.sign c.in_default.not-TupleClose) c.in_ok-member.ensures);
    }

pub read_type-returns-then-room-gt0 : goal.read_type-returns-then-room-gt0
read_type-returns-then-room-gt0 t c =
    subst (Reads (λ x. (shape_of x.0, x.1.now)) c.read_from.result)
    (sym (in_room c.args.room c.args.text.now c.in_ok-sign.sign c.in_ok-sign.rest.now c.if-room-gt0.true c.in_ok-sign.ensures)) c.read_from.ensures
