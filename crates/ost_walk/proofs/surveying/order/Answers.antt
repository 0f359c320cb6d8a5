use Rattle.std.proofs.Common.{Result, List, ℕ, sym, subst}
use Rattle.fp_base.specs.declared.object.ObjKind.{ObjKind}
use Rattle.ost_model.specs.Order.{first_walk_fault}
use Rattle.ost_walk.specs.declared.ends.WalkEnd.{WalkEnd}
use Rattle.ost_walk.specs.Ends.{EndsBy, IsFirst}
use Rattle.ost_walk.specs.Steps.{IsOrder}
use Rattle.ost_walk.proofs.Quiet.{looks_err}
use Rattle.ost_walk.proofs.Surveyed.{order_told, looks_as, looks_whole}
use Rattle.ost_walk.proofs.surveying.order.Goals as goal
use Rattle.ost_walk.proofs.Ended.{never_refused}

pub returns-in-Ok-clause-looks : goal.returns-in-Ok-clause-looks
returns-in-Ok-clause-looks g c = looks_as c.whole.ensures (looks_whole c.in-Ok.ensures.looks)

pub returns-in-Ok-clause-tells : goal.returns-in-Ok-clause-tells
returns-in-Ok-clause-tells g c have s =
    subst (λ (r : Result (List (List ℕ × ObjKind)) WalkEnd). EndsBy (IsOrder have c.args.commit.now) (IsFirst (first_walk_fault have c.args.commit.now)) r) (sym c.whole.ensures)
    (order_told c.in-Ok.survey (c.in-Ok.ensures.tells have s))

pub returns-in-Err-clause-looks : goal.returns-in-Err-clause-looks
returns-in-Err-clause-looks g c = looks_err c.in-Err.ensures.looks

pub returns-in-Err-clause-tells : goal.returns-in-Err-clause-tells
returns-in-Err-clause-tells g c have s = never_refused (IsFirst (first_walk_fault have c.args.commit.now)) c.in-Err.end (c.in-Err.ensures.tells have s)
