use Rattle.std.proofs.Common.{drop, sym, subst}
use Rattle.fp_host.specs.Paths.{Elements}
use Rattle.ost_model.specs.Look.{look_fault}
use Rattle.ost_walk.specs.Ends.{EndsBy, IsFirst}
use Rattle.ost_walk.specs.Looked.{IsHere}
use Rattle.ost_walk.proofs.looking.follow_one.Goals as goal

pub returns-clause-tells : goal.returns-clause-tells
returns-clause-tells g c have commit s at =
    subst (λ (p : Elements). EndsBy (IsHere have commit p) (IsFirst (look_fault have commit p)) c.advance.result) (sym c.in-Some.ensures.name) (c.advance.ensures.tells have commit (drop 1 c.args.path.now) s at)
