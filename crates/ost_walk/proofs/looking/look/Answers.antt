use Rattle.std.proofs.Common.{◌≤◌, length, sym, subst, arith}
use Rattle.std.proofs.lemmas.List.{drop_all}
use Rattle.fp_host.specs.Paths.{Elements}
use Rattle.ost_model.specs.Look.{look_fault}
use Rattle.ost_walk.specs.Ends.{RefusesBy, IsFirst}
use Rattle.ost_walk.proofs.Followed.{fault_above}
use Rattle.ost_walk.proofs.Quiet.{looks_on, looks_ok, looks_err, supplied}
use Rattle.ost_walk.proofs.looking.look.Goals as goal

pub returns-in-Ok-follow-clause-looks : goal.returns-in-Ok-follow-clause-looks
returns-in-Ok-follow-clause-looks g c = looks_ok c.found_of.result (looks_on (g.met.H.Host.is_tree c.start.new.host) c.in-Ok.ensures.looks c.in-Ok-follow.ensures.looks)

pub returns-in-Ok-follow-clause-tells : goal.returns-in-Ok-follow-clause-tells
returns-in-Ok-follow-clause-tells g c have s =
    c.found_of.ensures.tells have c.args.commit.now c.args.path.now (c.in-Ok-follow.ensures.tells have c.args.commit.now (supplied c.in-Ok.ensures.looks s) (c.in-Ok.ensures.tells have s))

pub returns-in-Err-follow-clause-looks : goal.returns-in-Err-follow-clause-looks
returns-in-Err-follow-clause-looks g c = looks_err (looks_on (g.met.H.Host.is_tree c.start.new.host) c.in-Ok.ensures.looks c.in-Err-follow.ensures.looks)

pub returns-in-Err-follow-clause-tells : goal.returns-in-Err-follow-clause-tells
returns-in-Err-follow-clause-tells g c have s = c.in-Err-follow.ensures.tells have c.args.commit.now (supplied c.in-Ok.ensures.looks s) (c.in-Ok.ensures.tells have s)

pub returns-in-Err-clause-tells : goal.returns-in-Err-clause-tells
returns-in-Err-clause-tells g c have s =
    let path = c.args.path.now in
    let within : length path ≤ length path = omega arith in
    fault_above have c.args.commit.now path (length path) c.in-Err.end
    (subst (λ (p : Elements). RefusesBy (IsFirst (look_fault have c.args.commit.now p)) c.in-Err.end) (sym (drop_all (length path) path within)) (c.in-Err.ensures.tells have s))
