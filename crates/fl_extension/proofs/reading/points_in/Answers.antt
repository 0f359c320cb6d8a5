use Rattle.fl_extension.proofs.Having.{has_among, on_err}
use Rattle.fl_extension.proofs.reading.points_in.Goals as goal

pub returns-in_err-push_point-clause-error : goal.returns-in_err-push_point-clause-error
returns-in_err-push_point-clause-error c = on_err c.from_residual.result
    (has_among c.args.of.now c.args.groups.now c.loop-group.group-index c.group-item.result c.loop-group-test.true c.group-item.is c.in_err-push_point.ensures.error)
