use Rattle.ost_object.proofs.ByParts.{step-taken}
use Rattle.ost_object.proofs.checked.next_row.Goals as goal

pub returns-in-Ok : goal.returns-in-Ok
returns-in-Ok c = step-taken c.in-Ok.step c.args.rows c.in-Ok.ensures.found c.in-Ok.ensures.ready
