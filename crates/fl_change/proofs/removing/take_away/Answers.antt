use Rattle.fp_small.specs.declared.op.Op.TheVariants as ops
use Rattle.fl_change.specs.Refs.{op_over}
use Rattle.fl_change.specs.declared.end.RunEnd.TheVariants.{NoMemory}
use Rattle.fl_change.proofs.Acting.{acts_err, acts_halted}
use Rattle.fl_change.proofs.removing.take_away.Goals as goal

pub returns-in_err-copy-clause-acts : goal.returns-in_err-copy-clause-acts
returns-in_err-copy-clause-acts g c = acts_err c.from_residual.result NoMemory c.from_residual.ensures.1 (acts_halted (op_over (ops.Uninstall c.args.name.now)) (g.met.H.Host.is_tree c.args.host.now))
