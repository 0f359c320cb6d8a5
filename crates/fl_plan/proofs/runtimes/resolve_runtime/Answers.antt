use Rattle.std.proofs.Common.{ap, ◌∙◌}
use Rattle.std.specs.Prelude.{is_some}
use Rattle.fl_plan.proofs.Parts.{install_ok, install_err, install_some}
use Rattle.fl_plan.proofs.runtimes.resolve_runtime.Goals as goal

pub returns-in-Ok-clause-plans : goal.returns-in-Ok-clause-plans
returns-in-Ok-clause-plans g c = rw c.install_in.ensures (install_ok c.args.state.now c.args.remote.now c.args.runtime.now c.in-Ok.found c.in-Ok.ensures.plans)

pub returns-in-Ok-clause-installed : goal.returns-in-Ok-clause-installed
returns-in-Ok-clause-installed g c = ap is_some c.install_in.ensures ∙ install_some c.args.state.now c.args.remote.now c.args.runtime.now c.in-Ok.found ∙ c.in-Ok.ensures.installed

pub returns-in-Err-clause-plans : goal.returns-in-Err-clause-plans
returns-in-Err-clause-plans g c = install_err c.args.state.now c.args.remote.now c.args.runtime.now c.in-Err.end c.in-Err.ensures.plans
