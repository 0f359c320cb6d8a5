use Rattle.fl_samples.proofs.AtRest.{whole_exports, whole_at_rest, whole_in_step}
use Rattle.fl_samples.proofs.running.all_is_at_rest.Goals as goal

pub returns-clause-exports : goal.returns-clause-exports
returns-clause-exports c = whole_exports

pub returns-clause-rests : goal.returns-clause-rests
returns-clause-rests c = whole_at_rest

pub returns-clause-in_step : goal.returns-clause-in_step
returns-clause-in_step c = whole_in_step
