use Rattle.fl_samples.proofs.Lists.{alike, apart}
use Rattle.fl_samples.proofs.filtering.recordings_may_differ_unseen.Goals as goal

pub returns-clause-alike : goal.returns-clause-alike
returns-clause-alike c = alike

pub returns-clause-apart : goal.returns-clause-apart
returns-clause-apart c = apart
