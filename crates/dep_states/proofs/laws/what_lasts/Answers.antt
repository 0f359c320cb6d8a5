use Rattle.dep_states.proofs.Lasting.{lasting_no_work, lasting_record, lasting_override, lasting_config}
use Rattle.dep_states.proofs.laws.what_lasts.Goals as goal

pub returns-clause-no_work : goal.returns-clause-no_work
returns-clause-no_work c = lasting_no_work

pub returns-clause-record : goal.returns-clause-record
returns-clause-record c = lasting_record

pub returns-clause-overrides : goal.returns-clause-overrides
returns-clause-overrides c = lasting_override

pub returns-clause-config : goal.returns-clause-config
returns-clause-config c = lasting_config
