use Rattle.fl_change.proofs.Worlds.{used_kept, unused_none, used_twice, worlds_state}
use Rattle.fl_change.proofs.laws.worlds_have_what_is_used.Goals as goal

pub returns-clause-used : goal.returns-clause-used
returns-clause-used c s have commit p kept inside = used_kept s have commit kept p inside

pub returns-clause-alone : goal.returns-clause-alone
returns-clause-alone c s have d kind none = unused_none s have d kind none

pub returns-clause-twice : goal.returns-clause-twice
returns-clause-twice c s have = used_twice s have

pub returns-clause-state : goal.returns-clause-state
returns-clause-state c held x ops = worlds_state held x ops
