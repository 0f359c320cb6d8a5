-- Each call tells nothing, and has its trait's bounds from its own clauses.
use Rattle.fp_host.proofs.Untold.{untold}
use Rattle.dep_tests.proofs.Untold.{done_cause, done_needs, starved_cause}
use Rattle.dep_tests.proofs.wide_host.WideHostHost.TheImpl.Goals as goal

pub stat-tells : goal.stat-tells
stat-tells c = record { step = untold; bits = c.ensures.bits; fault_has_cause = done_cause c.ensures.done; needs_no_memory = done_needs c.ensures.done }

pub list-tells : goal.list-tells
list-tells c = record { step = untold; names = c.ensures.names; fault_has_cause = starved_cause c.ensures.starved }

pub read_at-tells : goal.read_at-tells
read_at-tells c = record { bound = c.ensures.bound; step = untold; fault_has_cause = done_cause c.ensures.done; needs_no_memory = done_needs c.ensures.done }

pub read_link-tells : goal.read_link-tells
read_link-tells c = record { step = untold; fault_has_cause = starved_cause c.ensures }

pub make_dir-tells : goal.make_dir-tells
make_dir-tells c = record { step = untold; fault_has_cause = done_cause c.ensures; needs_no_memory = done_needs c.ensures }

pub create-tells : goal.create-tells
create-tells c = record { step = untold; fault_has_cause = done_cause c.ensures; needs_no_memory = done_needs c.ensures }

pub append-tells : goal.append-tells
append-tells c = record { step = untold; fault_has_cause = done_cause c.ensures; needs_no_memory = done_needs c.ensures }

pub link-tells : goal.link-tells
link-tells c = record { step = untold; fault_has_cause = done_cause c.ensures; needs_no_memory = done_needs c.ensures }

pub symlink-tells : goal.symlink-tells
symlink-tells c = record { step = untold; fault_has_cause = done_cause c.ensures; needs_no_memory = done_needs c.ensures }

pub rename-tells : goal.rename-tells
rename-tells c = record { step = untold; fault_has_cause = done_cause c.ensures; needs_no_memory = done_needs c.ensures }

pub unlink-tells : goal.unlink-tells
unlink-tells c = record { step = untold; fault_has_cause = done_cause c.ensures; needs_no_memory = done_needs c.ensures }

pub remove_dir-tells : goal.remove_dir-tells
remove_dir-tells c = record { step = untold; fault_has_cause = done_cause c.ensures; needs_no_memory = done_needs c.ensures }

pub sync-tells : goal.sync-tells
sync-tells c = record { step = untold; fault_has_cause = done_cause c.ensures; needs_no_memory = done_needs c.ensures }

pub say-tells : goal.say-tells
say-tells c = record { step = untold; fault_has_cause = done_cause c.ensures; needs_no_memory = done_needs c.ensures }
