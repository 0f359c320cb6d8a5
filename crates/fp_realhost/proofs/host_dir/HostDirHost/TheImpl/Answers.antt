-- Each call counts, tells nothing of content, and has its trait's bounds from its own clauses.
use Rattle.fp_host.proofs.Untold.{untold}
use Rattle.fp_realhost.proofs.Causes.{cause}
use Rattle.fp_realhost.proofs.host_dir.HostDirHost.TheImpl.Goals as goal

pub stat-tells : goal.stat-tells
stat-tells g c = record { step = untold; bits = c.ensures.bits; fault_has_cause = cause c.ensures.counts; needs_no_memory = c.ensures.needs_no_memory }

pub list-tells : goal.list-tells
list-tells g c = record { step = untold; names = c.ensures.names; fault_has_cause = cause c.ensures.counts }

pub read_at-tells : goal.read_at-tells
read_at-tells g c = record { bound = c.ensures.bound; step = untold; fault_has_cause = cause c.ensures.counts; needs_no_memory = c.ensures.needs_no_memory }

pub read_link-tells : goal.read_link-tells
read_link-tells g c = record { step = untold; fault_has_cause = cause c.ensures.counts }

pub make_dir-tells : goal.make_dir-tells
make_dir-tells g c = record { step = untold; fault_has_cause = cause c.ensures.counts; needs_no_memory = c.ensures.needs_no_memory }

pub create-tells : goal.create-tells
create-tells g c = record { step = untold; fault_has_cause = cause c.ensures.counts; needs_no_memory = c.ensures.needs_no_memory }

pub append-tells : goal.append-tells
append-tells g c = record { step = untold; fault_has_cause = cause c.ensures.counts; needs_no_memory = c.ensures.needs_no_memory }

pub link-tells : goal.link-tells
link-tells g c = record { step = untold; fault_has_cause = cause c.ensures.counts; needs_no_memory = c.ensures.needs_no_memory }

pub symlink-tells : goal.symlink-tells
symlink-tells g c = record { step = untold; fault_has_cause = cause c.ensures.counts; needs_no_memory = c.ensures.needs_no_memory }

pub rename-tells : goal.rename-tells
rename-tells g c = record { step = untold; fault_has_cause = cause c.ensures.counts; needs_no_memory = c.ensures.needs_no_memory }

pub unlink-tells : goal.unlink-tells
unlink-tells g c = record { step = untold; fault_has_cause = cause c.ensures.counts; needs_no_memory = c.ensures.needs_no_memory }

pub remove_dir-tells : goal.remove_dir-tells
remove_dir-tells g c = record { step = untold; fault_has_cause = cause c.ensures.counts; needs_no_memory = c.ensures.needs_no_memory }

pub sync-tells : goal.sync-tells
sync-tells g c = record { step = untold; fault_has_cause = cause c.ensures.counts; needs_no_memory = c.ensures.needs_no_memory }

pub say-tells : goal.say-tells
say-tells g c = record { step = untold; fault_has_cause = cause c.ensures.counts; needs_no_memory = c.ensures.needs_no_memory }
