use Rattle.fp_host.proofs.Looking.{looks_within}
use Rattle.fl_export.proofs.gathering.add_applications.Goals as goal

pub returns-in-Some-clause-unchanged : goal.returns-in-Some-clause-unchanged
returns-in-Some-clause-unchanged g c = looks_within c.add_desktop_files.ensures.unchanged c.applications_of.ensures.unchanged (g.met.H.Host.is_tree c.applications_of.new.host)
