use Rattle.fp_host.proofs.Looking.{looks_within}
use Rattle.fl_export.proofs.gathering.add_size.Goals as goal

pub returns-in-Some-clause-unchanged : goal.returns-in-Some-clause-unchanged
returns-in-Some-clause-unchanged g c = looks_within c.add_icon_files.ensures.unchanged c.apps_in.ensures.unchanged (g.met.H.Host.is_tree c.apps_in.new.host)
