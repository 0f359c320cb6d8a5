use Rattle.std.proofs.Common.{inl, refl}
use Rattle.dep_states.specs.Deployed.{commit}
use Rattle.fp_base.specs.declared.object.ObjKind.TheVariants as kinds
use Rattle.fl_change.specs.Sample.{holdings, installed, install}
use Rattle.fl_change.proofs.Created.{had_not}
use Rattle.fl_change.proofs.Installed.{commit_good, installed_has}
use Rattle.fl_change.proofs.laws_of_refs.operations_lack_what_is_not_there.Goals as goal

pub returns-clause-lacked : goal.returns-clause-lacked
returns-clause-lacked c held x name origin wanted o digits ordered lacked =
    record { digits = digits; ordered = ordered; lacked = lacked }

pub returns-clause-other : goal.returns-clause-other
returns-clause-other c held x name origin wanted o off is = off is.ordered

pub returns-clause-had : goal.returns-clause-had
returns-clause-had c held x op o had is = had_not held x op o had is

pub returns-clause-plainly : goal.returns-clause-plainly
returns-clause-plainly c held x name o is = is

pub returns-clause-sample : goal.returns-clause-sample
returns-clause-sample c = record { digits = commit_good; ordered = inl refl; lacked = refl }

pub returns-clause-again : goal.returns-clause-again
returns-clause-again c is = had_not holdings installed install.op (commit, kinds.Commit) installed_has is
