use Rattle.fp_small.proofs.Bare.{all_free, may_replace, may_clear, not_so_deep}
use Rattle.fp_small.proofs.laws.bare_views.Goals as goal

pub returns-clause-folders : goal.returns-clause-folders
returns-clause-folders c = λ v paths bare. all_free v bare paths

pub returns-clause-file : goal.returns-clause-file
returns-clause-file c = λ v name bare other. may_replace v bare name other

pub returns-clause-cleared : goal.returns-clause-cleared
returns-clause-cleared c = λ v x up bare. may_clear v bare x up

pub returns-clause-too_deep : goal.returns-clause-too_deep
returns-clause-too_deep c = not_so_deep
