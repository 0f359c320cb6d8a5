use Rattle.std.proofs.Common.{Result, List, ℕ, [], sym, ◌∙◌, ap, subst}
use Rattle.fp_base.specs.declared.object.ObjKind.{ObjKind}
use Rattle.ost_walk.specs.declared.ends.WalkEnd.{WalkEnd}
use Rattle.ost_walk.specs.declared.surveys.Survey.{Survey}
use Rattle.ost_walk.specs.Ends.{EndsBy}
use Rattle.ost_walk.specs.Surveys.{IsSurvey, stopped_at}
use Rattle.ost_walk.proofs.Quiet.{looks_on, supplied}
use Rattle.ost_walk.proofs.Surveyed.{part_survey, commit_stops, looks_as, looks_stopped}
use Rattle.ost_walk.proofs.Walked.{commit_first}
use Rattle.ost_walk.proofs.surveying.survey.Goals as goal

pub returns-in-Ok-clause-looks : goal.returns-in-Ok-clause-looks
returns-in-Ok-clause-looks g c = looks_on (g.met.H.Host.is_tree c.fetch_root.new.host) c.in-Ok.ensures.looks c.survey_from.ensures.looks

pub returns-in-Ok-clause-tells : goal.returns-in-Ok-clause-tells
returns-in-Ok-clause-tells g c have s = c.survey_from.ensures.tells have (supplied c.in-Ok.ensures.looks s) (c.in-Ok.ensures.tells have s)

pub returns-in-Err-clause-looks : goal.returns-in-Err-clause-looks
returns-in-Err-clause-looks g c = looks_as c.stopped.ensures (looks_stopped c.new.result.items c.in-Err.end c.in-Err.ensures.looks)

pub returns-in-Err-clause-tells : goal.returns-in-Err-clause-tells
returns-in-Err-clause-tells g c have s =
    let fault = c.in-Err.ensures.tells have s in
    subst (λ (r : Result Survey WalkEnd). EndsBy (IsSurvey have c.args.commit.now) (λ w. ⊥) r)
    (sym (c.stopped.ensures ∙ ap (λ (l : List (List ℕ × ObjKind)). stopped_at l c.in-Err.end) c.new.ensures.items))
    (part_survey have c.args.commit.now [] c.in-Err.end (commit_stops have c.args.commit.now c.in-Err.end fault (commit_first have c.args.commit.now c.in-Err.end fault)))
