use Rattle.std.proofs.Common.{Result, List, ℕ, Some, None, sym, subst}
use Rattle.fp_base.specs.declared.object.ObjKind.{ObjKind}
use Rattle.ost_walk.specs.declared.ends.WalkEnd.{WalkEnd}
use Rattle.ost_walk.specs.declared.surveys.Survey.{Survey}
use Rattle.ost_walk.specs.Ends.{EndsBy}
use Rattle.ost_walk.specs.Surveys.{IsSurvey}
use Rattle.ost_walk.proofs.Quiet.{looks_ok}
use Rattle.ost_walk.proofs.Surveyed.{whole_survey, part_survey, looks_as, looks_stopped}
use Rattle.ost_walk.proofs.Walked.{started}
use Rattle.ost_walk.proofs.surveying.survey_from.Goals as goal

pub returns-in-Ok-clause-looks : goal.returns-in-Ok-clause-looks
returns-in-Ok-clause-looks g c = looks_ok (record { objects = c.from_vec.result; fault = None }) c.in-Ok.ensures.looks

pub returns-in-Ok-clause-tells : goal.returns-in-Ok-clause-tells
returns-in-Ok-clause-tells g c have s root =
    subst (λ (l : List (List ℕ × ObjKind)). IsSurvey have c.args.commit.now (record { objects = l; fault = None })) (sym c.from_vec.ensures)
    (whole_survey (c.in-Ok.ensures.tells have c.args.commit.now s (started c.args.root c.in_ok-done.ensures c.in_ok-left.ensures root)))

pub returns-clause-looks : goal.returns-clause-looks
returns-clause-looks g c = looks_as c.stopped.ensures (looks_stopped c.walk.new.done.items c.in-Err.end c.in-Err.ensures.looks)

pub returns-clause-tells : goal.returns-clause-tells
returns-clause-tells g c have s root =
    subst (λ (r : Result Survey WalkEnd). EndsBy (IsSurvey have c.args.commit.now) (λ w. ⊥) r) (sym c.stopped.ensures)
    (part_survey have c.args.commit.now c.walk.new.done.items c.in-Err.end (c.in-Err.ensures.tells have c.args.commit.now s (started c.args.root c.in_ok-done.ensures c.in_ok-left.ensures root)))
