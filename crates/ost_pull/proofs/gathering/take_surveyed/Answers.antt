use Rattle.std.proofs.Common.{◌≡◌, List, ℕ, Some, subst}
use Rattle.std.specs.Prelude.{option_map}
use Rattle.fp_base.specs.declared.object.ObjKind.{ObjKind}
use Rattle.ost_walk.specs.Ends.{RefusesBy}
use Rattle.ost_walk.specs.Surveys.{first_bad, told_fault}
use Rattle.ost_pull.proofs.Taken.{bad_first}
use Rattle.ost_pull.proofs.gathering.take_surveyed.Goals as goal

pub returns-in-Err-clause-tells : goal.returns-in-Err-clause-tells
returns-in-Err-clause-tells g c have s now trusted = bad_first (first_bad have c.args.survey.now.objects) (option_map told_fault c.args.survey.now.fault) c.in-Err.end
    (subst (λ (l : List (List ℕ × ObjKind)). RefusesBy (λ w. first_bad have l ≡ Some (told_fault w)) c.in-Err.end) c.as_slice.ensures (c.in-Err.ensures.tells have s now trusted))
