use Rattle.std.proofs.Common.{◌≡◌, ◌∙◌, Some, ap, sym, subst}
use Rattle.std.specs.Prelude.{IfOk}
use Rattle.fp_host.specs.Paths.{elements_of}
use Rattle.fp_name.specs.Refs.{ref_of}
use Rattle.dep_states.proofs.BranchPaths.{ref_there}
use Rattle.dep_states.proofs.branches.ref_at.Goals as goal

pub returns-in-Ok : goal.returns-in-Ok
returns-in-Ok c =
    ref_there c.args.path.now c.in-Ok.name (ap elements_of (sym c.text.ensures.text) ∙ c.text.ensures.back)
    (ap ref_of (sym (c.as_bytes.ensures.value ∙ c.text.ensures.text)) ∙ subst (λ r. IfOk r (λ n. ref_of c.as_bytes.result.now ≡ Some n)) c.in-Ok.is c.parse.ensures.ok)
