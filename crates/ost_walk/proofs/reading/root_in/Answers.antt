use Rattle.std.proofs.Common.{◌∙◌, ap, sym, subst}
use Rattle.ost_model.specs.Readers.{commit_read}
use Rattle.ost_object.specs.Answers.{mapped}
use Rattle.ost_object.specs.Views.{root_view, root_in}
use Rattle.fp_base.specs.declared.object.ObjKind.TheVariants as kinds
use Rattle.ost_model.specs.Objects.{object_fault}
use Rattle.ost_object.specs.Answers.{Breaks}
use Rattle.ost_walk.specs.declared.ends.WalkEnd.{WalkEnd}
use Rattle.ost_walk.specs.Ends.{RefusesBy, IsFaultOf}
use Rattle.ost_walk.proofs.Read.{root_read, root_unread}
use Rattle.ost_walk.proofs.reading.root_in.Goals as goal

pub returns-in-Ok-clause-tells : goal.returns-in-Ok-clause-tells
returns-in-Ok-clause-tells c have n = root_read (root_view c.in-Ok.root) n (ap (λ b. mapped root_in (commit_read b)) (sym c.as_slice.ensures) ∙ c.in-Ok.ensures) c.root_of.ensures

pub returns-in-Err-clause-tells : goal.returns-in-Err-clause-tells
returns-in-Err-clause-tells c have n =
    let d = c.args.digest.now in
    subst (λ (e : WalkEnd). RefusesBy (IsFaultOf d kinds.Commit (object_fault d kinds.Commit (have d kinds.Commit))) e) (sym c.unread.ensures)
    (root_unread (have d kinds.Commit) c.in-Err.error n (subst (λ b. Breaks c.in-Err.error (mapped root_in (commit_read b))) c.as_slice.ensures c.in-Err.ensures))
