use Rattle.std.proofs.Common.{◌≡◌, None, Some, subst}
use Rattle.fp_base.specs.declared.object.ObjKind.TheVariants as kinds
use Rattle.ost_model.specs.declared.object.Object.{Object}
use Rattle.ost_model.specs.Objects.{object_fault}
use Rattle.ost_model.specs.Order.{read_as}
use Rattle.ost_model.specs.Readers.{commit_of}
use Rattle.ost_object.specs.Views.{commit_view}
use Rattle.ost_head.specs.Found.{found_object}
use Rattle.ost_head.specs.Parts.{ReadsAs}
use Rattle.ost_head.proofs.Parted.{commit_found}
use Rattle.ost_head.proofs.parts.find_commit.Goals as goal

pub returns-in-Ok-clause-tells : goal.returns-in-Ok-clause-tells
returns-in-Ok-clause-tells g c have s =
    commit_found commit_view have c.args.digest.now (found_object c.in-Ok.found) c.commit_in.result (c.in-Ok.ensures.tells have s)
    (subst (λ (o : Object). object_fault c.args.digest.now kinds.Commit (Some o) ≡ None → ReadsAs commit_view (read_as commit_of (Some o)) c.commit_in.result) c.object_in.ensures c.commit_in.ensures.tells)
