use Rattle.std.proofs.Common.{◌∙◌, ap, subst}
use Rattle.fp_host.specs.Paths.{Elements}
use Rattle.fp_base.specs.declared.object.ObjKind.TheVariants as kinds
use Rattle.ost_model.specs.Objects.{object_at, object_path}
use Rattle.ost_model.specs.Remotes.{as_spot}
use Rattle.ost_head.specs.Contents.{LooksAt}
use Rattle.ost_head.proofs.content.remote_content.Goals as goal

pub returns-clause-tells : goal.returns-clause-tells
returns-clause-tells g c held told =
    let d = c.args.digest.now in
    let url = c.args.url.now in
    subst (λ (q : Elements). LooksAt d (object_at kinds.File (as_spot (held url q))) c.content_in.result) (c.in_ok-path.ensures ∙ ap (λ (r : Elements). object_path r d kinds.File) c.root.ensures)
    (c.content_in.ensures.tells (held url c.in_ok-path.path) (c.in_ok-node.ensures.tells held told))
