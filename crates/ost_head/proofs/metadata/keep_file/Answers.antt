use Rattle.std.proofs.Common.{◌∙◌, ap, subst}
use Rattle.fp_host.specs.Paths.{Elements}
use Rattle.fp_base.specs.declared.object.ObjKind.TheVariants as kinds
use Rattle.ost_model.specs.Objects.{object_at, object_path}
use Rattle.ost_model.specs.Remotes.{as_spot}
use Rattle.ost_head.specs.Kept.{Keeps}
use Rattle.ost_head.specs.Stored.{IsFileOf}
use Rattle.ost_head.proofs.metadata.keep_file.Goals as goal

pub returns-clause-tells : goal.returns-clause-tells
returns-clause-tells g c held told =
    let d = c.args.digest.now in
    let url = c.args.url.now in
    subst (λ (q : Elements). IsFileOf c.args.mode c.args.size (object_at kinds.File (as_spot (held url q))) → Keeps d (object_at kinds.File (as_spot (held url q))) c.keep_remote.result)
    (c.in_ok-path.ensures ∙ ap (λ (r : Elements). object_path r d kinds.File) c.root.ensures) (c.keep_remote.ensures.tells held told)
