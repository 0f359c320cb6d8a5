use Rattle.std.proofs.Common.{refl}
use Rattle.fp_base.specs.declared.object.ObjKind.TheVariants as kinds
use Rattle.ost_pull.proofs.Read.{object_there}
use Rattle.ost_pull.proofs.small.small_object.Goals as goal

pub returns-in-File-clause-there : goal.returns-in-File-clause-there
returns-in-File-clause-there g c held told =
    object_there held c.args.url.now c.args.digest.now c.args.kind kinds.File c.in_ok-path.path c.root.result c.small_content.result c.in_ok-path.ensures c.root.ensures c.in-File.is (c.small_content.ensures.there held told)

pub returns-clause-there : goal.returns-clause-there
returns-clause-there g c held told =
    object_there held c.args.url.now c.args.digest.now c.args.kind c.args.kind c.in_ok-path.path c.root.result c.small_meta.result c.in_ok-path.ensures c.root.ensures refl (c.small_meta.ensures.there held told)
