use Rattle.std.proofs.Common.{◌∙◌, ap}
use Rattle.ost_commit.specs.declared.tree.Folder.{Folder}
use Rattle.ost_commit.specs.Folders.{child_in}
use Rattle.ost_commit.proofs.Places.{at_get}
use Rattle.ost_commit.proofs.tree.Tree.child.Goals as goal

pub returns : goal.returns
returns c f at =
    c.copied.ensures ∙ (c.get.ensures.value ∙ ap (λ (g : Folder). child_in g.children.entries c.args.name.now)
    (c.index.ensures ∙ at_get c.args.self.now.folders.items c.args.folder f c.index.result.now at))
