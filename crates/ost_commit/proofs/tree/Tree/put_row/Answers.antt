use Rattle.std.proofs.Common.{refl, sym, subst}
use Rattle.std.proofs.lemmas.Result.{IfOk-weaker}
use Rattle.ost_commit.specs.declared.row.TreeRow.{TreeRow}
use Rattle.ost_commit.specs.declared.row.TreeRow.TheVariants as row
use Rattle.ost_commit.specs.Folders.{At, PutsRow}
use Rattle.ost_commit.proofs.Descending.{puts_dir, puts_file, puts_link}
use Rattle.ost_commit.proofs.tree.Tree.put_row.Goals as goal

pub returns-in-Dir : goal.returns-in-Dir
returns-in-Dir c = IfOk-weaker c.take_folder.result _ _ (λ taken h rows said g at.
    subst (λ (r : TreeRow). PutsRow rows said r c.args.self.now c.take_folder.new.self taken) (sym c.in-Dir.is) (puts_dir rows said c.in-Dir.path c.args.self.now c.take_folder.new.self taken (h rows said g))) c.take_folder.ensures

pub returns-in-File : goal.returns-in-File
returns-in-File c = IfOk-weaker c.take_content.result _ _ (λ taken h rows said g at.
    subst (λ (r : TreeRow). PutsRow rows said r c.args.self.now c.take_content.new.self taken) (sym c.in-File.is)
    (puts_file rows said c.in-File.path c.in-File.mode c.in-File.bytes c.args.self.now c.take_content.new.self taken g.tree.root
    (h rows said (row.File c.in-File.path c.in-File.mode c.in-File.bytes) g (subst (λ (r : TreeRow). At rows c.args.at r) c.in-File.is at) refl))) c.take_content.ensures

pub returns-in-Link : goal.returns-in-Link
returns-in-Link c = IfOk-weaker c.take_content-in-Link.result _ _ (λ taken h rows said g at.
    subst (λ (r : TreeRow). PutsRow rows said r c.args.self.now c.take_content-in-Link.new.self taken) (sym c.in-Link.is)
    (puts_link rows said c.in-Link.path c.in-Link.target c.args.self.now c.take_content-in-Link.new.self taken g.tree.root
    (h rows said (row.Link c.in-Link.path c.in-Link.target) g (subst (λ (r : TreeRow). At rows c.args.at r) c.in-Link.is at) refl))) c.take_content-in-Link.ensures
