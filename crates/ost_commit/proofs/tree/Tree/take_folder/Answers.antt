use Rattle.std.proofs.Common.{sym, ◌∙◌, subst}
use Rattle.std.proofs.lemmas.Bool.{false≢true}
use Rattle.ost_commit.specs.Folders.{Enters}
use Rattle.ost_commit.proofs.Taking.{took_folder}
use Rattle.ost_commit.proofs.tree.Tree.take_folder.Goals as goal

pub returns : goal.returns
returns c rows said g =
    took_folder rows said c.args.path.now c.args.self.now c.enter.new.self c.in_ok-entered.entered c.is_some.result c.is_some.ensures
    (subst (λ p. Enters rows said p c.args.self.now c.enter.new.self c.in_ok-entered.entered) c.in_ok-copy.ensures (c.in_ok-entered.ensures rows said g))
    (λ e. false≢true (sym c.if-is_root.false ∙ c.is_root.ensures.1 e))
