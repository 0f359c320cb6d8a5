use Rattle.std.proofs.Common.{◌∙◌, ap, List, ℕ, drop}
use Rattle.std.proofs.lemmas.List.{drop-drop}
use Rattle.fp_host.proofs.path.Path.folder.Goals as goal

pub loop-i-preserved : goal.loop-i-preserved
loop-i-preserved c =
    (c.front-text.utf8, c.front-text.ensures.front ∙ ap (λ (p : List (List ℕ)). drop 1 p) c.loop-i.invariant.1 ∙ drop-drop 1 c.loop-i._i c.args.self.now, c.front-text.ensures.good)
