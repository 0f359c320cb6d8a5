use Rattle.std.proofs.Common.{◌∙◌, ap, sym, Some}
use Rattle.fp_memhost.specs.declared.remotes.Row.{Row}
use Rattle.fp_memhost.proofs.Putting.{row_there}
use Rattle.fp_memhost.proofs.remotes.find.Goals as goal

pub returns-in-Some : goal.returns-in-Some
returns-in-Some c = ap (λ (r : Row). Some r) c.index-rows-at.is ∙ sym (row_there c.args.rows.now c.args.url.now c.args.path.now c.in-Some.at c.index-rows-at.result c.in-Some.ensures)
