use Rattle.std.proofs.Common.{◌∙◌, ap, sym, Some}
use Rattle.std.specs.Prelude.{if◌then◌else◌}
use Rattle.std.proofs.lemmas.Map.Text.{is_eq-slice_cmp}
use Rattle.ost_commit.specs.Tables.{object_in}
use Rattle.ost_commit.proofs.Holding.{puts_new}
use Rattle.ost_commit.proofs.objects.put.Goals as goal

pub returns-in_ok-insert-in-None-clause-put : goal.returns-in_ok-insert-in-None-clause-put
returns-in_ok-insert-in-None-clause-put c =
    let old = c.args.table.now.entries in
    puts_new old c.insert.new.self.entries c.args.digest c.args.object (sym c.in-None.ensures.value)
    (λ q. c.in_ok-insert-in-None.ensures.updates.0 q ∙ ap (λ b. if b then Some c.args.object else object_in old q) (is_eq-slice_cmp c.args.digest q))
