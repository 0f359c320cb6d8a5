use Rattle.std.proofs.Common.{refl, sym, subst}
use Rattle.fp_memhost.specs.RemoteRows.{PutsRow}
use Rattle.fp_memhost.proofs.Putting.{puts_set, puts_push}
use Rattle.fp_memhost.proofs.remotes.put_row.Goals as goal

pub returns-in-Some-clause-ok : goal.returns-in-Some-clause-ok
returns-in-Some-clause-ok c = puts_set _ _ _ _ _ c.index_mut-row.result.now _ c.in-Some.ensures c.deref.ensures.value c.index_mut-row.ensures.value refl refl

pub returns-in_ok-push-in-None-clause-ok : goal.returns-in_ok-push-in-None-clause-ok
returns-in_ok-push-in-None-clause-ok c =
    subst (PutsRow c.args.url.now c.args.path.now c.args.node c.args.rows.now.items) (sym c.in_ok-push-in-None.ensures.items) (puts_push _ _ _ _ _ c.in-None.ensures c.deref.ensures.value c.in_ok-url-in-None.ensures.ok c.in_ok-path-in-None.ensures)
