use Rattle.std.proofs.Common.{◌+◌, sym, refl, subst, arith, rules}
use Rattle.fp_memhost.proofs.Opened.{FilesFrom, files_more}
use Rattle.fp_memhost.proofs.opening.open_files.Goals as goal

pub loop-row-preserved : goal.loop-row-preserved
loop-row-preserved c =
    subst (FilesFrom (c.loop-row.row-index + 1) c.args.rows.now) (sym c.in_ok-push.ensures.items)
    (files_more c.loop-row.row-index c.args.rows.now c.loop-row.files.items c.row-item.result _ c.loop-row.invariant (omega arith) c.row-item.is refl refl (search rules) refl)
