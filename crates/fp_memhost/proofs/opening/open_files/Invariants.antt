use Rattle.fp_memhost.proofs.Opened.{FilesFrom}
use Rattle.fp_memhost.proofs.opening.open_files.Given as goal

abbrev pub invariant-loop-row : goal.invariant-loop-row
invariant-loop-row l = FilesFrom l.row-index l.rows l.files.items
