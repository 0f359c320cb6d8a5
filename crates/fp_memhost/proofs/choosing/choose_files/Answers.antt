use Rattle.std.proofs.Common.{◌+◌, sym, subst, refl, arith}
use Rattle.fp_memhost.proofs.Chosen.{ChosenTo, chosen_more}
use Rattle.fp_memhost.proofs.choosing.choose_files.Goals as goal

pub loop-file-preserved : goal.loop-file-preserved
loop-file-preserved c =
    subst (ChosenTo (c.loop-file.file-index + 1) c.args.files.now c.args.bytes.now) (sym c.in_ok-push.ensures.items)
    (chosen_more c.loop-file.file-index c.args.files.now c.args.bytes.now c.loop-file.chosen.items c.file-item.result _ c.loop-file.invariant (omega arith) c.file-item.is refl refl c.in_ok-bytes.ensures)
