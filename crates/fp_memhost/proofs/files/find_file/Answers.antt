use Rattle.std.proofs.Common.{get_or, sym, ap, ◌∙◌}
use Rattle.std.proofs.lemmas.Bool.{ne_eqb}
use Rattle.fp_memhost.specs.Files.{has_id}
use Rattle.fp_memhost.specs.declared.files.Content.{Content}
use Rattle.fp_memhost.proofs.Finding.{find_more}
use Rattle.fp_memhost.proofs.files.find_file.Goals as goal

pub loop-i-preserved : goal.loop-i-preserved
loop-i-preserved c = find_more (has_id c.args.id) c.args.files.now c.loop-i.i c.index-files-i.result c.loop-i-test.true c.loop-i.invariant (ne_eqb c.args.id (get_or c.args.files.now c.loop-i.i c.index-files-i.result).id (λ e. c.if-file-id.false (ap (λ (f : Content). f.id) c.index-files-i.is ∙ sym e)))
