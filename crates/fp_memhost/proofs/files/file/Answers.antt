use Rattle.std.proofs.Common.{◌∙◌, ap, sym, Some}
use Rattle.fp_memhost.specs.declared.files.Content.{Content}
use Rattle.fp_memhost.proofs.Filing.{file_there}
use Rattle.fp_memhost.proofs.files.file.Goals as goal

pub returns-in-Some : goal.returns-in-Some
returns-in-Some c = ap (λ (f : Content). Some f) c.index-files-at.is ∙ sym (file_there c.args.files.now c.args.id c.in-Some.at c.index-files-at.result c.in-Some.ensures)
