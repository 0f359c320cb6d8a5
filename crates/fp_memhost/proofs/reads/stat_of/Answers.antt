use Rattle.std.proofs.Common.{◌∙◌, ap, sym, List}
use Rattle.fp_memhost.specs.declared.files.Content.{Content}
use Rattle.fp_memhost.specs.Files.{file_at, inode_in}
use Rattle.fp_memhost.specs.Scenes.{seen}
use Rattle.fp_memhost.proofs.Filing.{found_id}
use Rattle.fp_memhost.proofs.Judging.{looked_up, stat_is}
use Rattle.fp_memhost.proofs.reads.stat_of.Goals as goal

pub returns-clause-tells : goal.returns-clause-tells
returns-clause-tells c =
    let scene = c.args.scene.now in
    let at = ap (λ (l : List Content). file_at l c.in-Some.id) (sym c.deref-2.ensures.value) ∙ sym c.in-Some-file.ensures in
    stat_is (seen scene) _ c.in-Some.id c.in-Some-file.file.now c.stat_file.result
    (sym (looked_up scene.names.items c.deref.result.now c.args.path.now c.text.result.now _ c.entry-entry.ensures c.deref.ensures.value c.text.ensures.back) ∙ c.in-Some.ensures)
    (ap inode_in at) (found_id scene.files.items c.in-Some.id c.in-Some-file.file.now at) c.stat_file.ensures
