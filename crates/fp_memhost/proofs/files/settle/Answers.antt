use Rattle.std.proofs.Common.{◌∙◌, List, length, sym, ap, subst}
use Rattle.fp_memhost.specs.Files.{SettlesFiles}
use Rattle.fp_memhost.specs.declared.files.Content.{Content}
use Rattle.fp_memhost.proofs.Forgetting.{whole}
use Rattle.fp_memhost.proofs.Filing.{settled_all}
use Rattle.fp_memhost.proofs.files.settle.Goals as goal

pub returns : goal.returns
returns c =
    let old = c.args.files.now.items in
    let now = c.loop-file.file-items in
    let same = c.deref_mut-file-items.ensures.value in
    let len = c.loop-file.invariant.len ∙ ap (λ (l : List Content). length l) same in
    let all = settled_all _ _ now c.loop-file.invariant c.loop-file-test.false in
    subst (SettlesFiles old) (sym (whole c.args.files.now.len now old len c.args.files.now.ok.0)) (subst (λ (l : List Content). SettlesFiles l now) same all)
