use Rattle.std.proofs.Common.{◌∙◌, List, refl, sym, ap}
use Rattle.std.specs.List.{list_any}
use Rattle.fp_host.specs.Paths.{Elements, elements_of}
use Rattle.fp_memhost.specs.declared.names.Name.{Name}
use Rattle.fp_memhost.specs.Folders.{is_child}
use Rattle.fp_memhost.specs.Scenes.{seen}
use Rattle.std.proofs.lemmas.Bool.{false≢true}
use Rattle.fp_memhost.proofs.Judging.{looked_up, can_remove_is}
use Rattle.fp_memhost.proofs.conditions.can_remove_dir.Goals as goal

pub returns : goal.returns
returns c =
    let names = c.args.scene.now.names.items in
    let p = c.args.path.now in
    can_remove_is names (seen c.args.scene.now) p c.has_child.result refl c.requires c.args.scene.now.ascending.each
    (sym (looked_up names c.deref.result.now p c.text.result.now _ c.entry.ensures c.deref.ensures.value c.text.ensures.back) ∙ c.if-not-is_dir.ensures.0 refl)
    (λ root. false≢true (c.if-is_root.ensures.1 root))
    (c.has_child.ensures ∙ ap (λ (l : List Name). list_any (is_child (elements_of c.text-2.result.now)) l) c.deref-2.ensures.value ∙ ap (λ (q : Elements). list_any (is_child q) names) c.text-2.ensures.back)
