use Rattle.std.proofs.Common.{◌∙◌, refl, sym}
use Rattle.std.proofs.lemmas.Bool.{false≢true}
use Rattle.fp_host.proofs.Separate.{path_decides}
use Rattle.fp_memhost.specs.Scenes.{seen}
use Rattle.fp_memhost.proofs.Judging.{looked_up, can_rename_is, cannot_rename}
use Rattle.fp_memhost.proofs.conditions.can_rename.Goals as goal

pub returns-then-not-can_unlink : goal.returns-then-not-can_unlink
returns-then-not-can_unlink c = cannot_rename (seen c.args.scene.now) c.args.from.now c.args.to.now (λ can. false≢true (c.if-not-can_unlink.ensures.1 can.0))

pub returns-then-is : goal.returns-then-is
returns-then-is c = cannot_rename (seen c.args.scene.now) c.args.from.now c.args.to.now (λ can. can.3 ((path_decides c.args.from.now c.args.to.now).0 (sym c.if-is.ensures)))

pub returns : goal.returns
returns c =
    let names = c.args.scene.now.names.items in
    can_rename_is (seen c.args.scene.now) c.args.from.now c.args.to.now _ _ c.are_apart.result
    (looked_up names c.deref-2.result.now c.args.from.now c.text-2.result.now _ c.entry.ensures c.deref-2.ensures.value c.text-2.ensures.back)
    (looked_up names c.deref.result.now c.args.to.now c.text.result.now _ c.entry-target.ensures c.deref.ensures.value c.text.ensures.back)
    (c.if-not-can_unlink.ensures.0 refl) (c.if-not-has_folder.ensures.0 refl) (λ is. false≢true (c.if-is_dir.ensures.1 is)) (λ same. false≢true (c.if-is.ensures ∙ (path_decides c.args.from.now c.args.to.now).1 same)) c.are_apart.ensures
