use Rattle.std.proofs.Common.{◌≡◌, subst, map}
use Rattle.fp_memhost.specs.Images.{put_of}
use Rattle.fp_memhost.specs.Stood.{stood_of}
use Rattle.fp_memhost.specs.Opening.{AddsNames, OpensFiles}
use Rattle.fp_memhost.proofs.Opened.{opened_scene}
use Rattle.fp_memhost.proofs.opening.open_image.Goals as goal

pub returns : goal.returns
returns c = opened_scene c.args.image.now c.in_ok-scene.scene.names.items c.add_names.new.opened.items c.forget.new.names.items c.in_ok-scene.scene.files.items c.in_ok-scene-2.field-0.items c.in_ok-scene.scene.printed.items (map stood_of c.in_ok-scene.scene.stood.items) (map stood_of c.in_ok-scene-3.field-0.items) c.in_ok-scene.ensures
    (subst (λ l. AddsNames l c.in_ok-scene.scene.names.items c.add_names.new.opened.items) c.as_slice.ensures c.in_ok-add_names.ensures.adds) c.forget.ensures.forgets (subst (λ l. OpensFiles l c.in_ok-scene-2.field-0.items) c.as_slice-2.ensures c.in_ok-scene-2.ensures) (subst (λ l. map stood_of c.in_ok-scene-3.field-0.items ≡ map put_of l) c.as_slice-3.ensures c.in_ok-scene-3.ensures)
