use Rattle.std.proofs.Common.{◌∙◌, ap, refl}
use Rattle.fp_memhost.specs.Scenes.{seen}
use Rattle.fp_memhost.specs.Choosing.{choices_in}
use Rattle.fp_memhost.proofs.Choices.{choices_are}
use Rattle.fp_memhost.proofs.choosing.choices_of.Goals as goal

pub returns : goal.returns
returns c = choices_are (seen c.args.scene.now) c.args.scene.now.names.items c.from_vec.result c.args.scene.now.ascending.each (λ q. refl) (c.from_vec.ensures ∙ c.in_ok-choices_in.ensures ∙ ap choices_in c.deref.ensures.value)
