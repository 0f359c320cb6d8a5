use Rattle.std.proofs.Common.{◌≡◌, sym, subst}
use Rattle.std.specs.Prelude.{OnOk}
use Rattle.fp_host.specs.Calls.{done}
use Rattle.fp_memhost.specs.Scenes.{seen}
use Rattle.fp_memhost.specs.Replay.{change_of}
use Rattle.fp_memhost.specs.declared.event.Event.{Event}
use Rattle.fp_memhost.proofs.scene.Scene.make.Goals as goal

pub returns-in-Rename-clause-ok : goal.returns-in-Rename-clause-ok
returns-in-Rename-clause-ok c = subst (λ (e : Event). OnOk c.rename.result (seen c.rename.new.self ≡ done (change_of e) (seen c.args.self.now))) (sym c.in-Rename.is) c.rename.ensures.ok
