use Rattle.std.proofs.Common.{◌≡◌, sym, subst}
use Rattle.std.specs.Prelude.{OnOk}
use Rattle.fp_host.specs.Calls.{half}
use Rattle.fp_memhost.specs.Scenes.{seen}
use Rattle.fp_memhost.specs.Replay.{change_of}
use Rattle.fp_memhost.specs.declared.event.Event.{Event}
use Rattle.fp_memhost.proofs.scene.Scene.may_make.Goals as goal

pub returns-in-Rename-clause-ok : goal.returns-in-Rename-clause-ok
returns-in-Rename-clause-ok c = subst (λ (e : Event). OnOk c.may_rename.result (seen c.may_rename.new.self ≡ half (change_of e) (seen c.args.self.now))) (sym c.in-Rename.is) c.may_rename.ensures.ok
