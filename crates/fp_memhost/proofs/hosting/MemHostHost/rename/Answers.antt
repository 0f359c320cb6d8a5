use Rattle.std.proofs.Common.{refl}
use Rattle.fp_host.specs.Calls.{Can, renames}
use Rattle.fp_memhost.specs.declared.scene.Scene.{Scene}
use Rattle.fp_memhost.specs.Scenes.{seen}
use Rattle.fp_memhost.proofs.Calling.{step_of, records_of, judged}
use Rattle.fp_memhost.proofs.hosting.MemHostHost.rename.Goals as goal

pub returns-clause-step : goal.returns-clause-step
returns-clause-step c =
    let change = renames c.args.from.now c.args.to.now in
    step_of c.args.self.now c.play.new.self c.play.result change c.can_rename-can.result c.rename.result c.play.ensures (judged (λ (s : Scene). Can change (seen s)) _ _ _ c.scene.ensures c.can_rename-can.ensures) c.rename.ensures

pub returns-clause-records : goal.returns-clause-records
returns-clause-records c =
    let change = renames c.args.from.now c.args.to.now in
    records_of c.args.self.now c.play.new.self c.play.result change refl c.can_rename-can.result c.rename.result c.play.ensures (judged (λ (s : Scene). Can change (seen s)) _ _ _ c.scene.ensures c.can_rename-can.ensures) c.rename.ensures
