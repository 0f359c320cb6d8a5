use Rattle.std.proofs.Common.{refl}
use Rattle.fp_host.specs.Calls.{Can, makes_link}
use Rattle.fp_memhost.specs.declared.scene.Scene.{Scene}
use Rattle.fp_memhost.specs.Scenes.{seen}
use Rattle.fp_memhost.proofs.Calling.{step_of, records_of, judged}
use Rattle.fp_memhost.proofs.hosting.MemHostHost.symlink.Goals as goal

pub returns-clause-step : goal.returns-clause-step
returns-clause-step c =
    let change = makes_link c.args.text.now c.args.path.now in
    step_of c.args.self.now c.play.new.self c.play.result change c.can_symlink-can.result c.symlink.result c.play.ensures (judged (λ (s : Scene). Can change (seen s)) _ _ _ c.scene.ensures c.can_symlink-can.ensures) c.symlink.ensures

pub returns-clause-records : goal.returns-clause-records
returns-clause-records c =
    let change = makes_link c.args.text.now c.args.path.now in
    records_of c.args.self.now c.play.new.self c.play.result change refl c.can_symlink-can.result c.symlink.result c.play.ensures (judged (λ (s : Scene). Can change (seen s)) _ _ _ c.scene.ensures c.can_symlink-can.ensures) c.symlink.ensures
