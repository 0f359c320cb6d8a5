use Rattle.std.proofs.Common.{refl, sym, subst}
use Rattle.fp_host.specs.View.{IsTree}
use Rattle.fp_host.specs.Calls.{Can, removes_dir}
use Rattle.fp_memhost.specs.declared.scene.Scene.{Scene}
use Rattle.fp_memhost.specs.Scenes.{seen}
use Rattle.fp_memhost.proofs.Calling.{step_of, records_of, judged, scene_tree}
use Rattle.fp_memhost.proofs.hosting.MemHostHost.remove_dir.Goals as goal

pub can_remove_dir-can-requires : goal.can_remove_dir-can-requires
can_remove_dir-can-requires c = subst (λ (s : Scene). IsTree (seen s)) (sym c.scene.ensures) (scene_tree c.args.self.now)

pub returns-clause-step : goal.returns-clause-step
returns-clause-step c =
    let change = removes_dir c.args.path.now in
    step_of c.args.self.now c.play.new.self c.play.result change c.can_remove_dir-can.result c.remove_dir.result c.play.ensures (judged (λ (s : Scene). Can change (seen s)) _ _ _ c.scene.ensures c.can_remove_dir-can.ensures) c.remove_dir.ensures

pub returns-clause-records : goal.returns-clause-records
returns-clause-records c =
    let change = removes_dir c.args.path.now in
    records_of c.args.self.now c.play.new.self c.play.result change refl c.can_remove_dir-can.result c.remove_dir.result c.play.ensures (judged (λ (s : Scene). Can change (seen s)) _ _ _ c.scene.ensures c.can_remove_dir-can.ensures) c.remove_dir.ensures
