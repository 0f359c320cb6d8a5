use Rattle.std.proofs.Common.{refl, sym, subst, Ok}
use Rattle.fp_host.specs.View.{IsTree}
use Rattle.fp_host.specs.Reads.{StatOf, IsStat}
use Rattle.fp_memhost.specs.declared.scene.Scene.{Scene}
use Rattle.fp_memhost.specs.Scenes.{seen}
use Rattle.fp_memhost.specs.Story.{FailsToRead}
use Rattle.fp_memhost.proofs.Calling.{reads_go, records_looked, scene_tree, ok_no}
use Rattle.fp_memhost.proofs.hosting.MemHostHost.stat.Goals as goal

pub stat_of-stat-requires : goal.stat_of-stat-requires
stat_of-stat-requires c = subst (λ (s : Scene). IsTree (seen s)) (sym c.scene.ensures) (scene_tree c.args.self.now)

pub returns-clause-step : goal.returns-clause-step
returns-clause-step c =
    let p = c.args.path.now in
    let tells = subst (λ (s : Scene). IsStat (seen s) ((seen s).names p) c.stat_of-stat.result) c.scene.ensures c.stat_of-stat.ensures.tells in
    reads_go (StatOf p) c.args.self.now c.look.new.self (Ok c.stat_of-stat.result) c.look.result c.look.ensures (record { same = refl; tells = (tt, tells) }) (record { same = refl; tells = tt })

pub returns-clause-records : goal.returns-clause-records
returns-clause-records c = records_looked FailsToRead c.args.self.now c.look.new.self (Ok c.stat_of-stat.result) c.look.result c.look.ensures (ok_no c.stat_of-stat.result (Ok c.stat_of-stat.result) refl) (λ late. refl)
