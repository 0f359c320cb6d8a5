use Rattle.std.proofs.Common.{refl, sym, subst}
use Rattle.fp_host.specs.View.{IsTree}
use Rattle.fp_host.specs.Calls.{IsFile}
use Rattle.fp_host.specs.Reads.{ReadOf, Reads, IsRead}
use Rattle.fp_memhost.specs.declared.scene.Scene.{Scene}
use Rattle.fp_memhost.specs.Scenes.{seen}
use Rattle.fp_memhost.specs.Story.{FailsToRead}
use Rattle.fp_memhost.proofs.Calling.{reads_go, records_looked, scene_tree}
use Rattle.fp_memhost.proofs.hosting.MemHostHost.read_at.Goals as goal

pub read_of-many-requires : goal.read_of-many-requires
read_of-many-requires c = subst (λ (s : Scene). IsTree (seen s)) (sym c.scene.ensures) (scene_tree c.args.self.now)

pub returns-clause-step : goal.returns-clause-step
returns-clause-step c =
    let p = c.args.path.now in
    let tells = subst (λ (s : Scene). Reads (IsFile ((seen s).names p)) (λ n. IsRead (seen s) ((seen s).names p) c.args.at c.read_of-many.new.into n) c.read_of-many.result) c.scene.ensures c.read_of-many.ensures.tells in
    reads_go (ReadOf p c.args.at c.read_of-many.new.into) c.args.self.now c.look.new.self c.read_of-many.result c.look.result c.look.ensures (record { same = refl; tells = tells }) (record { same = refl; tells = tt })

pub returns-clause-records : goal.returns-clause-records
returns-clause-records c = records_looked FailsToRead c.args.self.now c.look.new.self c.read_of-many.result c.look.result c.look.ensures c.read_of-many.ensures.answers.0 (λ late. refl)
