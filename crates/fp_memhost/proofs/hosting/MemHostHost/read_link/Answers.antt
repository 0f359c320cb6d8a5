use Rattle.std.proofs.Common.{◌≡◌, ℕ, List, refl, subst}
use Rattle.fp_host.specs.Paths.{link}
use Rattle.fp_host.specs.Reads.{LinkOf, Reads}
use Rattle.fp_memhost.specs.declared.scene.Scene.{Scene}
use Rattle.fp_memhost.specs.Scenes.{seen}
use Rattle.fp_memhost.specs.Story.{FailsToRead}
use Rattle.fp_memhost.proofs.Calling.{reads_go, records_looked}
use Rattle.fp_memhost.proofs.hosting.MemHostHost.read_link.Goals as goal

pub returns-clause-step : goal.returns-clause-step
returns-clause-step c =
    let p = c.args.path.now in
    let tells = subst (λ (s : Scene). Reads ((text : List ℕ) × ((seen s).names p ≡ link text)) (λ text. (seen s).names p ≡ link text) c.link_of-text.result) c.scene.ensures c.link_of-text.ensures.tells in
    reads_go (LinkOf p) c.args.self.now c.look.new.self c.link_of-text.result c.look.result c.look.ensures (record { same = refl; tells = tells }) (record { same = refl; tells = tt })

pub returns-clause-records : goal.returns-clause-records
returns-clause-records c = records_looked FailsToRead c.args.self.now c.look.new.self c.link_of-text.result c.look.result c.look.ensures c.link_of-text.ensures.no_fault (λ late. refl)
