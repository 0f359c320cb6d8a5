use Rattle.std.proofs.Common.{◌≡◌, ◌≢◌, ◌↔◌, ◌∷◌, ℕ, List, Contains, refl, subst}
use Rattle.fp_host.specs.Paths.{absent, dir}
use Rattle.fp_host.specs.Reads.{ListOf, Reads}
use Rattle.fp_memhost.specs.declared.scene.Scene.{Scene}
use Rattle.fp_memhost.specs.Scenes.{seen}
use Rattle.fp_memhost.specs.Story.{FailsToRead}
use Rattle.fp_memhost.proofs.Calling.{reads_go, records_looked}
use Rattle.fp_memhost.proofs.hosting.MemHostHost.list.Goals as goal

pub returns-clause-step : goal.returns-clause-step
returns-clause-step c =
    let p = c.args.path.now in
    let tells = subst (λ (s : Scene). Reads ((seen s).names p ≡ dir) (λ xs. (x : List ℕ) → Contains xs x ↔ ((seen s).names (x ∷ p) ≢ absent)) c.list_of-names.result) c.scene.ensures c.list_of-names.ensures.tells in
    reads_go (ListOf p) c.args.self.now c.look.new.self c.list_of-names.result c.look.result c.look.ensures (record { same = refl; tells = tells }) (record { same = refl; tells = tt })

pub returns-clause-records : goal.returns-clause-records
returns-clause-records c = records_looked FailsToRead c.args.self.now c.look.new.self c.list_of-names.result c.look.result c.look.ensures c.list_of-names.ensures.no_fault (λ late. refl)
