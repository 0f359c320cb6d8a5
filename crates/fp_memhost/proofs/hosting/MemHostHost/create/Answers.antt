use Rattle.std.proofs.Common.{◌≡◌, ◌∙◌, ap, sym, List, None}
use Rattle.fp_host.specs.Calls.{CanCreate}
use Rattle.fp_memhost.specs.declared.scene.Scene.{Scene}
use Rattle.fp_memhost.specs.declared.files.Content.{Content}
use Rattle.fp_memhost.specs.Files.{inode_in, file_at}
use Rattle.fp_memhost.specs.Scenes.{seen}
use Rattle.fp_memhost.proofs.Calling.{judged}
use Rattle.fp_memhost.proofs.Creating.{creates_go, records_create}
use Rattle.fp_memhost.proofs.hosting.MemHostHost.create.Goals as goal
use Rattle.fp_memhost.proofs.hosting.MemHostHost.create.Goals.{After-play}

fresh : (c : After-play) → (seen c.args.self.now.history.scene).files c.fresh_id-id.result ≡ None
fresh c =
    let id = c.fresh_id-id.result in
    ap inode_in (ap (λ (l : List Content). file_at l id) (ap (λ (s : Scene). s.files.items) (sym c.scene-2.ensures) ∙ sym c.deref.ensures.value) ∙ c.fresh_id-id.ensures)

pub returns-clause-step : goal.returns-clause-step
returns-clause-step c =
    let p = c.args.path.now in
    let mode = c.args.mode in
    creates_go c.args.self.now c.play.new.self c.play.result p mode c.fresh_id-id.result (fresh c) c.can_create-can.result c.create.result c.play.ensures (judged (λ (s : Scene). CanCreate p mode (seen s)) _ _ _ c.scene.ensures c.can_create-can.ensures) c.create.ensures

pub returns-clause-records : goal.returns-clause-records
returns-clause-records c =
    let p = c.args.path.now in
    let mode = c.args.mode in
    records_create c.args.self.now c.play.new.self c.play.result p mode c.fresh_id-id.result (fresh c) c.can_create-can.result c.create.result c.play.ensures (judged (λ (s : Scene). CanCreate p mode (seen s)) _ _ _ c.scene.ensures c.can_create-can.ensures) c.create.ensures
