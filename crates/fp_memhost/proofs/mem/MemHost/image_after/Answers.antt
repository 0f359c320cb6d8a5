use Rattle.std.proofs.Common.{sym, subst}
use Rattle.std.proofs.Math.Logic.{∥∥₁_map}
use Rattle.fp_host.specs.View.{IsTree}
use Rattle.fp_memhost.specs.Images.{opened}
use Rattle.fp_memhost.specs.Replay.{view_after}
use Rattle.fp_memhost.specs.Told.{told_tree}
use Rattle.fp_memhost.proofs.mem.MemHost.image_after.Goals as goal

pub choose-requires-clause-tree : goal.choose-requires-clause-tree
choose-requires-clause-tree c =
    let h = c.args.self.now.history in
    subst IsTree (sym c.in_ok-scene.ensures) (told_tree (view_after (opened h.start) h.log.items c.args.calls) (∥∥₁_map h.trees (λ t. t.after c.args.calls)))
