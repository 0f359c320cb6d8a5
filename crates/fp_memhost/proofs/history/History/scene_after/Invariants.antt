use Rattle.std.proofs.Common.{◌≡◌, filter, take}
use Rattle.fp_memhost.specs.Scenes.{seen}
use Rattle.fp_memhost.specs.Images.{opened}
use Rattle.fp_memhost.specs.Replay.{view_now, is_before}
use Rattle.fp_memhost.proofs.history.History.scene_after.Given as goal

abbrev pub invariant-loop-noted : goal.invariant-loop-noted
invariant-loop-noted l = seen l.scene ≡ view_now (opened l.self.start) (filter (is_before l.calls) (take l.noted-index l.self.log.items))
