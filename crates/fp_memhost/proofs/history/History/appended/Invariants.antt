use Rattle.std.proofs.Common.{◌≡◌, ◌+◌, ◌-◌, ◌^◌, ◌<◌, min, drop}
use Rattle.fp_memhost.specs.Scenes.{seen}
use Rattle.fp_memhost.specs.Appended.{appended_below}
use Rattle.fp_memhost.specs.Made.{made_of}
use Rattle.fp_memhost.proofs.history.History.appended.Given as goal

abbrev pub invariant-loop-noted : goal.invariant-loop-noted
invariant-loop-noted l =
    (l.count < 2 ^ 64) × (min (l.count + appended_below l.front (seen l.self.scene).files (made_of (drop l.noted-index l.self.log.items))) (2 ^ 64 - 1)
    ≡ min (appended_below l.front (seen l.self.scene).files (made_of l.self.log.items)) (2 ^ 64 - 1))
