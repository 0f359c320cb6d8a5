use Rattle.std.proofs.Common.{ap, arith, length, List}
use Rattle.fp_memhost.specs.Scenes.{seen}
use Rattle.fp_memhost.specs.declared.event.Noted.{Noted}
use Rattle.fp_memhost.proofs.Beginning.{appended_end}
use Rattle.fp_memhost.proofs.history.History.appended.Goals as goal

pub returns : goal.returns
returns c = appended_end c.args.front.now (seen c.args.self.now.scene).files c.args.self.now.log.items c.loop-noted.count c.loop-noted.noted-index (omega (arith, ap (λ (l : List Noted). length l) c.deref-noted-items.ensures.value)) c.loop-noted.invariant.0 c.loop-noted.invariant.1
