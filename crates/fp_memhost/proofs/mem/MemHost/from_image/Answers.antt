use Rattle.std.proofs.Common.{ap, refl}
use Rattle.fp_memhost.specs.Images.{opened}
use Rattle.fp_memhost.proofs.Beginning.{begins}
use Rattle.fp_memhost.proofs.Opened.{opened_tree}
use Rattle.fp_memhost.proofs.mem.MemHost.from_image.Goals as goal

pub new-history-requires-clause-tree : goal.new-history-requires-clause-tree
new-history-requires-clause-tree c = opened_tree c.args.image c.requires

pub returns : goal.returns
returns c = begins (opened c.args.image) (record { history = c.new-history.result; failing = c.new.result; faults = 0; starved = 0 }) (ap opened c.new-history.ensures.start) c.new-history.ensures.log c.new-history.ensures.calls c.new.ensures.items refl refl
