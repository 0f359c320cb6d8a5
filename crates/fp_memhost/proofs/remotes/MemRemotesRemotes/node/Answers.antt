use Rattle.fp_memhost.proofs.Putting.{bits_of}
use Rattle.fp_memhost.proofs.remotes.MemRemotesRemotes.node.Goals as goal

pub node_of-requires : goal.node_of-requires
node_of-requires c = bits_of c.fails.new.self.rows.items c.deref-2.result.now c.args.url.now c.args.path.now c.find.result c.deref-2.ensures.value c.find.ensures c.fails.new.self.bits
