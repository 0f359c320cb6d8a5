use Rattle.fl_gen.proofs.Entries.{bits_of}
use Rattle.fl_gen.proofs.store.Store.node.Goals as goal

pub node_of-requires : goal.node_of-requires
node_of-requires c = bits_of c.args.self.now.rows.items c.deref-2.result.now c.args.path.now c.find.result c.deref-2.ensures.value c.find.ensures c.args.self.now.bits
