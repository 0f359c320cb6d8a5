use Rattle.std.proofs.Common.{◌∙◌, sym, ap}
use Rattle.std.proofs.lemmas.Bool.{false≢true}
use Rattle.fp_memhost.specs.RemoteRows.{held_of}
use Rattle.fp_memhost.proofs.Putting.{can_put_is}
use Rattle.fp_memhost.proofs.remotes.MemRemotes.can_put.Goals as goal

pub returns : goal.returns
returns c = can_put_is c.args.self.now.rows.items c.deref-2.result.now c.args.url.now c.args.path.now c.args.node.now c.has_leaf_above.result c.deref-2.ensures.value (λ root. false≢true (c.if-is_root.ensures.1 root)) (sym c.if-not-has_bits.ensures) (λ d. false≢true (c.if-holds_folder.ensures.1 (ap (λ l. held_of l c.args.url.now c.args.path.now) c.deref.ensures.value ∙ d))) c.has_leaf_above.ensures
