use Rattle.std.proofs.Common.{◌∙◌}
use Rattle.ost_head.proofs.Loaded.{sized_node, no_size}
use Rattle.ost_head.proofs.Fetched.{no_meta}
use Rattle.ost_head.proofs.fetching.read_meta.Goals as goal

pub returns-in-Some-clause-tells : goal.returns-in-Some-clause-tells
returns-in-Some-clause-tells g c held told =
    let n = sized_node (held c.args.url.now c.args.path.now) c.in_ok-node.node c.in-Some.size (c.in_ok-node.ensures.tells held told) c.in-Some.ensures in
    c.read_sized.ensures.tells held (c.in_ok-node.ensures.same ∙ told) n.0 n.1

pub returns-clause-tells : goal.returns-clause-tells
returns-clause-tells g c held told =
    no_meta c.args.digest.now c.args.kind (held c.args.url.now c.args.path.now) c.in_ok-node.node c.refused.result c.requires (c.in_ok-node.ensures.tells held told) (no_size c.in_ok-node.node c.in-None.ensures) c.refused.ensures
