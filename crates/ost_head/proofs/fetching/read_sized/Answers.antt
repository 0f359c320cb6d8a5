use Rattle.ost_head.proofs.Fetched.{meta_read}
use Rattle.ost_head.proofs.fetching.read_sized.Goals as goal

pub returns-clause-tells : goal.returns-clause-tells
returns-clause-tells g c held told mode node =
    meta_read c.args.digest.now c.args.kind (held c.args.url.now c.args.path.now) mode c.args.size c.in_ok-read_remote.field-0 c.requires node (c.in_ok-read_remote.ensures.tells held told)
