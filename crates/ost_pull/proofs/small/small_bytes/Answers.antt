use Rattle.ost_pull.proofs.Read.{meta_there}
use Rattle.ost_pull.proofs.small.small_bytes.Goals as goal

pub returns-clause-there : goal.returns-clause-there
returns-clause-there g c held told mode node = meta_there (held c.args.url.now c.args.path.now) c.args.kind mode c.args.size c.in_ok-bytes.bytes c.requires node (c.in_ok-bytes.ensures.tells held told)
