use Rattle.ost_pull.proofs.Read.{file_there}
use Rattle.ost_pull.proofs.small.small_file.Goals as goal

pub returns-clause-there : goal.returns-clause-there
returns-clause-there g c held told node = file_there (held c.args.url.now c.args.path.now) c.args.mode c.args.size c.in_ok-bytes.bytes node (c.in_ok-bytes.ensures.tells held told)
