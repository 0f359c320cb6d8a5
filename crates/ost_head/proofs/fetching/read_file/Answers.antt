use Rattle.ost_head.proofs.Fetched.{file_read}
use Rattle.ost_head.proofs.fetching.read_file.Goals as goal

pub returns-clause-tells : goal.returns-clause-tells
returns-clause-tells g c held told node = file_read c.args.digest.now (held c.args.url.now c.args.path.now) c.args.mode c.args.size node c.in_ok-bytes.bytes (c.in_ok-bytes.ensures.tells held told)
