use Rattle.std.proofs.Common.{[]}
use Rattle.ost_head.proofs.hashing.remote_digest.Goals as goal

pub returns-clause-tells : goal.returns-clause-tells
returns-clause-tells g c held is long = c.finish.ensures c.args.mode _ ((c.in_ok-hash_pieces.ensures.tells held is long).more c.args.mode [] c.new-hasher.ensures)
