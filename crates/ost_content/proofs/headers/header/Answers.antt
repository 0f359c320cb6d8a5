use Rattle.std.proofs.Common.{refl}
use Rattle.ost_content.proofs.Spelled.{file_header_is}
use Rattle.ost_content.proofs.headers.header.Goals as goal

pub returns : goal.returns
returns c = rw (c.copy_from_slice.ensures.after, c.beginning.ensures, file_header_is c.args.mode) refl
