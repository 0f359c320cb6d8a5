use Rattle.fp_keyfile.proofs.Read.{good_file_of}
use Rattle.fp_keyfile.proofs.laws.read_is_good.Goals as goal

pub returns : goal.returns
returns c = good_file_of
