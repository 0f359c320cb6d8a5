use Rattle.fp_host.proofs.Remembered.{file_told}
use Rattle.fp_host.proofs.laws.remembered_file.Goals as goal

pub returns : goal.returns
returns c = λ v p q id mode none. file_told v p q id mode none
