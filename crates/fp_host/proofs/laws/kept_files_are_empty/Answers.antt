use Rattle.fp_host.proofs.Remembered.{no_bytes}
use Rattle.fp_host.proofs.laws.kept_files_are_empty.Goals as goal

pub returns : goal.returns
returns c = λ v p id mode bytes none keeps. no_bytes v p id mode bytes none keeps
