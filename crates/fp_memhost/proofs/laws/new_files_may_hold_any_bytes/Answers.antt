use Rattle.fp_memhost.proofs.Stops.{row_left}
use Rattle.fp_memhost.proofs.laws.new_files_may_hold_any_bytes.Goals as goal

pub returns : goal.returns
returns c = row_left
