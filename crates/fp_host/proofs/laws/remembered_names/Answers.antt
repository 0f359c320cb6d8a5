use Rattle.fp_host.proofs.Keep.{stood_kept}
use Rattle.fp_host.proofs.Remembered.{stands_now, changed_told}
use Rattle.fp_host.proofs.laws.remembered_names.Goals as goal

pub returns-clause-stays : goal.returns-clause-stays
returns-clause-stays c = λ change v w x call. stood_kept call x

pub returns-clause-stands : goal.returns-clause-stands
returns-clause-stands c = stands_now

pub returns-clause-told : goal.returns-clause-told
returns-clause-told c = changed_told
