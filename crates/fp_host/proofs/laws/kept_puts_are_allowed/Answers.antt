use Rattle.fp_host.proofs.Remembered.{allowed_puts}
use Rattle.fp_host.proofs.laws.kept_puts_are_allowed.Goals as goal

pub returns : goal.returns
returns c = allowed_puts
