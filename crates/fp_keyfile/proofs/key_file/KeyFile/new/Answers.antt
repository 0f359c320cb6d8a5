use Rattle.std.proofs.Common.{refl}
use Rattle.fp_keyfile.specs.KeyFile.{is_good}
use Rattle.fp_keyfile.proofs.key_file.KeyFile.new.Goals as goal

pub invariant_of-result : goal.invariant_of-result
unfolding is_good
invariant_of-result c = rw c.new.ensures refl
