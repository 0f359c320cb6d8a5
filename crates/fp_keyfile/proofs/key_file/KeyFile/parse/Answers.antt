use Rattle.std.proofs.Common.{List, Result, subst}
use Rattle.std.specs.Prelude.{IfOk, IsTrue}
use Rattle.fp_keyfile.specs.declared.group.Group.{Group}
use Rattle.fp_keyfile.specs.declared.fault.KeyFault.{KeyFault}
use Rattle.fp_keyfile.specs.KeyFile.{is_good}
use Rattle.fp_keyfile.proofs.Read.{good_file_of}
use Rattle.fp_keyfile.proofs.key_file.KeyFile.parse.Goals as goal

pub invariant_of-result : goal.invariant_of-result
invariant_of-result c = subst (λ (r : Result (List Group) KeyFault). IfOk r (λ file. IsTrue (is_good file))) c.in_ok-read_groups.ensures (good_file_of c.args.bytes.now)
