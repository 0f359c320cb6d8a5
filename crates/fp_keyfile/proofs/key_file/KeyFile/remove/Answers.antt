use Rattle.std.proofs.Common.{List, sym, subst}
use Rattle.std.specs.Prelude.{IsTrue}
use Rattle.fp_keyfile.specs.declared.group.Group.{Group}
use Rattle.fp_keyfile.specs.KeyFile.{is_good}
use Rattle.fp_keyfile.proofs.Good.{good-without_pair}
use Rattle.fp_keyfile.proofs.key_file.KeyFile.remove.Goals as goal

pub invariant_of-self : goal.invariant_of-self
invariant_of-self c = subst (λ (file : List Group). IsTrue (is_good file)) (sym c.take_pair.ensures.after) (good-without_pair c.self.inside.groups c.args.group.now c.args.key.now c.self.invariant)
