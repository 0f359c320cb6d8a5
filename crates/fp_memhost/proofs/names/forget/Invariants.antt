use Rattle.fp_memhost.proofs.Forgetting.{ForgotFirst}
use Rattle.fp_memhost.proofs.names.forget.Given as goal

abbrev pub invariant-loop-name : goal.invariant-loop-name
invariant-loop-name l = ForgotFirst l.name-index l.initial.name-items l.name-items
