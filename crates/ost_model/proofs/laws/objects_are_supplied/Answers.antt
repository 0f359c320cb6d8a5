use Rattle.std.proofs.Common.{[], Some, refl}
use Rattle.fp_host.specs.Outcome.{shows}
use Rattle.ost_model.specs.Objects.{store, supply}
use Rattle.ost_model.specs.Remotes.{remote}
use Rattle.ost_model.proofs.Sample.{commit}
use Rattle.ost_model.proofs.Supplied.{offered, no_fault_supplied}
use Rattle.ost_model.proofs.laws.objects_are_supplied.Goals as goal

pub returns-clause-stores : goal.returns-clause-stores
returns-clause-stores c = λ root m. record { moments = m; told_is = refl; is = refl }

pub returns-clause-supplies : goal.returns-clause-supplies
returns-clause-supplies c = λ root url m held. record { moments = m; held = held; told_is = refl; holdings_are = refl; is = refl }

pub returns-clause-commit : goal.returns-clause-commit
returns-clause-commit c = λ m url none. (
  offered,
  supply (store [] (shows m.now)) (remote offered (Some url)),
  commit,
  record { moments = m; held = offered; told_is = refl; holdings_are = refl; is = refl },
  refl,
  no_fault_supplied m url none,
)
