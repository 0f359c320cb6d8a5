use Rattle.std.proofs.Common.{Err, sym, ◌∙◌, ap}
use Rattle.ost_walk.specs.declared.pull_end.PullEnd.{PullEnd}
use Rattle.fl_change.specs.Current.{is_commit_of}
use Rattle.fl_change.proofs.Offered.{not_offered, offer_failed}
use Rattle.fl_change.proofs.current.is_offered.Goals as goal

pub returns-in-Ok-clause-tells : goal.returns-in-Ok-clause-tells
returns-in-Ok-clause-tells g c held told = c.is_commit.ensures ∙ ap (is_commit_of c.args.row.now) (sym (c.in-Ok.ensures.tells held told))

pub returns-in-Err-clause-tells : goal.returns-in-Err-clause-tells
returns-in-Err-clause-tells g c held told = not_offered held c.args.remote.now c.args.row.now c.in-Err.end c.declined.result c.declined.ensures (c.in-Err.ensures.tells held told)

pub returns-in-Err-clause-fault_has_cause : goal.returns-in-Err-clause-fault_has_cause
returns-in-Err-clause-fault_has_cause g c =
    let cause = c.in-Err.ensures.fault_has_cause in
    record { later = cause.later; rose = λ failed. cause.rose (ap (λ (x : PullEnd). Err x) (offer_failed c.in-Err.end c.declined.result c.declined.ensures failed)) }
