use Rattle.std.proofs.Common.{sym, ◌∙◌}
use Rattle.std.proofs.lemmas.Result.{on_ok_weaker}
use Rattle.fp_host.proofs.Ending.{ends_to}
use Rattle.fl_change.proofs.Resting.{work_is_enough, file_is_enough}
use Rattle.fl_change.proofs.operation.tidy_after.Goals as goal

pub returns-then-keeps_commits-clause-on_success : goal.returns-then-keeps_commits-clause-on_success
returns-then-keeps_commits-clause-on_success g c =
    work_is_enough c.args.op.now c.args.done c.tidy_work.result (g.H.Host.moments c.args.host.now) (g.H.Host.moments c.tidy_work.new.host) (sym c.keeps_commits.ensures ∙ c.if-keeps_commits.true) (λ q id put. cc put.1) (g.met.H.Host.is_tree c.args.host.now) c.tidy_work.ensures.frame c.tidy_work.ensures.on_success

pub returns-in-Install-clause-on_success : goal.returns-in-Install-clause-on_success
returns-in-Install-clause-on_success g c = file_is_enough c.args.op.now c.in-Install.name c.in-Install.remote c.in-Install.commit c.args.done c.tidy_added.result (g.H.Host.moments c.args.host.now) (g.H.Host.moments c.tidy_added.new.host) c.in-Install.is c.tidy_added.ensures.on_success c.tidy_added.ensures.lasts

pub returns-in_default-clause-on_success : goal.returns-in_default-clause-on_success
returns-in_default-clause-on_success g c = on_ok_weaker c.tidy.result (λ was. ends_to was (λ u w q. record { settled = λ opens rest. q.settled opens; shares = q.shares; creates = q.creates })) c.tidy.ensures.on_success
