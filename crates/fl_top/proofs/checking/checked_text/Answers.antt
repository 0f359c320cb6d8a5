use Rattle.std.proofs.Common.{subst}
use Rattle.fp_host.specs.Paths.{Elements}
use Rattle.fp_host.specs.Outcome.{shows}
use Rattle.fp_host.proofs.Ending.{ends_to}
use Rattle.ost_fsck.specs.Report.{Reports}
use Rattle.fl_top.proofs.checking.checked_text.Goals as goal

pub returns-clause-tells : goal.returns-clause-tells
returns-clause-tells g c =
    ends_to c.in_ok-report.ensures.tells (λ u w reports. record {
      report = c.in_ok-report.report;
      reports = subst (λ (r : Elements). Reports r (shows u) c.in_ok-report.report) c.in_ok-root.ensures reports;
      is = c.in_ok-text.ensures;
    })
