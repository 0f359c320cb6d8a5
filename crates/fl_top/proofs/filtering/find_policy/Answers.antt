use Rattle.std.proofs.Common.{sym, subst}
use Rattle.fp_host.specs.Frame.{Observes}
use Rattle.fp_host.specs.Outcome.{shows}
use Rattle.fl_words.specs.declared.command.PolicySource.{PolicySource}
use Rattle.fl_top.specs.Answer.{rules_over}
use Rattle.fl_top.specs.Told.{files_at}
use Rattle.fl_top.specs.Telling.{Finds}
use Rattle.fl_top.proofs.filtering.find_policy.Goals as goal

pub returns-in-Session-clause-finds : goal.returns-in-Session-clause-finds
returns-in-Session-clause-finds g c =
    subst (λ (source : PolicySource). Observes (λ v. Finds (rules_over (files_at (g.H.Host.moments c.args.host.now)) source) c.session_policy.result (shows v)) (g.H.Host.moments c.args.host.now) (g.H.Host.moments c.session_policy.new.host)) (sym c.in-Session.is) c.session_policy.ensures.finds

pub returns-in-System-clause-finds : goal.returns-in-System-clause-finds
returns-in-System-clause-finds g c =
    subst (λ (source : PolicySource). Observes (λ v. Finds (rules_over (files_at (g.H.Host.moments c.args.host.now)) source) c.system_policy.result (shows v)) (g.H.Host.moments c.args.host.now) (g.H.Host.moments c.system_policy.new.host)) (sym c.in-System.is) c.system_policy.ensures.finds
