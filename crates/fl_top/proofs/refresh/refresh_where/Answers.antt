use Rattle.std.proofs.Common.{Bool, OnOk, refl, sym, subst}
use Rattle.fp_host.specs.Frame.{AtEnd}
use Rattle.fp_host.specs.Moments.{Always}
use Rattle.fp_host.proofs.Goes.{stays}
use Rattle.fp_host.proofs.Ending.{ends_start}
use Rattle.fl_top.specs.Exports.{RefreshesWhere, RefreshedWhere}
use Rattle.fl_top.proofs.InStep.{caused_by_none}
use Rattle.fl_top.proofs.refresh.refresh_where.Goals as goal

-- ---- an operation was done

pub returns-then-acted-clause-any_moment : goal.returns-then-acted-clause-any_moment
returns-then-acted-clause-any_moment g c = subst (λ (b : Bool). Always (RefreshesWhere b) (g.H.Host.moments c.args.host.now) (g.H.Host.moments c.refresh_shown.new.host)) (sym c.if-acted.true) c.refresh_shown.ensures.any_moment

pub returns-then-acted-clause-on_success : goal.returns-then-acted-clause-on_success
returns-then-acted-clause-on_success g c = subst (λ (b : Bool). OnOk c.refresh_shown.result (AtEnd (RefreshedWhere b) (g.H.Host.moments c.args.host.now) (g.H.Host.moments c.refresh_shown.new.host))) (sym c.if-acted.true) c.refresh_shown.ensures.on_success

-- ---- none was

pub returns-else-acted-clause-any_moment : goal.returns-else-acted-clause-any_moment
returns-else-acted-clause-any_moment g c = subst (λ (b : Bool). Always (RefreshesWhere b) (g.H.Host.moments c.args.host.now) (g.H.Host.moments c.args.host.now)) (sym c.if-acted.false) (stays (g.met.H.Host.is_tree c.args.host.now) (λ u. refl) (λ u tree. refl))

pub returns-else-acted-clause-on_success : goal.returns-else-acted-clause-on_success
returns-else-acted-clause-on_success g c = subst (λ (b : Bool). AtEnd (RefreshedWhere b) (g.H.Host.moments c.args.host.now) (g.H.Host.moments c.args.host.now)) (sym c.if-acted.false) (ends_start (g.met.H.Host.is_tree c.args.host.now))

pub returns-else-acted-clause-fault_has_cause : goal.returns-else-acted-clause-fault_has_cause
returns-else-acted-clause-fault_has_cause g c = caused_by_none (λ f. cc f)
