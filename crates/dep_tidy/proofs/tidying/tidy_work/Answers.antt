use Rattle.std.proofs.Common.{arith, subst, sym}
use Rattle.fp_host.specs.View.{IsTree}
use Rattle.fp_host.specs.Outcome.{shows}
use Rattle.fp_host.proofs.Cause.{same_fault}
use Rattle.fp_host.proofs.Goes.{begins, knowing}
use Rattle.fp_host.proofs.Ending.{ends_both, ends_frame, ends_in_tree, ends_start, fault_caused}
use Rattle.fp_small.specs.Places.{tmp}
use Rattle.fp_small.specs.Clear.{CanEmpty}
use Rattle.dep_states.specs.Sound.{Opens}
use Rattle.dep_states.specs.Settled.{Settled}
use Rattle.dep_tidy.specs.Tidy.{SettledButWork}
use Rattle.dep_tidy.proofs.Clearing.{can_empty}
use Rattle.dep_tidy.proofs.Joined.{tidies_work}
use Rattle.dep_tidy.proofs.Small.{settled_work}
use Rattle.dep_tidy.proofs.tidying.tidy_work.Goals as goal

pub returns-in_err-empty_work-clause-any_moment : goal.returns-in_err-empty_work-clause-any_moment
returns-in_err-empty_work-clause-any_moment g c = begins (g.met.H.Host.is_tree c.args.host.now) c.empty_work.ensures.frame.goes (λ u w tree k. tidies_work tree k) (λ u w tree k q. tidies_work tree q)

pub returns-in_err-empty_work-clause-fault_has_cause : goal.returns-in_err-empty_work-clause-fault_has_cause
returns-in_err-empty_work-clause-fault_has_cause g c =
    let t = g.met.H.Host.is_tree in
    fault_caused (Opens c.args.opened) (CanEmpty tmp) _ _ _ _ _ (t c.args.host.now) (omega arith) (ends_start (t c.args.host.now)) c.empty_work.ensures.fault_has_cause (same_fault _ _ _ c.in_err-empty_work.was c.from_residual.ensures.1)
    (λ u v tree same opens. subst (CanEmpty tmp) (sym same) (can_empty tree opens tmp))

pub returns-clause-any_moment : goal.returns-clause-any_moment
returns-clause-any_moment g c = begins (g.met.H.Host.is_tree c.args.host.now) c.empty_work.ensures.frame.goes (λ u w tree k. tidies_work tree k) (λ u w tree k q. tidies_work tree q)

pub returns-clause-on_success : goal.returns-clause-on_success
returns-clause-on_success g c =
    let t = g.met.H.Host.is_tree in
    let all = ends_both (ends_frame (t c.args.host.now) c.empty_work.ensures.frame) c.in_ok-empty_work.ensures.on_success in
    let more = ends_in_tree {Q' = λ u w. IsTree u → SettledButWork (shows u) → Settled (shows w)} (t c.empty_work.new.host) all (λ u w next q tree. settled_work tree next q.0 q.1) in
    record { goes = knowing {P = IsTree} {Q' = λ u w. SettledButWork (shows u) → Settled (shows w)} (t c.args.host.now) more.goes (λ u w tree r. r) (λ u w tree q. q tree) }
