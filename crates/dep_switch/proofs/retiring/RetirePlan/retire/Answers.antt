use Rattle.std.proofs.Common.{◌≡◌, Ok, sym, subst, arith}
use Rattle.std.specs.Prelude.{IsErr}
use Rattle.fp_host.specs.View.{View, IsTree}
use Rattle.fp_host.specs.Calls.{Can, unlinks, syncs, Step}
use Rattle.fp_host.proofs.Cause.{caused, clash_step}
use Rattle.fp_host.proofs.Goes.{begins, goes_on, makes_goes}
use Rattle.fp_host.proofs.Ending.{ends_start, ends_call, ends_on, ends_in_tree}
use Rattle.dep_switch.specs.Retiring.{CanRetire}
use Rattle.dep_switch.proofs.Ends.{host_failed}
use Rattle.dep_switch.proofs.Retires.{IsUnlinked, retires_unlink, retires_sync, unlinked_end, was_retired, can_unlink}
use Rattle.dep_switch.proofs.retiring.RetirePlan.retire.Goals as goal

pub returns-in_err-unlink-clause-any_moment : goal.returns-in_err-unlink-clause-any_moment
returns-in_err-unlink-clause-any_moment g c = begins (g.met.H.Host.is_tree c.args.host.now) (makes_goes c.unlink.ensures.step) (λ u w t s. retires_unlink t s) (λ u w t s e. retires_unlink t e)

pub returns-in_err-unlink-clause-fault_has_cause : goal.returns-in_err-unlink-clause-fault_has_cause
returns-in_err-unlink-clause-fault_has_cause g c =
    let t = g.met.H.Host.is_tree in
    let e = c.in_err-unlink.ensures in
    let plan = c.args.self in
    caused (IsErr _) (CanRetire c.args.opened plan) (Can (unlinks plan.link)) _ _ _ _ (t c.args.host.now) (omega arith) (ends_start (t c.args.host.now)) e.step e.fault_has_cause (λ is. host_failed _ e.needs_no_memory) (λ v w step. clash_step step)
    (λ u v tree same can. subst (Can (unlinks plan.link)) (sym same) (can_unlink tree can))

pub returns-in_err-sync-clause-any_moment : goal.returns-in_err-sync-clause-any_moment
returns-in_err-sync-clause-any_moment g c =
    let t = g.met.H.Host.is_tree in
    let first = begins (t c.args.host.now) (makes_goes c.unlink.ensures.step) (λ u w t s. retires_unlink {s = c.args.opened} t s) (λ u w t s e. retires_unlink {s = c.args.opened} t e) in
    goes_on (t c.unlink.new.self) first (makes_goes c.sync.ensures.step) (λ u v w t r q s. retires_sync t q s) (λ u v w t r q s e. retires_sync t q e)

pub returns-in_err-sync-clause-fault_has_cause : goal.returns-in_err-sync-clause-fault_has_cause
returns-in_err-sync-clause-fault_has_cause g c =
    let t = g.met.H.Host.is_tree in
    let e = c.in_err-sync.ensures in
    caused (IsErr _) (CanRetire c.args.opened c.args.self) (Can syncs) _ _ _ _ (t c.args.host.now) c.unlink.ensures.fault_has_cause.later (ends_call (t c.args.host.now) c.unlink.ensures.step) e.step e.fault_has_cause (λ is. host_failed _ e.needs_no_memory) (λ v w step. clash_step step)
    (λ u v tree q can. tt)

pub returns-clause-any_moment : goal.returns-clause-any_moment
returns-clause-any_moment g c =
    let t = g.met.H.Host.is_tree in
    let first = begins (t c.args.host.now) (makes_goes c.unlink.ensures.step) (λ u w t s. retires_unlink {s = c.args.opened} t s) (λ u w t s e. retires_unlink {s = c.args.opened} t e) in
    goes_on (t c.unlink.new.self) first (makes_goes c.sync.ensures.step) (λ u v w t r q s. retires_sync t q s) (λ u v w t r q s e. retires_sync t q e)

pub returns-clause-on_success : goal.returns-clause-on_success
returns-clause-on_success g c =
    let t = g.met.H.Host.is_tree in
    let first = unlinked_end {s = c.args.opened} {plan = c.args.self} (t c.args.host.now) c.in_ok-unlink.ensures.step in
    ends_in_tree (t c.sync.new.self) (ends_on {Q' = λ u w. (v : View) × IsTree v × IsUnlinked c.args.opened c.args.self u v × Step syncs (Ok tt) v w} (ends_call (t c.unlink.new.self) c.in_ok-sync.ensures.step) first (t c.unlink.new.self) (λ u v w tree q s. (v, tree, q, s)))
    (λ u w tree q. was_retired q.1 tree q.2 q.3)
