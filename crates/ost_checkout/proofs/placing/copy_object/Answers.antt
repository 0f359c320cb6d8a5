use Rattle.std.proofs.Common.{Ok, subst, IsErrOf}
use Rattle.std.proofs.lemmas.Result.{on_ok_weaker}
use Rattle.fp_host.specs.Reads.{StatOf}
use Rattle.fp_host.specs.View.{View}
use Rattle.fp_host.specs.Calls.{Can, links}
use Rattle.fp_host.specs.declared.host.HostEnd.TheVariants.{Fault}
use Rattle.fp_host.proofs.Cause.{clash_step, passed_on}
use Rattle.fp_host.proofs.Ending.{ends_call, ends_on, ends_to, call_caused}
use Rattle.fp_small.specs.Unsynced.{MakesNoFile}
use Rattle.fp_small.proofs.Unsynced.{none_on, none_same, step_none}
use Rattle.ost_checkout.specs.Placing.{WasCopied, CanCopyLink, CanCopyObject}
use Rattle.ost_checkout.proofs.Copied.{seen_only, linking, then_copies, can_link_file, can_copy_link, nothing_there, was_linked}
use Rattle.ost_checkout.proofs.placing.copy_object.Goals as goal

pub returns-in_err-stat-clause-any_moment : goal.returns-in_err-stat-clause-any_moment
returns-in_err-stat-clause-any_moment g c = seen_only (g.met.H.Host.is_tree c.args.host.now) c.stat.ensures.step

pub returns-in_err-stat-clause-unsynced : goal.returns-in_err-stat-clause-unsynced
returns-in_err-stat-clause-unsynced g c = ends_to (ends_call (g.met.H.Host.is_tree c.args.host.now) c.stat.ensures.step) (λ u w s. none_same s.same)

pub returns-in-Link-clause-any_moment : goal.returns-in-Link-clause-any_moment
returns-in-Link-clause-any_moment g c =
    let t = g.met.H.Host.is_tree in
    then_copies (t c.args.host.now) (t c.stat.new.self) c.stat.ensures.step c.copy_link.ensures.any_moment

pub returns-in-Link-clause-on_success : goal.returns-in-Link-clause-on_success
returns-in-Link-clause-on_success g c =
    let t = g.met.H.Host.is_tree in
    on_ok_weaker c.copy_link.result (λ e. ends_on e (ends_call (t c.args.host.now) c.stat.ensures.step) (t c.stat.new.self) (λ u v w tree s was. subst (λ (x : View). WasCopied c.args.from.now c.args.to.now x w) s.same was)) c.copy_link.ensures.on_success

pub returns-in-Link-clause-unsynced : goal.returns-in-Link-clause-unsynced
returns-in-Link-clause-unsynced g c =
    let t = g.met.H.Host.is_tree in
    ends_on c.copy_link.ensures.unsynced (ends_call (t c.args.host.now) c.stat.ensures.step) (t c.stat.new.self) (λ u v w tree s none. subst (λ (x : View). MakesNoFile x w) s.same none)

pub returns-in-Link-clause-fault_has_cause : goal.returns-in-Link-clause-fault_has_cause
returns-in-Link-clause-fault_has_cause g c =
    let t = g.met.H.Host.is_tree in
    let from = c.args.from.now in
    let to = c.args.to.now in
    let faulted = IsErrOf c.copy_link.result Fault in
    passed_on {Q = StatOf from (Ok c.in_ok-stat.field-0)} faulted faulted (CanCopyObject from to) (CanCopyLink from to) _ _ _ (t c.args.host.now) c.stat.ensures.fault_has_cause.later (ends_call (t c.args.host.now) c.in_ok-stat.ensures.step)
    c.copy_link.ensures.fault_has_cause (λ is. is) (λ u v tree s can. can_copy_link c.in-Link.is s can)

pub returns-in-Absent-clause-any_moment : goal.returns-in-Absent-clause-any_moment
returns-in-Absent-clause-any_moment g c = seen_only (g.met.H.Host.is_tree c.args.host.now) c.stat.ensures.step

pub returns-in-Absent-clause-unsynced : goal.returns-in-Absent-clause-unsynced
returns-in-Absent-clause-unsynced g c = ends_to (ends_call (g.met.H.Host.is_tree c.args.host.now) c.stat.ensures.step) (λ u w s. none_same s.same)

pub returns-in-Absent-clause-fault_has_cause : goal.returns-in-Absent-clause-fault_has_cause
returns-in-Absent-clause-fault_has_cause g c = record {
  later = c.stat.ensures.fault_has_cause.later;
  fault = λ is m at can. absurd (nothing_there (c.in_ok-stat.ensures.step.told m at).3 c.in-Absent.is can);
}

pub returns-in_err-link-in-File-clause-any_moment : goal.returns-in_err-link-in-File-clause-any_moment
returns-in_err-link-in-File-clause-any_moment g c =
    let t = g.met.H.Host.is_tree in
    linking (t c.args.host.now) (t c.stat.new.self) c.stat.ensures.step c.link.ensures.step

pub returns-in_err-link-in-File-clause-unsynced : goal.returns-in_err-link-in-File-clause-unsynced
returns-in_err-link-in-File-clause-unsynced g c =
    let t = g.met.H.Host.is_tree in
    ends_on (ends_call (t c.stat.new.self) c.link.ensures.step) (ends_call (t c.args.host.now) c.stat.ensures.step) (t c.stat.new.self) (λ u v w tree s step. none_on (none_same s.same) (step_none tt step))

pub returns-in_err-link-in-File-clause-fault_has_cause : goal.returns-in_err-link-in-File-clause-fault_has_cause
returns-in_err-link-in-File-clause-fault_has_cause g c =
    let t = g.met.H.Host.is_tree in
    let from = c.args.from.now in
    let to = c.args.to.now in
    let e = c.in_err-link-in-File.ensures in
    call_caused {Q = StatOf from (Ok c.in_ok-stat.field-0)} (CanCopyObject from to) (Can (links from to)) _ _ _ _ _ (t c.args.host.now) c.stat.ensures.fault_has_cause.later (ends_call (t c.args.host.now) c.in_ok-stat.ensures.step) e.step e.fault_has_cause
    c.from_residual-in_err-link-in-File.ensures.1 (λ v w step. clash_step step) (λ u v tree s can. can_link_file c.in-File.is s can)

pub returns-in_ok-link-in-File-clause-any_moment : goal.returns-in_ok-link-in-File-clause-any_moment
returns-in_ok-link-in-File-clause-any_moment g c =
    let t = g.met.H.Host.is_tree in
    linking (t c.args.host.now) (t c.stat.new.self) c.stat.ensures.step c.link.ensures.step

pub returns-in_ok-link-in-File-clause-unsynced : goal.returns-in_ok-link-in-File-clause-unsynced
returns-in_ok-link-in-File-clause-unsynced g c =
    let t = g.met.H.Host.is_tree in
    ends_on (ends_call (t c.stat.new.self) c.link.ensures.step) (ends_call (t c.args.host.now) c.stat.ensures.step) (t c.stat.new.self) (λ u v w tree s step. none_on (none_same s.same) (step_none tt step))

pub returns-in_ok-link-in-File-clause-on_success : goal.returns-in_ok-link-in-File-clause-on_success
returns-in_ok-link-in-File-clause-on_success g c =
    let t = g.met.H.Host.is_tree in
    ends_on (ends_call (t c.stat.new.self) c.in_ok-link-in-File.ensures.step) (ends_call (t c.args.host.now) c.stat.ensures.step) (t c.stat.new.self)
    (λ u v w tree s step. subst (λ (x : View). WasCopied c.args.from.now c.args.to.now x w) s.same (was_linked step))
