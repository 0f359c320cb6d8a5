use Rattle.std.proofs.Common.{subst}
use Rattle.fp_host.specs.View.{View}
use Rattle.fp_host.proofs.Cause.{same_fault}
use Rattle.fp_host.proofs.Ending.{ends_on, ends_looks, ends_to, fault_caused}
use Rattle.fp_host.proofs.Looking.{looks_within}
use Rattle.ost_fsck.specs.Judging.{LooksAt}
use Rattle.ost_fsck.specs.Batches.{IsItemAt}
use Rattle.ost_fsck.proofs.Batched.{asked, grown, as_before}
use Rattle.ost_fsck.proofs.row.read_object.Goals as goal

pub returns-in-Some-clause-grows : goal.returns-in-Some-clause-grows
returns-in-Some-clause-grows g c = grown _ _ c.in-Some.item c.in_ok-question-in-Some.ensures.pushed

pub returns-in-Some-clause-tells : goal.returns-in-Some-clause-tells
returns-in-Some-clause-tells g c =
    ends_to c.in_ok-item.ensures.tells (λ u w is. asked c.args.root.now c.in_ok-path.path c.args.digest.now c.args.kind u _ _ c.in-Some.item _ c.in_ok-path.ensures (subst (IsItemAt c.args.kind c.in_ok-path.path u) c.in-Some.is is)
    c.in_ok-question-in-Some.ensures.row c.in_ok-question-in-Some.ensures.pushed)

pub returns-in_err-look_at-in-None-clause-unchanged : goal.returns-in_err-look_at-in-None-clause-unchanged
returns-in_err-look_at-in-None-clause-unchanged g c = looks_within c.look_at.ensures.unchanged c.small_item.ensures.unchanged (g.met.H.Host.is_tree c.small_item.new.host)

pub returns-in_err-look_at-in-None-clause-fault_has_cause : goal.returns-in_err-look_at-in-None-clause-fault_has_cause
returns-in_err-look_at-in-None-clause-fault_has_cause g c =
    let t = g.met.H.Host.is_tree in
    fault_caused (λ v. Unit {0}) (λ v. Unit {0}) _ _ _ _ _ (t c.args.host.now) c.small_item.ensures.fault_has_cause.later (ends_looks (t c.args.host.now) c.small_item.ensures.unchanged) c.look_at.ensures.fault_has_cause
    (same_fault _ _ _ c.in_err-look_at-in-None.was c.from_residual-in_err-look_at-in-None.ensures.1) (λ u v tree q can. tt)

pub returns-clause-unchanged : goal.returns-clause-unchanged
returns-clause-unchanged g c = looks_within c.look_at.ensures.unchanged c.small_item.ensures.unchanged (g.met.H.Host.is_tree c.small_item.new.host)

pub returns-clause-grows : goal.returns-clause-grows
returns-clause-grows g c = as_before _

pub returns-clause-tells : goal.returns-clause-tells
returns-clause-tells g c =
    let t = g.met.H.Host.is_tree in
    let seen = c.in_ok-look_at-in-None.field-0 in
    ends_on c.in_ok-look_at-in-None.ensures.tells (ends_looks (t c.args.host.now) c.small_item.ensures.unchanged) (t c.small_item.new.host)
    (λ u v w tree q looks. subst (λ (x : View). LooksAt c.args.root.now c.args.digest.now c.args.kind x seen.is_object seen.finding) q.0 looks)
