use Rattle.std.proofs.Common.{List, ◌≤◌, ◌+◌, ◌-◌, length, drop, refl, subst, sym, arith, rules}
use Rattle.std.specs.Prelude.{slice_range}
use Rattle.std.proofs.lemmas.List.{length-take}
use Rattle.fp_host.specs.View.{View}
use Rattle.fp_host.proofs.Cause.{same_fault}
use Rattle.fp_host.proofs.Ending.{ends_on, ends_both, ends_looks, ends_start, ends_to, fault_caused}
use Rattle.fp_host.proofs.Looking.{looks_within, looks_start}
use Rattle.ost_fsck.specs.declared.report.Finding.{Finding}
use Rattle.ost_fsck.specs.Batches.{ChecksMore}
use Rattle.ost_fsck.proofs.Batched.{more_checked}
use Rattle.ost_fsck.proofs.Reporting.{SoFar, nothing_seen, all_seen}
use Rattle.ost_fsck.proofs.checking.check_all.Goals as goal

pub loop-at-init : goal.loop-at-init
loop-at-init g c =
    let t = g.met.H.Host.is_tree in
    record {
      low = omega arith;
      still = looks_start (t c.args.host.now);
      later = omega arith;
      few = omega arith;
      seen = ends_to (ends_start (t c.args.host.now)) (λ u w same. nothing_seen c.args.root.now c.args.paths.now u _ c.new-findings.ensures.items);
    }

pub loop-at-preserved : goal.loop-at-preserved
loop-at-preserved g c =
    let t = g.met.H.Host.is_tree in
    let root = c.args.root.now in
    let paths = c.args.paths.now in
    let before = c.loop-at.invariant in
    let step = c.in_ok-objects.ensures in
    let at = c.loop-at.at in
    let end = c.loop-at.at + c.min.result in
    let found = c.check_batch.new.findings.items in
    let more = c.in_ok-objects.field-0 in
    let within : at + c.min.result ≤ length c.args.paths.now = search rules in
    record {
      low = within;
      still = looks_within c.check_batch.ensures.unchanged before.still (t c.loop-at.host);
      later = omega (arith, before.later, c.check_batch.ensures.fault_has_cause.later);
      few = omega (arith, before.few, step.few, length-take (end - at) (drop at paths));
      seen = ends_on step.tells (ends_both (ends_looks (t c.args.host.now) before.still) before.seen) (t c.loop-at.host)
          (λ u v w tree q checks. more_checked root paths at end (slice_range paths at end) u c.loop-at.findings.items found c.loop-at.objects more (omega arith) within refl (subst (λ (x : View). ChecksMore root (slice_range paths at end) x c.loop-at.findings.items found more) q.0.0 checks) q.1);
    }

pub returns-in_err-objects-clause-unchanged : goal.returns-in_err-objects-clause-unchanged
returns-in_err-objects-clause-unchanged g c = looks_within c.check_batch.ensures.unchanged c.loop-at.invariant.still (g.met.H.Host.is_tree c.loop-at.host)

pub returns-in_err-objects-clause-fault_has_cause : goal.returns-in_err-objects-clause-fault_has_cause
returns-in_err-objects-clause-fault_has_cause g c =
    let t = g.met.H.Host.is_tree in
    fault_caused (λ v. Unit {0}) (λ v. Unit {0}) _ _ _ _ _ (t c.args.host.now) c.loop-at.invariant.later (ends_looks (t c.args.host.now) c.loop-at.invariant.still) c.check_batch.ensures.fault_has_cause
    (same_fault _ _ _ c.in_err-objects.was c.from_residual.ensures.1) (λ u v tree q can. tt)

pub returns-clause-tells : goal.returns-clause-tells
returns-clause-tells g c = ends_to c.loop-at.invariant.seen (λ u w so_far.
    all_seen c.args.root.now c.args.paths.now c.loop-at.at u (record { findings = c.from_vec.result; objects = c.loop-at.objects }) (omega (arith, c.loop-at-test.false, c.loop-at.invariant.low))
    (subst (λ (l : List Finding). SoFar c.args.root.now c.args.paths.now c.loop-at.at u l c.loop-at.objects) (sym c.from_vec.ensures) so_far))
