use Rattle.std.proofs.Common.{◌∙◌, sym, subst, arith}
use Rattle.std.proofs.lemmas.Result.{on_ok_weaker}
use Rattle.fp_host.specs.View.{IsTree}
use Rattle.fp_host.specs.Frame.{Keeps, NoPath}
use Rattle.fp_host.proofs.Cause.{same_fault}
use Rattle.fp_host.proofs.Ending.{ends_on, ends_frame, ends_in_tree, ends_start, ends_to, fault_caused}
use Rattle.fp_small.proofs.Unsynced.{none_on, none_same}
use Rattle.ost_prune.specs.Removing.{GoneAmong, AbsentAmong, commits_of, CanRemoveAll}
use Rattle.ost_prune.proofs.Parted.{can_commits, can_others, order_start, order_commits, order_all, gone_all, frame_commits, frame_all, frame_of, gone_of}
use Rattle.ost_prune.proofs.removing.remove_all.Goals as goal

pub returns-in_err-commits-clause-order : goal.returns-in_err-commits-clause-order
returns-in_err-commits-clause-order g c = order_start c.args.root.now c.args.objects.now (g.met.H.Host.is_tree c.args.host.now)

pub returns-in_err-commits-clause-unsynced : goal.returns-in_err-commits-clause-unsynced
returns-in_err-commits-clause-unsynced g c = ends_to (ends_start (g.met.H.Host.is_tree c.args.host.now)) (λ u w same. none_same same)

pub returns-in_err-remove_each-clause-frame : goal.returns-in_err-remove_each-clause-frame
returns-in_err-remove_each-clause-frame g c = frame_commits c.args.root.now c.args.objects.now (g.met.H.Host.is_tree c.args.host.now) (frame_of (c.as_slice.ensures.value ∙ c.in_ok-commits.ensures.0) c.remove_each.ensures.frame)

pub returns-in_err-remove_each-clause-order : goal.returns-in_err-remove_each-clause-order
returns-in_err-remove_each-clause-order g c = order_commits c.args.root.now c.args.objects.now (g.met.H.Host.is_tree c.args.host.now) (frame_of (c.as_slice.ensures.value ∙ c.in_ok-commits.ensures.0) c.remove_each.ensures.frame)

pub returns-in_err-remove_each-clause-fault_has_cause : goal.returns-in_err-remove_each-clause-fault_has_cause
returns-in_err-remove_each-clause-fault_has_cause g c =
    let t = g.met.H.Host.is_tree in
    let root = c.args.root.now in
    fault_caused (CanRemoveAll root c.args.objects.now) _ _ _ _ _ _ (t c.args.host.now) (omega arith) (ends_start (t c.args.host.now)) c.remove_each.ensures.fault_has_cause
    (same_fault _ _ _ c.in_err-remove_each.was c.from_residual-in_err-remove_each.ensures.1) (λ u v tree same can. subst (λ l. CanRemoveAll root l v) (sym (c.as_slice.ensures.value ∙ c.in_ok-commits.ensures.0)) (can_commits c.args.root.now c.args.objects.now same can))

pub returns-clause-frame : goal.returns-clause-frame
returns-clause-frame g c =
    let t = g.met.H.Host.is_tree in
    let first = frame_of (c.as_slice.ensures.value ∙ c.in_ok-commits.ensures.0) c.remove_each.ensures.frame in
    let second = frame_of (c.as_slice-2.ensures.value ∙ c.in_ok-commits.ensures.1) c.remove_each-2.ensures.frame in
    frame_all c.args.root.now c.args.objects.now (t c.args.host.now) (t c.remove_each.new.host) first second

pub returns-clause-order : goal.returns-clause-order
returns-clause-order g c =
    let t = g.met.H.Host.is_tree in
    let commits = c.as_slice.ensures.value ∙ c.in_ok-commits.ensures.0 in
    let second = frame_of (c.as_slice-2.ensures.value ∙ c.in_ok-commits.ensures.1) c.remove_each-2.ensures.frame in
    order_all c.args.root.now c.args.objects.now (t c.args.host.now) (t c.remove_each.new.host) (frame_of commits c.remove_each.ensures.frame) (gone_of commits c.in_ok-remove_each.ensures.on_success) second

pub returns-clause-on_success : goal.returns-clause-on_success
returns-clause-on_success g c =
    let t = g.met.H.Host.is_tree in
    let commits = c.as_slice.ensures.value ∙ c.in_ok-commits.ensures.0 in
    let others = c.as_slice-2.ensures.value ∙ c.in_ok-commits.ensures.1 in
    on_ok_weaker c.remove_each-2.result (λ done. gone_all c.args.root.now c.args.objects.now (t c.remove_each.new.host) (gone_of commits c.in_ok-remove_each.ensures.on_success) (frame_of others c.remove_each-2.ensures.frame) (gone_of others done)) c.remove_each-2.ensures.on_success

pub returns-clause-unsynced : goal.returns-clause-unsynced
returns-clause-unsynced g c = ends_on c.remove_each-2.ensures.unsynced c.remove_each.ensures.unsynced (g.met.H.Host.is_tree c.remove_each.new.host) (λ u v w tree q s. none_on q s)

pub returns-clause-fault_has_cause : goal.returns-clause-fault_has_cause
returns-clause-fault_has_cause g c =
    let t = g.met.H.Host.is_tree in
    let root = c.args.root.now in
    let commits = commits_of c.args.objects.now in
    let first = frame_of (c.as_slice.ensures.value ∙ c.in_ok-commits.ensures.0) c.remove_each.ensures.frame in
    fault_caused {Q = λ u w. IsTree w × Keeps (GoneAmong root commits) (AbsentAmong root commits) NoPath u w} (CanRemoveAll root c.args.objects.now) _ _ _ _ c.remove_each-2.result c.remove_each-2.result (t c.args.host.now) c.remove_each.ensures.fault_has_cause.later
    (ends_in_tree (t c.remove_each.new.host) (ends_frame (t c.args.host.now) first) (λ u w tree k. (tree, k))) c.remove_each-2.ensures.fault_has_cause (λ fault. fault)
    (λ u v tree q can. subst (λ l. CanRemoveAll root l v) (sym (c.as_slice-2.ensures.value ∙ c.in_ok-commits.ensures.1)) (can_others c.args.root.now c.args.objects.now tree q.0 can q.1))
