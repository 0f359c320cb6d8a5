use Rattle.std.proofs.Common.{◌≡◌, ◌+◌, ◌∷◌, List, drop, sym, subst, ap, arith, ◌∙◌}
use Rattle.std.proofs.lemmas.List.{drop_more, drop_all}
use Rattle.fp_small.specs.declared.op.Op.{Op}
use Rattle.ost_walk.specs.Ends.{outside}
use Rattle.fl_change.specs.Refs.{op_over}
use Rattle.op_change.specs.Applied.{Brings}
use Rattle.fl_change.proofs.Acting.{Turned, turn_begins, turn_goes_on, turn_fails, turn_ends, acts_err}
use Rattle.fl_change.proofs.Working.{works_to}
use Rattle.std.specs.List.{AllByRecursion}
use Rattle.fl_plan.specs.Allowed.{AreAllowed, IsComing}
use Rattle.fp_small.specs.declared.state.State.{State}
use Rattle.fl_change.proofs.Commands.{comes, comes_short, may_come}
use Rattle.fl_change.proofs.installing.do_ops.Goals as goal

pub do_op-requires-clause-may : goal.do_op-requires-clause-may
do_op-requires-clause-may g c _ _ =
    let all = c.args.ops.now in
    let i = c.loop-op.op-index in
    let next : drop i all ≡ c.op-item.result ∷ drop (i + 1) all = drop_more all i c.op-item.result c.loop-op-test.true ∙ ap (λ (x : Op). x ∷ drop (i + 1) all) (sym c.op-item.is) in
    may_come c.loop-op.current c.op-item.result c.loop-op.invariant.layout (subst (AllByRecursion IsComing) next c.loop-op.invariant.coming).0 (subst (AreAllowed c.loop-op.current) next c.loop-op.invariant.allowed).0

pub do_op-requires-clause-short : goal.do_op-requires-clause-short
do_op-requires-clause-short g c _ _ =
    let all = c.args.ops.now in
    let i = c.loop-op.op-index in
    let next : drop i all ≡ c.op-item.result ∷ drop (i + 1) all = drop_more all i c.op-item.result c.loop-op-test.true ∙ ap (λ (x : Op). x ∷ drop (i + 1) all) (sym c.op-item.is) in
    comes_short c.op-item.result (subst (AllByRecursion IsComing) next c.loop-op.invariant.coming).0

pub loop-op-init : goal.loop-op-init
loop-op-init g c = record {
  good = c.requires.good;
  layout = c.requires.layout;
  allowed = c.requires.allowed;
  coming = c.requires.coming;
  turned = turn_begins op_over c.args.ops.now Brings c.args.opened (g.met.H.Host.is_tree c.args.host.now);
}

pub returns-in_err-current-clause-acts : goal.returns-in_err-current-clause-acts
returns-in_err-current-clause-acts g c =
    let all = c.args.ops.now in
    let i = c.loop-op.op-index in
    let next : drop i all ≡ c.op-item.result ∷ drop (i + 1) all = drop_more all i c.op-item.result c.loop-op-test.true ∙ ap (λ (x : Op). x ∷ drop (i + 1) all) (sym c.op-item.is) in
    let u = (outside (g.H.Host.moments c.args.host.now) (g.H.Host.faults c.args.host.now) (g.R.Remotes.holds c.args.remotes.now) (g.R.Remotes.faults c.args.remotes.now)) in
    let v = (outside (g.H.Host.moments c.loop-op.host) (g.H.Host.faults c.loop-op.host) (g.R.Remotes.holds c.loop-op.remotes) (g.R.Remotes.faults c.loop-op.remotes)) in
    let before : Turned op_over all Brings c.args.opened (c.op-item.result ∷ drop (i + 1) all) c.loop-op.current c.args.acted.now c.loop-op.acted u v =
    subst (λ (l : List Op). Turned op_over all Brings c.args.opened l c.loop-op.current c.args.acted.now c.loop-op.acted u v) next c.loop-op.invariant.turned in
    acts_err c.from_residual.result c.in_err-current.field-0.0 c.from_residual.ensures.1
    (turn_fails op_over all Brings c.args.opened c.op-item.result (drop (i + 1) all) c.loop-op.current c.in_err-current.field-0.0 (g.met.H.Host.is_tree c.loop-op.host) before (works_to (λ o is. subst Brings (sym is) (comes c.op-item.result (subst (AllByRecursion IsComing) next c.loop-op.invariant.coming).0)) c.in_err-current.ensures.acts))

pub loop-op-preserved : goal.loop-op-preserved
loop-op-preserved g c =
    let all = c.args.ops.now in
    let i = c.loop-op.op-index in
    let next : drop i all ≡ c.op-item.result ∷ drop (i + 1) all = drop_more all i c.op-item.result c.loop-op-test.true ∙ ap (λ (x : Op). x ∷ drop (i + 1) all) (sym c.op-item.is) in
    let u = (outside (g.H.Host.moments c.args.host.now) (g.H.Host.faults c.args.host.now) (g.R.Remotes.holds c.args.remotes.now) (g.R.Remotes.faults c.args.remotes.now)) in
    let v = (outside (g.H.Host.moments c.loop-op.host) (g.H.Host.faults c.loop-op.host) (g.R.Remotes.holds c.loop-op.remotes) (g.R.Remotes.faults c.loop-op.remotes)) in
    let before : Turned op_over all Brings c.args.opened (c.op-item.result ∷ drop (i + 1) all) c.loop-op.current c.args.acted.now c.loop-op.acted u v =
    subst (λ (l : List Op). Turned op_over all Brings c.args.opened l c.loop-op.current c.args.acted.now c.loop-op.acted u v) next c.loop-op.invariant.turned in
    let head = subst (AllByRecursion IsComing) next c.loop-op.invariant.coming in
    let allowed = subst (AreAllowed c.loop-op.current) next c.loop-op.invariant.allowed in
    record {
      good = c.in_ok-current.ensures.good;
      layout = c.in_ok-current.ensures.layout;
      allowed = subst (λ (x : State). AreAllowed x (drop (i + 1) all)) (sym c.in_ok-current.ensures.made.1) (allowed.1 c.in_ok-current.ensures.made.0);
      coming = head.1;
      turned = turn_goes_on op_over all Brings c.args.opened c.op-item.result (drop (i + 1) all) c.loop-op.current c.in_ok-current.current (g.met.H.Host.is_tree c.loop-op.host) before (works_to (λ o is. subst Brings (sym is) (comes c.op-item.result head.0)) c.in_ok-current.ensures.acts);
    }

pub returns-clause-acts : goal.returns-clause-acts
returns-clause-acts g c =
    let all = c.args.ops.now in
    let u = (outside (g.H.Host.moments c.args.host.now) (g.H.Host.faults c.args.host.now) (g.R.Remotes.holds c.args.remotes.now) (g.R.Remotes.faults c.args.remotes.now)) in
    let v = (outside (g.H.Host.moments c.loop-op.host) (g.H.Host.faults c.loop-op.host) (g.R.Remotes.holds c.loop-op.remotes) (g.R.Remotes.faults c.loop-op.remotes)) in
    turn_ends op_over all Brings c.args.opened c.loop-op.current
    (subst (λ (l : List Op). Turned op_over all Brings c.args.opened l c.loop-op.current c.args.acted.now c.loop-op.acted u v) (drop_all c.loop-op.op-index all (omega (arith, c.loop-op-test.false))) c.loop-op.invariant.turned)
