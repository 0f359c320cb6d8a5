use Rattle.std.proofs.Common.{◌≡◌, ◌+◌, ◌∷◌, List, drop, sym, subst, ap, arith, ◌∙◌}
use Rattle.std.proofs.lemmas.List.{drop_more, drop_all}
use Rattle.fp_name.specs.Refs.{Ref}
use Rattle.ost_walk.specs.Ends.{outside}
use Rattle.fl_change.specs.Refs.{target_over}
use Rattle.op_change.specs.Applied.{Brings}
use Rattle.fl_change.proofs.Acting.{Turned, turn_begins, turn_goes_on, turn_fails, turn_ends, acts_err}
use Rattle.fl_change.proofs.updating.update_each.Goals as goal

pub loop-name-init : goal.loop-name-init
loop-name-init g c = record {
  good = c.requires.good;
  layout = c.requires.layout;
  turned = turn_begins target_over c.args.names.now Brings c.args.opened (g.met.H.Host.is_tree c.args.host.now);
}

pub returns-in_err-current-clause-acts : goal.returns-in_err-current-clause-acts
returns-in_err-current-clause-acts g c =
    let all = c.args.names.now in
    let i = c.loop-name.name-index in
    let next : drop i all ≡ c.name-item.result ∷ drop (i + 1) all = drop_more all i c.name-item.result c.loop-name-test.true ∙ ap (λ (x : Ref). x ∷ drop (i + 1) all) (sym c.name-item.is) in
    let u = (outside (g.H.Host.moments c.args.host.now) (g.H.Host.faults c.args.host.now) (g.R.Remotes.holds c.args.remotes.now) (g.R.Remotes.faults c.args.remotes.now)) in
    let v = (outside (g.H.Host.moments c.loop-name.host) (g.H.Host.faults c.loop-name.host) (g.R.Remotes.holds c.loop-name.remotes) (g.R.Remotes.faults c.loop-name.remotes)) in
    let before : Turned target_over all Brings c.args.opened (c.name-item.result ∷ drop (i + 1) all) c.loop-name.current c.args.acted.now c.loop-name.acted u v =
    subst (λ (l : List Ref). Turned target_over all Brings c.args.opened l c.loop-name.current c.args.acted.now c.loop-name.acted u v) next c.loop-name.invariant.turned in
    acts_err c.from_residual.result c.in_err-current.field-0.0 c.from_residual.ensures.1
    (turn_fails target_over all Brings c.args.opened c.name-item.result (drop (i + 1) all) c.loop-name.current c.in_err-current.field-0.0 (g.met.H.Host.is_tree c.loop-name.host) before c.in_err-current.ensures.acts)

pub loop-name-preserved : goal.loop-name-preserved
loop-name-preserved g c =
    let all = c.args.names.now in
    let i = c.loop-name.name-index in
    let next : drop i all ≡ c.name-item.result ∷ drop (i + 1) all = drop_more all i c.name-item.result c.loop-name-test.true ∙ ap (λ (x : Ref). x ∷ drop (i + 1) all) (sym c.name-item.is) in
    let u = (outside (g.H.Host.moments c.args.host.now) (g.H.Host.faults c.args.host.now) (g.R.Remotes.holds c.args.remotes.now) (g.R.Remotes.faults c.args.remotes.now)) in
    let v = (outside (g.H.Host.moments c.loop-name.host) (g.H.Host.faults c.loop-name.host) (g.R.Remotes.holds c.loop-name.remotes) (g.R.Remotes.faults c.loop-name.remotes)) in
    let before : Turned target_over all Brings c.args.opened (c.name-item.result ∷ drop (i + 1) all) c.loop-name.current c.args.acted.now c.loop-name.acted u v =
    subst (λ (l : List Ref). Turned target_over all Brings c.args.opened l c.loop-name.current c.args.acted.now c.loop-name.acted u v) next c.loop-name.invariant.turned in
    record {
      good = c.in_ok-current.ensures.good;
      layout = c.in_ok-current.ensures.layout;
      turned = turn_goes_on target_over all Brings c.args.opened c.name-item.result (drop (i + 1) all) c.loop-name.current c.in_ok-current.current (g.met.H.Host.is_tree c.loop-name.host) before c.in_ok-current.ensures.acts;
    }

pub returns-clause-acts : goal.returns-clause-acts
returns-clause-acts g c =
    let all = c.args.names.now in
    let u = (outside (g.H.Host.moments c.args.host.now) (g.H.Host.faults c.args.host.now) (g.R.Remotes.holds c.args.remotes.now) (g.R.Remotes.faults c.args.remotes.now)) in
    let v = (outside (g.H.Host.moments c.loop-name.host) (g.H.Host.faults c.loop-name.host) (g.R.Remotes.holds c.loop-name.remotes) (g.R.Remotes.faults c.loop-name.remotes)) in
    turn_ends target_over all Brings c.args.opened c.loop-name.current
    (subst (λ (l : List Ref). Turned target_over all Brings c.args.opened l c.loop-name.current c.args.acted.now c.loop-name.acted u v) (drop_all c.loop-name.name-index all (omega (arith, c.loop-name-test.false))) c.loop-name.invariant.turned)
