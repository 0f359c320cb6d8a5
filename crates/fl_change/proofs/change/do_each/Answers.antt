use Rattle.std.proofs.Common.{◌≡◌, ◌+◌, ◌∷◌, List, drop, sym, subst, ap, arith, ◌∙◌}
use Rattle.std.proofs.lemmas.List.{drop_more, drop_all}
use Rattle.fl_words.specs.declared.command.Change.{Change}
use Rattle.ost_walk.specs.Ends.{outside}
use Rattle.fl_change.specs.Turns.{change_over}
use Rattle.fl_change.specs.Turns.{OpsOfAny}
use Rattle.fl_change.proofs.Acting.{Turned, turn_begins, turn_goes_on, turn_fails, turn_ends, acts_err}
use Rattle.fl_change.proofs.Working.{works_to}
use Rattle.fl_change.proofs.Commands.{any_at}
use Rattle.fl_change.proofs.change.do_each.Goals as goal

pub loop-change-init : goal.loop-change-init
loop-change-init g c = record {
  good = c.requires.good;
  layout = c.requires.layout;
  turned = turn_begins change_over c.args.changes.now (OpsOfAny c.args.changes.now) c.args.opened (g.met.H.Host.is_tree c.args.host.now);
}

pub returns-in_err-current : goal.returns-in_err-current
returns-in_err-current g c =
    let all = c.args.changes.now in
    let i = c.loop-change.change-index in
    let next : drop i all ≡ c.change-item.result ∷ drop (i + 1) all = drop_more all i c.change-item.result c.loop-change-test.true ∙ ap (λ (x : Change). x ∷ drop (i + 1) all) (sym c.change-item.is) in
    let u = (outside (g.H.Host.moments c.args.host.now) (g.H.Host.faults c.args.host.now) (g.R.Remotes.holds c.args.remotes.now) (g.R.Remotes.faults c.args.remotes.now)) in
    let v = (outside (g.H.Host.moments c.loop-change.host) (g.H.Host.faults c.loop-change.host) (g.R.Remotes.holds c.loop-change.remotes) (g.R.Remotes.faults c.loop-change.remotes)) in
    let before : Turned change_over all (OpsOfAny all) c.args.opened (c.change-item.result ∷ drop (i + 1) all) c.loop-change.current c.args.acted.now c.loop-change.acted u v =
    subst (λ (l : List Change). Turned change_over all (OpsOfAny all) c.args.opened l c.loop-change.current c.args.acted.now c.loop-change.acted u v) next c.loop-change.invariant.turned in
    record {
      acts = acts_err c.from_residual.result c.in_err-current.field-0.0 c.from_residual.ensures.1
          (turn_fails change_over all (OpsOfAny c.args.changes.now) c.args.opened c.change-item.result (drop (i + 1) all) c.loop-change.current c.in_err-current.field-0.0 (g.met.H.Host.is_tree c.loop-change.host) before (works_to (λ op may. any_at op all i c.change-item.result (drop (i + 1) all) next may) c.in_err-current.ensures.acts));
    }

pub loop-change-preserved : goal.loop-change-preserved
loop-change-preserved g c =
    let all = c.args.changes.now in
    let i = c.loop-change.change-index in
    let next : drop i all ≡ c.change-item.result ∷ drop (i + 1) all = drop_more all i c.change-item.result c.loop-change-test.true ∙ ap (λ (x : Change). x ∷ drop (i + 1) all) (sym c.change-item.is) in
    let u = (outside (g.H.Host.moments c.args.host.now) (g.H.Host.faults c.args.host.now) (g.R.Remotes.holds c.args.remotes.now) (g.R.Remotes.faults c.args.remotes.now)) in
    let v = (outside (g.H.Host.moments c.loop-change.host) (g.H.Host.faults c.loop-change.host) (g.R.Remotes.holds c.loop-change.remotes) (g.R.Remotes.faults c.loop-change.remotes)) in
    let before : Turned change_over all (OpsOfAny all) c.args.opened (c.change-item.result ∷ drop (i + 1) all) c.loop-change.current c.args.acted.now c.loop-change.acted u v =
    subst (λ (l : List Change). Turned change_over all (OpsOfAny all) c.args.opened l c.loop-change.current c.args.acted.now c.loop-change.acted u v) next c.loop-change.invariant.turned in
    record {
      good = c.in_ok-current.ensures.good;
      layout = c.in_ok-current.ensures.layout;
      turned = turn_goes_on change_over all (OpsOfAny c.args.changes.now) c.args.opened c.change-item.result (drop (i + 1) all) c.loop-change.current c.in_ok-current.current (g.met.H.Host.is_tree c.loop-change.host) before (works_to (λ op may. any_at op all i c.change-item.result (drop (i + 1) all) next may) c.in_ok-current.ensures.acts);
    }

pub returns : goal.returns
returns g c =
    let all = c.args.changes.now in
    let u = (outside (g.H.Host.moments c.args.host.now) (g.H.Host.faults c.args.host.now) (g.R.Remotes.holds c.args.remotes.now) (g.R.Remotes.faults c.args.remotes.now)) in
    let v = (outside (g.H.Host.moments c.loop-change.host) (g.H.Host.faults c.loop-change.host) (g.R.Remotes.holds c.loop-change.remotes) (g.R.Remotes.faults c.loop-change.remotes)) in
    record {
      acts = turn_ends change_over all (OpsOfAny c.args.changes.now) c.args.opened c.loop-change.current
          (subst (λ (l : List Change). Turned change_over all (OpsOfAny all) c.args.opened l c.loop-change.current c.args.acted.now c.loop-change.acted u v) (drop_all c.loop-change.change-index all (omega (arith, c.loop-change-test.false))) c.loop-change.invariant.turned);
    }
