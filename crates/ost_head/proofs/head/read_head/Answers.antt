use Rattle.std.proofs.Common.{ℕ, List, Option, Some, sym, subst}
use Rattle.fp_host.specs.Paths.{Elements}
use Rattle.fp_small.specs.Places.{repo}
use Rattle.ost_model.specs.Objects.{Have}
use Rattle.ost_model.specs.Remotes.{Supplies}
use Rattle.ost_object.specs.Views.{commit_view, tree_view}
use Rattle.ost_walk.specs.PullEnds.{Answers}
use Rattle.ost_walk.proofs.Quiet.{supplied}
use Rattle.ost_head.specs.Heads.{head_of}
use Rattle.ost_head.proofs.Looking.{looks_on, looks_err}
use Rattle.ost_head.proofs.Headed.{passed}
use Rattle.ost_head.proofs.head.read_head.Goals as goal

pub returns-in-Ok-clause-looks : goal.returns-in-Ok-clause-looks
returns-in-Ok-clause-looks g c = looks_on (g.met.H.Host.is_tree c.read_root.new.host) c.in-Ok.ensures.looks c.head_in.ensures.looks

pub returns-in-Ok-clause-tells : goal.returns-in-Ok-clause-tells
returns-in-Ok-clause-tells g c have s =
    let here = subst (λ (r : Elements). Supplies r (Some c.as_str-url.result.now) (g.H.Host.moments c.args.host.now) (g.R.Remotes.holds c.args.remotes.now) have) (sym c.in_ok-store.ensures)
    (subst (λ (u : List ℕ). Supplies repo (Some u) (g.H.Host.moments c.args.host.now) (g.R.Remotes.holds c.args.remotes.now) have) (sym c.as_str-url.ensures.text) s) in
    subst (Answers c.head_in.result) (sym (c.in-Ok.ensures.tells have here c.args.name.now c.args.since)) (c.head_in.ensures.tells have (supplied c.in-Ok.ensures.looks here))

pub returns-clause-looks : goal.returns-clause-looks
returns-clause-looks g c = looks_err c.in-Err.end c.from.result c.from.ensures c.in-Err.ensures.looks

pub returns-clause-tells : goal.returns-clause-tells
returns-clause-tells g c have s =
    let here = subst (λ (r : Elements). Supplies r (Some c.as_str-url.result.now) (g.H.Host.moments c.args.host.now) (g.R.Remotes.holds c.args.remotes.now) have) (sym c.in_ok-store.ensures)
    (subst (λ (u : List ℕ). Supplies repo (Some u) (g.H.Host.moments c.args.host.now) (g.R.Remotes.holds c.args.remotes.now) have) (sym c.as_str-url.ensures.text) s) in
    passed (head_of have c.args.name.now c.args.commit.now c.args.since) c.in-Err.end c.from.result c.from.ensures (c.in-Err.ensures.tells have here c.args.name.now c.args.since)
