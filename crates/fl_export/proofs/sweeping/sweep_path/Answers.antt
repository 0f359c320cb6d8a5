use Rattle.std.proofs.Common.{sym, ◌∙◌, Contains}
use Rattle.std.proofs.lemmas.Bool.{false≢true}
use Rattle.std.proofs.lemmas.Result.{on_ok_weaker}
use Rattle.fp_host.proofs.Goes.{begins, stays}
use Rattle.fp_host.proofs.Ending.{ends_start, ends_to}
use Rattle.fl_export.proofs.Swept.{at_none, wanted_swept, sweeps_one, one_swept}
use Rattle.fl_export.proofs.sweeping.sweep_path.Goals as goal

pub returns-then-has_path-clause-any_moment : goal.returns-then-has_path-clause-any_moment
returns-then-has_path-clause-any_moment g c = stays (g.met.H.Host.is_tree c.args.host.now) (λ u. at_none) (λ u t. at_none)

pub returns-then-has_path-clause-on_success : goal.returns-then-has_path-clause-on_success
returns-then-has_path-clause-on_success g c = ends_to (ends_start (g.met.H.Host.is_tree c.args.host.now)) (λ u w same. wanted_swept (c.has_path.ensures.0 c.if-has_path.true) w)

pub returns-clause-any_moment : goal.returns-clause-any_moment
returns-clause-any_moment g c =
    let off = λ (has : Contains c.args.places.now c.args.path.now). false≢true (sym c.if-has_path.false ∙ c.has_path.ensures.1 has) in
    begins (g.met.H.Host.is_tree c.args.host.now) c.take_away.ensures.frame.goes (λ u w t r. sweeps_one off r) (λ u w t r q. sweeps_one off q)

pub returns-clause-on_success : goal.returns-clause-on_success
returns-clause-on_success g c = on_ok_weaker c.take_away.result (λ done. ends_to done (λ u w gone. one_swept gone)) c.take_away.ensures.on_success
